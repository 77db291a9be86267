-- `credit_unit` meets its contract: the record's own tests, then whether a standard is in force, then its sequence decide; its units are credited by that standard and to it.
-- Assumes nothing.
use mathlib.Core.Path.{refl, sym, ◌∙◌}
use native.Mathlib.Omega.{arith}
use Prim.Native.Nat.{◌<◌}
use borrow.Author.Tests.{leb-false, lt-ltb}
use Rattle.std.proofs.lemmas.Bool.Decides.{nat_tests}
use Rattle.std.proofs.lemmas.Result.{err_from_is_err_and}
use Rattle.records.specs.Log.{up_to, unit_at}
use Rattle.records.proofs.UpTo.{up_to_more}
use Rattle.rules.specs.declared.Ground.TheVariants.{Unsorted}
use Rattle.rules.specs.declared.LogList.TheVariants.{Units}
use Rattle.rules.specs.Sequence.{unit_key}
use Rattle.rules.specs.Keys.{unit_number, UnitFits}
use Rattle.rules.proofs.FirstGround.{not-met}
use Rattle.rules.proofs.Keys.{units-below, sequenced_more}
use Rattle.theoretical.proofs.Crediting.{read_at, widths, index-low, short, none_in_force, one_in_force, summed_more, unit_by_number}
use Rattle.theoretical.proofs.Counting.{counted_more}
use Rattle.theoretical.proofs.credit_unit.Goals as goal

pub returns-in_err-test_unit-clause-answer : goal.returns-in_err-test_unit-clause-answer
returns-in_err-test_unit-clause-answer c =
    let reads = read_at c.args.log.bytes.now c.args.log.header c.args.i c.args.byte c.record_from-u.result c.record_from-u.ensures c.requires.i_bound.2 in
    let w = widths c.args.log.bytes.now c.args.log.header c.args.i c.args.byte c.record_from-u.result c.record_from-u.ensures c.requires.i_bound.2 in
    let tests = unit_by_number c.args.log.header.period c.args.log.header.modules c.args.standards.now (up_to (unit_at c.args.log.bytes.now c.args.log.header) c.args.i) c.args.i c.args.before.now c.record_from-u.result w.0 c.requires.sequenced in
    let p = err_from_is_err_and c.from_residual.result c.from_residual.ensures.1 in
    rw (p.1, p.2, ← reads, tests, ← c.in_err-test_unit.ensures) refl

pub look_up-requires : goal.look_up-requires
look_up-requires c =
    let w = widths c.args.log.bytes.now c.args.log.header c.args.i c.args.byte c.record_from-u.result c.record_from-u.ensures c.requires.i_bound.2 in
    (w.0.0, w.0.1)

pub returns-in_default-clause-answer : goal.returns-in_default-clause-answer
returns-in_default-clause-answer c =
    let reads = read_at c.args.log.bytes.now c.args.log.header c.args.i c.args.byte c.record_from-u.result c.record_from-u.ensures c.requires.i_bound.2 in
    let w = widths c.args.log.bytes.now c.args.log.header c.args.i c.args.byte c.record_from-u.result c.record_from-u.ensures c.requires.i_bound.2 in
    let tests = unit_by_number c.args.log.header.period c.args.log.header.modules c.args.standards.now (up_to (unit_at c.args.log.bytes.now c.args.log.header) c.args.i) c.args.i c.args.before.now c.record_from-u.result w.0 c.requires.sequenced in
    let none = none_in_force c.args.standards.now c.requires.rising c.record_from-u.result.«module» c.record_from-u.result.recipe c.record_from-u.result.time c.in_default.ensures in
    rw (c.refuses.ensures, ← reads, tests, ← c.in_ok-test_unit.ensures, none) refl

pub unit_number-number-requires : goal.unit_number-number-requires
unit_number-number-requires c =
    let w = widths c.args.log.bytes.now c.args.log.header c.args.i c.args.byte c.record_from-u.result c.record_from-u.ensures c.requires.i_bound.2 in
    w.0

pub returns-in_err-refuses-clause-answer : goal.returns-in_err-refuses-clause-answer
returns-in_err-refuses-clause-answer c =
    let reads = read_at c.args.log.bytes.now c.args.log.header c.args.i c.args.byte c.record_from-u.result c.record_from-u.ensures c.requires.i_bound.2 in
    let w = widths c.args.log.bytes.now c.args.log.header c.args.i c.args.byte c.record_from-u.result c.record_from-u.ensures c.requires.i_bound.2 in
    let tests = unit_by_number c.args.log.header.period c.args.log.header.modules c.args.standards.now (up_to (unit_at c.args.log.bytes.now c.args.log.header) c.args.i) c.args.i c.args.before.now c.record_from-u.result w.0 c.requires.sequenced in
    let one = one_in_force c.args.standards.now c.requires.rising c.record_from-u.result.«module» c.record_from-u.result.recipe c.record_from-u.result.time c.in-Some.p c.in-Some.ensures in
    let p = err_from_is_err_and c.from_residual-in_err-refuses.result c.from_residual-in_err-refuses.ensures.1 in
    rw (p.1, p.2, ← reads, tests, ← c.in_ok-test_unit.ensures, one, ← c.unit_number-number.ensures) (grind (arith, nat_tests, c.in_err-refuses.ensures))

pub credit-requires : goal.credit-requires
credit-requires c =
    let w = widths c.args.log.bytes.now c.args.log.header c.args.i c.args.byte c.record_from-u.result c.record_from-u.ensures c.requires.i_bound.2 in
    let one = one_in_force c.args.standards.now c.requires.rising c.record_from-u.result.«module» c.record_from-u.result.recipe c.record_from-u.result.time c.in-Some.p c.in-Some.ensures in
    let low = short c.args.log.bytes.now c.args.log.header c.args.log.header.standards c.args.standards.now c.requires.listed.0 _ _ _ c.in-Some.p one in
    (w.0.0, w.1, low, omega (arith, (c.requires.summed.low c.record_from-u.result.«module» w.0.0).0, c.requires.i_bound.0))

pub credit-requires-2 : goal.credit-requires-2
credit-requires-2 c =
    let w = widths c.args.log.bytes.now c.args.log.header c.args.i c.args.byte c.record_from-u.result c.record_from-u.ensures c.requires.i_bound.2 in
    let one = one_in_force c.args.standards.now c.requires.rising c.record_from-u.result.«module» c.record_from-u.result.recipe c.record_from-u.result.time c.in-Some.p c.in-Some.ensures in
    let low = short c.args.log.bytes.now c.args.log.header c.args.log.header.standards c.args.standards.now c.requires.listed.0 _ _ _ c.in-Some.p one in
    (w.0.0, w.2, low, omega (arith, (c.requires.summed.low c.record_from-u.result.«module» w.0.0).1, c.requires.i_bound.0))

pub count-requires : goal.count-requires
count-requires c =
    let w = widths c.args.log.bytes.now c.args.log.header c.args.i c.args.byte c.record_from-u.result c.record_from-u.ensures c.requires.i_bound.2 in
    let one = one_in_force c.args.standards.now c.requires.rising c.record_from-u.result.«module» c.record_from-u.result.recipe c.record_from-u.result.time c.in-Some.p c.in-Some.ensures in
    let listed = index-low c.args.log.bytes.now c.args.log.header c.args.log.header.standards c.args.standards.now c.requires.listed.0 _ _ _ c.in-Some.p one in
    let low : c.in-Some.p.index < 512 = omega (arith, listed, c.requires.listed.1) in
    (low, omega (arith, w.1, w.2), omega (arith, c.requires.judged.low c.in-Some.p.index low, c.requires.i_bound.0))

pub returns-clause-answer : goal.returns-clause-answer
returns-clause-answer c =
    let reads = read_at c.args.log.bytes.now c.args.log.header c.args.i c.args.byte c.record_from-u.result c.record_from-u.ensures c.requires.i_bound.2 in
    let w = widths c.args.log.bytes.now c.args.log.header c.args.i c.args.byte c.record_from-u.result c.record_from-u.ensures c.requires.i_bound.2 in
    let tests = unit_by_number c.args.log.header.period c.args.log.header.modules c.args.standards.now (up_to (unit_at c.args.log.bytes.now c.args.log.header) c.args.i) c.args.i c.args.before.now c.record_from-u.result w.0 c.requires.sequenced in
    let one = one_in_force c.args.standards.now c.requires.rising c.record_from-u.result.«module» c.record_from-u.result.recipe c.record_from-u.result.time c.in-Some.p c.in-Some.ensures in
    rw (← reads, tests, ← c.in_ok-test_unit.ensures, one, ← c.unit_number-number.ensures) (grind (arith, nat_tests, c.in_ok-refuses.ensures))

pub returns-clause-sequenced : goal.returns-clause-sequenced
returns-clause-sequenced c =
    let reads = read_at c.args.log.bytes.now c.args.log.header c.args.i c.args.byte c.record_from-u.result c.record_from-u.ensures c.requires.i_bound.2 in
    let w = widths c.args.log.bytes.now c.args.log.header c.args.i c.args.byte c.record_from-u.result c.record_from-u.ensures c.requires.i_bound.2 in
    let above = leb-false _ _ (not-met Unsorted Units c.args.i _ (sym c.in_ok-refuses.ensures)) in
    let after = c.requires.sequenced.next c.record_from-u.result w.0 ∙ lt-ltb c.args.before.now (unit_number c.record_from-u.result) (omega (arith, above, c.unit_number-number.ensures)) in
    rw (up_to_more (unit_at c.args.log.bytes.now c.args.log.header) c.args.i, ← reads, c.unit_number-number.ensures) (sequenced_more unit_key unit_number UnitFits units-below (up_to (unit_at c.args.log.bytes.now c.args.log.header) c.args.i) _ c.record_from-u.result c.requires.sequenced w.0 after)

pub returns-clause-summed : goal.returns-clause-summed
returns-clause-summed c =
    let reads = read_at c.args.log.bytes.now c.args.log.header c.args.i c.args.byte c.record_from-u.result c.record_from-u.ensures c.requires.i_bound.2 in
    let w = widths c.args.log.bytes.now c.args.log.header c.args.i c.args.byte c.record_from-u.result c.record_from-u.ensures c.requires.i_bound.2 in
    let one = one_in_force c.args.standards.now c.requires.rising c.record_from-u.result.«module» c.record_from-u.result.recipe c.record_from-u.result.time c.in-Some.p c.in-Some.ensures in
    let low = short c.args.log.bytes.now c.args.log.header c.args.log.header.standards c.args.standards.now c.requires.listed.0 _ _ _ c.in-Some.p one in
    rw (c.credit.ensures, c.credit-2.ensures, up_to_more (unit_at c.args.log.bytes.now c.args.log.header) c.args.i, ← reads)
    (summed_more c.args.standards.now (up_to (unit_at c.args.log.bytes.now c.args.log.header) c.args.i) c.args.i c.record_from-u.result c.in-Some.p w.0.0 one w.1 w.2 low _ _ c.requires.summed)

pub returns-clause-judged : goal.returns-clause-judged
returns-clause-judged c =
    let reads = read_at c.args.log.bytes.now c.args.log.header c.args.i c.args.byte c.record_from-u.result c.record_from-u.ensures c.requires.i_bound.2 in
    let w = widths c.args.log.bytes.now c.args.log.header c.args.i c.args.byte c.record_from-u.result c.record_from-u.ensures c.requires.i_bound.2 in
    let one = one_in_force c.args.standards.now c.requires.rising c.record_from-u.result.«module» c.record_from-u.result.recipe c.record_from-u.result.time c.in-Some.p c.in-Some.ensures in
    let listed = index-low c.args.log.bytes.now c.args.log.header c.args.log.header.standards c.args.standards.now c.requires.listed.0 _ _ _ c.in-Some.p one in
    rw c.count.ensures
    (counted_more (λ u. u.actual) c.args.standards.now (unit_at c.args.log.bytes.now c.args.log.header) c.args.i c.record_from-u.result reads c.args.credited.now c.requires.judged c.in-Some.p one (omega (arith, listed, c.requires.listed.1)) w.1)
