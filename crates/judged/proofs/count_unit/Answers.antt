-- `count_unit` meets its contract: the standards rise, so what is looked up is the standard in force, whose counter grows; where none is, none grows.
-- Assumes nothing.
use Prim.Native.Nat.{◌<◌}
use native.Mathlib.Omega.{arith}
use Rattle.records.specs.Log.{unit_at}
use Rattle.theoretical.proofs.Crediting.{read_at, widths, index-low, none_in_force, one_in_force}
use Rattle.theoretical.proofs.Counting.{counted_none, counted_more}
use Rattle.judged.proofs.count_unit.Goals as goal

pub look_up-requires : goal.look_up-requires
look_up-requires c =
    let w = widths c.args.log.bytes.now c.args.log.header c.args.i c.args.byte c.record_from-u.result c.record_from-u.ensures c.requires.i_bound.2 in
    (w.0.0, w.0.1)

pub count-requires : goal.count-requires
count-requires c =
    let w = widths c.args.log.bytes.now c.args.log.header c.args.i c.args.byte c.record_from-u.result c.record_from-u.ensures c.requires.i_bound.2 in
    let one = one_in_force c.args.standards.now c.requires.rising c.record_from-u.result.«module» c.record_from-u.result.recipe c.record_from-u.result.time c.in-Some.p c.in-Some.ensures in
    let low : c.in-Some.p.index < 512 = omega (arith, index-low c.args.log.bytes.now c.args.log.header c.args.log.header.standards c.args.standards.now c.requires.listed.0 _ _ _ c.in-Some.p one, c.requires.listed.1) in
    (low, w.2, omega (arith, c.requires.so_far.low c.in-Some.p.index low, c.requires.i_bound.0))

pub returns-in-Some : goal.returns-in-Some
returns-in-Some c =
    let reads = read_at c.args.log.bytes.now c.args.log.header c.args.i c.args.byte c.record_from-u.result c.record_from-u.ensures c.requires.i_bound.2 in
    let w = widths c.args.log.bytes.now c.args.log.header c.args.i c.args.byte c.record_from-u.result c.record_from-u.ensures c.requires.i_bound.2 in
    let one = one_in_force c.args.standards.now c.requires.rising c.record_from-u.result.«module» c.record_from-u.result.recipe c.record_from-u.result.time c.in-Some.p c.in-Some.ensures in
    let low : c.in-Some.p.index < 512 = omega (arith, index-low c.args.log.bytes.now c.args.log.header c.args.log.header.standards c.args.standards.now c.requires.listed.0 _ _ _ c.in-Some.p one, c.requires.listed.1) in
    rw c.count.ensures (counted_more (λ u. u.effective) c.args.standards.now (unit_at c.args.log.bytes.now c.args.log.header) c.args.i c.record_from-u.result reads c.args.judged.now c.requires.so_far c.in-Some.p one low w.2)

pub returns-in_default : goal.returns-in_default
returns-in_default c =
    let reads = read_at c.args.log.bytes.now c.args.log.header c.args.i c.args.byte c.record_from-u.result c.record_from-u.ensures c.requires.i_bound.2 in
    let none = none_in_force c.args.standards.now c.requires.rising c.record_from-u.result.«module» c.record_from-u.result.recipe c.record_from-u.result.time c.in_default.ensures in
    counted_none (λ u. u.effective) c.args.standards.now (unit_at c.args.log.bytes.now c.args.log.header) c.args.i c.record_from-u.result reads c.args.judged.now c.requires.so_far none
