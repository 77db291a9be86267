-- `supplemental::measure` meets its contract: the length decides, then the benchmarks one by one, then their sums are divided by the total time. Assumes nothing.
use mathlib.Core.Path.{◌≡◌, refl, sym, ◌∙◌}
use Prim.Native.Nat.{◌*◌}
use native.Mathlib.Omega.{arith}
use lib.ListN.{length}
use borrow.Author.Tests.{eqb-true, not-false}
use Rattle.std.specs.declared.result.Result.TheVariants.{Err}
use Rattle.records.specs.Log.{header_of, decode}
use Rattle.rules.specs.declared.Ground.TheVariants.{Length}
use Rattle.rules.specs.declared.LogList.TheVariants.{Benchmarks}
use Rattle.rules.proofs.FirstGround.{not-met}
use Rattle.rules.proofs.Given.{was_answered, was_refused}
use Rattle.rules.proofs.Risen.{lists-accepted}
use Rattle.judging.proofs.Accepted.{tool_ordered}
use Rattle.benchmarks.specs.Benchmarks.{benchmark_at}
use Rattle.supplemental.specs.Supplemental.{supplemental_of}
use Rattle.supplemental.proofs.Within.{portions, all_rounded}
use Rattle.supplemental.proofs.Answers.{sized, lent, size_refused, one_refused, figures_answered}
use Rattle.supplemental.proofs.measure.Goals as goal

pub returns-in_err-refuses : goal.returns-in_err-refuses
returns-in_err-refuses c =
    let a = c.args.account.now in
    let s = a.log.bytes.now in
    let b = c.args.benchmarks.now in
    let err : c.from_residual.result ≡ Err c.in_err-refuses.field-0.0 = grind arith in
    rw err (size_refused s b a.accepted a.log.header.standards (rw a.log.own refl) _ (sym c.refuses.ensures ∙ c.in_err-refuses.was))

pub effective_units-requires-clause-counts_bound : goal.effective_units-requires-clause-counts_bound
effective_units-requires-clause-counts_bound c =
    let a = c.args.account.now in
    let s = a.log.bytes.now in
    let b = c.args.benchmarks.now in
    let n = sized s b a.accepted in
    rw (c.units.ensures.1, a.log.own) (n.counts.1, n.counts.2)

pub effective_units-requires-clause-accepted : goal.effective_units-requires-clause-accepted
unfolding decode
effective_units-requires-clause-accepted c =
    let a = c.args.account.now in
    let s = a.log.bytes.now in
    let b = c.args.benchmarks.now in
    rw (c.units.ensures.0, c.units.ensures.1, a.log.own) (lists-accepted s a.accepted).standards

pub sum_benchmarks-requires : goal.sum_benchmarks-requires
sum_benchmarks-requires c =
    let a = c.args.account.now in
    let s = a.log.bytes.now in
    let b = c.args.benchmarks.now in
    let whole : length b ≡ 14 * (header_of s).standards = rw (← a.log.own) (eqb-true _ _ (not-false _ (not-met Length Benchmarks 0 _ (sym c.refuses.ensures ∙ c.in_ok-refuses.was)))) in
    record { lent = rw (c.standards.ensures.0, c.standards.ensures.1) (lent s b a.accepted a.log.header a.log.own (rw a.log.own whole) _ (rw (c.units.ensures.0, c.units.ensures.1) at c.effective_units.ensures)) }

pub returns-in_err-sums : goal.returns-in_err-sums
returns-in_err-sums c =
    let a = c.args.account.now in
    let s = a.log.bytes.now in
    let b = c.args.benchmarks.now in
    let whole : length b ≡ 14 * (header_of s).standards = rw (← a.log.own) (eqb-true _ _ (not-false _ (not-met Length Benchmarks 0 _ (sym c.refuses.ensures ∙ c.in_ok-refuses.was)))) in
    let sums = rw (c.standards.ensures.0) at c.sum_benchmarks.ensures in
    let err : c.from_residual-in_err-sums.result ≡ Err c.in_err-sums.field-0.0 = grind arith in
    rw err (one_refused s b a.accepted whole _ (was_refused _ _ _ (sym c.in_err-sums.was ∙ sums)))

pub figures_of-requires-clause-portion : goal.figures_of-requires-clause-portion
figures_of-requires-clause-portion c =
    let a = c.args.account.now in
    let s = a.log.bytes.now in
    let b = c.args.benchmarks.now in
    let sums = rw (c.standards.ensures.0) at c.sum_benchmarks.ensures in
    let given = was_answered _ _ _ (sym c.in_ok-sums.was ∙ sums) in
    rw c.tool_quantities.ensures (portions s a.accepted (benchmark_at b) given.0 (tool_ordered _ a.consistent) _ given.1)

pub figures_of-requires-clause-total_nonzero : goal.figures_of-requires-clause-total_nonzero
figures_of-requires-clause-total_nonzero c =
    let a = c.args.account.now in
    let s = a.log.bytes.now in
    let b = c.args.benchmarks.now in
    rw c.tool_quantities.ensures (tool_ordered (decode s) a.consistent).begun

pub returns : goal.returns
unfolding supplemental_of
returns c =
    let a = c.args.account.now in
    let s = a.log.bytes.now in
    let b = c.args.benchmarks.now in
    let whole : length b ≡ 14 * (header_of s).standards = rw (← a.log.own) (eqb-true _ _ (not-false _ (not-met Length Benchmarks 0 _ (sym c.refuses.ensures ∙ c.in_ok-refuses.was)))) in
    let sums = rw (c.standards.ensures.0) at c.sum_benchmarks.ensures in
    let given = was_answered _ _ _ (sym c.in_ok-sums.was ∙ sums) in
    figures_answered s b a.accepted whole _ given.0 (c.figures_of.ensures ∙ rw (given.1, c.tool_quantities.ensures)) (all_rounded s a.accepted (benchmark_at b) given.0 (tool_ordered _ a.consistent))
