-- `sum_benchmarks` meets its contract: the benchmarks ahead of the one in turn passed and are added. Assumes nothing.
use mathlib.Core.Path.{◌≡◌, refl, sym, ◌∙◌}
use Prim.Native.Nat.{◌*◌, ◌<◌}
use native.Mathlib.Omega.{arith}
use Rattle.std.proofs.lemmas.Grind.{common_steps}
use Rattle.std.proofs.lemmas.Result.{err_from_is_err_and}
use Rattle.records.specs.Log.{decode}
use Rattle.rules.specs.Quantities.{sum_below}
use Rattle.rules.proofs.FirstGround.{first_none, first_more, first_stop}
use Rattle.benchmarks.specs.Benchmarks.{benchmark_at, time_at, ground_at}
use Rattle.benchmarks.proofs.Taking.{narrow, count_is, time_is, time_low, sums_below, sums_more}
use Rattle.benchmarks.proofs.sum_benchmarks.Goals as goal

pub loop-i-init : goal.loop-i-init
unfolding sum_below
loop-i-init c =
    record { passed = first_none (ground_at (decode c.args.log.bytes.now) (benchmark_at c.args.benchmarks.now)); summed = grind (arith, common_steps) }

pub returns-in_err-test_benchmark : goal.returns-in_err-test_benchmark
returns-in_err-test_benchmark c =
    let time : c.record-s.result.theoretical ≡ time_at (decode c.args.log.bytes.now) c.loop-i.i = rw c.record-s.ensures (sym (time_is c.args.log.bytes.now c.args.log.header c.requires.lent.header c.loop-i.i c.loop-i-test.true)) in
    let low : c.loop-i.i < 512 = omega (arith, c.loop-i-test.true, c.requires.lent.few) in
    let met = rw (time, c.requires.lent.judged c.loop-i.i low, c.benchmark_within-b.ensures) at c.in_err-test_benchmark.ensures in
    let stop = first_stop (ground_at (decode c.args.log.bytes.now) (benchmark_at c.args.benchmarks.now)) c.args.log.header.standards c.loop-i.i _ c.loop-i-test.true c.loop-i.invariant.passed (sym met) in
    let p = err_from_is_err_and c.from_residual.result c.from_residual.ensures.1 in
    rw (p.1, p.2, count_is c.args.log.bytes.now c.args.log.header c.requires.lent.header, stop) refl

pub grown-sums-requires : goal.grown-sums-requires
grown-sums-requires c =
    let time : c.record-s.result.theoretical ≡ time_at (decode c.args.log.bytes.now) c.loop-i.i = rw c.record-s.ensures (sym (time_is c.args.log.bytes.now c.args.log.header c.requires.lent.header c.loop-i.i c.loop-i-test.true)) in
    let low : c.loop-i.i < 512 = omega (arith, c.loop-i-test.true, c.requires.lent.few) in (
      rw time (time_low c.args.log.bytes.now c.args.log.header c.requires.lent.header c.loop-i.i c.loop-i-test.true),
      c.requires.lent.low c.loop-i.i low,
      rw c.benchmark_within-b.ensures (narrow c.args.benchmarks.now (112 * c.loop-i.i)),
      rw c.loop-i.invariant.summed (sums_below c.args.log.bytes.now c.args.benchmarks.now c.args.judged.now c.args.log.header c.requires.lent c.loop-i.i c.loop-i-test.true),
    )

pub loop-i-preserved : goal.loop-i-preserved
loop-i-preserved c =
    let time : c.record-s.result.theoretical ≡ time_at (decode c.args.log.bytes.now) c.loop-i.i = rw c.record-s.ensures (sym (time_is c.args.log.bytes.now c.args.log.header c.requires.lent.header c.loop-i.i c.loop-i-test.true)) in
    let low : c.loop-i.i < 512 = omega (arith, c.loop-i-test.true, c.requires.lent.few) in
    let passed = rw (time, c.requires.lent.judged c.loop-i.i low, c.benchmark_within-b.ensures) at c.in_ok-test_benchmark.ensures in
    record {
      passed = first_more (ground_at (decode c.args.log.bytes.now) (benchmark_at c.args.benchmarks.now)) c.loop-i.i c.loop-i.invariant.passed (sym passed);
      summed = c.grown-sums.ensures ∙ rw (time, c.requires.lent.judged c.loop-i.i low, c.benchmark_within-b.ensures, c.loop-i.invariant.summed) (sums_more (decode c.args.log.bytes.now) (benchmark_at c.args.benchmarks.now) c.loop-i.i);
    }

pub returns : goal.returns
returns c =
    let e : c.loop-i.i ≡ c.args.log.header.standards = omega (arith, c.loop-i-test.false) in
    rw (count_is c.args.log.bytes.now c.args.log.header c.requires.lent.header, ← e, c.loop-i.invariant.passed) (rw c.loop-i.invariant.summed refl)
