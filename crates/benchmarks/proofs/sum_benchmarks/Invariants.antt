use mathlib.Core.Path.{◌≡◌}
use Rattle.std.specs.declared.result.Result.TheVariants.{Ok}
use Rattle.records.specs.Log.{decode}
use Rattle.rules.specs.Grounds.{first_of}
use Rattle.benchmarks.specs.Benchmarks.{benchmark_at, ground_at}
use Rattle.benchmarks.specs.Taking.{sums_to}
use Rattle.benchmarks.proofs.sum_benchmarks.Given as goal

abbrev pub invariant-loop-i : goal.invariant-loop-i
invariant-loop-i l =
    record {
      passed : first_of (ground_at (decode l.log.bytes.now) (benchmark_at l.benchmarks)) l.i ≡ Ok tt;
      summed : l.sums ≡ sums_to (decode l.log.bytes.now) (benchmark_at l.benchmarks) l.i;
    }
