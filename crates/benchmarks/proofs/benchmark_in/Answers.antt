-- `benchmarks::benchmark_in` meets its contract: each field is cut out of the words. Assumes nothing.
use native.Mathlib.Omega.{arith}
use Prim.Native.Nat.{◌+◌}
use Rattle.bits.proofs.Fields.{cut_at, tail_at}
use Rattle.benchmarks.specs.Benchmarks.{benchmark_from}
use Rattle.benchmarks.proofs.benchmark_in.Goals as goal

pub returns : goal.returns
unfolding benchmark_from
returns c = λ s p q a b e.
    rw (
      a,
      b,
      cut_at s p 0 27 37 64 p (omega arith) (omega arith),
      cut_at s p 27 27 10 64 (p + 27) (omega arith) (omega arith),
      cut_at s q 6 27 31 64 (p + 54) (omega arith) (omega (arith, e)),
      cut_at s q 33 27 4 64 (p + 81) (omega arith) (omega (arith, e)),
      tail_at s q 60 4 64 (p + 108) (omega arith) (omega (arith, e)),
    )
