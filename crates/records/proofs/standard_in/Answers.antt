-- `records::standard_in` meets its contract: each field is cut out of the words. Assumes nothing.
use native.Mathlib.Omega.{arith}
use Prim.Native.Nat.{◌+◌}
use Rattle.bits.proofs.Fields.{cut_at, tail_at}
use Rattle.records.specs.Fields.{standard_from}
use Rattle.records.proofs.standard_in.Goals as goal

pub returns : goal.returns
unfolding standard_from
returns c =
    λ s p q a b e.
    rw (
      a,
      b,
      cut_at s p 0 6 45 51 p (omega arith) (omega arith),
      cut_at s p 6 10 35 51 (p + 6) (omega arith) (omega arith),
      tail_at s p 16 35 51 (p + 16) (omega arith) (omega arith),
      cut_at s q 35 27 2 64 (p + 51) (omega arith) (omega (arith, e)),
      tail_at s q 62 2 64 (p + 78) (omega arith) (omega (arith, e)),
    )
