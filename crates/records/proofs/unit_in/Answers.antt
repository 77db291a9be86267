-- `records::unit_in` meets its contract: each field is cut out of the words. Assumes nothing.
use native.Mathlib.Omega.{arith}
use Prim.Native.Nat.{◌+◌}
use Rattle.bits.proofs.Fields.{cut_at, tail_at}
use Rattle.records.specs.Fields.{unit_from}
use Rattle.records.proofs.unit_in.Goals as goal

pub returns : goal.returns
unfolding unit_from
returns c =
    λ s p q a b e.
    rw (
      a,
      b,
      cut_at s p 0 6 45 51 p (omega arith) (omega arith),
      cut_at s p 6 10 35 51 (p + 6) (omega arith) (omega arith),
      tail_at s p 16 35 51 (p + 16) (omega arith) (omega arith),
      cut_at s q 27 16 21 64 (p + 51) (omega arith) (omega (arith, e)),
      cut_at s q 43 16 5 64 (p + 67) (omega arith) (omega (arith, e)),
      tail_at s q 59 5 64 (p + 83) (omega arith) (omega (arith, e)),
    )
