use mathlib.Core.Path.{◌≡◌}
use Prim.Native.Nat.{◌*◌}
use Rattle.bits.specs.Bits.{field}
use Rattle.bits.proofs.bytes_within.Given as goal

abbrev pub invariant-loop-b : goal.invariant-loop-b
invariant-loop-b l = l.word ≡ field l.s (8 * l.i) (8 * l.b-index)
