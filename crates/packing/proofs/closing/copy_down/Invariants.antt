-- After k turns k words are copied.
use mathlib.Core.Path.{◌≡◌}
use Prim.Native.Nat.{◌*◌}
use Rattle.packing.proofs.Words.{copied_so_far}
use Rattle.packing.proofs.closing.copy_down.Given as goal

abbrev pub invariant-loop-k : goal.invariant-loop-k
invariant-loop-k l = l.buf ≡ copied_so_far l.initial.buf l.from l.to (8 * l.k)
