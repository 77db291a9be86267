-- The fields passed are laid side by side.
use Prim.Native.Nat.{◌+◌, ◌*◌}
use lib.ListN.{drop}
use Rattle.writing.specs.Storing.{slots_of}
use Rattle.writing.proofs.Laying.{Laid}
use Rattle.writing.proofs.put.Given as goal

abbrev pub invariant-loop-f : goal.invariant-loop-f
invariant-loop-f l = Laid (slots_of l.fields) (8 * (l.m + l.n)) l.all (slots_of (drop l.f-index l.fields))
