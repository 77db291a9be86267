-- After i turns the first i state records are closed up, and the words have each module's current code.
use Rattle.packing.proofs.Passing.{StatesSoFar}
use Rattle.packing.proofs.passes.close_states.Given as goal

abbrev pub invariant-loop-i : goal.invariant-loop-i
invariant-loop-i l = StatesSoFar l.initial.buf l.i l.to l.current l.buf
