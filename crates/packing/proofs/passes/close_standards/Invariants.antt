-- After i turns the first i standards are closed up, and the last of them is at hand.
use Rattle.packing.proofs.Passing.{StandardsSoFar}
use Rattle.packing.proofs.passes.close_standards.Given as goal

abbrev pub invariant-loop-i : goal.invariant-loop-i
invariant-loop-i l = StandardsSoFar l.initial.buf l.h l.to l.i l.next l.last l.buf
