-- The records ahead of the one in turn are written.
use Rattle.records.specs.Encode.{state_slots}
use Rattle.records.specs.Log.{state_at}
use Rattle.joined.specs.Joined.{state_up}
use Rattle.joining.proofs.MovedLists.{MovedSoFar}
use Rattle.joining.proofs.moved.put_states.Given as goal

abbrev pub invariant-loop-i : goal.invariant-loop-i
invariant-loop-i l = MovedSoFar 6 state_slots (state_up l.by) (state_at l.states.bytes.now) l.states.header.states l.i l.initial.buf l.at l.next l.buf
