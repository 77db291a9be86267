-- The records ahead of the one in turn are written.
use Rattle.records.specs.Encode.{unit_slots}
use Rattle.records.specs.Log.{unit_at}
use Rattle.joined.specs.Joined.{unit_up}
use Rattle.joining.proofs.MovedLists.{MovedSoFar}
use Rattle.joining.proofs.moved.put_units.Given as goal

abbrev pub invariant-loop-i : goal.invariant-loop-i
invariant-loop-i l = MovedSoFar 11 unit_slots (unit_up l.by) (unit_at l.units.bytes.now l.units.header) l.units.header.units l.i l.initial.buf l.at l.next l.buf
