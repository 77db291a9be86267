-- `joining::moved::put_states` meets its contract: each record is written behind those before it. Assumes nothing.
use native.Mathlib.Omega.{arith}
use Rattle.records.specs.Encode.{state_slots}
use Rattle.records.specs.Log.{state_at}
use Rattle.joined.specs.Joined.{state_up}
use Rattle.joining.proofs.MovedLists.{moved_none, moved_room, moved_more, moved_all, moved_place}
use Rattle.joining.proofs.moved.put_states.Goals as goal

pub loop-i-init : goal.loop-i-init
loop-i-init c = moved_none 6 state_slots (state_up c.args.by) (state_at c.args.states.bytes.now) _ _ _ c.requires.room

pub put_state-next-requires-clause-room : goal.put_state-next-requires-clause-room
put_state-next-requires-clause-room c = moved_room 6 state_slots (state_up c.args.by) (state_at c.args.states.bytes.now) _ _ _ c.requires.room _ _ _ c.loop-i-test.true c.loop-i.invariant

pub put_state-next-requires-clause-fits : goal.put_state-next-requires-clause-fits
put_state-next-requires-clause-fits c = c.requires.fits c.loop-i.i c.loop-i-test.true

pub loop-i-preserved : goal.loop-i-preserved
loop-i-preserved c = moved_more 6 state_slots (state_up c.args.by) (state_at c.args.states.bytes.now) _ _ _ c.requires.room _ _ _ _ _ c.loop-i-test.true c.loop-i.invariant c.put_state-next.ensures

pub returns-clause-put : goal.returns-clause-put
returns-clause-put c = moved_all 6 state_slots (state_up c.args.by) (state_at c.args.states.bytes.now) _ _ _ c.requires.room _ _ _ (omega arith) c.loop-i.invariant

pub returns-clause-place : goal.returns-clause-place
returns-clause-place c = moved_place 6 state_slots (state_up c.args.by) (state_at c.args.states.bytes.now) _ _ _ c.requires.room _ _ _ (omega arith) c.loop-i.invariant
