-- `joining::moved::put_units` meets its contract: each record is written behind those before it. Assumes nothing.
use native.Mathlib.Omega.{arith}
use Rattle.records.specs.Encode.{unit_slots}
use Rattle.records.specs.Log.{unit_at}
use Rattle.joined.specs.Joined.{unit_up}
use Rattle.joining.proofs.MovedLists.{moved_none, moved_room, moved_more, moved_all}
use Rattle.joining.proofs.moved.put_units.Goals as goal

pub loop-i-init : goal.loop-i-init
loop-i-init c = moved_none 11 unit_slots (unit_up c.args.by) (unit_at c.args.units.bytes.now c.args.units.header) _ _ _ c.requires.room

pub put_unit-next-requires-clause-room : goal.put_unit-next-requires-clause-room
put_unit-next-requires-clause-room c = moved_room 11 unit_slots (unit_up c.args.by) (unit_at c.args.units.bytes.now c.args.units.header) _ _ _ c.requires.room _ _ _ c.loop-i-test.true c.loop-i.invariant

pub put_unit-next-requires-clause-fits : goal.put_unit-next-requires-clause-fits
put_unit-next-requires-clause-fits c = c.requires.fits c.loop-i.i c.loop-i-test.true

pub loop-i-preserved : goal.loop-i-preserved
loop-i-preserved c = moved_more 11 unit_slots (unit_up c.args.by) (unit_at c.args.units.bytes.now c.args.units.header) _ _ _ c.requires.room _ _ _ _ _ c.loop-i-test.true c.loop-i.invariant c.put_unit-next.ensures

pub returns : goal.returns
returns c = moved_all 11 unit_slots (unit_up c.args.by) (unit_at c.args.units.bytes.now c.args.units.header) _ _ _ c.requires.room _ _ _ (omega arith) c.loop-i.invariant
