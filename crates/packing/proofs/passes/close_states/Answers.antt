-- `packing::passes::close_states` meets its contract: each record is left or not, by its module's current code. Assumes nothing.
use native.Mathlib.Omega.{arith}
use Rattle.packing.proofs.ClosingUp.{closed_moveable}
use Rattle.packing.proofs.Passing.{state-low, states_none, states_more_closed}
use Rattle.packing.proofs.passes.close_states.Goals as goal

pub loop-i-init : goal.loop-i-init
loop-i-init c = states_none c.args.buf.now c.requires.small c.args.states c.requires.rises c.requires.there.0

pub repeats_code-drops-requires : goal.repeats_code-drops-requires
repeats_code-drops-requires c = rw c.state_within-r.ensures (state-low c.loop-i.buf c.loop-i.i)

pub loop-i-preserved : goal.loop-i-preserved
loop-i-preserved c =
    rw c.repeats_code-drops.ensures.set
    (states_more_closed c.args.buf.now c.requires.small c.args.states c.requires.rises c.requires.there.0 c.loop-i.i (omega arith) c.loop-i.invariant
    c.state_within-r.result c.state_within-r.ensures c.repeats_code-drops.result c.repeats_code-drops.ensures.answer _ _ c.move_record-to.ensures)

pub move_record-to-requires : goal.move_record-to-requires
move_record-to-requires c = closed_moveable c.loop-i.invariant.closed 6 c.requires.small (omega arith) (omega (arith, c.requires.there.0), c.requires.there.1)
