-- `packing::passes::close_standards` meets its contract: each standard is left or not, by the one before it. Assumes nothing.
use native.Mathlib.Omega.{arith}
use Rattle.packing.proofs.ClosingUp.{closed_moveable}
use Rattle.packing.proofs.Passing.{standards_none, standards_more_closed}
use Rattle.packing.proofs.passes.close_standards.Goals as goal

pub loop-i-init : goal.loop-i-init
loop-i-init c = standards_none c.args.buf.now c.requires.small c.args.h c.requires.rises c.requires.there.0 c.args.to c.requires.order

pub loop-i-preserved : goal.loop-i-preserved
loop-i-preserved c =
    standards_more_closed c.args.buf.now c.requires.small c.args.h c.requires.rises c.requires.there.0 (omega arith) c.loop-i.invariant
    c.standard_within-s.result c.standard_within-s.ensures c.repeats_time-drops.result c.repeats_time-drops.ensures _ _ c.move_record-next.ensures

pub move_record-next-requires : goal.move_record-next-requires
move_record-next-requires c = closed_moveable c.loop-i.invariant.closed 10 c.requires.small (omega arith) (omega (arith, c.requires.there.0), c.requires.there.1)
