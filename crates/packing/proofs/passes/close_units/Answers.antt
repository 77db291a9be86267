-- `packing::passes::close_units` meets its contract: the bytes of all unit records are moved at once. Assumes nothing.
use Rattle.packing.proofs.Passing.{units_closed}
use Rattle.packing.proofs.passes.close_units.Goals as goal

pub returns : goal.returns
returns c = units_closed c.args.buf.now c.args.h c.requires.small c.requires.there.0 c.args.to c.requires.order _ _ c.move_record.ensures
