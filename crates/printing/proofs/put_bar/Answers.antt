-- `printing::put_bar` meets its contract: the five parts are put one behind the other. Assumes nothing.
use Rattle.filling.proofs.Written.{then}
use Rattle.printing.specs.Tables.{bar}
use Rattle.printing.proofs.put_bar.Goals as goal

pub returns : goal.returns
unfolding bar
returns c =
    let rate = (then) ((then) c.put_fraction-availability.ensures.put c.put_fraction-operational.ensures.put) c.put_fraction-rate.ensures.put in
    (then) ((then) ((then) rate c.put_fraction-quality.ensures.put) c.put_fraction-oee.ensures.put) c.put_text.ensures
