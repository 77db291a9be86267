-- `listing::put_credit` meets its contract: its four parts are put one behind the other. Assumes nothing.
use Rattle.filling.proofs.Written.{then}
use Rattle.listing.specs.Listings.{credit_line}
use Rattle.listing.proofs.put_credit.Goals as goal

pub returns : goal.returns
unfolding credit_line
returns c = (then) ((then) ((then) c.put_decimal-index.ensures c.put_text-space.ensures) c.put_decimal-number.ensures) c.put_text.ensures
