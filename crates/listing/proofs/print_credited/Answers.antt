-- `listing::print_credited` meets its contract: the listing stands at the front already, and else the line of the refusal is written there.
-- Assumes nothing.
use lib.Dec.{lit≤}
use Rattle.reporting.proofs.Reporting.{prints_refused, prints_front}
use Rattle.listing.specs.Listings.{credit_listing}
use Rattle.listing.proofs.print_credited.Goals as goal

pub returns-in-Ok : goal.returns-in-Ok
returns-in-Ok c = prints_front credit_listing 7168 c.args.log.now c.args.buf.now _ _ c.in-Ok.ensures.0 c.in-Ok.ensures.1

pub returns-in-Err : goal.returns-in-Err
returns-in-Err c = prints_refused credit_listing 7168 c.args.log.now c.args.buf.now _ _ _ c.in-Err.ensures.0 (rw c.in-Err.ensures.1 at c.put_refused_line.ensures) (lit≤ tt)
