-- `listing::put_credits` meets its contract: the lines of the standards passed stand in the buffer. Assumes nothing.
use native.Mathlib.Omega.{arith}
use lib.ListN.{get_or}
use Rattle.filling.proofs.Written.{at_front}
use Rattle.report.proofs.Tables.{lined_none, lined_room, lined_more, lined_all}
use Rattle.listing.specs.Listings.{credit_line}
use Rattle.listing.proofs.Lines.{listing_longest}
use Rattle.listing.proofs.put_credits.Goals as goal

pub loop-i-init : goal.loop-i-init
loop-i-init c = lined_none (λ i. credit_line i (get_or c.args.credited.now i 0)) _ _ _ (omega (arith, listing_longest c.args.standards (λ i. get_or c.args.credited.now i 0) c.requires.few c.requires.low, c.requires.in_bounds))

pub put_credit-next-requires : goal.put_credit-next-requires
put_credit-next-requires c = (lined_room (λ i. credit_line i (get_or c.args.credited.now i 0)) _ _ _ (omega (arith, listing_longest c.args.standards (λ i. get_or c.args.credited.now i 0) c.requires.few c.requires.low, c.requires.in_bounds)) _ _ _ (omega arith) c.loop-i.invariant).1

pub loop-i-preserved : goal.loop-i-preserved
loop-i-preserved c = lined_more (λ i. credit_line i (get_or c.args.credited.now i 0)) _ _ _ (omega (arith, listing_longest c.args.standards (λ i. get_or c.args.credited.now i 0) c.requires.few c.requires.low, c.requires.in_bounds)) _ _ _ _ _ (omega arith) c.loop-i.invariant c.put_credit-next.ensures

pub returns : goal.returns
returns c = at_front 7168 (listing_longest c.args.standards (λ i. get_or c.args.credited.now i 0) c.requires.few c.requires.low) (lined_all c.loop-i.invariant (omega arith))
