-- `listing::put_listing` meets its contract: an accepted log's standards are few, their credited units are low, and their lines are the listing.
-- Assumes nothing.
use mathlib.Core.Path.{◌≡◌, refl}
use native.Mathlib.Omega.{arith}
use Rattle.std.specs.declared.result.Result.TheVariants.{Ok, Err}
use Rattle.rules.specs.Verdict.{verdict}
use Rattle.listing.proofs.Listings.{standards_few, credits_low, lists_credits}
use Rattle.listing.proofs.put_listing.Goals as goal

pub returns-in_err-account : goal.returns-in_err-account
returns-in_err-account c =
    let err : c.from_residual.result ≡ Err c.in_err-account.field-0.0 = grind arith in
    rw err (c.in_err-account.ensures.judged, refl)

pub put_credits-requires-clause-few : goal.put_credits-requires-clause-few
put_credits-requires-clause-few c =
    let a = c.in_ok-account.account in
    rw a.log.own (standards_few a.log.bytes.now a.accepted)

pub put_credits-requires-clause-low : goal.put_credits-requires-clause-low
put_credits-requires-clause-low c =
    let a = c.in_ok-account.account in
    let accepted : verdict c.args.log.now ≡ Ok tt = rw (← c.in_ok-account.ensures.judged) a.accepted in
    let few = standards_few a.log.bytes.now a.accepted in
    rw c.in_ok-account.ensures.credited (λ i h. credits_low c.args.log.now accepted i (omega (arith, rw a.log.own at h, few)))

pub returns : goal.returns
returns c =
    let a = c.in_ok-account.account in
    let accepted : verdict c.args.log.now ≡ Ok tt = rw (← c.in_ok-account.ensures.judged) a.accepted in
    (accepted, rw (c.in_ok-account.ensures.credited, a.log.own, c.in_ok-account.ensures.judged, lists_credits c.args.log.now accepted) at c.put_credits.ensures)
