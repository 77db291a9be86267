-- `listing::credited_listing` meets its contract: the log's own refusal comes first, then the room's; else the listing that was put together apart is the front of the buffer.
-- Assumes nothing.
use mathlib.Core.Path.{◌≡◌, sym, ◌∙◌}
use Prim.Native.Nat.{◌≤◌}
use native.Mathlib.Omega.{arith}
use borrow.Author.Tests.{ltb-false}
use lib.ListN.{length}
use Rattle.std.specs.declared.result.Result.TheVariants.{Err}
use Rattle.rules.specs.declared.Ground.TheVariants.{ShortBuffer}
use Rattle.rules.specs.declared.LogList.TheVariants.{NoList}
use Rattle.rules.proofs.FirstGround.{not-met}
use Rattle.filling.proofs.Written.{front-text}
use Rattle.listing.specs.Listings.{credit_listing}
use Rattle.listing.proofs.Listings.{text_refused, text_short, text_put}
use Rattle.listing.proofs.credited_listing.Goals as goal

pub returns-in_err-size : goal.returns-in_err-size
returns-in_err-size c =
    let err : c.from_residual.result ≡ Err c.in_err-size.field-0.0 = grind arith in
    rw err (text_refused credit_listing 7168 c.args.log.now c.args.buf.now _ c.in_err-size.ensures.0)

pub returns-in_err-refuses : goal.returns-in_err-refuses
returns-in_err-refuses c =
    let front = c.in_ok-size.ensures in
    let err : c.from_residual-in_err-refuses.result ≡ Err c.in_err-refuses.field-0.0 = grind arith in
    rw err (text_short credit_listing 7168 c.args.log.now c.args.buf.now front.0 _ (rw front.1.size at (sym c.refuses.ensures ∙ c.in_err-refuses.was)))

pub returns : goal.returns
returns c =
    let front = c.in_ok-size.ensures in
    let fits : c.in_ok-size.size ≤ length c.args.buf.now = ltb-false _ _ (not-met ShortBuffer NoList 0 _ (sym c.refuses.ensures ∙ c.in_ok-refuses.was)) in
    text_put credit_listing 7168 c.args.log.now c.args.buf.now front.0 (omega (arith, fits, front.1.size)) (omega (arith, front.1.size, front.1.longest)) _ _ (rw (front-text front.1) at c.put_text.ensures)
