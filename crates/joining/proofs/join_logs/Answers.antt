-- `joining::join_logs` meets its contract: each test in its turn, and then the bytes. Assumes nothing.
use mathlib.Core.Path.{◌≡◌, sym, ◌∙◌}
use native.Mathlib.Omega.{arith}
use borrow.Author.Tests.{ltb-false}
use Rattle.std.specs.declared.result.Result.TheVariants.{Ok, Err}
use Rattle.rules.specs.declared.Ground.TheVariants.{ShortBuffer}
use Rattle.rules.specs.declared.LogList.TheVariants.{NoList}
use Rattle.rules.specs.Verdict.{verdict}
use Rattle.rules.proofs.FirstGround.{not-met}
use Rattle.rules.proofs.Given.{was_answered, was_refused}
use Rattle.joining.specs.Parts.{header_verdict}
use Rattle.joining.proofs.Answering.{in-bounds, first-refused, second-refused, both-refused, length-known, room-refused, joined_put}
use Rattle.joining.proofs.Laid.{grounds-same}
use Rattle.joining.proofs.join_logs.Goals as goal

pub returns-in_err-a : goal.returns-in_err-a
returns-in_err-a c =
    let err : c.from_residual.result ≡ Err c.in_err-a.field-0.0 = grind arith in
    rw err (first-refused c.args.first.now c.args.second.now c.args.buf.now _ c.in_err-a.ensures)

pub returns-in_err-b : goal.returns-in_err-b
returns-in_err-b c =
    let first : verdict c.args.first.now ≡ Ok tt = rw c.in_ok-a.ensures at c.in_ok-a.field-0.accepted in
    let err : c.from_residual-in_err-b.result ≡ Err c.in_err-b.field-0.0 = grind arith in
    rw err (second-refused c.args.first.now c.args.second.now c.args.buf.now first _ c.in_err-b.ensures)

pub join_headers-requires-clause-first : goal.join_headers-requires-clause-first
join_headers-requires-clause-first c = rw c.in_ok-a.field-0.log.own (in-bounds c.in_ok-a.field-0.log.bytes.now c.in_ok-a.field-0.accepted)

pub join_headers-requires-clause-second : goal.join_headers-requires-clause-second
join_headers-requires-clause-second c = rw c.in_ok-b.field-0.log.own (in-bounds c.in_ok-b.field-0.log.bytes.now c.in_ok-b.field-0.accepted)

pub returns-in_err-h : goal.returns-in_err-h
returns-in_err-h c =
    let first : verdict c.args.first.now ≡ Ok tt = rw c.in_ok-a.ensures at c.in_ok-a.field-0.accepted in
    let second : verdict c.args.second.now ≡ Ok tt = rw c.in_ok-b.ensures at c.in_ok-b.field-0.accepted in
    let told = was_refused (header_verdict c.in_ok-a.field-0.log.header c.in_ok-b.field-0.log.header) _ _ (sym c.in_err-h.was ∙ c.join_headers.ensures) in
    let both = sym (grounds-same c.args.first.now c.args.second.now) ∙ rw (c.in_ok-a.field-0.log.own, c.in_ok-b.field-0.log.own, c.in_ok-a.ensures, c.in_ok-b.ensures) at told in
    let err : c.from_residual-in_err-h.result ≡ Err c.in_err-h.field-0.0 = grind arith in
    rw err (both-refused c.args.first.now c.args.second.now c.args.buf.now first second _ both)

pub returns-in_err-refuses : goal.returns-in_err-refuses
returns-in_err-refuses c =
    let first : verdict c.args.first.now ≡ Ok tt = rw c.in_ok-a.ensures at c.in_ok-a.field-0.accepted in
    let second : verdict c.args.second.now ≡ Ok tt = rw c.in_ok-b.ensures at c.in_ok-b.field-0.accepted in
    let told = was_answered (header_verdict c.in_ok-a.field-0.log.header c.in_ok-b.field-0.log.header) _ _ (sym c.in_ok-h.was ∙ c.join_headers.ensures) in
    let allowed = sym (grounds-same c.args.first.now c.args.second.now) ∙ rw (c.in_ok-a.field-0.log.own, c.in_ok-b.field-0.log.own, c.in_ok-a.ensures, c.in_ok-b.ensures) at told.0 in
    let err : c.from_residual-in_err-refuses.result ≡ Err c.in_err-refuses.field-0.0 = grind arith in
    let size = length-known c.args.first.now c.args.second.now c.args.buf.now first second in
    rw err (room-refused c.args.first.now c.args.second.now c.args.buf.now first second allowed _ (rw size at (sym c.refuses.ensures ∙ c.in_err-refuses.was)))

pub put_log-requires-clause-small : goal.put_log-requires-clause-small
put_log-requires-clause-small c = rw c.in_ok-a.ensures (λ k. omega (arith, c.type_inv.first k))

pub put_log-requires-clause-own : goal.put_log-requires-clause-own
put_log-requires-clause-own c = (was_answered (header_verdict c.in_ok-a.field-0.log.header c.in_ok-b.field-0.log.header) _ _ (sym c.in_ok-h.was ∙ c.join_headers.ensures)).1

pub put_log-requires-clause-allowed : goal.put_log-requires-clause-allowed
put_log-requires-clause-allowed c =
    let told = was_answered (header_verdict c.in_ok-a.field-0.log.header c.in_ok-b.field-0.log.header) _ _ (sym c.in_ok-h.was ∙ c.join_headers.ensures) in
    let allowed = sym (grounds-same c.args.first.now c.args.second.now) ∙ rw (c.in_ok-a.field-0.log.own, c.in_ok-b.field-0.log.own, c.in_ok-a.ensures, c.in_ok-b.ensures) at told.0 in
    rw (c.in_ok-a.ensures, c.in_ok-b.ensures) allowed

pub put_log-requires-clause-room : goal.put_log-requires-clause-room
put_log-requires-clause-room c =
    let first : verdict c.args.first.now ≡ Ok tt = rw c.in_ok-a.ensures at c.in_ok-a.field-0.accepted in
    let second : verdict c.args.second.now ≡ Ok tt = rw c.in_ok-b.ensures at c.in_ok-b.field-0.accepted in
    let size = length-known c.args.first.now c.args.second.now c.args.buf.now first second in
    let fits = ltb-false _ _ (not-met ShortBuffer NoList 0 _ (sym c.refuses.ensures ∙ c.in_ok-refuses.was)) in
    rw (c.in_ok-a.ensures, c.in_ok-b.ensures) (omega (arith, size, fits))

pub returns : goal.returns
returns c =
    let first : verdict c.args.first.now ≡ Ok tt = rw c.in_ok-a.ensures at c.in_ok-a.field-0.accepted in
    let second : verdict c.args.second.now ≡ Ok tt = rw c.in_ok-b.ensures at c.in_ok-b.field-0.accepted in
    let told = was_answered (header_verdict c.in_ok-a.field-0.log.header c.in_ok-b.field-0.log.header) _ _ (sym c.in_ok-h.was ∙ c.join_headers.ensures) in
    let allowed = sym (grounds-same c.args.first.now c.args.second.now) ∙ rw (c.in_ok-a.field-0.log.own, c.in_ok-b.field-0.log.own, c.in_ok-a.ensures, c.in_ok-b.ensures) at told.0 in
    let size = length-known c.args.first.now c.args.second.now c.args.buf.now first second in
    let fits = ltb-false _ _ (not-met ShortBuffer NoList 0 _ (sym c.refuses.ensures ∙ c.in_ok-refuses.was)) in
    joined_put c.args.first.now c.args.second.now c.args.buf.now first second allowed (omega (arith, size, fits)) _ _ (rw (c.in_ok-a.ensures, c.in_ok-b.ensures) at c.put_log.ensures)
