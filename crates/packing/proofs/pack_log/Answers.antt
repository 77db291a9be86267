-- `packing::pack_log` meets its contract: a refused log is left as it was, an accepted one is packed. Assumes nothing.
use mathlib.Core.Path.{◌≡◌, sym, ◌∙◌}
use native.Mathlib.Omega.{arith}
use Rattle.std.specs.declared.result.Result.TheVariants.{Err}
use Rattle.rules.specs.Verdict.{verdict}
use Rattle.rules.proofs.Given.{was_answered, was_refused}
use Rattle.packed.proofs.PackedBuffer.{packs_refused, packs_accepted}
use Rattle.packing.proofs.pack_log.Goals as goal

pub returns-in_err-h : goal.returns-in_err-h
returns-in_err-h c =
    let err : c.from_residual.result ≡ Err c.in_err-h.field-0.0 = grind arith in
    rw err (packs_refused c.args.buf.now _ (was_refused (verdict c.args.buf.now) _ _ (sym c.in_err-h.was ∙ c.accepted_header.ensures)))

pub pack_accepted-requires-clause-accepted : goal.pack_accepted-requires-clause-accepted
pack_accepted-requires-clause-accepted c = (was_answered (verdict c.args.buf.now) _ _ (sym c.in_ok-h.was ∙ c.accepted_header.ensures)).0

pub pack_accepted-requires-clause-own : goal.pack_accepted-requires-clause-own
pack_accepted-requires-clause-own c = (was_answered (verdict c.args.buf.now) _ _ (sym c.in_ok-h.was ∙ c.accepted_header.ensures)).1

pub returns : goal.returns
returns c =
    packs_accepted c.args.buf.now (was_answered (verdict c.args.buf.now) _ _ (sym c.in_ok-h.was ∙ c.accepted_header.ensures)).0 _ _ c.pack_accepted.ensures.size c.pack_accepted.ensures.bytes
