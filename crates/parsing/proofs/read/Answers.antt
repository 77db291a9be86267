-- `parsing::read` meets its contract: a decimal is UTF-8, and std reads it as its number. Assumes nothing.
use Rattle.std.proofs.Common.{rules, arith, ◌≡◌, ◌∙◌}
use Rattle.std.proofs.lemmas.Grind.{common_steps}
use Rattle.parsing.proofs.Decimal.{utf8, parsed}
use Rattle.parsing.proofs.read.Goals as goal

pub returns-in_err-ok-clause-decimal : goal.returns-in_err-ok-clause-decimal
returns-in_err-ok-clause-decimal c n h e = let u = utf8 c.args.text.now n h e in grind (arith, common_steps, u)

pub returns-clause-decimal : goal.returns-clause-decimal
returns-clause-decimal c n h e =
    let same : c.in_ok-ok.field-0.now ≡ c.args.text.now = search rules in
    let read = parsed _ c.parse.result c.parse.ensures.value.0 n h (same ∙ e) in
    search (rules, read)
