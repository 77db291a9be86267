-- `answering::judge_module` meets its contract: the log's own refusal comes first, then the module's.
-- Assumes nothing.
use mathlib.Core.Path.{◌≡◌, sym, ◌∙◌}
use native.Mathlib.Omega.{arith}
use Rattle.std.specs.declared.result.Result.TheVariants.{Ok, Err}
use Rattle.rules.specs.Verdict.{verdict}
use Rattle.answering.proofs.Answers.{refused-on, accepted-on, known-module}
use Rattle.answering.proofs.judge_module.Goals as goal

pub returns-in_err-account : goal.returns-in_err-account
returns-in_err-account c =
    let err : c.from_residual.result ≡ Err c.in_err-account.field-0.0 = grind arith in
    rw err (refused-on c.args.log.now c.args.m _ c.in_err-account.ensures)

pub returns-in_err-test_module : goal.returns-in_err-test_module
returns-in_err-test_module c =
    let s = c.args.log.now in
    let err : c.from_residual-in_err-test_module.result ≡ Err c.in_err-test_module.field-0.0 = grind arith in
    let accepted : verdict s ≡ Ok tt = rw (← c.in_ok-account.ensures) c.in_ok-account.account.accepted in
    let stray = rw c.in_ok-account.ensures at c.test_module.ensures in
    rw err (accepted-on s c.args.m accepted ∙ sym stray ∙ c.in_err-test_module.was)

pub returns : goal.returns
returns c =
    let stray = rw c.in_ok-account.ensures at c.test_module.ensures in
    (c.in_ok-account.ensures, known-module c.args.log.now c.args.m (sym stray ∙ c.in_ok-test_module.was))
