-- `answering::module_state_times` meets its contract: an accepted log's account has the six times of a module that it has.
-- Assumes nothing.
use mathlib.Core.Path.{◌≡◌, sym, ◌∙◌}
use native.Mathlib.Omega.{arith}
use Rattle.std.specs.declared.result.Result.TheVariants.{Ok, Err}
use Rattle.records.specs.Log.{decode}
use Rattle.rules.specs.Quantities.{all_times, module_times}
use Rattle.rules.specs.Verdict.{verdict}
use Rattle.answering.proofs.Answers.{refused-on, accepted-on, known-module, module_refused, module_answered}
use Rattle.answering.proofs.module_state_times.Goals as goal

pub returns-in-Err : goal.returns-in-Err
returns-in-Err c =
    let s = c.args.log.now in
    module_refused s (module_times (decode s) c.args.m) (λ t. all_times t ≡ (decode s).period) c.args.m _ (refused-on s c.args.m _ (rw c.in-Err.is at c.judge_log.ensures))

pub returns-in_err-test_module-in-Ok : goal.returns-in_err-test_module-in-Ok
returns-in_err-test_module-in-Ok c =
    let s = c.args.log.now in
    let own = rw c.in-Ok.is at c.judge_log.ensures in
    let accepted : verdict s ≡ Ok tt = rw (← own) c.in-Ok.account.accepted in
    let err : c.from_residual.result ≡ Err c.in_err-test_module-in-Ok.field-0.0 = grind arith in
    rw err (module_refused s (module_times (decode s) c.args.m) (λ t. all_times t ≡ (decode s).period) c.args.m _ (accepted-on s c.args.m accepted ∙ sym (rw own at c.test_module.ensures) ∙ c.in_err-test_module-in-Ok.was))

pub returns-in_ok-test_module-in-Ok : goal.returns-in_ok-test_module-in-Ok
returns-in_ok-test_module-in-Ok c =
    let s = c.args.log.now in
    let own = rw c.in-Ok.is at c.judge_log.ensures in
    let accepted : verdict s ≡ Ok tt = rw (← own) c.in-Ok.account.accepted in
    let has = known-module s c.args.m (sym (rw own at c.test_module.ensures) ∙ c.in_ok-test_module-in-Ok.was) in
    let consistent = rw own at c.in-Ok.account.consistent in
    module_answered s (module_times (decode s) c.args.m) (λ t. all_times t ≡ (decode s).period) c.args.m _ accepted has (rw own at c.module_times.ensures) (consistent.whole c.args.m has)
