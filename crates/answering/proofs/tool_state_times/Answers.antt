-- `answering::tool_state_times` meets its contract: an accepted log's account has the six times of the tool.
-- Assumes nothing.
use mathlib.Core.Path.{◌≡◌}
use Rattle.std.specs.declared.result.Result.TheVariants.{Ok}
use Rattle.records.specs.Log.{decode}
use Rattle.rules.specs.Quantities.{all_times, tool_times, of_tool}
use Rattle.rules.specs.Verdict.{verdict}
use Rattle.answering.proofs.Answers.{tool-whole, tool_refused, tool_answered}
use Rattle.answering.proofs.tool_state_times.Goals as goal

pub returns-in-Err : goal.returns-in-Err
returns-in-Err c =
    let s = c.args.log.now in
    tool_refused s (tool_times (decode s)) (λ t. all_times t ≡ (of_tool (decode s)).total) _ (rw c.in-Err.is at c.judge_log.ensures)

pub returns-in-Ok : goal.returns-in-Ok
returns-in-Ok c =
    let s = c.args.log.now in
    let own = rw c.in-Ok.is at c.judge_log.ensures in
    let accepted : verdict s ≡ Ok tt = rw (← own) c.in-Ok.account.accepted in
    let consistent = rw own at c.in-Ok.account.consistent in
    tool_answered s (tool_times (decode s)) (λ t. all_times t ≡ (of_tool (decode s)).total) _ accepted (rw own at c.tool_times.ensures) (tool-whole (decode s) consistent)
