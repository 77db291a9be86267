-- `answering::tool_quantities` meets its contract: an accepted log's account has the five quantities of the tool.
-- Assumes nothing.
use mathlib.Core.Path.{◌≡◌}
use Rattle.std.specs.declared.result.Result.TheVariants.{Ok}
use Rattle.records.specs.Log.{decode}
use Rattle.e79.specs.Quantities.{Ordered}
use Rattle.rules.specs.Quantities.{of_tool}
use Rattle.rules.specs.Verdict.{verdict}
use Rattle.judging.proofs.Accepted.{tool_ordered}
use Rattle.answering.proofs.Answers.{tool_refused, tool_answered}
use Rattle.answering.proofs.tool_quantities.Goals as goal

pub returns-in-Err : goal.returns-in-Err
returns-in-Err c =
    let s = c.args.log.now in
    tool_refused s (of_tool (decode s)) Ordered _ (rw c.in-Err.is at c.judge_log.ensures)

pub returns-in-Ok : goal.returns-in-Ok
returns-in-Ok c =
    let s = c.args.log.now in
    let own = rw c.in-Ok.is at c.judge_log.ensures in
    let accepted : verdict s ≡ Ok tt = rw (← own) c.in-Ok.account.accepted in
    let consistent = rw own at c.in-Ok.account.consistent in
    tool_answered s (of_tool (decode s)) Ordered _ accepted (rw own at c.tool_quantities.ensures) (tool_ordered (decode s) consistent)
