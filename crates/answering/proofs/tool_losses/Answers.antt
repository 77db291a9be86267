-- `answering::tool_losses` meets its contract: an accepted log's account has the losses of the tool.
-- Assumes nothing.
use Rattle.records.specs.Log.{decode}
use Rattle.losses.specs.Losses.{losses_of, AddsUp}
use Rattle.rules.specs.Quantities.{of_tool}
use Rattle.judging.proofs.Accepted.{tool_ordered}
use Rattle.answering.proofs.Answers.{tool_refused}
use Rattle.answering.proofs.tool_losses.Goals as goal

pub returns-in-Err : goal.returns-in-Err
returns-in-Err c =
    let s = c.args.log.now in
    tool_refused s (losses_of (of_tool (decode s))) (AddsUp (of_tool (decode s))) _ (rw c.in-Err.is at c.judge_log.ensures)

pub losses_of_ordered-requires : goal.losses_of_ordered-requires
losses_of_ordered-requires c = rw c.tool_quantities.ensures (tool_ordered _ c.in-Ok.account.consistent)
