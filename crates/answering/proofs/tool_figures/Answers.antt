-- `answering::tool_figures` meets its contract: an accepted log's account has the doubles of the tool.
-- Assumes nothing.
use Rattle.records.specs.Log.{decode}
use Rattle.e79.specs.Doubles.{figures_of}
use Rattle.e79.specs.Accuracy.{Accurate}
use Rattle.rules.specs.Quantities.{of_tool}
use Rattle.judging.proofs.Accepted.{tool_ordered}
use Rattle.answering.proofs.Answers.{tool_refused}
use Rattle.answering.proofs.tool_figures.Goals as goal

pub returns-in-Err : goal.returns-in-Err
returns-in-Err c =
    let s = c.args.log.now in
    tool_refused s (figures_of (of_tool (decode s))) (Accurate (of_tool (decode s))) _ (rw c.in-Err.is at c.judge_log.ensures)

pub figures_of_ordered-requires : goal.figures_of_ordered-requires
figures_of_ordered-requires c = rw c.tool_quantities.ensures (tool_ordered _ c.in-Ok.account.consistent)
