-- `judging::sums::Totals::tool_times` meets its contract: each state's total is summed over the modules.
-- Assumes nothing.
use mathlib.Core.Path.{◌∙◌}
use native.Mathlib.Omega.{arith}
use Rattle.records.specs.Log.{decode}
use Rattle.judging.proofs.ToolSums.{state_sum}
use Rattle.judging.proofs.sums.Totals.tool_times.Goals as goal

pub returns : goal.returns
returns c =
    let t = c.args.self.now in
    let sum = state_sum (decode t.log.now) c.requires t.modules t.modules_value t.totals.now t.uptime.now t.actual.now t.effective.now t.working_totals in
    rw (
      c.sum_state.ensures ∙ sum 0 (omega arith),
      c.sum_state-2.ensures ∙ sum 1 (omega arith),
      c.sum_state-3.ensures ∙ sum 2 (omega arith),
      c.sum_state-4.ensures ∙ sum 3 (omega arith),
      c.sum_state-5.ensures ∙ sum 4 (omega arith),
      c.sum_state-6.ensures ∙ sum 5 (omega arith),
    )
