-- `judging::sums::Totals::tool_quantities` meets its contract: each quantity is summed over the modules.
-- Assumes nothing.
use mathlib.Core.Path.{ap, ◌∙◌}
use Prim.Native.Nat.{ℕ, ◌*◌}
use native.Mathlib.Omega.{arith}
use lib.ListN.{get_or}
use Rattle.records.specs.Log.{decode}
use Rattle.rules.specs.Quantities.{uptime, actual_time, effective_time}
use Rattle.judging.proofs.ToolSums.{summed, total_is, state_sum}
use Rattle.judging.proofs.sums.Totals.tool_quantities.Goals as goal

pub returns : goal.returns
returns c =
    let t = c.args.self.now in
    let l = decode t.log.now in
    let held = t.working_totals in
    let sum = summed l c.requires t.modules t.modules_value in
    rw (
      ap (λ (p : ℕ). p * t.modules) t.period_value ∙ total_is l c.requires t.modules t.modules_value,
      c.sum_modules.ensures ∙ sum (λ m. get_or t.uptime.now m 0) (uptime l) held.uptimes,
      c.sum_state.ensures ∙ state_sum l c.requires t.modules t.modules_value t.totals.now t.uptime.now t.actual.now t.effective.now held 0 (omega arith),
      c.sum_modules-2.ensures ∙ sum (λ m. get_or t.actual.now m 0) (actual_time l) held.actuals,
      c.sum_modules-3.ensures ∙ sum (λ m. get_or t.effective.now m 0) (effective_time l) held.effectives,
    )
