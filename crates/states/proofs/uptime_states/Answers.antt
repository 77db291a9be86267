-- `states::uptime_states` meets its contract. The invariant: the marks that the codes passed tell.
-- Assumes nothing.
use mathlib.Core.Path.{refl, sym, ap, ◌∙◌}
use native.Mathlib.Omega.{arith}
use Rattle.states.specs.Held.{uptime_marks}
use Rattle.states.proofs.Table.{table-state}
use Rattle.states.proofs.Uptime.{marks-none, marks-more}
use Rattle.states.proofs.uptime_states.Goals as goal

pub loop-state-init : goal.loop-state-init
loop-state-init c = sym marks-none

pub loop-state-preserved : goal.loop-state-preserved
loop-state-preserved c =
    let k = c.loop-state.state-index in
    rw (c.is_uptime.ensures, c.number.ensures.0, table-state k c.loop-state-test.true, c.loop-state.invariant, marks-more k) refl
