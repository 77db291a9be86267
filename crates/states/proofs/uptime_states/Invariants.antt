use mathlib.Core.Path.{◌≡◌}
use Rattle.states.specs.Held.{uptime_marks}
use Rattle.states.proofs.uptime_states.Given as goal

abbrev pub invariant-loop-state : goal.invariant-loop-state
invariant-loop-state l = l.counts ≡ uptime_marks l.state-index
