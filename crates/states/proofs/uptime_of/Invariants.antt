use mathlib.Core.Path.{◌≡◌}
use Prim.Native.Nat.{◌-◌, ◌≤◌}
use Rattle.states.proofs.Uptime.{uptime_up_to}
use Rattle.states.proofs.uptime_of.Given as goal

abbrev pub invariant-loop-k : goal.invariant-loop-k
invariant-loop-k l = (l.k ≤ 6) × (l.sum ≡ uptime_up_to l.totals l.m l.k)

abbrev pub decreases-loop-k : goal.decreases-loop-k
decreases-loop-k l = 6 - l.k
