use mathlib.Core.Path.{◌≡◌}
use Rattle.records.specs.Log.{state_at, up_to}
use Rattle.states.proofs.Pass.{Finishing}
use Rattle.states.proofs.tally_states.Given as goal

abbrev pub invariant-loop-m : goal.invariant-loop-m
invariant-loop-m l = record {
  same_totals : l.tally.totals.ghost_name ≡ l.initial.tally.totals.ghost_name;
  finishing : Finishing (up_to (state_at l.log.bytes.now) l.log.header.states) l.log.header.period l.log.header.modules l.m l.tally.totals.now l.uptime l.tally.latest l.tally.opened;
}
