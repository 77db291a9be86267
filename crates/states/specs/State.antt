-- The states of the code by their numbers.
-- Definitions only.
use Rattle.std.specs.Prelude.{ℕ}
use Rattle.rules.specs.Names.{productive, standby, engineering, scheduled_down, unscheduled_down, nonscheduled}
use Rattle.states.specs.declared.State.{State}
use Rattle.states.specs.declared.State.TheVariants.{Productive, Standby, Engineering, ScheduledDown, UnscheduledDown, Nonscheduled}

abbrev pub number : State → ℕ
number Productive = productive
number Standby = standby
number Engineering = engineering
number ScheduledDown = scheduled_down
number UnscheduledDown = unscheduled_down
number Nonscheduled = nonscheduled
