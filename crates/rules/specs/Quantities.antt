-- The six state times and the five quantities of E79, of a module and of the tool, which sums those of its modules.
-- Definitions only.
use Rattle.std.specs.Prelude.{List, [], ◌∷◌, ℕ, zero, suc, ◌+◌}
use Rattle.records.specs.Log.{Log}
use Rattle.e79.specs.declared.Quantities.{Quantities}
use Rattle.rules.specs.declared.StateTimes.{StateTimes}
use Rattle.rules.specs.Names.{productive, standby, engineering, scheduled_down, unscheduled_down, nonscheduled}
use Rattle.rules.specs.Time.{state_time}
use Rattle.rules.specs.Theoretical.{theoretical_time}

-- a quantity summed over the modules, or the standards, 0, 1, .. , n - 1
unfoldable pub sum_below : (ℕ → ℕ) → ℕ → ℕ
sum_below q zero = 0
sum_below q (suc n) = sum_below q n + q n

-- module m's time in state k
unfoldable pub time_in : Log → ℕ → ℕ → ℕ
unfolding state_time
time_in l k m = state_time l.states l.period m k

-- uptime: productive, standby and engineering
unfoldable pub uptime : Log → ℕ → ℕ
unfolding time_in
uptime l m = time_in l productive m + time_in l standby m + time_in l engineering m

-- theoretical time for actual and for effective units
unfoldable pub actual_time : Log → ℕ → ℕ
unfolding theoretical_time
actual_time l m = theoretical_time (λ u. u.actual) l.standards l.units m

unfoldable pub effective_time : Log → ℕ → ℕ
unfolding theoretical_time
effective_time l m = theoretical_time (λ u. u.effective) l.standards l.units m

abbrev pub module_times : Log → ℕ → StateTimes
module_times l m =
    record {
      productive = time_in l productive m;
      standby = time_in l standby m;
      engineering = time_in l engineering m;
      scheduled = time_in l scheduled_down m;
      unscheduled = time_in l unscheduled_down m;
      nonscheduled = time_in l nonscheduled m;
    }

-- the six state times together
abbrev pub all_times : StateTimes → ℕ
all_times t = t.productive + t.standby + t.engineering + t.scheduled + t.unscheduled + t.nonscheduled

abbrev pub tool_times : Log → StateTimes
tool_times l =
    record {
      productive = sum_below (time_in l productive) l.modules;
      standby = sum_below (time_in l standby) l.modules;
      engineering = sum_below (time_in l engineering) l.modules;
      scheduled = sum_below (time_in l scheduled_down) l.modules;
      unscheduled = sum_below (time_in l unscheduled_down) l.modules;
      nonscheduled = sum_below (time_in l nonscheduled) l.modules;
    }

abbrev pub of_module : Log → ℕ → Quantities
of_module l m =
    record {
      total = l.period;
      uptime = uptime l m;
      production = time_in l productive m;
      actual = actual_time l m;
      effective = effective_time l m;
    }

abbrev pub of_tool : Log → Quantities
of_tool l =
    record {
      total = sum_below (λ m. l.period) l.modules;
      uptime = sum_below (uptime l) l.modules;
      production = sum_below (time_in l productive) l.modules;
      actual = sum_below (actual_time l) l.modules;
      effective = sum_below (effective_time l) l.modules;
    }

-- the six state times as a list, by the states of document 01, in the sequence in which they are handed out and printed
abbrev pub times_of : StateTimes → List ℕ
times_of t = t.productive ∷ t.standby ∷ t.engineering ∷ t.scheduled ∷ t.unscheduled ∷ t.nonscheduled ∷ []
