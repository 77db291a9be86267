-- The packed log has the log's sums: they are counted from the codes and the times in force, which are the same.
-- Assumes nothing.
use mathlib.Core.Path.{◌≡◌, refl, sym, ap, ap₂, ◌∙◌}
use mathlib.Core.Bool.{Bool, true, false, cond}
use mathlib.Core.Option.{Option, none, some}
use mathlib.Core.List.{List, [], ◌∷◌}
use Prim.Native.Nat.{ℕ, ◌+◌, ◌*◌}
use lib.Dec.{eqb}
use Rattle.records.specs.declared.Standard.{Standard}
use Rattle.records.specs.declared.UnitRecord.{UnitRecord}
use Rattle.records.specs.Log.{Log}
use Rattle.rules.specs.declared.Placed.{Placed}
use Rattle.rules.specs.Names.{productive, standby, engineering, scheduled_down, unscheduled_down, nonscheduled}
use Rattle.rules.specs.Quantities.{sum_below, time_in, uptime, actual_time, effective_time, module_times, tool_times, of_module, of_tool}
use Rattle.rules.specs.RecordGrounds.{is_none}
use Rattle.rules.specs.Sound.{Sound}
use Rattle.rules.specs.Theoretical.{in_force, time_of, credit, theoretical_time}
use Rattle.rules.specs.Time.{is_state, count, state_time}
use Rattle.packed.specs.Claims.{SameSums}
use Rattle.packed.specs.Packed.{theoretical_of, time_in_force, packed_standards, packed_log}
use Rattle.packed.proofs.PackedLists.{codes_kept, times_kept}

-- ---- standards that give the same times in force

-- a lookup's time, and whether it answers none, by the time in force
abbrev number-in : Option ℕ → ℕ
number-in none = 0
number-in (some n) = n

abbrev is-empty : Option ℕ → Bool
is-empty none = true
is-empty (some n) = false

time-number : (o : Option Placed) → time_of o ≡ number-in (theoretical_of o)
time-number none = refl
time-number (some p) = refl

none-empty : (o : Option Placed) → is_none o ≡ is-empty (theoretical_of o)
none-empty none = refl
none-empty (some p) = refl

module _ (ss ts : List Standard) (same : (m recipe t : ℕ) → time_in_force ss m recipe t ≡ time_in_force ts m recipe t) where
  time-same : (m recipe t : ℕ) → time_of (in_force ss m recipe t) ≡ time_of (in_force ts m recipe t)
  unfolding time_in_force
  time-same m recipe t = time-number (in_force ss m recipe t) ∙ ap number-in (same m recipe t) ∙ sym (time-number (in_force ts m recipe t))

  pub none-same : (m recipe t : ℕ) → is_none (in_force ss m recipe t) ≡ is_none (in_force ts m recipe t)
  unfolding time_in_force
  none-same m recipe t = none-empty (in_force ss m recipe t) ∙ ap is-empty (same m recipe t) ∙ sym (none-empty (in_force ts m recipe t))

  theoretical-same : (units : UnitRecord → ℕ) (us : List UnitRecord) (m : ℕ) → theoretical_time units ss us m ≡ theoretical_time units ts us m
  unfolding theoretical_time credit
  theoretical-same units [] m = refl
  theoretical-same units (u ∷ us) m = ap₂ ◌+◌ (ap (λ (t : ℕ). cond (eqb u.«module» m) (units u * t) 0) (time-same u.«module» u.recipe u.time)) (theoretical-same units us m)

-- ---- the sums of the packed log

-- what is told of a log by these, as its figures, its losses and its report are, is told of both
pub record SameTold (k l : Log) : Type 0 where
  pub period : k.period ≡ l.period
  pub modules : k.modules ≡ l.modules
  pub times : module_times k ≡ module_times l
  pub tool_times : tool_times k ≡ tool_times l
  pub quantities : of_module k ≡ of_module l
  pub tool : of_tool k ≡ of_tool l

module _ (l : Log) (s : Sound l) where
  pub same_times : time_in (packed_log l) ≡ time_in l
  unfolding time_in state_time packed_log
  same_times = λ i k m. count (λ t. is_state k (codes_kept l.states s.states_rise m t i)) l.period

  same-uptime : uptime (packed_log l) ≡ uptime l
  unfolding uptime
  same-uptime = λ i m. same_times i productive m + same_times i standby m + same_times i engineering m

  credited-same : (units : UnitRecord → ℕ) → theoretical_time units (packed_standards l.standards) l.units ≡ theoretical_time units l.standards l.units
  credited-same units = λ i m. theoretical-same (packed_standards l.standards) l.standards (times_kept l.standards s.standards_rise) units l.units m i

  pub same_actual : actual_time (packed_log l) ≡ actual_time l
  unfolding actual_time packed_log
  same_actual = credited-same (λ u. u.actual)

  same-effective : effective_time (packed_log l) ≡ effective_time l
  unfolding effective_time packed_log
  same-effective = credited-same (λ u. u.effective)

  pub told_same : SameTold (packed_log l) l
  unfolding packed_log
  told_same =
      record {
        period = refl;
        modules = refl;
        times = λ i m.
            record {
              productive = same_times i productive m;
              standby = same_times i standby m;
              engineering = same_times i engineering m;
              scheduled = same_times i scheduled_down m;
              unscheduled = same_times i unscheduled_down m;
              nonscheduled = same_times i nonscheduled m;
            };
        tool_times = λ i.
            record {
              productive = sum_below (same_times i productive) l.modules;
              standby = sum_below (same_times i standby) l.modules;
              engineering = sum_below (same_times i engineering) l.modules;
              scheduled = sum_below (same_times i scheduled_down) l.modules;
              unscheduled = sum_below (same_times i unscheduled_down) l.modules;
              nonscheduled = sum_below (same_times i nonscheduled) l.modules;
            };
        quantities = λ i m. record { total = l.period; uptime = same-uptime i m; production = same_times i productive m; actual = same_actual i m; effective = same-effective i m };
        tool = λ i.
            record {
              total = sum_below (λ m. l.period) l.modules;
              uptime = sum_below (same-uptime i) l.modules;
              production = sum_below (same_times i productive) l.modules;
              actual = sum_below (same_actual i) l.modules;
              effective = sum_below (same-effective i) l.modules;
            };
      }

pub same_sums : (k l : Log) → SameTold k l → SameSums k l
same_sums k l t = record { times = λ m i. t.times i m; tool_times = t.tool_times; quantities = λ m i. t.quantities i m; tool = t.tool }
