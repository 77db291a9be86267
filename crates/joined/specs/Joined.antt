-- One log from two consecutive ones, and what is claimed of its sums.
-- Definitions only.
use Rattle.std.specs.Prelude.{◌≡◌, ◌⊎◌, ◌+◌, ◌<◌, ℕ, Bool, ◌++◌, length}
use mathlib.Core.List.{map}
use Rattle.std.proofs.Math.Option.{Option}
use Rattle.records.specs.declared.StateRecord.{StateRecord}
use Rattle.records.specs.declared.Standard.{Standard}
use Rattle.records.specs.declared.UnitRecord.{UnitRecord}
use Rattle.records.specs.Log.{Log}
use Rattle.e79.specs.declared.Quantities.{Quantities}
use Rattle.rules.specs.declared.StateTimes.{StateTimes}
use Rattle.rules.specs.Sequence.{standard_key}
use Rattle.rules.specs.Time.{code_at, count}
use Rattle.rules.specs.Quantities.{time_in, of_module}
use Rattle.rules.specs.Credited.{nth, credited_to}
use Rattle.joined.specs.Merged.{merged}

-- ---- a record of the second log, whose times move up by the first's period

abbrev pub state_up : ℕ → StateRecord → StateRecord
state_up p r = record { «module» = r.«module»; code = r.code; time = p + r.time; spare = r.spare }

abbrev pub standard_up : ℕ → Standard → Standard
standard_up p s = record { «module» = s.«module»; recipe = s.recipe; start = p + s.start; theoretical = s.theoretical; spare = s.spare }

abbrev pub unit_up : ℕ → UnitRecord → UnitRecord
unit_up p u = record { «module» = u.«module»; recipe = u.recipe; time = p + u.time; actual = u.actual; effective = u.effective; spare = u.spare }

-- ---- the joined log

-- the second's state records and unit records follow the first's; the standards of both are merged into their rising sequence
unfoldable pub joined_log : Log → Log → Log
unfolding merged
joined_log a b =
    let p = a.period in
    record {
      period = p + b.period;
      modules = a.modules;
      states = a.states ++ map (state_up p) b.states;
      standards = merged standard_key a.standards (map (standard_up p) b.standards);
      units = a.units ++ map (unit_up p) b.units;
    }

-- ---- what is claimed of its sums

-- module m's time with a code that passes a test: each of the six states is such a test, and each of the 24 codes
unfoldable pub time_with : (Option ℕ → Bool) → Log → ℕ → ℕ
unfolding code_at count
time_with test l m = count (λ t. test (code_at l.states m t)) l.period

abbrev pub added : Quantities → Quantities → Quantities
added q r =
    record {
      total = q.total + r.total;
      uptime = q.uptime + r.uptime;
      production = q.production + r.production;
      actual = q.actual + r.actual;
      effective = q.effective + r.effective;
    }

abbrev pub times_added : StateTimes → StateTimes → StateTimes
times_added t u =
    record {
      productive = t.productive + u.productive;
      standby = t.standby + u.standby;
      engineering = t.engineering + u.engineering;
      scheduled = t.scheduled + u.scheduled;
      unscheduled = t.unscheduled + u.unscheduled;
      nonscheduled = t.nonscheduled + u.nonscheduled;
    }

-- module m's times and quantities are those of the two logs, added
pub record SumsAdded (a b : Log) (m : ℕ) : Type 0 where
  pub times : (test : Option ℕ → Bool) → time_with test (joined_log a b) m ≡ time_with test a m + time_with test b m
  pub states : (k : ℕ) → time_in (joined_log a b) k m ≡ time_in a k m + time_in b k m
  pub quantities : of_module (joined_log a b) m ≡ added (of_module a m) (of_module b m)

-- standard i of the joined log is standard j of the first, or standard j of the second, moved up
pub record IsOfFirst (a b : Log) (i j : ℕ) : Type 0 where
  pub inside : i < length (joined_log a b).standards
  pub listed : j < length a.standards
  pub same : nth (joined_log a b).standards i ≡ nth a.standards j

pub record IsOfSecond (a b : Log) (i j : ℕ) : Type 0 where
  pub inside : i < length (joined_log a b).standards
  pub listed : j < length b.standards
  pub same : nth (joined_log a b).standards i ≡ standard_up a.period (nth b.standards j)

-- each standard of the two logs is one of the joined log's, which has no others, and keeps its credited units
pub record CreditsKept (a b : Log) : Type 0 where
  pub counted : length (joined_log a b).standards ≡ length a.standards + length b.standards
  pub first : (j : ℕ) → j < length a.standards → (i : ℕ) × IsOfFirst a b i j
  pub second : (j : ℕ) → j < length b.standards → (i : ℕ) × IsOfSecond a b i j
  pub no_other : (i : ℕ) → i < length (joined_log a b).standards → ((j : ℕ) × IsOfFirst a b i j) ⊎ ((j : ℕ) × IsOfSecond a b i j)
  pub first_kept : (i j : ℕ) → IsOfFirst a b i j → credited_to (joined_log a b) i ≡ credited_to a j
  pub second_kept : (i j : ℕ) → IsOfSecond a b i j → credited_to (joined_log a b) i ≡ credited_to b j
