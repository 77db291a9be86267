-- Which state records and standards say nothing new, and the log without them.
-- Definitions only.
use Rattle.std.specs.Prelude.{ℕ, zero, suc, Bool, false, cond, List, [], ◌∷◌, eqb}
use Rattle.std.proofs.Math.Option.{Option, none, some}
use Rattle.records.specs.declared.StateRecord.{StateRecord}
use Rattle.records.specs.declared.Standard.{Standard}
use Rattle.records.specs.Log.{Log, decode}
use Rattle.records.specs.Encode.{encode}
use Rattle.rules.specs.declared.Placed.{Placed}
use Rattle.rules.specs.Time.{code_at}
use Rattle.rules.specs.Theoretical.{in_force}

-- ---- what holds just before a time

-- what holds in the millisecond before a time, and nothing at the start of the period
abbrev pub held_before : (ℕ → Option ℕ) → ℕ → Option ℕ
held_before at zero = none
held_before at (suc t) = at t

-- a value is the one that is held
abbrev pub is_held : Option ℕ → ℕ → Bool
is_held none v = false
is_held (some w) v = eqb w v

abbrev pub theoretical_of : Option Placed → Option ℕ
theoretical_of none = none
theoretical_of (some p) = some p.standard.theoretical

-- the theoretical time in force for module m and a recipe at a time, or none
unfoldable pub time_in_force : List Standard → ℕ → ℕ → ℕ → Option ℕ
unfolding in_force
time_in_force ss m recipe time = theoretical_of (in_force ss m recipe time)

-- ---- which records say nothing new

-- the code of a state record is its module's current one
unfoldable pub repeats_code : List StateRecord → StateRecord → Bool
unfolding code_at
repeats_code rs r = is_held (held_before (code_at rs r.«module») r.time) r.code

-- the time of a standard equals the one in force just before for its module and recipe
unfoldable pub repeats_time : List Standard → Standard → Bool
unfolding time_in_force
repeats_time ss s = is_held (held_before (time_in_force ss s.«module» s.recipe) s.start) s.theoretical

-- ---- the log without them

-- the records of a list less those that meet a test
unfoldable pub without : {A : Type 0} → (A → Bool) → List A → List A
without test [] = []
without test (r ∷ rs) = let rest = without test rs in cond (test r) rest (r ∷ rest)

unfoldable pub packed_states : List StateRecord → List StateRecord
unfolding without repeats_code
packed_states rs = without (repeats_code rs) rs

unfoldable pub packed_standards : List Standard → List Standard
unfolding without repeats_time
packed_standards ss = without (repeats_time ss) ss

unfoldable pub packed_log : Log → Log
unfolding packed_states packed_standards
packed_log l =
    record {
      period = l.period;
      modules = l.modules;
      states = packed_states l.states;
      standards = packed_standards l.standards;
      units = l.units;
    }

-- the bytes of the packed log
unfoldable pub packed_bytes : List ℕ → List ℕ
unfolding packed_log encode decode
packed_bytes s = encode (packed_log (decode s))
