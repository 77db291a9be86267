-- For passes over a list: a record's key as one number, which is above 0, and what is kept of the records so far to test the next one's sequence by one comparison.
-- Definitions only.
use Rattle.std.specs.Prelude.{◌≡◌, true, List, ℕ, ◌+◌, ◌*◌, ◌^◌, ◌<◌, ltb}
use Rattle.records.specs.declared.StateRecord.{StateRecord}
use Rattle.records.specs.declared.Standard.{Standard}
use Rattle.records.specs.declared.UnitRecord.{UnitRecord}
use Rattle.rules.specs.Sequence.{just_before, is_after, is_rising, state_key, standard_key, unit_key}

-- the records rs rise, and a record that fits its fields is after the last of them just where its number is above `before`: the last one's number, and 0 where there is none
pub record Sequenced {A : Type 0} (key : A → List ℕ) (number : A → ℕ) (Fits : A → Type 0) (rs : List A) (before : ℕ) : Type 0 where
  pub rises : is_rising key rs ≡ true
  pub next : (r : A) → Fits r → is_after key (just_before rs) r ≡ ltb before (number r)

-- ---- the three kinds of records

abbrev pub state_number : StateRecord → ℕ
state_number r = (r.time + 1) * 64 + r.«module»

abbrev pub StateFits : StateRecord → Type 0
StateFits r = (r.«module» < 64) × (r.time < 2 ^ 35)

abbrev pub standard_number : Standard → ℕ
standard_number s = (s.«module» * 1024 + s.recipe + 1) * 2 ^ 35 + s.start

abbrev pub StandardFits : Standard → Type 0
StandardFits s = (s.«module» < 64) × (s.recipe < 1024) × (s.start < 2 ^ 35)

abbrev pub unit_number : UnitRecord → ℕ
unit_number u = ((u.time + 1) * 64 + u.«module») * 1024 + u.recipe

abbrev pub UnitFits : UnitRecord → Type 0
UnitFits u = (u.«module» < 64) × (u.recipe < 1024) × (u.time < 2 ^ 35)

abbrev pub StatesSequenced : List StateRecord → ℕ → Type 0
StatesSequenced rs before = Sequenced state_key state_number StateFits rs before

abbrev pub StandardsSequenced : List Standard → ℕ → Type 0
StandardsSequenced ss before = Sequenced standard_key standard_number StandardFits ss before

abbrev pub UnitsSequenced : List UnitRecord → ℕ → Type 0
UnitsSequenced us before = Sequenced unit_key unit_number UnitFits us before
