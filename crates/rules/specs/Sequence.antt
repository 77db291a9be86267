-- The rising sequence of a list: records ascend by one number, then by another where that is equal, and so on; these numbers are a record's key.
-- Definitions only.
use Rattle.std.specs.Prelude.{◌≡◌, ℕ, Bool, true, false, ◌&&◌, ◌||◌, ltb, eqb}
use mathlib.Core.List.{List, [], ◌∷◌, foldl}
use Rattle.std.proofs.Math.Option.{Option, none, some}
use Rattle.records.specs.declared.StateRecord.{StateRecord}
use Rattle.records.specs.declared.Standard.{Standard}
use Rattle.records.specs.declared.UnitRecord.{UnitRecord}
use Rattle.records.specs.Log.{Log}

-- one key is below another: its number is the lesser one where the two first differ
unfoldable pub is_below : List ℕ → List ℕ → Bool
is_below [] k = false
is_below (a ∷ j) [] = false
is_below (a ∷ j) (b ∷ k) = ltb a b || (eqb a b && is_below j k)

-- of the records ahead of one, that just before it: the last of them
unfoldable pub just_before : {A : Type 0} → List A → Option A
just_before rs = foldl (λ l r. some r) none rs

-- r's key is above that of the record just before, where there is one
abbrev pub is_after : {A : Type 0} → (A → List ℕ) → Option A → A → Bool
is_after key none r = true
is_after key (some b) r = is_below (key b) (key r)

-- each record of a list is above the one just before, and the first above `before`
unfoldable pub is_rising_after : {A : Type 0} → (A → List ℕ) → Option A → List A → Bool
unfolding is_below
is_rising_after key before [] = true
is_rising_after key before (r ∷ rs) = is_after key before r && is_rising_after key (some r) rs

-- a list in its rising sequence
abbrev pub is_rising : {A : Type 0} → (A → List ℕ) → List A → Bool
is_rising key rs = is_rising_after key none rs

-- state records ascend by time, then module
abbrev pub state_key : StateRecord → List ℕ
state_key r = r.time ∷ r.«module» ∷ []

-- standards by module, then recipe, then start
abbrev pub standard_key : Standard → List ℕ
standard_key s = s.«module» ∷ s.recipe ∷ s.start ∷ []

-- unit records by time, then module, then recipe
abbrev pub unit_key : UnitRecord → List ℕ
unit_key u = u.time ∷ u.«module» ∷ u.recipe ∷ []

-- a log with each of its lists in its rising sequence
pub record Risen (l : Log) : Type 0 where
  pub states : is_rising state_key l.states ≡ true
  pub standards : is_rising standard_key l.standards ≡ true
  pub units : is_rising unit_key l.units ≡ true
