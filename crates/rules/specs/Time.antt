-- The state of a module at a millisecond, and how many of the period's milliseconds it is in a state.
-- Definitions only.
use Rattle.std.specs.Prelude.{◌≡◌, ℕ, zero, suc, ◌+◌, ◌≤◌, ◌<◌, Bool, false, ◌&&◌, cond, get_or, leb, eqb}
use mathlib.Core.List.{List, [], ◌∷◌, foldl}
use Rattle.std.proofs.Math.Option.{Option, none, some}
use Rattle.records.specs.declared.StateRecord.{StateRecord}
use Rattle.rules.specs.Names.{productive, standby, engineering, scheduled_down, unscheduled_down, nonscheduled}

-- the state of each sub-state code, 0 to 23
abbrev pub states : List ℕ
states =
    productive ∷ productive ∷ productive ∷ productive ∷ productive ∷ productive
    ∷ standby ∷ standby ∷ standby ∷ standby ∷ standby ∷ standby
    ∷ engineering ∷ engineering
    ∷ scheduled_down ∷ scheduled_down ∷ scheduled_down ∷ scheduled_down
    ∷ unscheduled_down ∷ unscheduled_down ∷ unscheduled_down ∷ unscheduled_down
    ∷ nonscheduled ∷ nonscheduled
    ∷ []

-- the state that a code belongs to, and 6 where there is no such code
unfoldable pub state_of : ℕ → ℕ
state_of code = get_or states code 6

-- after one more record: its code, where it is module m's and at or before t
abbrev pub keep : ℕ → ℕ → Option ℕ → StateRecord → Option ℕ
keep m t found r = cond (eqb r.«module» m && leb r.time t) (some r.code) found

-- the code of module m's latest record at or before t, in records that come by time
unfoldable pub code_at : List StateRecord → ℕ → ℕ → Option ℕ
code_at rs m t = foldl (keep m t) none rs

-- the same in document 01's own words, of the first n records: record `index` is module m's, at or before t, and no other such record is later; it has
-- this code
pub record Latest (at : ℕ → StateRecord) (n m t code : ℕ) : Type 0 where
  pub index : ℕ
  pub listed : index < n
  pub own : (at index).«module» ≡ m
  pub begun : (at index).time ≤ t
  pub same : (at index).code ≡ code
  pub latest : (i : ℕ) → i < n → (at i).«module» ≡ m → (at i).time ≤ t → (at i).time ≤ (at index).time

-- the code of a latest record, or none, where there is no such record
abbrev pub CodeIs : (ℕ → StateRecord) → ℕ → ℕ → ℕ → Option ℕ → Type 0
CodeIs at n m t none = (i : ℕ) → i < n → (at i).«module» ≡ m → (at i).time ≤ t → ⊥
CodeIs at n m t (some code) = Latest at n m t code

unfoldable pub is_state : ℕ → Option ℕ → Bool
unfolding state_of
is_state k none = false
is_state k (some code) = eqb (state_of code) k

-- how many of the numbers below n pass a test
unfoldable pub count : (ℕ → Bool) → ℕ → ℕ
count p zero = 0
count p (suc n) = cond (p n) 1 0 + count p n

-- a state time: the number of milliseconds 0, 1, .. , period - 1 at which module m is in state k
unfoldable pub state_time : List StateRecord → ℕ → ℕ → ℕ → ℕ
unfolding count code_at is_state
state_time rs period m k = count (λ t. is_state k (code_at rs m t)) period
