-- Writing a log into a lent buffer: what a call adds, when it is refused, what it answers and leaves; and the finishing call.
-- Definitions only.
use Rattle.std.specs.Prelude.{◌≡◌, Bool, true, false, ◌||◌, List, [], ◌∷◌, ℕ, ◌+◌, ◌^◌, ◌≤◌, ◌<◌, leb, ltb, length, take}
use Rattle.bits.specs.Put.{Slot, packed, Fit}
use Rattle.records.specs.Encode.{header_slots, state_slots, standard_slots, unit_slots}
use Rattle.filling.specs.Buffer.{written}
use Rattle.rules.specs.declared.Refusal.{Refusal}
use Rattle.rules.specs.declared.Ground.TheVariants.{ShortBuffer, TooWide}
use Rattle.rules.specs.declared.LogList.{LogList}
use Rattle.rules.specs.declared.LogList.TheVariants.{NoList, States, Standards, Units}
use Rattle.std.specs.declared.result.Result.{Result}
use Rattle.std.specs.declared.result.Result.TheVariants.{Ok, Err}
use Rattle.rules.specs.Grounds.{Verdict, ground, ◌then◌, refusal}
use Rattle.rules.specs.Verdict.{verdict}
use Rattle.rules.specs.Refusals.{OfLog}
use Rattle.rules.specs.Answers.{answer_of, Given}

-- ---- what a call adds

-- a record to add: its list, none for the header, its size in bytes, and its fields
pub record Entry : Type 0 where
  pub list : LogList
  pub size : ℕ
  pub slots : List Slot

abbrev pub entry_bytes : Entry → List ℕ
entry_bytes e = packed e.size e.slots

-- the four kinds, from the values that a call is given; spare bits are no value and are written as 0
abbrev pub header_entry : ℕ → ℕ → ℕ → ℕ → ℕ → Entry
header_entry period modules states standards units =
    record {
      list = NoList;
      size = 10;
      slots = header_slots (record { period = period; modules = modules; states = states; standards = standards; units = units });
    }

abbrev pub state_entry : ℕ → ℕ → ℕ → Entry
state_entry m code time = record { list = States; size = 6; slots = state_slots (record { «module» = m; code = code; time = time; spare = 0 }) }

abbrev pub standard_entry : ℕ → ℕ → ℕ → ℕ → Entry
standard_entry m recipe start theoretical =
    record { list = Standards; size = 10; slots = standard_slots (record { «module» = m; recipe = recipe; start = start; theoretical = theoretical; spare = 0 }) }

abbrev pub unit_entry : ℕ → ℕ → ℕ → ℕ → ℕ → Entry
unit_entry m recipe time actual effective =
    record {
      list = Units;
      size = 11;
      slots = unit_slots (record { «module» = m; recipe = recipe; time = time; actual = actual; effective = effective; spare = 0 });
    }

-- ---- an adding call

-- a value does not fit its field
abbrev pub any_too_wide : List Slot → Bool
any_too_wide [] = false
any_too_wide (f ∷ fs) = leb (2 ^ f.width) f.value || any_too_wide fs

-- 22 first, with the record's list; then 18, where a buffer of `room` bytes has no place for the record at the position
unfoldable pub add_verdict : Entry → ℕ → ℕ → Verdict
add_verdict e room at = ground TooWide e.list 0 (any_too_wide e.slots) then ground ShortBuffer NoList 0 (ltb room (at + e.size))

-- one thing where a verdict accepts, and another where it refuses
abbrev pub if_accepted : {A : Type 0} → Verdict → A → A → A
if_accepted (Ok tt) a b = a
if_accepted (Err x) a b = b

-- what a call that adds e at a position answers: the position behind the record, or the refusal
unfoldable pub add_answer : Entry → List ℕ → ℕ → Result ℕ Refusal
unfolding add_verdict
add_answer e before at = answer_of (add_verdict e (length before) at) (at + e.size)

-- and what it leaves: the buffer with the record's bytes at the position, or as it was
unfoldable pub add_buffer : Entry → List ℕ → ℕ → List ℕ
unfolding add_verdict written packed
add_buffer e before at = if_accepted (add_verdict e (length before) at) (written before at (entry_bytes e)) before

-- why an adding call refuses: 22, or 18 where every value fits
pub data OfAdding (e : Entry) (room at : ℕ) (x : Refusal) : Type 0 where
  too_wide : any_too_wide e.slots ≡ true → x ≡ refusal TooWide e.list 0 → OfAdding e room at x
  no_room : Fit e.slots → room < at + e.size → x ≡ refusal ShortBuffer NoList 0 → OfAdding e room at x

-- the contract of each adding call: the position that it hands back is in the buffer or at its end
pub record Added (e : Entry) (before : List ℕ) (at : ℕ) (r : Result ℕ Refusal) (after : List ℕ) : Type 0 where
  pub given : Given (add_verdict e (length before) at) (at + e.size) (λ next. next ≤ length before) (OfAdding e (length before) at) r
  pub bytes : after ≡ add_buffer e before at

-- ---- the finishing call

-- 18 for a position past the buffer, then the reader's verdict on the bytes before the position
unfoldable pub finish_verdict : List ℕ → ℕ → Verdict
unfolding verdict
finish_verdict buf at = ground ShortBuffer NoList 0 (ltb (length buf) at) then verdict (take at buf)

-- why it refuses: 18, or as the reader does
pub data OfFinishing (buf : List ℕ) (at : ℕ) (x : Refusal) : Type 0 where
  past : length buf < at → x ≡ refusal ShortBuffer NoList 0 → OfFinishing buf at x
  of_log : OfLog (take at buf) x → OfFinishing buf at x

pub record Finished (buf : List ℕ) (at : ℕ) (r : Verdict) : Type 0 where
  pub answer : r ≡ finish_verdict buf at
  pub refusal : (x : Refusal) → r ≡ Err x → OfFinishing buf at x
