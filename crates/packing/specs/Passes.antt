-- What the passes over the records keep at hand, and what they leave.
-- Definitions only.
use Rattle.std.specs.Prelude.{◌≡◌, ℕ, zero, suc, ◌<◌, Bool, false, List, length, get_or, None, Some}
use Rattle.std.specs.declared.option.Option.{Option}
use Rattle.std.proofs.Math.Option.{Option as Found, none, some}
use Rattle.records.specs.declared.Header.{Header}
use Rattle.records.specs.declared.StateRecord.{StateRecord}
use Rattle.records.specs.declared.Standard.{Standard}
use Rattle.records.specs.Encode.{state_bytes, standard_bytes, unit_bytes, joined}
use Rattle.records.specs.Log.{state_at, standard_at, unit_at, up_to}
use Rattle.packed.specs.Packed.{packed_states, packed_standards}
use Rattle.packed.specs.OnePass.{last_code, same_time}

-- one more than a code, and 0 for none
abbrev pub word_of : Found ℕ → ℕ
word_of none = 0
word_of (some c) = suc c

-- the words have each module's last code
pub record Current (rs : List StateRecord) (words : List ℕ) : Type 0 where
  pub size : length words ≡ 64
  pub each : (m : ℕ) → m < 64 → get_or words m 0 ≡ word_of (last_code rs m)

-- the last of i standards, or none
abbrev pub IsLast : (ℕ → Standard) → ℕ → Option Standard → Type 0
IsLast at zero last = last ≡ None
IsLast at (suc i) last = last ≡ Some (at i)

-- a standard has the module, the recipe and the time of the last one
abbrev pub repeats_last : Option Standard → Standard → Bool
repeats_last None s = false
repeats_last (Some b) s = same_time b s

-- the bytes of the records of each list that are left, of the first n
unfoldable pub states_left : List ℕ → ℕ → List ℕ
unfolding joined packed_states up_to
states_left s n = joined state_bytes (packed_states (up_to (state_at s) n))

unfoldable pub standards_left : List ℕ → Header → ℕ → List ℕ
unfolding joined packed_standards up_to
standards_left s h n = joined standard_bytes (packed_standards (up_to (standard_at s h) n))

unfoldable pub all_units : List ℕ → Header → List ℕ
unfolding joined up_to
all_units s h = joined unit_bytes (up_to (unit_at s h) h.units)
