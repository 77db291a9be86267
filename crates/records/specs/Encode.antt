-- The bytes of a log, from its records: the header, then the lists, each record by its fields in their widths and sequence.
-- Definitions only.
use Rattle.std.specs.Prelude.{ℕ, List, [], ◌∷◌, ◌++◌, length}
use Rattle.bits.specs.Put.{Slot, packed, Fit}
use Rattle.records.specs.Log.{Log}
use Rattle.records.specs.declared.Header.{Header}
use Rattle.records.specs.declared.StateRecord.{StateRecord}
use Rattle.records.specs.declared.Standard.{Standard}
use Rattle.records.specs.declared.UnitRecord.{UnitRecord}

-- a field of w bits that holds v
abbrev pub ◌wide◌ : ℕ → ℕ → Slot
w wide v = record { width = w; value = v }

infixr 70 ◌wide◌
abbrev pub header_slots : Header → List Slot
header_slots h = (35 wide h.period) ∷ (7 wide h.modules) ∷ (14 wide h.states) ∷ (11 wide h.standards) ∷ (13 wide h.units) ∷ []

abbrev pub state_slots : StateRecord → List Slot
state_slots r = (6 wide r.«module») ∷ (5 wide r.code) ∷ (35 wide r.time) ∷ (2 wide r.spare) ∷ []

abbrev pub standard_slots : Standard → List Slot
standard_slots r = (6 wide r.«module») ∷ (10 wide r.recipe) ∷ (35 wide r.start) ∷ (27 wide r.theoretical) ∷ (2 wide r.spare) ∷ []

abbrev pub unit_slots : UnitRecord → List Slot
unit_slots r = (6 wide r.«module») ∷ (10 wide r.recipe) ∷ (35 wide r.time) ∷ (16 wide r.actual) ∷ (16 wide r.effective) ∷ (5 wide r.spare) ∷ []

abbrev pub header_bytes : Header → List ℕ
header_bytes h = packed 10 (header_slots h)

abbrev pub state_bytes : StateRecord → List ℕ
state_bytes r = packed 6 (state_slots r)

abbrev pub standard_bytes : Standard → List ℕ
standard_bytes r = packed 10 (standard_slots r)

abbrev pub unit_bytes : UnitRecord → List ℕ
unit_bytes r = packed 11 (unit_slots r)

-- the bytes of each record, one after the other
unfoldable pub joined : {A : Type 0} → (A → List ℕ) → List A → List ℕ
joined bytes [] = []
joined bytes (r ∷ rs) = bytes r ++ joined bytes rs

-- the header that counts a log's records
abbrev pub header_for : Log → Header
header_for l =
    record {
      period = l.period;
      modules = l.modules;
      states = length l.states;
      standards = length l.standards;
      units = length l.units;
    }

-- the bytes of a log
unfoldable pub encode : Log → List ℕ
unfolding joined packed
encode l = header_bytes (header_for l) ++ (joined state_bytes l.states ++ (joined standard_bytes l.standards ++ joined unit_bytes l.units))

-- each number of each record fits its field
abbrev pub AllFit : {A : Type 0} → (A → List Slot) → List A → Type 0
AllFit slots [] = Unit {0}
AllFit slots (r ∷ rs) = Fit (slots r) × AllFit slots rs

pub record LogFits (l : Log) : Type 0 where
  pub header : Fit (header_slots (header_for l))
  pub states : AllFit state_slots l.states
  pub standards : AllFit standard_slots l.standards
  pub units : AllFit unit_slots l.units
