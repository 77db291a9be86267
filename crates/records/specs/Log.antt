-- What the bytes of a log say: a header of 10 bytes, then the state records of 6 bytes each, the standards of 10 and the unit records of 11.
-- Definitions only.
use Rattle.std.specs.Prelude.{ℕ, zero, suc, ◌+◌, ◌*◌, List, [], ◌∷◌, ◌++◌}
use Rattle.records.specs.Fields.{header_from, state_from, standard_from, unit_from}
use Rattle.records.specs.declared.Header.{Header}
use Rattle.records.specs.declared.StateRecord.{StateRecord}
use Rattle.records.specs.declared.Standard.{Standard}
use Rattle.records.specs.declared.UnitRecord.{UnitRecord}

-- a log: the period in ms, the number of modules, and three lists of records
pub record Log : Type 0 where
  pub period : ℕ
  pub modules : ℕ
  pub states : List StateRecord
  pub standards : List Standard
  pub units : List UnitRecord

abbrev pub header_of : List ℕ → Header
header_of s = header_from s 0

-- state record i
abbrev pub state_at : List ℕ → ℕ → StateRecord
state_at s i = state_from s (80 + 48 * i)

-- standard i, behind as many state records as a header counts
abbrev pub standard_at : List ℕ → Header → ℕ → Standard
standard_at s h i = standard_from s (80 + 48 * h.states + 80 * i)

-- unit record i, behind as many state records and standards as a header counts
abbrev pub unit_at : List ℕ → Header → ℕ → UnitRecord
unit_at s h i = unit_from s (80 + 48 * h.states + 80 * h.standards + 88 * i)

-- at 0, at 1, .. , at (n - 1)
unfoldable pub up_to : {A : Type 0} → (ℕ → A) → ℕ → List A
up_to at zero = []
up_to at (suc n) = up_to at n ++ (at n ∷ [])

-- what the bytes of a log say
unfoldable pub decode : List ℕ → Log
unfolding up_to
decode s =
    let h = header_of s in
    record {
      period = h.period;
      modules = h.modules;
      states = up_to (state_at s) h.states;
      standards = up_to (standard_at s h) h.standards;
      units = up_to (unit_at s h) h.units;
    }
