-- What the lists of a log ask of its bytes, by a header that counts them, so that each record of a list is there.
-- Definitions only.
use Rattle.std.specs.Prelude.{◌≡◌, ℕ, ◌+◌, ◌*◌, ◌^◌, ◌<◌, List, length}
use Rattle.records.specs.declared.Header.{Header}
use Rattle.records.specs.Covers.{Covers}

-- the byte that the standards begin at, and the unit records
abbrev pub standards_begin : Header → ℕ
standards_begin h = 10 + 6 * h.states

abbrev pub units_begin : Header → ℕ
units_begin h = standards_begin h + 10 * h.standards

-- the byte behind the last unit record
abbrev pub units_end : Header → ℕ
units_end h = units_begin h + 11 * h.units

-- the header and the state records are there; the standards too; the unit records too
abbrev pub StatesThere : List ℕ → Header → Type 0
StatesThere s h = Covers s (standards_begin h)

abbrev pub StandardsThere : List ℕ → Header → Type 0
StandardsThere s h = Covers s (units_begin h)

abbrev pub UnitsThere : List ℕ → Header → Type 0
UnitsThere s h = Covers s (units_end h)

-- the header and the lists are there, and no byte more
abbrev pub WholeThere : List ℕ → Header → Type 0
WholeThere s h = (length s ≡ units_end h) × (length s < 2 ^ 32)
