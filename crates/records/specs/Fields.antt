-- The fields of the header and of each kind of record, by their places and widths in bits.
-- Definitions only.
use Rattle.std.specs.Prelude.{ℕ, ◌+◌, List}
use Rattle.bits.specs.Bits.{field}
use Rattle.records.specs.declared.Header.{Header}
use Rattle.records.specs.declared.StateRecord.{StateRecord}
use Rattle.records.specs.declared.Standard.{Standard}
use Rattle.records.specs.declared.UnitRecord.{UnitRecord}

-- the header of 80 bits from bit p on
unfoldable pub header_from : List ℕ → ℕ → Header
header_from s p =
    record {
      period = field s p 35;
      modules = field s (p + 35) 7;
      states = field s (p + 42) 14;
      standards = field s (p + 56) 11;
      units = field s (p + 67) 13;
    }

-- the state record of 48 bits from bit p on
unfoldable pub state_from : List ℕ → ℕ → StateRecord
state_from s p =
    record {
      «module» = field s p 6;
      code = field s (p + 6) 5;
      time = field s (p + 11) 35;
      spare = field s (p + 46) 2;
    }

-- the standard of 80 bits from bit p on
unfoldable pub standard_from : List ℕ → ℕ → Standard
standard_from s p =
    record {
      «module» = field s p 6;
      recipe = field s (p + 6) 10;
      start = field s (p + 16) 35;
      theoretical = field s (p + 51) 27;
      spare = field s (p + 78) 2;
    }

-- the unit record of 88 bits from bit p on
unfoldable pub unit_from : List ℕ → ℕ → UnitRecord
unit_from s p =
    record {
      «module» = field s p 6;
      recipe = field s (p + 6) 10;
      time = field s (p + 16) 35;
      actual = field s (p + 51) 16;
      effective = field s (p + 67) 16;
      spare = field s (p + 83) 5;
    }
