-- The bounds of a log's header and of the fields that no ground bounds, and what an accepted log of bytes has.
-- Definitions only.
use Rattle.std.specs.Prelude.{◌≡◌, ◌+◌, ◌*◌, ◌^◌, ◌≤◌, ◌<◌, ℕ, List, length}
use Rattle.records.specs.declared.Standard.{Standard}
use Rattle.records.specs.declared.UnitRecord.{UnitRecord}
use Rattle.records.specs.Log.{Log, decode}
use Rattle.rules.specs.Lists.{Each}
use Rattle.rules.specs.Sound.{Sound}

-- the bounds of the header: a period, a number of modules, and counts
pub record Bounded (l : Log) : Type 0 where
  pub some_time : 0 < l.period
  pub short : l.period ≤ 31622400000
  pub some_module : 0 < l.modules
  pub few : l.modules ≤ 64
  pub states : length l.states ≤ 6000
  pub standards : length l.standards ≤ 512
  pub units : length l.units ≤ 2000

-- the numbers of a standard and of a unit record that their fields alone bound
pub record StandardNarrow (s : Standard) : Type 0 where
  pub recipe : s.recipe < 2 ^ 10
  pub theoretical : s.theoretical < 2 ^ 27

pub record UnitNarrow (u : UnitRecord) : Type 0 where
  pub recipe : u.recipe < 2 ^ 10
  pub actual : u.actual < 2 ^ 16
  pub effective : u.effective < 2 ^ 16

-- a log that can be written as bytes and is then accepted
pub record Writable (l : Log) : Type 0 where
  pub sound : Sound l
  pub bounded : Bounded l
  pub standards : Each StandardNarrow l.standards
  pub units : Each UnitNarrow l.units

-- what the bytes of an accepted log have
pub record Read (s : List ℕ) : Type 0 where
  pub writable : Writable (decode s)
  pub size : length s ≡ 10 + 6 * length (decode s).states + 10 * length (decode s).standards + 11 * length (decode s).units
