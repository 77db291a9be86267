-- What the grounds of a log's records come down to: each record is sound by itself, each list rises, each module is opened, and none is too fast.
-- `proofs/Sound.antt` has that accepted records are such; within a header's bounds such records are accepted (crate sound: `records_accepted`).
-- Definitions only.
use Rattle.std.specs.Prelude.{◌≡◌, ◌≤◌, ◌<◌, ℕ, true, false, List}
use Rattle.records.specs.declared.StateRecord.{StateRecord}
use Rattle.records.specs.declared.Standard.{Standard}
use Rattle.records.specs.declared.UnitRecord.{UnitRecord}
use Rattle.records.specs.Log.{Log}
use Rattle.rules.specs.Lists.{Each, Rises}
use Rattle.rules.specs.Names.{productive}
use Rattle.rules.specs.Quantities.{time_in, actual_time}
use Rattle.rules.specs.RecordGrounds.{first_time, is_opening, is_none}
use Rattle.rules.specs.Sequence.{state_key, standard_key, unit_key}
use Rattle.rules.specs.Theoretical.{in_force}

pub record StateSound (period modules : ℕ) (r : StateRecord) : Type 0 where
  pub unspared : r.spare ≡ 0
  pub own : r.«module» < modules
  pub known : r.code ≤ 23
  pub inside : r.time < period

pub record StandardSound (period modules : ℕ) (s : Standard) : Type 0 where
  pub unspared : s.spare ≡ 0
  pub own : s.«module» < modules
  pub inside : s.start < period
  pub timed : 0 < s.theoretical

pub record UnitSound (period modules : ℕ) (ss : List Standard) (u : UnitRecord) : Type 0 where
  pub unspared : u.spare ≡ 0
  pub own : u.«module» < modules
  pub inside : u.time < period
  pub within : u.effective ≤ u.actual
  pub judged : is_none (in_force ss u.«module» u.recipe u.time) ≡ false

pub record Sound (l : Log) : Type 0 where
  pub states : Each (StateSound l.period l.modules) l.states
  pub states_rise : Rises state_key l.states
  pub opened : (m : ℕ) → m < l.modules → is_opening (first_time m l.states) ≡ true
  pub standards : Each (StandardSound l.period l.modules) l.standards
  pub standards_rise : Rises standard_key l.standards
  pub units : Each (UnitSound l.period l.modules l.standards) l.units
  pub units_rise : Rises unit_key l.units
  pub slow : (m : ℕ) → m < l.modules → actual_time l m ≤ time_in l productive m
