-- What the working arrays hold of a log: the totals T, six to a module, the uptimes U, and the theoretical times A for actual and E for effective units.
-- Definitions only.
use Rattle.std.specs.Prelude.{◌≡◌, List, ℕ, ◌+◌, ◌*◌, ◌≤◌, ◌<◌, get_or}
use Rattle.records.specs.Log.{Log}
use Rattle.e79.specs.Quantities.{Ordered}
use Rattle.std.specs.declared.result.Result.TheVariants.{Ok}
use Rattle.rules.specs.Quantities.{time_in, uptime, actual_time, effective_time, module_times, all_times, of_module}
use Rattle.rules.specs.RecordGrounds.{state_grounds, unit_grounds}

pub record WorkingTotals (l : Log) (T U A E : List ℕ) : Type 0 where
  pub times : (m k : ℕ) → m < l.modules → k < 6 → get_or T (6 * m + k) 0 ≡ time_in l k m
  pub uptimes : (m : ℕ) → m < l.modules → get_or U m 0 ≡ uptime l m
  pub actuals : (m : ℕ) → m < l.modules → get_or A m 0 ≡ actual_time l m
  pub effectives : (m : ℕ) → m < l.modules → get_or E m 0 ≡ effective_time l m

-- what holds of a log once its header and its records are accepted
pub record Grounded (l : Log) : Type 0 where
  pub one_module : 0 < l.modules
  pub few : l.modules ≤ 64
  pub begun : 0 < l.period
  pub short : l.period ≤ 31622400000
  pub states : state_grounds l.period l.modules l.states ≡ Ok tt
  pub units : unit_grounds l.period l.modules l.standards l.units ≡ Ok tt

-- what holds of it once its modules' speeds are too
pub record Consistent (l : Log) : Type 0 where
  pub one_module : 0 < l.modules
  pub few : l.modules ≤ 64
  pub short : l.period ≤ 31622400000
  pub each : (m : ℕ) → m < l.modules → Ordered (of_module l m)
  pub times : (k m : ℕ) → m < l.modules → time_in l k m ≤ l.period
  pub whole : (m : ℕ) → m < l.modules → all_times (module_times l m) ≡ l.period
