-- What one pass over the state records answers and leaves behind: the first ground met, and, where there is none, each module's state times and uptime.
-- Definitions only.
use Rattle.std.specs.Prelude.{◌≡◌, List, ℕ, ◌+◌, ◌*◌, ◌<◌, get_or}
use Rattle.records.specs.declared.StateRecord.{StateRecord}
use Rattle.rules.specs.Grounds.{Verdict}
use Rattle.std.specs.declared.result.Result.TheVariants.{Ok}
use Rattle.rules.specs.Names.{productive, standby, engineering}
use Rattle.rules.specs.Time.{state_time}
use Rattle.rules.specs.RecordGrounds.{state_grounds}

-- the answer r to the state records rs, with the totals T, six to a module, and the uptimes U: productive plus standby plus engineering
pub record Tallied (rs : List StateRecord) (period modules : ℕ) (r : Verdict) (T U : List ℕ) : Type 0 where
  pub answer : r ≡ state_grounds period modules rs
  pub totals : r ≡ Ok tt → (m k : ℕ) → m < modules → k < 6 → get_or T (6 * m + k) 0 ≡ state_time rs period m k
  pub uptime : r ≡ Ok tt → (m : ℕ) → m < modules → get_or U m 0 ≡ state_time rs period m productive + state_time rs period m standby + state_time rs period m engineering
