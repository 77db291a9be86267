-- What the working sums hold: of the first n unit records, the theoretical times for the units of each module, and the units that each standard judges.
-- Definitions only.
use Rattle.std.specs.Prelude.{◌≡◌, not, List, ℕ, ◌*◌, ◌^◌, ◌≤◌, ◌<◌, leb, ltb, eqb, length, get_or}
use Rattle.records.specs.declared.Standard.{Standard}
use Rattle.records.specs.declared.UnitRecord.{UnitRecord}
use Rattle.records.specs.Log.{up_to}
use Rattle.rules.specs.declared.Ground.TheVariants.{Spare, StrayModule, Outside, OverGood}
use Rattle.rules.specs.declared.LogList.TheVariants.{Units}
use Rattle.rules.specs.Grounds.{Verdict}
use Rattle.std.specs.declared.result.Result.TheVariants.{Ok}
use Rattle.rules.specs.Grounds.{ground, ◌then◌}
use Rattle.rules.specs.Theoretical.{theoretical_time, units_judged}
use Rattle.rules.specs.RecordGrounds.{standard_grounds, unit_grounds}

-- the sums A and E of actual and of effective units
pub record Credited (ss : List Standard) (us : List UnitRecord) (A E : List ℕ) : Type 0 where
  pub actual : (m : ℕ) → m < 64 → get_or A m 0 ≡ theoretical_time (λ u. u.actual) ss us m
  pub effective : (m : ℕ) → m < 64 → get_or E m 0 ≡ theoretical_time (λ u. u.effective) ss us m

-- the counters C of the units that each standard judges, none above n times the 65,535 units that a record holds
pub record JudgedSoFar (units : UnitRecord → ℕ) (ss : List Standard) (us : List UnitRecord) (n : ℕ) (C : List ℕ) : Type 0 where
  pub sized : length C ≡ 512
  pub low : (i : ℕ) → i < 512 → get_or C i 0 ≤ n * 65535
  pub judged : (i : ℕ) → i < 512 → get_or C i 0 ≡ units_judged units ss us i

-- the standards and the unit records tested, and the units credited, each to its module and to the standard that judges it
pub record UnitsCredited (period modules : ℕ) (ss : List Standard) (us : List UnitRecord) (r : Verdict) (A E C : List ℕ) : Type 0 where
  pub answer : r ≡ standard_grounds period modules ss then unit_grounds period modules ss us
  pub credited : r ≡ Ok tt → Credited ss us A E
  pub judged : r ≡ Ok tt → C ≡ up_to (units_judged (λ u. u.actual) ss us) 512

-- ---- on the way

-- the grounds that look at the unit record alone
unfoldable pub own_grounds : ℕ → ℕ → ℕ → UnitRecord → Verdict
own_grounds period modules i u =
    ground Spare Units i (not (eqb u.spare 0))
    then ground StrayModule Units i (leb modules u.«module»)
    then ground Outside Units i (leb period u.time)
    then ground OverGood Units i (ltb u.actual u.effective)

-- the sums of the first i records, none above i times the greatest credit: 65,535 units of 134,217,727 ms are below 2 ^ 43
pub record SumsSoFar (ss : List Standard) (us : List UnitRecord) (i : ℕ) (A E : List ℕ) : Type 0 where
  pub sized : (length A ≡ 64) × (length E ≡ 64)
  pub low : (m : ℕ) → m < 64 → (get_or A m 0 ≤ i * 2 ^ 43) × (get_or E m 0 ≤ i * 2 ^ 43)
  pub credited : Credited ss us A E
