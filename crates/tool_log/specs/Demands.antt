-- Demand 3, whole: what holds of every accepted log, sentence by sentence. `proofs/DemandThree.antt` has the theorem.
-- Definitions only.
use Rattle.std.specs.Prelude.{◌≡◌, ◌⊎◌, ℕ, ◌<◌, None}
use Rattle.records.specs.Log.{Log}
use Rattle.e79.specs.declared.Quantities.{Quantities}
use Rattle.e79.specs.declared.Figures.{Figures}
use Rattle.e79.specs.Doubles.{efficiency_of, combined, left_to_right, nothing, figures_of}
use Rattle.e79.specs.Accuracy.{Nearest, Proper}
use Rattle.rules.specs.declared.StateTimes.{StateTimes}
use Rattle.rules.specs.Names.{productive, standby, engineering, scheduled_down, unscheduled_down, nonscheduled}
use Rattle.rules.specs.Time.{code_at, is_state, count}
use Rattle.rules.specs.Quantities.{all_times, module_times, of_module, of_tool}

-- the number of the period's milliseconds that module m is in state k
unfoldable pub milliseconds : Log → ℕ → ℕ → ℕ
unfolding count code_at is_state
milliseconds l m k = count (λ t. is_state k (code_at l.states m t)) l.period

-- for each module, each of the six state times handed out is the number of the period's milliseconds in that state, and the six add up to the period
pub record Partition (l : Log) (m : ℕ) (t : StateTimes) : Type 0 where
  pub productive_time : t.productive ≡ milliseconds l m productive
  pub standby_time : t.standby ≡ milliseconds l m standby
  pub engineering_time : t.engineering ≡ milliseconds l m engineering
  pub scheduled_time : t.scheduled ≡ milliseconds l m scheduled_down
  pub unscheduled_time : t.unscheduled ≡ milliseconds l m unscheduled_down
  pub nonscheduled_time : t.nonscheduled ≡ milliseconds l m nonscheduled
  pub whole : all_times t ≡ l.period

-- one of the four efficiencies has no base
abbrev pub LacksBase : Figures → Type 0
LacksBase r = (r.availability ≡ None) ⊎ ((r.operational ≡ None) ⊎ ((r.rate ≡ None) ⊎ (r.quality ≡ None)))

-- what is demanded of the doubles r that are handed out for the quantities q of a module or of the tool
pub record DemandedDoubles (q : Quantities) (r : Figures) : Type 0 where
  -- the OEE handed out as a double is finite, and every other finite double lies at least as far from effective theoretical time over total time
  pub oee : Nearest r.oee q.effective q.total
  -- each quotient is rounded once
  pub availability : r.availability ≡ efficiency_of q.uptime q.total
  pub operational : r.operational ≡ efficiency_of q.production q.uptime
  pub rate : r.rate ≡ efficiency_of q.actual q.production
  pub quality : r.quality ≡ efficiency_of q.effective q.actual
  -- the product handed out is that of the four efficiencies handed out, each multiplication rounded once
  pub multiplied : r.product ≡ combined left_to_right r.availability r.operational r.rate r.quality
  -- it lies between 0 and 1, both included, is 0 exactly when that quotient is 0, and differs from it by at most one part in 2^50 of it
  pub product : Proper r.product q.effective q.total
  -- an efficiency without a base makes the product 0
  pub no_base : LacksBase r → r.product ≡ nothing

pub record DemandThree (l : Log) : Type 0 where
  pub times : (m : ℕ) → m < l.modules → Partition l m (module_times l m)
  pub each : (m : ℕ) → m < l.modules → DemandedDoubles (of_module l m) (figures_of (of_module l m))
  pub tool : DemandedDoubles (of_tool l) (figures_of (of_tool l))
