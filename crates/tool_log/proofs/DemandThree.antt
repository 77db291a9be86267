-- Demand 3 as one theorem: of every accepted log all of it holds.
-- Assumes nothing.
use mathlib.Core.Path.{◌≡◌, refl, ◌∙◌}
use mathlib.Core.Logic.{◌⊎◌}
use mathlib.Core.List.{List}
use Prim.Native.Nat.{ℕ, ◌<◌}
use native.Mathlib.Omega.{arith}
use Rattle.records.specs.Log.{decode}
use Rattle.e79.specs.declared.Quantities.{Quantities}
use Rattle.std.specs.Prelude.{Option, Some, None, Float}
use Rattle.e79.specs.Quantities.{Ordered}
use Rattle.e79.specs.Doubles.{combined, left_to_right, nothing, figures_of}
use Rattle.e79.proofs.Products.{accurate}
use Rattle.std.specs.declared.result.Result.TheVariants.{Ok}
use Rattle.rules.specs.Time.{state_time}
use Rattle.rules.specs.RecordGrounds.{state_grounds, standard_grounds, unit_grounds}
use Rattle.rules.specs.Grounds.{Verdict, ◌then◌, first_of}
use Rattle.rules.specs.Quantities.{time_in, module_times, of_module, of_tool}
use Rattle.rules.specs.Verdict.{header_grounds, fast_ground, sum_grounds, record_grounds, verdict}
use Rattle.rules.proofs.FirstGround.{then-left, then-right, then-assoc}
use Rattle.judging.specs.Working.{Consistent}
use Rattle.judging.proofs.Judging.{all_consistent}
use Rattle.judging.proofs.Accepted.{tool_ordered}
use Rattle.tool_log.specs.Demands.{milliseconds, Partition, DemandedDoubles, DemandThree}

-- ---- the doubles of ordered quantities

-- a product over four, one of which has no base
without-base : (a o r q : Option Float) → (a ≡ None) ⊎ ((o ≡ None) ⊎ ((r ≡ None) ⊎ (q ≡ None))) → combined left_to_right a o r q ≡ nothing
unfolding combined
without-base None o r q h = refl
without-base (Some x) None r q h = refl
without-base (Some x) (Some y) None q h = refl
without-base (Some x) (Some y) (Some z) None h = refl
without-base (Some x) (Some y) (Some z) (Some w) h = grind arith

doubles : (q : Quantities) → Ordered q → DemandedDoubles q (figures_of q)
unfolding figures_of
doubles q h =
    let a = accurate q h in
    record {
      oee = a.nearest;
      availability = refl;
      operational = refl;
      rate = refl;
      quality = refl;
      multiplied = a.multiplied;
      product = a.proper;
      no_base = λ n. a.multiplied ∙ without-base _ _ _ _ n;
    }

-- ---- an accepted log

module _ (s : List ℕ) (a : verdict s ≡ Ok tt) where
  header : header_grounds s ≡ Ok tt
  unfolding verdict
  header = then-left (header_grounds s) (record_grounds (decode s)) a

  records : record_grounds (decode s) ≡ Ok tt
  unfolding verdict
  records = then-right (header_grounds s) (record_grounds (decode s)) a

  states : state_grounds (decode s).period (decode s).modules (decode s).states ≡ Ok tt
  unfolding record_grounds
  states = then-left (state_grounds (decode s).period (decode s).modules (decode s).states) _ records

  abbrev listed : Verdict
  listed = standard_grounds (decode s).period (decode s).modules (decode s).standards then unit_grounds (decode s).period (decode s).modules (decode s).standards (decode s).units

  rest : (listed then sum_grounds (decode s)) ≡ Ok tt
  unfolding record_grounds
  rest =
      then-assoc (standard_grounds (decode s).period (decode s).modules (decode s).standards) (unit_grounds (decode s).period (decode s).modules (decode s).standards (decode s).units) (sum_grounds (decode s))
      ∙ then-right (state_grounds (decode s).period (decode s).modules (decode s).states) _ records

  ordered : Consistent (decode s)
  unfolding decode sum_grounds
  ordered = all_consistent s header states (then-left listed _ rest) (then-left (first_of (fast_ground (decode s)) (decode s).modules) _ (then-right listed _ rest))

  partition : (m : ℕ) → m < (decode s).modules → Partition (decode s) m (module_times (decode s) m)
  unfolding milliseconds time_in state_time
  partition m h =
      record {
        productive_time = refl;
        standby_time = refl;
        engineering_time = refl;
        scheduled_time = refl;
        unscheduled_time = refl;
        nonscheduled_time = refl;
        whole = ordered.whole m h;
      }

  pub demand_three : DemandThree (decode s)
  demand_three =
      record {
        times = partition;
        each = λ m h. doubles (of_module (decode s) m) (ordered.each m h);
        tool = doubles (of_tool (decode s)) (tool_ordered (decode s) ordered);
      }
