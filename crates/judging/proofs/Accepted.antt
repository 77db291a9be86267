-- What holds of the quantities of an accepted log: none passes the one before it, for each module and for the tool.
-- Assumes nothing.
use mathlib.Core.Path.{◌≡◌, sym, ◌∙◌}
use mathlib.Core.Bool.{Bool, true, false, cond, ◌||◌}
use mathlib.Core.List.{List, [], ◌∷◌, ◌++◌}
use Prim.Native.Nat.{ℕ, suc, ◌*◌, ◌≤◌, ◌<◌}
use native.Mathlib.Nat.{mul-le-mul_right, mul-le-mul, le_refl}
use native.Mathlib.Omega.{arith}
use lib.Dec.{ltb, eqb}
use borrow.Author.Tests.{ltb-false, le-ltb}
use Rattle.records.specs.declared.Standard.{Standard}
use Rattle.records.specs.declared.UnitRecord.{UnitRecord}
use Rattle.records.specs.Log.{Log}
use Rattle.e79.specs.Quantities.{Ordered}
use Rattle.rules.specs.declared.Ground.TheVariants.{TooFast, TooGreat}
use Rattle.rules.specs.declared.LogList.TheVariants.{NoList}
use Rattle.std.specs.declared.result.Result.TheVariants.{Ok, Err}
use Rattle.rules.specs.Grounds.{Verdict, refusal, first_of, in_turn}
use Rattle.rules.specs.Theoretical.{in_force, time_of, credit, theoretical_time}
use Rattle.rules.specs.RecordGrounds.{unit_ground, unit_grounds}
use Rattle.rules.specs.Quantities.{time_in, uptime, actual_time, effective_time, sum_below, module_times, all_times, of_tool, tool_times}
use Rattle.rules.specs.Verdict.{fast_ground, is_over, any_over, any_time_over, sum_grounds}
use Rattle.rules.proofs.Sound.{unit-tests}
use Rattle.rules.proofs.FirstGround.{then-left, then-right, not-met, first_all}
use Rattle.states.proofs.SixTimes.{state_time-le, six_times_lem}
use Rattle.judging.specs.Working.{Grounded, Consistent}
use Rattle.rules.proofs.SumLaws.{sum-le, sum-each}

-- ---- effective units are among the actual ones

effective-le : (period modules : ℕ) (ss : List Standard) (us : List UnitRecord) (i : ℕ) (u : UnitRecord) → unit_ground period modules ss us i u ≡ Ok tt → u.effective ≤ u.actual
effective-le period modules ss us i u e = ((unit-tests period modules ss).local us i u e).within

credit-le : (ss : List Standard) (m : ℕ) (u : UnitRecord) → u.effective ≤ u.actual → credit (λ u. u.effective) ss m u ≤ credit (λ u. u.actual) ss m u
unfolding credit
credit-le ss m u h = go (eqb u.«module» m)
  where
    go : (b : Bool) → cond b (u.effective * time_of (in_force ss u.«module» u.recipe u.time)) 0 ≤ cond b (u.actual * time_of (in_force ss u.«module» u.recipe u.time)) 0
    go true = mul-le-mul_right (time_of (in_force ss u.«module» u.recipe u.time)) h
    go false = le_refl 0

theoretical-le : (period modules : ℕ) (ss : List Standard) (earlier : List UnitRecord) (i : ℕ) (us : List UnitRecord) (m : ℕ) → in_turn (unit_ground period modules ss) earlier i us ≡ Ok tt
    → theoretical_time (λ u. u.effective) ss us m ≤ theoretical_time (λ u. u.actual) ss us m
unfolding in_turn theoretical_time
theoretical-le period modules ss earlier i [] m e = le_refl 0
theoretical-le period modules ss earlier i (u ∷ us) m e =
    let first = then-left (unit_ground period modules ss earlier i u) _ e in
    let rest = theoretical-le period modules ss (earlier ++ (u ∷ [])) (suc i) us m (then-right (unit_ground period modules ss earlier i u) _ e) in
    omega (arith, credit-le ss m u (effective-le period modules ss earlier i u first), rest)

-- ---- each module

module _ (l : Log) (g : Grounded l) where
  effective_actual : (m : ℕ) → effective_time l m ≤ actual_time l m
  unfolding effective_time actual_time unit_grounds
  effective_actual m = theoretical-le l.period l.modules l.standards [] 0 l.units m g.units

  uptime_total : (m : ℕ) → m < l.modules → uptime l m ≤ l.period
  unfolding uptime time_in
  uptime_total m h = omega (arith, six_times_lem l.states l.period l.modules m g.states h)

  production_uptime : (m : ℕ) → time_in l 0 m ≤ uptime l m
  unfolding uptime
  production_uptime m = omega arith

  whole : (m : ℕ) → m < l.modules → all_times (module_times l m) ≡ l.period
  unfolding time_in
  whole m h = six_times_lem l.states l.period l.modules m g.states h

  pub time_le : (k m : ℕ) → time_in l k m ≤ l.period
  unfolding time_in
  time_le k m = state_time-le l.states l.period m k

  module _ (fast : first_of (fast_ground l) l.modules ≡ Ok tt) where
    actual_production : (m : ℕ) → m < l.modules → actual_time l m ≤ time_in l 0 m
    unfolding fast_ground
    actual_production m h = ltb-false (time_in l 0 m) (actual_time l m) (not-met TooFast NoList m (ltb (time_in l 0 m) (actual_time l m)) (first_all (fast_ground l) l.modules fast m h))

    pub consistent : Consistent l
    consistent =
        record {
          one_module = g.one_module;
          few = g.few;
          short = g.short;
          each = λ m h.
              record {
                effective_actual = effective_actual m;
                actual_production = actual_production m h;
                production_uptime = production_uptime m;
                uptime_total = uptime_total m h;
                begun = g.begun;
                few = omega (arith, g.short);
              };
          times = λ k m h. time_le k m;
          whole = whole;
        }

-- ---- the tool

module _ (l : Log) (s : Consistent l) where
  -- the tool's total time
  pub tool_total : sum_below (λ m. l.period) l.modules ≤ 2023833600000
  tool_total = rw (sum-each l.period l.modules) (mul-le-mul {n₁ = l.period} {m₁ = l.modules} {n₂ = 31622400000} {m₂ = 64} s.short s.few)

  tool-begun : 0 < sum_below (λ m. l.period) l.modules
  tool-begun = rw (sum-each l.period l.modules) (mul-le-mul {n₁ = 1} {m₁ = 1} {n₂ = l.period} {m₂ = l.modules} (s.each 0 s.one_module).begun s.one_module)

  pub tool_ordered : Ordered (of_tool l)
  tool_ordered =
      record {
        effective_actual = sum-le (effective_time l) (actual_time l) l.modules (λ m h. (s.each m h).effective_actual);
        actual_production = sum-le (actual_time l) (time_in l 0) l.modules (λ m h. (s.each m h).actual_production);
        production_uptime = sum-le (time_in l 0) (uptime l) l.modules (λ m h. (s.each m h).production_uptime);
        uptime_total = sum-le (uptime l) (λ m. l.period) l.modules (λ m h. (s.each m h).uptime_total);
        begun = tool-begun;
        few = omega (arith, tool_total);
      }

  -- no sum of the tool is too great
  within : (n : ℕ) → n ≤ sum_below (λ m. l.period) l.modules → is_over n ≡ false
  within n h = le-ltb 9007199254740991 n (omega (arith, tool_total))

  state_within_lem : (k : ℕ) → is_over (sum_below (time_in l k) l.modules) ≡ false
  state_within_lem k = within (sum_below (time_in l k) l.modules) (sum-le (time_in l k) (λ m. l.period) l.modules (λ m h. s.times k m h))

  pub none_over : any_over (of_tool l) || any_time_over (tool_times l) ≡ false
  none_over =
      let o = tool_ordered in
      rw (
        within (sum_below (λ m. l.period) l.modules) (le_refl _),
        within (sum_below (uptime l) l.modules) (omega (arith, o.uptime_total)),
        within (sum_below (time_in l 0) l.modules) (omega (arith, o.uptime_total, o.production_uptime)),
        within (sum_below (actual_time l) l.modules) (omega (arith, o.uptime_total, o.production_uptime, o.actual_production)),
        within (sum_below (effective_time l) l.modules) (omega (arith, o.uptime_total, o.production_uptime, o.actual_production, o.effective_actual)),
        state_within_lem 1,
        state_within_lem 2,
        state_within_lem 3,
        state_within_lem 4,
        state_within_lem 5,
      )

module _ (l : Log) (g : Grounded l) (fast : first_of (fast_ground l) l.modules ≡ Ok tt) where
  -- neither test for 17 can hold; the answer is held to 17, list 0 and place 0 all the same
  pub sums_never : (b : Bool) → b ≡ true → (b ≡ true → any_over (of_tool l) || any_time_over (tool_times l) ≡ true) → (v : Verdict) → v ≡ Err (refusal TooGreat NoList 0)
      → (v ≡ sum_grounds l) × (v ≡ Ok tt → Consistent l)
  sums_never b e h v said = let z : true ≡ false = sym (h e) ∙ none_over l (consistent l g fast) in let q : ◌≡◌ {A = ℕ} 0 1 = cc in absurd (omega arith)
