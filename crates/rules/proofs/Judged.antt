-- Each unit record of an accepted log is judged by just one standard. So what is summed over the unit records may be summed over the standards: judged units
-- make the units of the log, and times their standards' times the theoretical time of all modules.
-- Assumes nothing.
use mathlib.Core.Path.{◌≡◌, refl, sym, ap, ap₂, ◌∙◌}
use mathlib.Core.Bool.{cond, true, false}
use mathlib.Core.Option.{Option, none, some}
use mathlib.Core.List.{List, [], ◌∷◌}
use Prim.Native.Nat.{ℕ, zero, suc, ◌+◌, ◌*◌, ◌≤◌, ◌<◌}
use native.Mathlib.Nat.{add-zero, zero-add, zero-mul, add-mul}
use native.Mathlib.Decide.{ℕ_discrete}
use native.Mathlib.Omega.{arith}
use lib.Dec.{eqb}
use borrow.Author.Tests.{eq-eqb, eqb-true, ne_eqb}
use Rattle.records.specs.declared.Standard.{Standard}
use Rattle.records.specs.declared.UnitRecord.{UnitRecord}
use Rattle.records.specs.Log.{up_to}
use Rattle.rules.specs.declared.Placed.{Placed}
use Rattle.std.specs.declared.result.Result.TheVariants.{Ok}
use Rattle.rules.specs.Theoretical.{in_force, For, Answers, time_of, credit, theoretical_time, is_at, judged_by, units_judged}
use Rattle.rules.specs.Credited.{units_of}
use Rattle.rules.specs.Quantities.{sum_below}
use Rattle.rules.specs.RecordGrounds.{is_none, unit_ground, unit_grounds}
use Rattle.rules.proofs.Booleans.{false-true}
use Rattle.rules.specs.Lists.{Each}
use Rattle.rules.specs.Sequence.{unit_key}
use Rattle.rules.specs.Sound.{UnitSound}
use Rattle.rules.proofs.Each.{each-so}
use Rattle.rules.proofs.Sound.{list-local, unit-tests}
use Rattle.rules.proofs.InForce.{in_force_lem}
use Rattle.rules.proofs.SumLaws.{sum_same, sum-add, sum-each}

-- ---- a value at one place only

module _ (a k : ℕ) where
  abbrev at_place : ℕ → ℕ
  at_place i = cond (eqb k i) a 0

  not_yet : (n : ℕ) → n ≤ k → sum_below at_place n ≡ 0
  unfolding sum_below
  not_yet zero h = refl
  not_yet (suc n) h = rw (ne_eqb k n (λ e. omega arith), not_yet n (omega arith))

  once : (n : ℕ) → k < n → sum_below at_place n ≡ a
  unfolding sum_below
  once zero h = absurd (omega arith)
  once (suc n) h =
      elim (ℕ_discrete k n) [
        | yes e ↦ rw (eq-eqb k n e, not_yet n (omega arith)) (zero-add a)
        | no ne ↦ rw (ne_eqb k n ne, add-zero (sum_below at_place n)) (once n (omega (arith, ne)))
      ]

-- ---- accepted unit records

pub unit_records-sound : (period modules : ℕ) (ss : List Standard) (us : List UnitRecord) → unit_grounds period modules ss us ≡ Ok tt → Each (UnitSound period modules ss) us
unfolding unit_grounds
unit_records-sound period modules ss us e = list-local unit_key (unit_ground period modules ss) (UnitSound period modules ss) (unit-tests period modules ss) us e

-- each is of a module of the tool, and a standard is in force for it: what the sums over them ask, and no more
module _ (modules : ℕ) (ss : List Standard) where
  pub record Judged (u : UnitRecord) : Type 0 where
    pub own : u.«module» < modules
    pub judged : is_none (in_force ss u.«module» u.recipe u.time) ≡ false

  abbrev pub Passed : List UnitRecord → Type 0
  Passed us = Each Judged us

  pub passed : (period : ℕ) (us : List UnitRecord) → unit_grounds period modules ss us ≡ Ok tt → Passed us
  passed period us e = each-so (UnitSound period modules ss) Judged (λ u h. record { own = h.own; judged = h.judged }) us (unit_records-sound period modules ss us e)

-- ---- one unit record

module _ (at : ℕ → Standard) (n : ℕ) where
  abbrev listed : List Standard
  listed = up_to at n

  one_time : (m recipe time a : ℕ) (o : Option Placed) → Answers at n m recipe time o → is_none o ≡ false → sum_below (λ i. cond (is_at i o) a 0 * (at i).theoretical) n ≡ a * time_of o
  one_time m recipe time a none f e = let z : ◌≡◌ {A = ℕ} 0 1 = cc in absurd (omega arith)
  one_time m recipe time a (some p) f e = sum_same _ _ n (λ i l. same i (ℕ_discrete p.index i)) ∙ once (a * p.standard.theoretical) p.index n f.listed
    where
      same : (i : ℕ) → Dec (p.index ≡ i) → cond (eqb p.index i) a 0 * (at i).theoretical ≡ cond (eqb p.index i) (a * p.standard.theoretical) 0
      same i (yes q) = rw (eq-eqb p.index i q, ← q, f.same)
      same i (no ne) = rw (ne_eqb p.index i ne) (zero-mul (at i).theoretical)

  one_judge : (m recipe time a : ℕ) (o : Option Placed) → Answers at n m recipe time o → is_none o ≡ false → sum_below (λ i. cond (is_at i o) a 0) n ≡ a
  one_judge m recipe time a none f e = let z : ◌≡◌ {A = ℕ} 0 1 = cc in absurd (omega arith)
  one_judge m recipe time a (some p) f e = once a p.index n f.listed

  -- what no standard has for its index judges nothing
  judge-listed : (m recipe time i a : ℕ) (o : Option Placed) → Answers at n m recipe time o → n ≤ i → cond (is_at i o) a 0 ≡ 0
  judge-listed m recipe time i a none f h = refl
  judge-listed m recipe time i a (some p) f h = rw (ne_eqb p.index i (λ e. omega (arith, f.listed)))

  -- a standard judges units of its own module and recipe alone
  pub judged_own : (u : UnitRecord) (i : ℕ) → judged_by listed u i ≡ true → For u.«module» u.recipe (at i)
  unfolding judged_by
  judged_own u i e = go (in_force listed u.«module» u.recipe u.time) (in_force_lem at u.«module» u.recipe u.time n) e
    where
      go : (o : Option Placed) → Answers at n u.«module» u.recipe u.time o → is_at i o ≡ true → For u.«module» u.recipe (at i)
      go none f e = absurd (false-true e)
      go (some p) f e = let q : p.standard ≡ at i = f.same ∙ ap at (eqb-true p.index i e) in rw q at f.own

  -- ---- all unit records

  pub none_judged : (units : UnitRecord → ℕ) (us : List UnitRecord) (i : ℕ) → n ≤ i → units_judged units listed us i ≡ 0
  unfolding units_judged judged_by
  none_judged units [] i h = refl
  none_judged units (u ∷ us) i h =
      rw (judge-listed u.«module» u.recipe u.time i (units u) (in_force listed u.«module» u.recipe u.time) (in_force_lem at u.«module» u.recipe u.time n) h) (zero-add (units_judged units listed us i) ∙ none_judged units us i h)

  module _ (modules : ℕ) (units : UnitRecord → ℕ) where
    -- the judged units of all standards make the units of all unit records
    pub all_judged : (us : List UnitRecord) → Passed modules listed us → sum_below (units_judged units listed us) n ≡ units_of units us
    unfolding units_judged judged_by units_of
    all_judged [] p = sum-each 0 n ∙ zero-mul n
    all_judged (u ∷ us) p =
        sym (sum-add _ (units_judged units listed us) n)
        ∙ ap₂ ◌+◌ (one_judge u.«module» u.recipe u.time (units u) (in_force listed u.«module» u.recipe u.time) (in_force_lem at u.«module» u.recipe u.time n) p.0.judged) (all_judged us p.1)

    -- units times the time in force, over all unit records
    unfoldable whole : List UnitRecord → ℕ
    whole [] = 0
    whole (u ∷ us) = units u * time_of (in_force listed u.«module» u.recipe u.time) + whole us

    over-standards : (us : List UnitRecord) → Passed modules listed us → sum_below (λ i. units_judged units listed us i * (at i).theoretical) n ≡ whole us
    unfolding units_judged judged_by whole
    over-standards [] p = sum_same _ (λ i. 0) n (λ i l. zero-mul (at i).theoretical) ∙ sum-each 0 n ∙ zero-mul n
    over-standards (u ∷ us) p =
        sum_same _ _ n (λ i l. add-mul _ (units_judged units listed us i) (at i).theoretical)
        ∙ sym (sum-add _ (λ i. units_judged units listed us i * (at i).theoretical) n)
        ∙ ap₂ ◌+◌ (one_time u.«module» u.recipe u.time (units u) (in_force listed u.«module» u.recipe u.time) (in_force_lem at u.«module» u.recipe u.time n) p.0.judged) (over-standards us p.1)

    over-modules : (us : List UnitRecord) → Passed modules listed us → sum_below (theoretical_time units listed us) modules ≡ whole us
    unfolding theoretical_time credit whole
    over-modules [] p = sum-each 0 modules ∙ zero-mul modules
    over-modules (u ∷ us) p =
        sym (sum-add _ (theoretical_time units listed us) modules)
        ∙ ap₂ ◌+◌ (once (units u * time_of (in_force listed u.«module» u.recipe u.time)) u.«module» modules p.0.own) (over-modules us p.1)

    -- judged units times their standards' times make the theoretical time of all modules
    pub judged_time_lem : (us : List UnitRecord) → Passed modules listed us
        → sum_below (λ i. units_judged units listed us i * (at i).theoretical) n ≡ sum_below (theoretical_time units listed us) modules
    judged_time_lem us p = over-standards us p ∙ sym (over-modules us p)
