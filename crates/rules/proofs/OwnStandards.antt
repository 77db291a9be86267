-- A module's sums come of its own standards alone: those of other modules, whatever they say and wherever they stand, change nothing of them.
-- Assumes nothing.
use mathlib.Core.Path.{◌≡◌, refl, ap, ap₂, sym, ◌∙◌}
use mathlib.Core.Bool.{Bool, true, false, cond}
use mathlib.Core.Option.{Option, none, some}
use mathlib.Core.List.{List, [], ◌∷◌, foldl}
use Prim.Native.Nat.{ℕ, suc, ◌+◌, ◌*◌}
use lib.Dec.{leb, eqb}
use borrow.Author.Tests.{eqb-true}
use Rattle.records.specs.declared.Standard.{Standard}
use Rattle.records.specs.declared.UnitRecord.{UnitRecord}
use Rattle.rules.specs.declared.Placed.{Placed}
use Rattle.rules.specs.Theoretical.{placed_from, later, has_begun, consider, in_force, time_of, credit, theoretical_time}
use Rattle.rules.specs.Quantities.{uptime, time_in, actual_time, effective_time}
use Rattle.rules.specs.OwnStandards.{own_standards, OwnStandardsAlone}

-- ---- the standard in force, without its index

abbrev standard_in : Option Placed → Option Standard
standard_in none = none
standard_in (some p) = some p.standard

abbrev time_for : Option Standard → ℕ
time_for none = 0
time_for (some s) = s.theoretical

abbrev later_of : Option Standard → Standard → Option Standard
later_of none s = some s
later_of (some b) s = cond (leb s.start b.start) (some b) (some s)

later-in : (found : Option Placed) (p : Placed) → standard_in (later found p) ≡ later_of (standard_in found) p.standard
later-in none p = refl
later-in (some b) p = go (leb p.standard.start b.standard.start)
  where
    go : (c : Bool) → standard_in (cond c (some b) (some p)) ≡ cond c (some b.standard) (some p.standard)
    go true = refl
    go false = refl

time_for_lem : (found : Option Placed) → time_of found ≡ time_for (standard_in found)
time_for_lem none = refl
time_for_lem (some p) = refl

module _ (m recipe time : ℕ) where
  abbrev next : Option Standard → Standard → Option Standard
  next found s = cond (has_begun m recipe time s) (later_of found s) found

  next-in : (found : Option Placed) (p : Placed) → standard_in (consider m recipe time found p) ≡ next (standard_in found) p.standard
  next-in found p = go (has_begun m recipe time p.standard)
    where
      go : (c : Bool) → standard_in (cond c (later found p) found) ≡ cond c (later_of (standard_in found) p.standard) (standard_in found)
      go true = later-in found p
      go false = refl

  without-index : (found : Option Placed) (i : ℕ) (ss : List Standard) → standard_in (foldl (consider m recipe time) found (placed_from i ss)) ≡ foldl next (standard_in found) ss
  unfolding placed_from
  without-index found i [] = refl
  without-index found i (s ∷ ss) = without-index (consider m recipe time found (record { index = i; standard = s })) (suc i) ss ∙ ap (λ (f : Option Standard). foldl next f ss) (next-in found (record { index = i; standard = s }))

  -- ---- of the module's own standards

  own-only : (found : Option Standard) (ss : List Standard) → foldl next found ss ≡ foldl next found (own_standards m ss)
  unfolding own_standards
  own-only found [] = refl
  own-only found (s ∷ ss) = go (eqb s.«module» m) refl (λ f. own-only f ss)
    where
      skipped : eqb s.«module» m ≡ false → next found s ≡ found
      skipped e = rw e

      go : (b : Bool) → eqb s.«module» m ≡ b → ((f : Option Standard) → foldl next f ss ≡ foldl next f (own_standards m ss))
          → foldl next (next found s) ss ≡ foldl next found (cond b (s ∷ own_standards m ss) (own_standards m ss))
      go true e rest = rest (next found s)
      go false e rest = ap (λ (f : Option Standard). foldl next f ss) (skipped e) ∙ rest found

  in_force-own : (ss : List Standard) → time_of (in_force ss m recipe time) ≡ time_of (in_force (own_standards m ss) m recipe time)
  unfolding in_force
  in_force-own ss =
      time_for_lem (in_force ss m recipe time)
      ∙ ap time_for (without-index none 0 ss ∙ own-only none ss ∙ sym (without-index none 0 (own_standards m ss)))
      ∙ sym (time_for_lem (in_force (own_standards m ss) m recipe time))

-- ---- the sums

module _ (units : UnitRecord → ℕ) (ss : List Standard) (m : ℕ) where
  credit-own : (u : UnitRecord) → credit units ss m u ≡ credit units (own_standards m ss) m u
  unfolding credit
  credit-own u = go (eqb u.«module» m) refl
    where
      time_by_lem : ℕ → ℕ
      time_by_lem k = time_of (in_force (own_standards k ss) u.«module» u.recipe u.time)

      go : (b : Bool) → eqb u.«module» m ≡ b → cond b (units u * time_of (in_force ss u.«module» u.recipe u.time)) 0 ≡ cond b (units u * time_by_lem m) 0
      go true e = ap (λ (t : ℕ). units u * t) (in_force-own u.«module» u.recipe u.time ss ∙ ap time_by_lem (eqb-true u.«module» m e))
      go false e = refl

  pub time_own : (us : List UnitRecord) → theoretical_time units ss us m ≡ theoretical_time units (own_standards m ss) us m
  unfolding theoretical_time
  time_own [] = refl
  time_own (u ∷ us) = ap₂ ◌+◌ (credit-own u) (time_own us)

pub own_standards-alone : OwnStandardsAlone
unfolding uptime time_in actual_time effective_time
own_standards-alone l ss m e =
    let own : (units : UnitRecord → ℕ) → theoretical_time units l.standards l.units m ≡ theoretical_time units ss l.units m
    = λ units. time_own units l.standards m l.units ∙ ap (λ (ts : List Standard). theoretical_time units ts l.units m) e ∙ sym (time_own units ss m l.units) in
    rw (own (λ u. u.actual), own (λ u. u.effective))
