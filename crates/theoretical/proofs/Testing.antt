-- One standard tested.
-- Assumes nothing.
use mathlib.Core.Path.{◌≡◌, refl, ap, ◌∙◌}
use mathlib.Core.Bool.{Bool, true, false, ◌&&◌, not}
use mathlib.Core.List.{List}
use Prim.Native.Nat.{ℕ, ◌+◌, ◌*◌}
use lib.Dec.{leb, ltb, eqb}
use Rattle.records.specs.declared.Header.{Header}
use Rattle.records.specs.declared.Standard.{Standard}
use Rattle.records.specs.Log.{standard_at}
use Rattle.records.proofs.Widths.{standard-fits}
use Rattle.std.specs.declared.result.Result.TheVariants.{Ok}
use Rattle.rules.specs.declared.Ground.TheVariants.{Spare, StrayModule, Outside, NoTime, Twice, Unsorted}
use Rattle.rules.specs.declared.LogList.TheVariants.{Standards}
use Rattle.rules.specs.Grounds.{Verdict, ground, ◌then◌}
use Rattle.rules.specs.Keys.{standard_number, StandardFits, StandardsSequenced}
use Rattle.rules.specs.RecordGrounds.{is_among, standard_ground}
use Rattle.rules.proofs.Sound.{standard-tests}
use Rattle.rules.proofs.Spared.{not-among}

-- the widths of a standard's module, recipe and start
pub fits : (s : List ℕ) (h : Header) (i : ℕ) → StandardFits (standard_at s h i)
fits s h i = let f = standard-fits s (80 + 48 * h.states + 80 * i) in (f.0, f.1.0, f.1.1.0)

-- a standard that passes has no spare bit
pub passed-plain : (period modules : ℕ) (earlier : List Standard) (i : ℕ) (s : Standard) → standard_ground period modules earlier i s ≡ Ok tt → s.spare ≡ 0
passed-plain period modules earlier i s e = ((standard-tests period modules).local earlier i s e).unspared

-- tested by its number: one above those before it is none of them
module _ (period modules : ℕ) (earlier : List Standard) (i before : ℕ) (s : Standard) where
  pub tested_by_number : StandardFits s → StandardsSequenced earlier before → standard_ground period modules earlier i s
      ≡ (ground Spare Standards i (not (eqb s.spare 0))
      then ground StrayModule Standards i (leb modules s.«module»)
      then ground Outside Standards i (leb period s.start)
      then ground NoTime Standards i (eqb s.theoretical 0)
      then ground Twice Standards i (not (ltb before (standard_number s)) && is_among s earlier)
      then ground Unsorted Standards i (not (ltb before (standard_number s))))
  unfolding standard_ground
  tested_by_number fit q =
      rw (q.next s fit)
      (ap (λ (v : Verdict). ground Spare Standards i (not (eqb s.spare 0)) then ground StrayModule Standards i (leb modules s.«module») then ground Outside Standards i (leb period s.start) then ground NoTime Standards i (eqb s.theoretical 0) then v)
      (last_two (is_among s earlier) (ltb before (standard_number s)) (λ e. not-among earlier s q.rises (q.next s fit ∙ e))))
    where
      last_two : (a b : Bool) → (b ≡ true → a ≡ false) → ground Twice Standards i a then ground Unsorted Standards i (not b) ≡ ground Twice Standards i (not b && a) then ground Unsorted Standards i (not b)
      last_two a true h = rw (h refl) refl
      last_two a false h = refl
