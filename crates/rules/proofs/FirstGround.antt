-- The laws of the first ground met: over a range it stops at the first refusal, and records tested in turn are such a range.
-- Assumes nothing.
use mathlib.Core.Path.{◌≡◌, refl, ap, ◌∙◌, subst}
use mathlib.Core.Bool.{Bool, true, false}
use mathlib.Core.List.{List, [], ◌∷◌, ◌++◌, append_assoc, append-nil}
use Prim.Native.Nat.{ℕ, zero, suc, ◌+◌, ◌-◌, ◌<◌}
use native.Mathlib.Nat.{add-zero, zero-add, add-suc, suc-add}
use native.Mathlib.Numerals.{add-one}
use native.Mathlib.Decide.{ℕ_discrete}
use native.Mathlib.Omega.{arith}
use lib.ListN.{length}
use Rattle.records.specs.Log.{up_to}
use Rattle.records.proofs.UpTo.{length_up_to}
use Rattle.rules.specs.declared.Ground.{Ground}
use Rattle.rules.specs.declared.LogList.{LogList}
use Rattle.rules.specs.declared.Refusal.{Refusal}
use Rattle.rules.specs.Grounds.{Verdict}
use Rattle.std.specs.declared.result.Result.TheVariants.{Ok, Err}
use Rattle.rules.specs.Grounds.{ground, ◌then◌, first_of, in_turn, each_of}

-- ---- a ground, and two grounds in sequence

pub then-left : (u v : Verdict) → u then v ≡ Ok tt → u ≡ Ok tt
then-left (Ok tt) v e = refl
then-left (Err r) v e = e

pub then-right : (u v : Verdict) → u then v ≡ Ok tt → v ≡ Ok tt
then-right (Ok tt) v e = e
then-right (Err r) v e = let z : ◌≡◌ {A = ℕ} 0 1 = cc in absurd (omega arith)

pub then-assoc : (u v w : Verdict) → (u then v) then w ≡ u then (v then w)
then-assoc (Ok tt) v w = refl
then-assoc (Err r) v w = refl

pub then-accepted : (v : Verdict) → v then Ok tt ≡ v
then-accepted (Ok tt) = refl
then-accepted (Err r) = refl

pub refused-not : {r : Refusal} → ◌≡◌ {A = Verdict} (Err r) (Ok tt) → ⊥
refused-not {r} e = let z : ◌≡◌ {A = ℕ} 0 1 = cc in omega arith

-- a ground that was not met
pub not-met : (n : Ground) (l : LogList) (p : ℕ) (t : Bool) → ground n l p t ≡ Ok tt → t ≡ false
not-met n l p true e = let z : ◌≡◌ {A = ℕ} 0 1 = cc in absurd (omega arith)
not-met n l p false e = refl

-- ---- over a range

-- what holds of each index below n, and of n, holds of each below n + 1
pub below_suc : {P : ℕ → Type 0} (n : ℕ) → ((i : ℕ) → i < n → P i) → P n → (i : ℕ) → i < suc n → P i
below_suc {P} n all at i h = elim (ℕ_discrete n i) [ yes e ↦ subst P e at | no ne ↦ all i (omega (arith, ne)) ]

module _ (g : ℕ → Verdict) where
  pub first_all : (n : ℕ) → first_of g n ≡ Ok tt → (i : ℕ) → i < n → g i ≡ Ok tt
  unfolding first_of
  first_all zero e i h = absurd (omega arith)
  first_all (suc n) e i h = pick (ℕ_discrete n i) (first_all n (then-left (first_of g n) (g n) e) i)
    where
      pick : Dec (n ≡ i) → (i < n → g i ≡ Ok tt) → g i ≡ Ok tt
      pick (yes q) rest = rw (← q) (then-right (first_of g n) (g n) e)
      pick (no ne) rest = rest (omega (arith, ne))

  pub first_none : first_of g 0 ≡ Ok tt
  unfolding first_of
  first_none = refl

  pub first_more : (i : ℕ) → first_of g i ≡ Ok tt → g i ≡ Ok tt → first_of g (i + 1) ≡ Ok tt
  unfolding first_of
  first_more i a e = rw (add-one i) (ap (λ (v : Verdict). v then g i) a ∙ e)

  stops : (i d : ℕ) (r : Refusal) → first_of g i ≡ Ok tt → g i ≡ Err r → first_of g (suc i + d) ≡ Err r
  unfolding first_of
  stops i zero r a e = rw add-zero (ap (λ (v : Verdict). v then g i) a ∙ e)
  stops i (suc d) r a e = rw add-suc (ap (λ (v : Verdict). v then g (suc i + d)) (stops i d r a e))

  pub first_stop : (n i : ℕ) (r : Refusal) → i < n → first_of g i ≡ Ok tt → g i ≡ Err r → first_of g n ≡ Err r
  first_stop n i r h a e =
      let q : suc i + (n - suc i) ≡ n = omega arith in
      rw q at (stops i (n - suc i) r a e)

-- ranges with the same grounds
pub first-same : (f g : ℕ → Verdict) (n : ℕ) → ((i : ℕ) → i < n → f i ≡ g i) → first_of f n ≡ first_of g n
unfolding first_of
first-same f g zero h = refl
first-same f g (suc n) h = rw (first-same f g n (λ i l. h i (omega arith)), h n (omega arith))

-- ---- records tested in turn

module _ {A : Type 0} (g : List A → ℕ → A → Verdict) where
  turn-append : (earlier : List A) (i : ℕ) (rs qs : List A) → in_turn g earlier i (rs ++ qs) ≡ in_turn g earlier i rs then in_turn g (earlier ++ rs) (i + length rs) qs
  unfolding in_turn
  turn-append earlier i [] qs = rw (append-nil earlier, add-zero i)
  turn-append earlier i (r ∷ rs) qs =
      rw (turn-append (earlier ++ (r ∷ [])) (suc i) rs qs, append_assoc earlier (r ∷ []) rs, then-assoc, suc-add i (length rs), add-suc i (length rs))

  pub turn_range : (at : ℕ → A) (n : ℕ) → each_of g (up_to at n) ≡ first_of (λ i. g (up_to at i) i (at i)) n
  unfolding in_turn first_of up_to
  turn_range at zero = refl
  turn_range at (suc n) =
      turn-append [] 0 (up_to at n) (at n ∷ [])
      ∙ rw (turn_range at n, length_up_to at n, zero-add n, then-accepted)
