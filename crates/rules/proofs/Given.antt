-- A call's answer from its verdict and its value.
-- Assumes nothing.
use mathlib.Core.Path.{◌≡◌, refl, sym, ap, ◌∙◌, subst}
use mathlib.Core.List.{List, [], ◌++◌}
use Prim.Native.Nat.{ℕ}
use lib.ListN.{length, drop}
use native.Mathlib.Omega.{arith}
use Rattle.std.specs.declared.result.Result.{Result}
use Rattle.std.specs.declared.result.Result.TheVariants.{Ok, Err}
use Rattle.rules.specs.declared.Refusal.{Refusal}
use Rattle.rules.specs.Grounds.{Verdict}
use Rattle.rules.specs.Answers.{answer_of, verdict_of, Given, written_by, FrontWritten}

module _ {A : Type 0} where
  -- an answer and a refusal are never equal, and equal ones hold equal things
  pub never : (a : A) (x : Refusal) → ◌≡◌ {A = Result A Refusal} (Ok a) (Err x) → ⊥
  never a x e = let z : ◌≡◌ {A = ℕ} 0 1 = cc in omega arith

  pub one_answer : (a b : A) → ◌≡◌ {A = Result A Refusal} (Ok a) (Ok b) → a ≡ b
  one_answer a b e = cc

  pub one_refusal : (x y : Refusal) → ◌≡◌ {A = Result A Refusal} (Err x) (Err y) → x ≡ y
  one_refusal x y e = cc

  pub own_verdict : (v : Verdict) (a : A) → verdict_of (answer_of v a) ≡ v
  own_verdict (Ok tt) a = refl
  own_verdict (Err x) a = refl

module _ {A : Type 0} (v : Verdict) (a : A) (Promise : A → Type 0) (Allowed : Refusal → Type 0) where
  pub given_refused : (x : Refusal) → v ≡ Err x → Allowed x → Given v a Promise Allowed (Err x)
  given_refused x e ok =
      record {
        answer = ap (λ (w : Verdict). answer_of w a) (sym e);
        promise = λ b q. absurd (never b x (sym q));
        refusal = λ y q. subst Allowed (one_refusal {A = A} x y q) ok;
      }

  pub given_answered : (b : A) → v ≡ Ok tt → b ≡ a → Promise a → Given v a Promise Allowed (Ok b)
  given_answered b e q ok =
      record {
        answer = ap {B = Result A Refusal} Ok q ∙ ap (λ (w : Verdict). answer_of w a) (sym e);
        promise = λ c p. subst Promise (sym q ∙ one_answer b c p) ok;
        refusal = λ y p. absurd (never b y p);
      }

  -- by an equation with another verdict and value, which are these
  pub given_by : (w : Verdict) (b : A) (r : Result A Refusal) → r ≡ answer_of w b → w ≡ v → (w ≡ Ok tt → b ≡ a) → (w ≡ Ok tt → Promise a) → ((x : Refusal) → v ≡ Err x → Allowed x)
      → Given v a Promise Allowed r
  given_by (Ok tt) b r e q same ok known = subst (Given v a Promise Allowed) (sym e) (given_answered b (sym q) (same refl) (ok refl))
  given_by (Err x) b r e q same ok known = subst (Given v a Promise Allowed) (sym e) (given_refused x (sym q) (known x (sym q)))

module _ {A : Type 0} (v : Verdict) (a : A) where
  -- what was answered is the value of an accepting verdict, and what was refused is the verdict's own refusal
  pub was_answered : (b : A) → Ok b ≡ answer_of v a → (v ≡ Ok tt) × (b ≡ a)
  was_answered b = go v
    where
      go : (w : Verdict) → Ok b ≡ answer_of w a → (w ≡ Ok tt) × (b ≡ a)
      go (Ok tt) e = (refl, one_answer b a e)
      go (Err x) e = absurd (never b x e)

  pub was_refused : (x : Refusal) → Err x ≡ answer_of v a → v ≡ Err x
  was_refused x = go v
    where
      go : (w : Verdict) → Err x ≡ answer_of w a → w ≡ Err x
      go (Ok tt) e = absurd (never a x (sym e))
      go (Err y) e = ap {B = Verdict} Err (one_refusal {A = A} y x (sym e))

-- ---- bytes at the front of a lent buffer

module _ (v : Verdict) (content : List ℕ) (Promise : ℕ → Type 0) (Allowed : Refusal → Type 0) (before : List ℕ) where
  pub front_refused : (x : Refusal) → v ≡ Err x → Allowed x → FrontWritten v content Promise Allowed before (Err x) before
  front_refused x e ok =
      let part : written_by v content ≡ [] = ap (λ (w : Verdict). written_by w content) e in
      record { given = given_refused v (length content) Promise Allowed x e ok; bytes = rw part; unchanged = λ y q. refl }

  pub front_put : v ≡ Ok tt → (r : ℕ) → r ≡ length content → Promise (length content) → (after : List ℕ) → after ≡ content ++ drop (length content) before
      → FrontWritten v content Promise Allowed before (Ok r) after
  front_put e r long ok after put =
      let part : written_by v content ≡ content = ap (λ (w : Verdict). written_by w content) e in
      record { given = given_answered v (length content) Promise Allowed r e long ok; bytes = rw part put; unchanged = λ y q. absurd (never r y q) }
