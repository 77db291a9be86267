-- From what a call of `tool_log` answers to what its C function hands over.
-- Assumes nothing.
use mathlib.Core.Path.{◌≡◌, ap, ◌∙◌, subst}
use mathlib.Core.List.{List, [], ◌∷◌}
use Prim.Native.Nat.{ℕ}
use lib.Ieee.{Float}
use Rattle.std.specs.Prelude.{Option, Some, None, MatchOption}
use Rattle.std.specs.Result.{MatchResult}
use Rattle.std.specs.declared.result.Result.{Result}
use Rattle.std.specs.declared.result.Result.TheVariants.{Ok, Err}
use Rattle.e79.specs.declared.Quantities.{Quantities}
use Rattle.e79.specs.declared.Figures.{Figures}
use Rattle.e79.specs.Doubles.{figures_of}
use Rattle.e79.specs.Accuracy.{Accurate}
use Rattle.rules.specs.declared.Refusal.{Refusal}
use Rattle.rules.specs.Grounds.{Verdict}
use Rattle.records.specs.Log.{decode}
use Rattle.rules.specs.Theoretical.{in_force}
use Rattle.rules.specs.Verdict.{verdict_on}
use Rattle.rules.specs.Answers.{answer_of, verdict_of, Given, FrontWritten}
use Rattle.rules.proofs.Given.{own_verdict}
use Rattle.writing.specs.Writing.{Entry, Added}
use Rattle.crediting.specs.declared.InForce.{InForce}
use Rattle.crediting.specs.Calls.{in_force_of, StandardInForce}
use Rattle.packed.specs.Packs.{Packs}
use Rattle.telling.specs.Arrays.{refusal_of, ratios_of, bases_of}
use Rattle.telling.specs.Told.{answer_or, found_flag, found_or, Told}
use Rattle.tool_log_c.specs.Calls.{Promised, Tells, TellsNumbers, TellsDoubles, TellsAdding, TellsFront, TellsPack, TellsInForce}

-- ---- every kind of answer

module _ {A : Type 0} {v : Verdict} {a : A} {Promise : A → Type 0} {Allowed : Refusal → Type 0} {r : Result A Refusal} (g : Given v a Promise Allowed r) where
  -- what is promised of an answer is promised of the verdict's value
  promised : Promised v (Promise a) Allowed
  promised =
      record {
        promise = λ p. g.promise a (g.answer ∙ ap (λ (w : Verdict). answer_of w a) p);
        refusal = λ x p. g.refusal x (g.answer ∙ ap (λ (w : Verdict). answer_of w a) p);
      }

  -- what an array holds after an answer
  after-in : {X : Type 0} (f : A → List X) (before after : List X) → MatchResult r (λ b. after ≡ f b) (λ x. after ≡ before) → after ≡ answer_or v (f a) before
  after-in {X} f before after m = at v (subst (λ (s : Result A Refusal). MatchResult s (λ b. after ≡ f b) (λ x. after ≡ before)) g.answer m)
    where
      at : (w : Verdict) → MatchResult (answer_of w a) (λ b. after ≡ f b) (λ x. after ≡ before) → after ≡ answer_or w (f a) before
      at (Ok u) e = e
      at (Err x) e = e

module _ {flag : ℕ} {refusal : List ℕ} where
  told_of : {v w : Verdict} → w ≡ v → Told w flag refusal → Told v flag refusal
  told_of p t = subst (λ (x : Verdict). Told x flag refusal) p t

  told-in : {A : Type 0} {v : Verdict} {a : A} {Promise : A → Type 0} {Allowed : Refusal → Type 0} {r : Result A Refusal} → Given v a Promise Allowed r → Told (verdict_of r) flag refusal → Told v flag refusal
  told-in {v = v} {a = a} g t = told_of (ap verdict_of g.answer ∙ own_verdict v a) t

  -- a verdict
  pub told_as : {v w : Verdict} {Allowed : Refusal → Type 0} → w ≡ v → ((x : Refusal) → w ≡ Err x → Allowed x) → Told w flag refusal → Tells v Allowed flag refusal
  told_as e known t = record { told = told_of e t; known = λ x p. known x (e ∙ p) }

  -- whole numbers
  pub numbers_told : {A : Type 0} {v : Verdict} {a : A} {Promise : A → Type 0} {Allowed : Refusal → Type 0} {r : Result A Refusal} → Given v a Promise Allowed r
      → (f : A → List ℕ) (before after : List ℕ) → Told (verdict_of r) flag refusal → MatchResult r (λ b. after ≡ f b) (λ x. after ≡ before)
      → TellsNumbers v (f a) before (Promise a) Allowed flag after refusal
  numbers_told g f before after t m = record { told = told-in g t; array = after-in g f before after m; known = promised g }

  -- doubles
  pub doubles_told : {v : Verdict} {q : Quantities} {Allowed : Refusal → Type 0} {r : Result Figures Refusal} → Given v (figures_of q) (Accurate q) Allowed r
      → (before after : List Float) (basedBefore based : List ℕ) → Told (verdict_of r) flag refusal → MatchResult r (λ f. after ≡ ratios_of f) (λ x. after ≡ before)
      → MatchResult r (λ f. based ≡ bases_of f) (λ x. based ≡ basedBefore) → TellsDoubles v q before basedBefore Allowed flag after based refusal
  doubles_told g before after basedBefore based t m b =
      record { told = told-in g t; doubles = after-in g ratios_of before after m; bases = after-in g bases_of basedBefore based b; known = promised g }

  -- an adding call
  pub adding_told : {e : Entry} {before after : List ℕ} {at : ℕ} {r : Result ℕ Refusal} → Added e before at r after → (nextBefore next : List ℕ) → Told (verdict_of r) flag refusal
      → MatchResult r (λ n. next ≡ n ∷ []) (λ x. next ≡ nextBefore) → TellsAdding e before at nextBefore flag after next refusal
  adding_told a nextBefore next t m = record { told = numbers_told a.given (λ n. n ∷ []) nextBefore next t m; bytes = a.bytes }

  -- what is written to the front of a buffer
  pub front_told : {v : Verdict} {content : List ℕ} {Promise : ℕ → Type 0} {Allowed : Refusal → Type 0} {before after : List ℕ} {r : Result ℕ Refusal} → FrontWritten v content Promise Allowed before r after → (lengthBefore length : List ℕ) → Told (verdict_of r) flag refusal
      → MatchResult r (λ n. length ≡ n ∷ []) (λ x. length ≡ lengthBefore) → TellsFront v content Promise Allowed before lengthBefore flag after length refusal
  front_told w lengthBefore length t m = record { told = numbers_told w.given (λ n. n ∷ []) lengthBefore length t m; bytes = w.bytes }

  -- what is left in a buffer
  pub pack_told : {before after : List ℕ} {r : Result ℕ Refusal} → Packs before r after → (lengthBefore length : List ℕ) → Told (verdict_of r) flag refusal
      → MatchResult r (λ n. length ≡ n ∷ []) (λ x. length ≡ lengthBefore) → TellsPack before lengthBefore flag after length refusal
  pack_told p lengthBefore length t m = record { told = numbers_told p.given (λ n. n ∷ []) lengthBefore length t m; bytes = p.bytes }

-- what is found
pub found_told : {s : List ℕ} {m recipe time : ℕ} {r : Result (Option InForce) Refusal} → StandardInForce s m recipe time r → (flag : ℕ) (before after refusal : List ℕ)
    → MatchResult r (λ o. MatchOption o (flag ≡ 2) (λ f. flag ≡ 1)) (λ x. flag ≡ 0) → refusal ≡ refusal_of (verdict_of r)
    → MatchResult r (λ o. MatchOption o (after ≡ before) (λ f. after ≡ f.index ∷ f.time ∷ [])) (λ x. after ≡ before) → TellsInForce s m recipe time before flag after refusal
found_told {s} {m} {recipe} {time} g flag before after refusal q why e =
    let o = in_force_of (in_force (decode s).standards m recipe time) in
    record {
      flag = flagged (verdict_on s m) o (subst (λ (r : Result (Option InForce) Refusal). MatchResult r (λ o. MatchOption o (flag ≡ 2) (λ f. flag ≡ 1)) (λ x. flag ≡ 0)) g.answer q);
      why = why ∙ ap refusal_of (ap verdict_of g.answer ∙ own_verdict (verdict_on s m) o);
      array = held (verdict_on s m) o (subst (λ (r : Result (Option InForce) Refusal). MatchResult r (λ o. MatchOption o (after ≡ before) (λ f. after ≡ f.index ∷ f.time ∷ [])) (λ x. after ≡ before)) g.answer e);
      known = promised g;
    }
  where
    flagged : (w : Verdict) (o : Option InForce) → MatchResult (answer_of w o) (λ o. MatchOption o (flag ≡ 2) (λ f. flag ≡ 1)) (λ x. flag ≡ 0) → flag ≡ found_flag w o
    flagged (Ok u) None p = p
    flagged (Ok u) (Some f) p = p
    flagged (Err x) o p = p

    held : (w : Verdict) (o : Option InForce) → MatchResult (answer_of w o) (λ o. MatchOption o (after ≡ before) (λ f. after ≡ f.index ∷ f.time ∷ [])) (λ x. after ≡ before) → after ≡ found_or (λ f. f.index ∷ f.time ∷ []) w o before
    held (Ok u) None p = p
    held (Ok u) (Some f) p = p
    held (Err x) o p = p

-- for the check to try
pub ruleset handing = (told_as, numbers_told, doubles_told, adding_told, front_told, pack_told, found_told)
