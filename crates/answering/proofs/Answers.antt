-- From a log judged to what a call answers.
-- Assumes nothing.
use mathlib.Core.Path.{◌≡◌, refl, ap, ◌∙◌}
use mathlib.Core.Bool.{Bool, true, false}
use mathlib.Core.List.{List}
use Prim.Native.Nat.{ℕ, ◌+◌, ◌<◌}
use native.Mathlib.Omega.{arith}
use lib.Dec.{leb}
use borrow.Author.Tests.{leb-true, leb-false, lt-leb}
use Rattle.records.specs.Log.{Log, decode}
use Rattle.rules.specs.declared.Refusal.{Refusal}
use Rattle.rules.specs.declared.Ground.TheVariants.{StrayModule}
use Rattle.rules.specs.declared.LogList.TheVariants.{NoList}
use Rattle.rules.specs.Grounds.{Verdict}
use Rattle.std.specs.declared.result.Result.TheVariants.{Ok, Err}
use Rattle.rules.specs.Grounds.{ground, ◌then◌}
use Rattle.rules.specs.Quantities.{all_times, time_in, tool_times, of_tool}
use Rattle.rules.specs.Verdict.{verdict, verdict_on}
use Rattle.rules.proofs.FirstGround.{not-met}
use Rattle.rules.proofs.KnownRefusals.{log-refusal}
use Rattle.rules.specs.Answers.{Given}
use Rattle.rules.specs.Refusals.{OfLog}
use Rattle.rules.proofs.Given.{given_refused, given_answered}
use Rattle.judging.specs.Working.{Consistent}
use Rattle.answering.specs.Calls.{OnModule, of_log, stray}
use Rattle.rules.proofs.SumLaws.{sum-add, sum_same}

-- ---- the tool's six times

pub tool-whole : (l : Log) → Consistent l → all_times (tool_times l) ≡ (of_tool l).total
tool-whole l s =
    let n = l.modules in
    let two = sum-add (time_in l 0) (time_in l 1) n in
    let three = sum-add (λ m. time_in l 0 m + time_in l 1 m) (time_in l 2) n in
    let four = sum-add (λ m. time_in l 0 m + time_in l 1 m + time_in l 2 m) (time_in l 3) n in
    let five = sum-add (λ m. time_in l 0 m + time_in l 1 m + time_in l 2 m + time_in l 3 m) (time_in l 4) n in
    let six = sum-add (λ m. time_in l 0 m + time_in l 1 m + time_in l 2 m + time_in l 3 m + time_in l 4 m) (time_in l 5) n in
    omega (arith, two, three, four, five, six, sum_same (λ m. time_in l 0 m + time_in l 1 m + time_in l 2 m + time_in l 3 m + time_in l 4 m + time_in l 5 m) (λ m. l.period) n s.whole)

-- ---- a module of an accepted log

module _ (s : List ℕ) (m : ℕ) where
  pub refused-on : (x : Refusal) → verdict s ≡ Err x → verdict_on s m ≡ Err x
  unfolding verdict_on
  refused-on x e = ap (λ (w : Verdict). w then ground StrayModule NoList m (leb (decode s).modules m)) e

  pub accepted-on : verdict s ≡ Ok tt → verdict_on s m ≡ ground StrayModule NoList m (leb (decode s).modules m)
  unfolding verdict_on
  accepted-on e = ap (λ (w : Verdict). w then ground StrayModule NoList m (leb (decode s).modules m)) e

  pub known-module : ground StrayModule NoList m (leb (decode s).modules m) ≡ Ok tt → m < (decode s).modules
  known-module e = leb-false (decode s).modules m (not-met StrayModule NoList m (leb (decode s).modules m) e)

  known-on : verdict s ≡ Ok tt → m < (decode s).modules → verdict_on s m ≡ Ok tt
  known-on e l = accepted-on e ∙ ap (λ (b : Bool). ground StrayModule NoList m b) (lt-leb (decode s).modules m l)

-- ---- answers

pub module-refusal : (s : List ℕ) (m : ℕ) (x : Refusal) → verdict_on s m ≡ Err x → OnModule s m x
unfolding verdict_on
module-refusal s m x e = go (verdict s) refl e
  where
    go : (v : Verdict) → verdict s ≡ v → v then ground StrayModule NoList m (leb (decode s).modules m) ≡ Err x → OnModule s m x
    go (Err y) f g = let q : y ≡ x = cc in of_log (log-refusal s x (f ∙ ap {B = Verdict} Err q))
    go (Ok tt) f g = at (leb (decode s).modules m) refl g
      where
        at : (b : Bool) → leb (decode s).modules m ≡ b → ground StrayModule NoList m b ≡ Err x → OnModule s m x
        at true p h = let q : x ≡ record { ground = StrayModule; list = NoList; place = m } = cc in stray f (leb-true (decode s).modules m p) q
        at false p h = let z : ◌≡◌ {A = ℕ} 0 1 = cc in absurd (omega arith)

-- ---- a call's answer, of any kind

module _ (s : List ℕ) {A : Type 0} (a : A) (Promise : A → Type 0) where
  pub tool_refused : (x : Refusal) → verdict s ≡ Err x → Given (verdict s) a Promise (OfLog s) (Err x)
  tool_refused x e = given_refused (verdict s) a Promise (OfLog s) x e (log-refusal s x e)

  pub tool_answered : (b : A) → verdict s ≡ Ok tt → b ≡ a → Promise a → Given (verdict s) a Promise (OfLog s) (Ok b)
  tool_answered b e q p = given_answered (verdict s) a Promise (OfLog s) b e q p

  module _ (m : ℕ) where
    pub module_refused : (x : Refusal) → verdict_on s m ≡ Err x → Given (verdict_on s m) a Promise (OnModule s m) (Err x)
    module_refused x e = given_refused (verdict_on s m) a Promise (OnModule s m) x e (module-refusal s m x e)

    pub module_answered : (b : A) → verdict s ≡ Ok tt → m < (decode s).modules → b ≡ a → Promise a → Given (verdict_on s m) a Promise (OnModule s m) (Ok b)
    module_answered b e l q p = given_answered (verdict_on s m) a Promise (OnModule s m) b (known-on s m e l) q p
