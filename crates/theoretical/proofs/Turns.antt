-- Records tested in turn, one more at a time.
-- Assumes nothing.
use mathlib.Core.Path.{◌≡◌, sym, ◌∙◌}
use mathlib.Core.List.{List}
use Prim.Native.Nat.{ℕ, ◌+◌, ◌<◌}
use Rattle.records.specs.Log.{up_to}
use Rattle.std.specs.declared.result.Result.TheVariants.{Ok, Err}
use Rattle.rules.specs.declared.Refusal.{Refusal}
use Rattle.rules.specs.Grounds.{Verdict, each_of}
use Rattle.rules.proofs.FirstGround.{first_more, first_stop, turn_range}

module _ {A : Type 0} (g : List A → ℕ → A → Verdict) (at : ℕ → A) where
  pub turn_more : (i : ℕ) → each_of g (up_to at i) ≡ Ok tt → g (up_to at i) i (at i) ≡ Ok tt → each_of g (up_to at (i + 1)) ≡ Ok tt
  turn_more i a e = turn_range g at (i + 1) ∙ first_more (λ i. g (up_to at i) i (at i)) i (sym (turn_range g at i) ∙ a) e

  pub turn_stop : (n i : ℕ) (x : Refusal) → i < n → each_of g (up_to at i) ≡ Ok tt → g (up_to at i) i (at i) ≡ Err x → each_of g (up_to at n) ≡ Err x
  turn_stop n i x h a e = turn_range g at n ∙ first_stop (λ i. g (up_to at i) i (at i)) n i x h (sym (turn_range g at i) ∙ a) e
