-- The table gives the definition's state of each of the 24 codes, and that is one of the six: antt computes the test of every entry.
-- Assumes nothing.
use mathlib.Core.Path.{◌≡◌, refl}
use mathlib.Core.Bool.{true}
use Prim.Native.Nat.{ℕ, ◌<◌}
use lib.Dec.{eqb, ltb}
use lib.ListN.{get_or}
use borrow.Author.Tests.{eqb-true, ltb-true}
use Rattle.std.proofs.lemmas.Bool.{agree_below_at}
use Rattle.rules.specs.Time.{states, state_of}
use Rattle.states.specs.State.{number}
use Rattle.states.specs.declared.State.TheVariants.{Productive}
use Rattle.states.specs.declared.TheConstants.{STATES}

pub table-state : (code : ℕ) → code < 24 → number (get_or STATES code Productive) ≡ state_of code
unfolding state_of
table-state code h = eqb-true _ _ (agree_below_at (λ k. eqb (number (get_or STATES k Productive)) (state_of k)) (λ _. true) 24 code refl h)

-- the same of the definition's own table
pub rule-state : (code : ℕ) → code < 24 → get_or states code 0 ≡ state_of code
unfolding state_of
rule-state code h = eqb-true _ _ (agree_below_at (λ k. eqb (get_or states k 0) (state_of k)) (λ _. true) 24 code refl h)

pub state-low : (code : ℕ) → code < 24 → state_of code < 6
unfolding state_of
state-low code h = ltb-true _ _ (agree_below_at (λ k. ltb (state_of k) 6) (λ _. true) 24 code refl h)
