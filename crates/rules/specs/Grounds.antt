-- The first ground met: how tests are put in sequence.
-- Definitions only.
use Rattle.std.specs.Prelude.{⊤, ℕ, zero, suc, Bool, true, false, List, [], ◌∷◌, ◌++◌}
use Rattle.std.specs.declared.result.Result.{Result}
use Rattle.std.specs.declared.result.Result.TheVariants.{Ok, Err}
use Rattle.rules.specs.declared.Ground.{Ground}
use Rattle.rules.specs.declared.LogList.{LogList}
use Rattle.rules.specs.declared.Refusal.{Refusal}

-- a log is accepted, or refused
abbrev pub Verdict : Type 0
Verdict = Result ⊤ Refusal

-- the refusal for a ground, at a place of a list
abbrev pub refusal : Ground → LogList → ℕ → Refusal
refusal g list place = record { ground = g; list = list; place = place }

-- a ground: refused at this place of this list where the test holds
abbrev pub ground : Ground → LogList → ℕ → Bool → Verdict
ground g list place true = Err (refusal g list place)
ground g list place false = Ok tt

-- the second is asked only where the first accepts
infixr 40 ◌then◌
abbrev pub ◌then◌ : Verdict → Verdict → Verdict
(Ok tt) then v = v
(Err r) then v = Err r

-- the first refusal among g 0, g 1, .. , g (n - 1)
unfoldable pub first_of : (ℕ → Verdict) → ℕ → Verdict
first_of g zero = Ok tt
first_of g (suc n) = first_of g n then g n

-- the first refusal of records tested one by one, each with those before it and its index; `earlier` has those before, i of them
unfoldable pub in_turn : {A : Type 0} → (List A → ℕ → A → Verdict) → List A → ℕ → List A → Verdict
in_turn g earlier i [] = Ok tt
in_turn g earlier i (r ∷ rs) = g earlier i r then in_turn g (earlier ++ (r ∷ [])) (suc i) rs

abbrev pub each_of : {A : Type 0} → (List A → ℕ → A → Verdict) → List A → Verdict
each_of g rs = in_turn g [] 0 rs
