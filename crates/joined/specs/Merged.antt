-- Two rising lists merged into one.
-- Definitions only.
use Rattle.std.specs.Prelude.{ℕ, cond, List, [], ◌∷◌}
use Rattle.rules.specs.Sequence.{is_below}

-- a record put into its place in a rising list: ahead of the first whose key is above its own
unfoldable pub placed_in : {A : Type 0} → (A → List ℕ) → A → List A → List A
unfolding is_below
placed_in key s [] = s ∷ []
placed_in key s (r ∷ rs) = cond (is_below (key s) (key r)) (s ∷ (r ∷ rs)) (r ∷ placed_in key s rs)

-- each record of the second list put into its place in the first
unfoldable pub merged : {A : Type 0} → (A → List ℕ) → List A → List A → List A
unfolding placed_in
merged key rs [] = rs
merged key rs (s ∷ ss) = placed_in key s (merged key rs ss)
