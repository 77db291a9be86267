-- Lists of which each record has a property, and lists of which each comes before all behind it.
-- Definitions only.
use Rattle.std.specs.Prelude.{◌≡◌, ℕ, true, List, [], ◌∷◌}
use Rattle.rules.specs.Sequence.{is_below}

-- each of a list has a property
abbrev pub Each : {A : Type 0} → (A → Type 0) → List A → Type 0
Each P [] = Unit {0}
Each P (r ∷ rs) = P r × Each P rs

-- each of a list comes before all behind it
abbrev pub Ordered : {A : Type 0} → (A → A → Type 0) → List A → Type 0
Ordered Below [] = Unit {0}
Ordered Below (r ∷ rs) = Each (Below r) rs × Ordered Below rs

-- r's key is below q's
abbrev pub Before : {A : Type 0} → (A → List ℕ) → A → A → Type 0
Before key r q = is_below (key r) (key q) ≡ true

-- a list that rises by its keys
abbrev pub Rises : {A : Type 0} → (A → List ℕ) → List A → Type 0
Rises key rs = Ordered (Before key) rs
