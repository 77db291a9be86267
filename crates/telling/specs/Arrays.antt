-- How an answer stands in the arrays that a caller lends.
-- Definitions only.
use Rattle.std.specs.Prelude.{List, [], ◌∷◌, ℕ, Float, Option, Some, None}
use Rattle.std.specs.Float.{nan}
use Rattle.e79.specs.declared.Figures.{Figures}
use Rattle.rules.specs.Grounds.{Verdict}
use Rattle.rules.specs.Refusals.{three_of}
use Rattle.std.specs.declared.result.Result.TheVariants.{Ok, Err}

-- number, list and place, and zeros where nothing is refused
abbrev pub refusal_of : Verdict → List ℕ
refusal_of (Ok tt) = 0 ∷ 0 ∷ 0 ∷ []
refusal_of (Err x) = three_of x

-- an efficiency's double, and NaN where it has no base
abbrev pub ratio_of : Option Float → Float
ratio_of (Some x) = x
ratio_of None = nan

-- 1 where an efficiency has a base, else 0
abbrev pub base_of : Option Float → ℕ
base_of (Some x) = 1
base_of None = 0

-- availability, operational, rate, quality, OEE, product
abbrev pub ratios_of : Figures → List Float
ratios_of f = ratio_of f.availability ∷ ratio_of f.operational ∷ ratio_of f.rate ∷ ratio_of f.quality ∷ f.oee ∷ f.product ∷ []

-- which of the first four have a base
abbrev pub bases_of : Figures → List ℕ
bases_of f = base_of f.availability ∷ base_of f.operational ∷ base_of f.rate ∷ base_of f.quality ∷ []
