-- What is printed, in ten-thousandths. Definitions only.
use Rattle.std.specs.Prelude.{◌≡◌, ℕ, ◌+◌, ◌*◌, ◌/◌, ◌≤◌, Option, Some, None}
use Rattle.e79.specs.Quantities.{based}
use Rattle.e79.specs.Accuracy.{gap}

-- 10,000 n / d to the nearest whole number, an exact half going up: the whole part of 10,000 n / d + 1 / 2
unfoldable pub rounded_of : ℕ → ℕ → ℕ
rounded_of n d = (20000 * n + d) / (2 * d)

-- a printed figure, or "no base"
unfoldable pub printed_of : ℕ → ℕ → Option ℕ
printed_of n d = based d None (Some (rounded_of n d))

-- r is the whole number nearest to 10,000 n / d, and of two that are equally near the greater; distances are times d
pub record NearestWhole (r n d : ℕ) : Type 0 where
  pub nearest : (m : ℕ) → gap (r * d) (10000 * n) ≤ gap (m * d) (10000 * n)
  pub half_up : (m : ℕ) → gap (m * d) (10000 * n) ≡ gap (r * d) (10000 * n) → m ≤ r
