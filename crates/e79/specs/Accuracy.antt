-- What the doubles are worth, in whole numbers. A finite double x stands for num x / den x, with a minus sign where it is negative, and den x is a power of two (`lib.Ieee.Positive`).
-- Every comparison is one of fractions, with all denominators multiplied out. Definitions only.
use Rattle.std.specs.Prelude.{◌≡◌, ◌↔◌, Bool, true, false, ℕ, ◌+◌, ◌-◌, ◌*◌, ◌^◌, ◌≤◌, ◌<◌, T, Option, Some, None}
use lib.Ieee.{Float, nan, inf, fin, binary64, fits}
use Rattle.std.specs.Float.Ieee.Scale.{finite}
use Rattle.std.specs.Float.Ieee.Positive.{num, den}
use Rattle.e79.specs.declared.Quantities.{Quantities}
use Rattle.e79.specs.declared.Figures.{Figures}
use Rattle.e79.specs.Doubles.{combined, left_to_right, figures_of}

-- |a - b|: one of the two differences is cut off at 0
abbrev pub gap : ℕ → ℕ → ℕ
gap a b = (a - b) + (b - a)

-- x has a minus sign
abbrev pub negative : Float → Bool
negative nan = false
negative (inf s) = s
negative (fin s m e) = s

-- the distance |x - n / d| of a finite x, times den x * d: a negative x lies on the other side of 0
unfoldable pub off : Float → ℕ → ℕ → ℕ
off nan n d = 0
off (inf s) n d = 0
off (fin false m e) n d = gap (num (fin false m e) * d) (n * den (fin false m e))
off (fin true m e) n d = num (fin true m e) * d + n * den (fin true m e)

-- x is a finite double, and every finite double y lies at least as far from n / d: |x - n / d| ≤ |y - n / d|, times den x * den y * d
pub record Nearest (x : Float) (n d : ℕ) : Type 0 where
  pub is_double : T (fits binary64 x)
  pub is_finite : T (finite x)
  pub nearest : (y : Float) → T (fits binary64 y) → T (finite y) → off x n d * den y ≤ off y n d * den x

-- x is a finite double from 0 to 1, it is 0 exactly where n / d is, and it differs from n / d by at most one part in 2 ^ 50 of it: |x - n / d| * 2 ^ 50 ≤ n / d, times den x * d
pub record Proper (x : Float) (n d : ℕ) : Type 0 where
  pub is_double : T (fits binary64 x)
  pub is_finite : T (finite x)
  pub from_zero : negative x ≡ false
  pub to_one : num x ≤ den x
  pub zero_only : (num x ≡ 0) ↔ (n ≡ 0)
  pub within : off x n d * 2 ^ 50 ≤ n * den x

-- an efficiency with a base is nearest to n / d, and d is 0 exactly where there is none
unfoldable pub NearestEfficiency : Option Float → ℕ → ℕ → Type 0
NearestEfficiency (Some x) n d = (0 < d) × Nearest x n d
NearestEfficiency None n d = d ≡ 0

-- what a set of doubles is promised to be: what it is computed as, with the product that of the four efficiencies in it, and what it is worth
pub record Accurate (q : Quantities) (r : Figures) : Type 0 where
  pub computed : r ≡ figures_of q
  pub multiplied : r.product ≡ combined left_to_right r.availability r.operational r.rate r.quality
  pub nearest : Nearest r.oee q.effective q.total
  pub proper : Proper r.product q.effective q.total
  pub availability_nearest : NearestEfficiency r.availability q.uptime q.total
  pub operational_nearest : NearestEfficiency r.operational q.production q.uptime
  pub rate_nearest : NearestEfficiency r.rate q.actual q.production
  pub quality_nearest : NearestEfficiency r.quality q.effective q.actual
