-- The laws of a sum over modules, over standards, or over the parts of a total.
-- Assumes nothing.
use mathlib.Core.Path.{◌≡◌, refl, sym}
use Prim.Native.Nat.{ℕ, zero, suc, ◌+◌, ◌*◌, ◌≤◌, ◌<◌}
use native.Mathlib.Nat.{mul-suc, mul-zero, zero-mul, add-mul}
use native.Mathlib.Numerals.{add-one}
use native.Mathlib.Decide.{ℕ_discrete}
use native.Mathlib.Omega.{arith}
use Rattle.rules.specs.Quantities.{sum_below}

pub sum-none : (f : ℕ → ℕ) → sum_below f 0 ≡ 0
unfolding sum_below
sum-none f = refl

pub sum_more : (f : ℕ → ℕ) (n : ℕ) → sum_below f (n + 1) ≡ sum_below f n + f n
unfolding sum_below
sum_more f n = rw (add-one n)

pub sum_same : (f g : ℕ → ℕ) (n : ℕ) → ((m : ℕ) → m < n → f m ≡ g m) → sum_below f n ≡ sum_below g n
unfolding sum_below
sum_same f g zero h = refl
sum_same f g (suc n) h = rw (sum_same f g n (λ m l. h m (omega arith)), h n (omega arith))

pub sum-le : (f g : ℕ → ℕ) (n : ℕ) → ((m : ℕ) → m < n → f m ≤ g m) → sum_below f n ≤ sum_below g n
unfolding sum_below
sum-le f g zero h = omega arith
sum-le f g (suc n) h = omega (arith, sum-le f g n (λ m l. h m (omega arith)), h n (omega arith))

-- with one of them less, and none more, the sum is less
pub sum-lt : (f g : ℕ → ℕ) (n b : ℕ) → b < n → f b < g b → ((m : ℕ) → m < n → f m ≤ g m) → sum_below f n < sum_below g n
unfolding sum_below
sum-lt f g zero b l s h = absurd (omega arith)
sum-lt f g (suc n) b l s h = elim (ℕ_discrete b n) [
  | yes e ↦ omega (arith, sum-le f g n (λ m l. h m (omega arith)), rw e at s)
  | no ne ↦ omega (arith, sum-lt f g n b (omega (arith, ne)) s (λ m l. h m (omega arith)), h n (omega arith))
]

pub sum-times : (f : ℕ → ℕ) (d n : ℕ) → sum_below (λ m. f m * d) n ≡ sum_below f n * d
unfolding sum_below
sum-times f d zero = sym (zero-mul d)
sum-times f d (suc n) = rw (sum-times f d n) (sym (add-mul (sum_below f n) (f n) d))

-- one number for each module
pub sum-each : (p n : ℕ) → sum_below (λ m. p) n ≡ p * n
unfolding sum_below
sum-each p zero = rw (mul-zero p)
sum-each p (suc n) = rw (sum-each p n, mul-suc p n)

-- none above a bound
pub sum_low : (f : ℕ → ℕ) (bound n : ℕ) → ((m : ℕ) → m < n → f m ≤ bound) → sum_below f n ≤ bound * n
sum_low f bound n h = rw (← sum-each bound n) (sum-le f (λ m. bound) n h)

-- two sums are one
pub sum-add : (f g : ℕ → ℕ) (n : ℕ) → sum_below f n + sum_below g n ≡ sum_below (λ m. f m + g m) n
unfolding sum_below
sum-add f g zero = refl
sum-add f g (suc n) = omega (arith, sum-add f g n)
