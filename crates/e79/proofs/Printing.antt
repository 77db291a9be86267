-- The printed figure, by its definition, is the nearest whole number, a half going up, and at most 10,000 (1.0000); and two steps of times 100 come to the
-- quotient rounded down and what is left, and these to the printed figure. Assumes nothing.
use mathlib.Core.Path.{◌≡◌, sym, ap}
use mathlib.Core.Logic.{inl, inr}
use Prim.Native.Nat.{ℕ, zero, suc, ◌+◌, ◌*◌, ◌/◌, ◌%◌, ◌≤◌, ◌<◌}
use native.Mathlib.Nat.{zero-lt-suc, mul_right_comm, mul_left_comm, mul-le-mul_right, add-mul, one-mul, suc-mul, mod-lt, div-add-mod', div-eq_of_lt-le, div-mul-le_self, lt-div-mul-add, div-lt_iff_lt-mul, div-le_of_le-mul}
use native.Mathlib.Omega.{arith}
use Rattle.std.specs.Prelude.{Some}
use Rattle.std.proofs.lemmas.Bool.{cases_lt}
use Rattle.std.proofs.lemmas.Option.{none-some, same_Some}
use Rattle.e79.specs.Quantities.{based}
use Rattle.e79.specs.Printed.{rounded_of, printed_of, NearestWhole}

-- ---- r is the printed figure of n / d where 10,000 n / d lies from r - 1 / 2 on and below r + 1 / 2, here times 2 d and with d added
bounds : (n d : ℕ) → 0 < d → (2 * (rounded_of n d * d) ≤ 20000 * n + d) × (20000 * n + d < 2 * (rounded_of n d * d) + 2 * d)
unfolding rounded_of
bounds n d D =
    let e : rounded_of n d * (2 * d) ≡ 2 * (rounded_of n d * d) = mul_left_comm (rounded_of n d) 2 d in
    let D2 : 0 < 2 * d = omega arith in
    (rw e at (div-mul-le_self (20000 * n + d) (2 * d)), rw e at (lt-div-mul-add {a = 20000 * n + d} {b = 2 * d} D2))

only : (w n d : ℕ) → 2 * (w * d) ≤ 20000 * n + d → 20000 * n + d < 2 * (w * d) + 2 * d → w ≡ rounded_of n d
unfolding rounded_of
only w n d l h = sym (div-eq_of_lt-le (2 * d) (rw (mul_left_comm w 2 d) l) (rw (add-mul w 1 (2 * d), one-mul, mul_left_comm w 2 d) h))

-- ---- the promises
-- a smaller whole number is at least one smaller, times d
less : (d : ℕ) {m r : ℕ} → m < r → m * d + d ≤ r * d
less d h = rw suc-mul at (mul-le-mul_right d h)

pub rounded-nearest : (n d : ℕ) → 0 < d → NearestWhole (rounded_of n d) n d
rounded-nearest n d D =
    let r = rounded_of n d in
    let b = bounds n d D in
    record {
      nearest = λ m. elim (cases_lt r m) [
        | inl l ↦ omega (arith, less d l)
        | inr k ↦ elim (cases_lt m r) [ inl l ↦ omega (arith, less d l) | inr l ↦ omega (arith, mul-le-mul_right d k, mul-le-mul_right d l) ]
      ];
      half_up = λ m e. elim (cases_lt r m) [ inl l ↦ omega (arith, less d l) | inr l ↦ l ];
    }

pub rounded-le-one : (n d : ℕ) → 0 < d → n ≤ d → rounded_of n d ≤ 10000
unfolding rounded_of
rounded-le-one n d D h =
    let D2 : 0 < 2 * d = omega arith in
    let l : rounded_of n d < 10001 = (div-lt_iff_lt-mul D2).1 (omega arith) in
    omega arith

-- as promises of what is printed: a figure is printed where the denominator is not 0, it is nearest, and it is at most 1.0000
pub printed-figure : (n d f : ℕ) → printed_of n d ≡ Some f → (0 < d) × NearestWhole f n d
unfolding printed_of based
printed-figure n zero f e = absurd (none-some f e)
printed-figure n (suc d) f e = let g : rounded_of n (suc d) ≡ f = same_Some _ _ e in (zero-lt-suc d, rw g at (rounded-nearest n (suc d) (zero-lt-suc d)))

pub printed-le-one : (n d f : ℕ) → n ≤ d → printed_of n d ≡ Some f → f ≤ 10000
unfolding printed_of based
printed-le-one n zero f h e = absurd (none-some f e)
printed-le-one n (suc d) f h e = omega (arith, same_Some _ _ e, rounded-le-one n (suc d) (zero-lt-suc d) h)

-- ---- two steps of times 100
-- of a number up to the denominator, a step leaves a quotient up to 100 and a rest below the denominator
pub step : (x d : ℕ) → x ≤ d → 0 < d → (x * 100 / d ≤ 100) × (x * 100 % d < d)
step x d h D = (div-le_of_le-mul d (mul-le-mul_right 100 h), mod-lt (x * 100) D)

module _ (n d : ℕ) where
  abbrev whole : ℕ
  whole = n * 100 / d * 100 + n * 100 % d * 100 / d

  abbrev rest : ℕ
  rest = n * 100 % d * 100 % d

  steps : whole * d + rest ≡ 10000 * n
  steps = rw (add-mul, mul_right_comm (n * 100 / d) 100 d) (omega (arith, div-add-mod' (n * 100) d, div-add-mod' (n * 100 % d * 100) d))

  pub steps_whole : 0 < d → whole ≡ 10000 * n / d
  steps_whole D = sym (div-eq_of_lt-le d (omega (arith, steps)) (rw (add-mul whole 1 d, one-mul) (omega (arith, steps, mod-lt (n * 100 % d * 100) D))))

  pub steps_rest : 0 < d → rest ≡ 10000 * n % d
  steps_rest D =
      let w : whole * d ≡ 10000 * n / d * d = ap (λ (x : ℕ). x * d) (steps_whole D) in
      omega (arith, w, steps, div-add-mod' (10000 * n) d)

  -- ---- what is left then is less than half of the denominator, or not
  pub half_not_reached : 10000 * n % d * 2 < d → 10000 * n / d ≡ rounded_of n d
  half_not_reached h = only (10000 * n / d) n d (omega (arith, div-add-mod' (10000 * n) d)) (omega (arith, div-add-mod' (10000 * n) d))

  pub half_reached : 0 < d → d ≤ 10000 * n % d * 2 → 10000 * n / d + 1 ≡ rounded_of n d
  half_reached D h =
      let e = div-add-mod' (10000 * n) d in
      let l = mod-lt (10000 * n) D in
      only (10000 * n / d + 1) n d (rw (add-mul (10000 * n / d) 1 d, one-mul) (omega (arith, e, l))) (rw (add-mul (10000 * n / d) 1 d, one-mul) (omega (arith, e, l)))
