-- The product in turn has seven roundings behind it, so it is `Proper`. Where one of the four has no base, effective is 0, and so is the product. Assumes nothing.
use mathlib.Core.Path.{◌≡◌, refl}
use Prim.Native.Nat.{ℕ, zero, suc, ◌*◌, ◌<◌}
use native.Mathlib.Nat.{zero-lt-suc, lt_irrefl, zero-mul, mul_assoc, mul_comm, mul_left_comm, mul-pos}
use native.Mathlib.Omega.{arith}
use lib.Ieee.{Float, binary64, fits}
use lib.Ieee.Fits.{mul-fits}
use lib.Dec.{lit≤}
use Rattle.e79.specs.declared.Quantities.{Quantities}
use Rattle.e79.specs.Quantities.{Ordered, based}
use Rattle.e79.specs.Doubles.{quotient_of, efficiency_of, combined, left_to_right, nothing, figures_of}
use Rattle.e79.specs.Accuracy.{off, Proper, Accurate}
use Rattle.e79.proofs.Within.{Within, product, proper}
use Rattle.e79.proofs.Quotients.{quotient-within, quotient-nearest, efficiency-nearest}

-- ---- four quotients of one rounding each, and three multiplications
four : {a o r q : Float} {na da no do' nr dr nq dq : ℕ} → Within 1 a na da → Within 1 o no do' → Within 1 r nr dr → Within 1 q nq dq
    → Within 7 (left_to_right a o r q) (na * no * nr * nq) (da * do' * dr * dq)
four a o r q = product (lit≤ tt) (product (lit≤ tt) (product (lit≤ tt) a o) r) q

-- uptime, production and actual cancel
cancel : (t u p a e : ℕ) → u * p * a * e * t ≡ e * (t * u * p * a)
cancel t u p a e = simp (mul_assoc, mul_comm, mul_left_comm)

based-proper : (q : Quantities) → Ordered q → 0 < q.actual → Proper (left_to_right (quotient_of q.uptime q.total) (quotient_of q.production q.uptime) (quotient_of q.actual q.production) (quotient_of q.effective q.actual)) q.effective q.total
based-proper q h A =
    let P : 0 < q.production = omega arith in
    let U : 0 < q.uptime = omega arith in
    proper q.effective q.total (mul-fits binary64 _ _) (mul-pos (mul-pos (mul-pos h.begun U) P) A) h.begun (cancel q.total q.uptime q.production q.actual q.effective)
    (four
    (quotient-within _ _ (record { part = h.uptime_total; few = h.few }) h.begun)
    (quotient-within _ _ (record { part = h.production_uptime; few = omega arith }) U)
    (quotient-within _ _ (record { part = h.actual_production; few = omega arith }) P)
    (quotient-within _ _ (record { part = h.effective_actual; few = omega arith }) A))

-- ---- 0 is the right product where nothing is effective
nothing-proper : (n d : ℕ) → n ≡ 0 → Proper nothing n d
unfolding off fits
nothing-proper n d z = record {
  is_double = tt;
  is_finite = tt;
  from_zero = refl;
  to_one = lit≤ tt;
  zero_only = (λ e. z, λ e. refl);
  within = rw (z, zero-mul d) (lit≤ tt);
}

product-proper : (t u p a e : ℕ) → Ordered (record { total = t; uptime = u; production = p; actual = a; effective = e })
    → Proper (combined left_to_right (efficiency_of u t) (efficiency_of p u) (efficiency_of a p) (efficiency_of e a)) e t
unfolding combined efficiency_of based
product-proper zero u p a e h = absurd (lt_irrefl 0 h.begun)
product-proper (suc t) zero p a e h = nothing-proper e (suc t) (omega arith)
product-proper (suc t) (suc u) zero a e h = nothing-proper e (suc t) (omega arith)
product-proper (suc t) (suc u) (suc p) zero e h = nothing-proper e (suc t) (omega arith)
product-proper (suc t) (suc u) (suc p) (suc a) e h = based-proper (record { total = suc t; uptime = suc u; production = suc p; actual = suc a; effective = e }) h (zero-lt-suc a)

-- ---- the whole set
pub accurate : (q : Quantities) → Ordered q → Accurate q (figures_of q)
unfolding figures_of
accurate q h = record {
  computed = refl;
  multiplied = refl;
  nearest = quotient-nearest q.effective q.total (record { part = omega arith; few = h.few }) h.begun;
  proper = product-proper q.total q.uptime q.production q.actual q.effective h;
  availability_nearest = efficiency-nearest q.uptime q.total (record { part = h.uptime_total; few = h.few });
  operational_nearest = efficiency-nearest q.production q.uptime (record { part = h.production_uptime; few = omega arith });
  rate_nearest = efficiency-nearest q.actual q.production (record { part = h.actual_production; few = omega arith });
  quality_nearest = efficiency-nearest q.effective q.actual (record { part = h.effective_actual; few = omega arith });
}
