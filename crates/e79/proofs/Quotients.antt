-- The quotients and the products of the figures are as good as `specs/Accuracy.antt` says. Assumes nothing.
use mathlib.Core.Path.{◌≡◌, refl, sym, ◌∙◌, subst}
use mathlib.Core.Bool.{true, false, true≢false}
use Prim.Native.Nat.{ℕ, zero, suc, ◌*◌, ◌^◌, ◌<◌}
use native.Mathlib.Nat.{le_trans, le_of_lt, mul_assoc, mul_comm, mul_left_comm, mul-pos, mul-one, zero-lt-suc}
use lib.Dec.{T, eqb-suc-zero}
use lib.Ieee.{Float, nan, inf, fin, Format, binary64, low, round, div, of_int}
use lib.Ieee.Fits.{round-fits}
use lib.Ieee.Exact.{HasValue}
use lib.Ieee.Back.{round_whole}
use lib.Ieee.Scale.{grid, round_same, finite}
use lib.Ieee.Positive.{num, den, den_pos, positive, value→cross, positive_of_value}
use Rattle.e79.specs.Quantities.{Portion, based}
use Rattle.e79.specs.Doubles.{quotient_of, efficiency_of}
use Rattle.e79.specs.Accuracy.{Nearest, NearestEfficiency}
use Rattle.e79.proofs.Rounded.{round-nearest, round-value}
use Rattle.e79.proofs.Within.{Within, quotient}

-- ---- a division of whole numbers is one rounding of their fraction
div-plain : (f : Format) (x y : Float) (a c b d : ℕ) → HasValue x false a c → HasValue y false b d → T (positive y) → div f x y ≡ round f false (num x * den y) (num y * den x)
unfolding div
div-plain f nan y a c b d p q t = absurd p
div-plain f (inf s) y a c b d p q t = absurd p
div-plain f (fin true m e) y a c b d p q t = absurd (true≢false p.0)
div-plain f (fin false m e) nan a c b d p q t = absurd q
div-plain f (fin false m e) (inf s) a c b d p q t = absurd q
div-plain f (fin false m e) (fin true n i) a c b d p q t = absurd t
div-plain f (fin false m e) (fin false zero i) a c b d p q t = absurd t
div-plain f (fin false m e) (fin false (suc n) i) a c b d p q t = rw eqb-suc-zero

div-whole : (f : Format) (x y : Float) (a c : ℕ) → HasValue x false a 1 → HasValue y false c 1 → 0 < c → div f x y ≡ round f false a c
div-whole f x y a c v w C =
    let p : num x ≡ a * den x = sym (mul-one (num x)) ∙ value→cross x a 1 v in
    let q : num y ≡ c * den y = sym (mul-one (num y)) ∙ value→cross y c 1 w in
    div-plain f x y a 1 c 1 v w (positive_of_value y c 1 w C)
    ∙ round_same f false (num x * den y) (num y * den x) a c (mul-pos (subst (λ (z : ℕ). 0 < z) (sym q) (mul-pos C (den_pos y))) (den_pos x)) C
    (rw (p, q) (simp (mul_assoc, mul_comm, mul_left_comm)))

quotient_is : (n d : ℕ) → Portion n d → 0 < d → quotient_of n d ≡ round binary64 false n d
unfolding quotient_of of_int
quotient_is n d p D =
    let w = le_of_lt p.few in
    div-whole binary64 (round binary64 false n 1) (round binary64 false d 1) n d (round_whole binary64 false n (le_trans p.part w)) (round_whole binary64 false d w) D

-- ---- one quotient
plain-finite : (x : Float) (a c : ℕ) → HasValue x false a c → T (finite x)
plain-finite nan a c h = absurd h
plain-finite (inf s) a c h = absurd h
plain-finite (fin s m e) a c h = tt

pub quotient-nearest : (n d : ℕ) → Portion n d → 0 < d → Nearest (quotient_of n d) n d
quotient-nearest n d p D =
    let v = round-value binary64 n d D p.part in
    rw (quotient_is n d p D)
    (record {
      is_double = round-fits binary64 false n d;
      is_finite = plain-finite (round binary64 false n d) (grid binary64 n d) (2 ^ low binary64) v;
      nearest = λ y t f. round-nearest binary64 n d (round binary64 false n d) y D v t f;
    })

pub quotient-within : (n d : ℕ) → Portion n d → 0 < d → Within 1 (quotient_of n d) n d
quotient-within n d p D = rw (quotient_is n d p D) (quotient n d D p.part p.few)

-- ---- one efficiency
pub efficiency-nearest : (n d : ℕ) → Portion n d → NearestEfficiency (efficiency_of n d) n d
unfolding efficiency_of NearestEfficiency based
efficiency-nearest n zero p = refl
efficiency-nearest n (suc d) p = (zero-lt-suc d, quotient-nearest n (suc d) p (zero-lt-suc d))
