-- `round f false a c` of a fraction a / c from 0 to 1: it is from 0 to 1, and no finite value of the format is nearer to a / c. Assumes nothing.
use mathlib.Core.Path.{◌≡◌, refl, sym, ap, ◌∙◌, subst}
use mathlib.Core.Logic.{inl, inr}
use mathlib.Core.Bool.{true, false, ◌&&◌, true≢false}
use Prim.Native.Nat.{ℕ, zero, suc, ◌+◌, ◌-◌, ◌*◌, ◌%◌, ◌^◌, ◌≤◌, ◌<◌}
use native.Mathlib.Nat.{le_refl, le_trans, le_of_eq, lt_of_lt_of_le, lt_of_le_of_lt, lt_irrefl, mul_assoc, mul_comm, mul_right_comm, mul-le-mul_right, le_of_mul-le-mul_right, mul-sub, mul-one, one-mul, zero-mul, add-mul, zero-lt-suc}
use native.Mathlib.Omega.{arith}
use lib.IntN.{ℤ, pos, negsuc}
use lib.Dec.{T, leb, ltb, eqb, leb→le, ltb→lt}
use lib.Pow.{pow-add, pow_pos, pow-lt}
use lib.Ieee.{Float, nan, inf, fin, Format, prec, emax, low, up, down, round, fits}
use lib.Ieee.Digits.{back}
use lib.Ieee.Fits.{two, two-le_pos, and_l, and_r}
use lib.Ieee.Exact.{HasValue}
use lib.Ieee.Scale.{grid, round_val, normal_of_fraction, finite}
use lib.Ieee.Positive.{num, den}
use Rattle.std.proofs.lemmas.Bool.{cases_lt}
use Rattle.e79.specs.Accuracy.{gap, off}
use Rattle.e79.proofs.Units.{kept-nearest, kept-relative}

-- ---- a value of the format is m * 2 ^ j of the smallest values, with an m below 2 ^ prec
exponents : {j k : ℕ} → 2 ^ j ≤ 2 ^ k → j ≤ k
exponents {j} {k} h = elim (cases_lt k j) [ inl l ↦ absurd (lt_irrefl (2 ^ k) (lt_of_lt_of_le (pow-lt l) h)) | inr l ↦ l ]

exponent : (l : ℕ) (e : ℤ) → down e ≤ 2 ^ l → (j : ℕ) × (up e * 2 ^ l ≡ 2 ^ j * down e)
exponent l (pos a) h = (a + l, sym (pow-add 2 a l) ∙ sym (mul-one (2 ^ (a + l))))
exponent l (negsuc a) h =
    (l - suc a, one-mul (2 ^ l) ∙ sym (ap (λ (x : ℕ). 2 ^ x) (back l (suc a) (exponents h))) ∙ pow-add 2 (l - suc a) (suc a))

abbrev OnGrid : Format → Float → Type 0
OnGrid f y = (m : ℕ) × (j : ℕ) × (m < 2 ^ prec f) × (num y * 2 ^ low f ≡ m * 2 ^ j * den y)

on-grid : (f : Format) (y : Float) → T (fits f y) → T (finite y) → OnGrid f y
unfolding fits
on-grid f nan t n = absurd n
on-grid f (inf s) t n = absurd n
on-grid f (fin s zero e) t n = (0, 0, pow_pos (prec f), simp zero-mul)
on-grid f (fin s (suc m) e) t n =
    let a = eqb (suc m % 2) 1 in
    let b = ltb (suc m) (2 ^ prec f) in
    let c = leb (down e) (2 ^ low f) in
    let u = and_l (a && b && c) (ltb (suc m * up e) (2 ^ suc (emax f) * down e)) t in
    let x = exponent (low f) e (leb→le (down e) (2 ^ low f) (and_r (a && b) c u)) in
    (suc m, x.0, ltb→lt (suc m) (2 ^ prec f) (and_r a b (and_l (a && b) c u)), mul_assoc (suc m) (up e) (2 ^ low f) ∙ ap (λ (z : ℕ). suc m * z) x.1 ∙ sym (mul_assoc (suc m) (2 ^ x.0) (down e)))

-- ---- the distance from a / c of what equals g / l
sub-mul : (a b k : ℕ) → (a - b) * k ≡ a * k - b * k
sub-mul a b k = rw (mul_comm (a - b) k, mul-sub, mul_comm k a, mul_comm k b)

gap-mul : (a b k : ℕ) → gap a b * k ≡ gap (a * k) (b * k)
gap-mul a b k = simp (add-mul, sub-mul)

rescaled : (x d a c g l : ℕ) → x * l ≡ g * d → gap (x * c) (a * d) * l ≡ gap (g * c) (a * l) * d
rescaled x d a c g l h =
    gap-mul (x * c) (a * d) l
    ∙ ap (λ (z : ℕ). gap z (a * d * l)) (mul_right_comm x c l ∙ ap (λ (z : ℕ). z * c) h ∙ mul_right_comm g d c)
    ∙ ap (λ (z : ℕ). gap (g * c * d) z) (mul_right_comm a d l)
    ∙ sym (gap-mul (g * c) (a * l) d)

pub off-scaled : (x : Float) (a c g l : ℕ) → HasValue x false g l → off x a c * l ≡ gap (g * c) (a * l) * den x
unfolding off
off-scaled nan a c g l h = absurd h
off-scaled (inf s) a c g l h = absurd h
off-scaled (fin true m e) a c g l h = absurd (true≢false h.0)
off-scaled (fin false m e) a c g l h = rescaled (m * up e) (down e) a c g l h.1

-- ---- no finite value of the format is nearer to a / c than grid f a c of the smallest values are
grid-best : (f : Format) (a c m j : ℕ) → 0 < c → m < 2 ^ prec f → gap (grid f a c * c) (a * 2 ^ low f) ≤ gap (m * 2 ^ j * c) (a * 2 ^ low f)
grid-best f a c m j C h = kept-nearest (prec f) (a * 2 ^ low f) c m j (two-le_pos (prec f) (two f)) C h

-- nor is zero
grid-zero : (f : Format) (a c : ℕ) → 0 < c → gap (grid f a c * c) (a * 2 ^ low f) ≤ a * 2 ^ low f
grid-zero f a c C = le_trans (grid-best f a c 0 0 C (pow_pos (prec f))) (rw (zero-mul c) (omega arith))

minus-far : (g a d x c l : ℕ) → g ≤ a * l → g * d ≤ (x * c + a * d) * l
minus-far g a d x c l h = le_trans (mul-le-mul_right d h) (le_trans (le_of_eq (mul_right_comm a l d)) (mul-le-mul_right l (omega arith)))

far : (f : Format) (a c : ℕ) (y : Float) → 0 < c → T (fits f y) → T (finite y) → gap (grid f a c * c) (a * 2 ^ low f) * den y ≤ off y a c * 2 ^ low f
unfolding off
far f a c nan C t n = absurd n
far f a c (inf s) C t n = absurd n
far f a c (fin true m e) C t n = minus-far (gap (grid f a c * c) (a * 2 ^ low f)) a (down e) (m * up e) c (2 ^ low f) (grid-zero f a c C)
far f a c (fin false m e) C t n =
    let g = on-grid f (fin false m e) t n in
    le_trans (mul-le-mul_right (down e) (grid-best f a c g.0 g.1 C g.2))
    (le_of_eq (sym (off-scaled (fin false m e) a c (g.0 * 2 ^ g.1) (2 ^ low f) (refl, g.3))))

pub round-nearest : (f : Format) (a c : ℕ) (x y : Float) → 0 < c → HasValue x false (grid f a c) (2 ^ low f) → T (fits f y) → T (finite y) → off x a c * den y ≤ off y a c * den x
round-nearest f a c x y C v t n =
    let l = 2 ^ low f in
    le_of_mul-le-mul_right
    (le_trans (le_of_eq (mul_right_comm (off x a c) (den y) l ∙ ap (λ (z : ℕ). z * den y) (off-scaled x a c (grid f a c) l v) ∙ mul_right_comm (gap (grid f a c * c) (a * l)) (den x) (den y)))
    (le_trans (mul-le-mul_right (den x) (far f a c y C t n)) (le_of_eq (mul_right_comm (off y a c) l (den x)))))
    (pow_pos (low f))

-- ---- a fraction up to 1 rounds to a value up to 1
under_one : (g n w : ℕ) → gap g n ≤ gap w n → n ≤ w → g ≤ w
under_one g n w h l = omega arith

pub grid-le-one : (f : Format) (a c : ℕ) → 0 < c → a ≤ c → grid f a c ≤ 2 ^ low f
grid-le-one f a c C h =
    let l = 2 ^ low f in
    le_of_mul-le-mul_right
    (under_one (grid f a c * c) (a * l) (l * c)
    (subst (λ (z : ℕ). gap (grid f a c * c) (a * l) ≤ gap (z * c) (a * l)) (one-mul l) (grid-best f a c 1 (low f) C (pow-lt (two-le_pos (prec f) (two f)))))
    (le_trans (mul-le-mul_right l h) (le_of_eq (mul_comm c l))))
    C

pub round-value : (f : Format) (a c : ℕ) → 0 < c → a ≤ c → HasValue (round f false a c) false (grid f a c) (2 ^ low f)
round-value f a c C h = round_val f a c (lt_of_le_of_lt (grid-le-one f a c C h) (pow-lt (omega arith)))

-- ---- in the normal range, and at zero, the error is at most one part in 2 ^ prec of the fraction
abbrev pub Normal : Format → ℕ → ℕ → Type 0
Normal f a c = 2 ^ (prec f - 1) * c ≤ a * 2 ^ low f

pub grid-relative : (f : Format) (a c : ℕ) → 0 < c → (0 < a → Normal f a c) → gap (grid f a c * c) (a * 2 ^ low f) * (2 * 2 ^ (prec f - 1)) ≤ a * 2 ^ low f
grid-relative f zero c C h =
    let z : gap (grid f 0 c * c) (0 * 2 ^ low f) ≤ 0 = le_trans (grid-zero f 0 c C) (le_of_eq (zero-mul (2 ^ low f))) in
    le_trans (mul-le-mul_right (2 * 2 ^ (prec f - 1)) z) (rw (zero-mul (2 * 2 ^ (prec f - 1)), zero-mul (2 ^ low f)) (le_refl 0))
grid-relative f (suc a) c C h =
    kept-relative (prec f) (suc a * 2 ^ low f) c (two-le_pos (prec f) (two f)) C (normal_of_fraction f (suc a) c C (h (zero-lt-suc a)))
