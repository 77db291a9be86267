-- `Within k x a c`: the double x is from 0 to 1 and at most k roundings away from a / c. A quotient is one rounding away (`quotient`). A product of two doubles with j and k roundings behind
-- them has 1 + (j + k) behind it (`product`), whatever the two are, so any sequence and pairing of factors comes to a count. Seven are at most one part in 2 ^ 50 (`proper`). Assumes nothing.
use mathlib.Core.Path.{◌≡◌, refl, ◌∙◌}
use mathlib.Core.Logic.{inl, inr}
use mathlib.Core.Bool.{true, false, true≢false}
use Prim.Native.Nat.{ℕ, ◌+◌, ◌*◌, ◌^◌, ◌≤◌, ◌<◌}
use native.Mathlib.Nat.{le_trans, le_of_eq, le_of_lt, mul_assoc, mul_comm, mul_left_comm, mul-le-mul, mul-le-mul_left, mul-le-mul_right, le_of_mul-le-mul_left, le_of_mul-le-mul_right, mul-pos, mul-mul-mul_comm, eq-zero-or-pos, mul-add, le-mul_of_pos_right}
use native.Mathlib.Omega.{arith}
use lib.Dec.{T, lit≤}
use lib.Pow.{pow-add, pow_pos, pow_mono}
use lib.Ieee.{Float, nan, inf, fin, Format, binary64, fits, low, up, round, mul}
use lib.Ieee.Fits.{down_pos}
use lib.Ieee.Exact.{HasValue}
use lib.Ieee.Scale.{grid}
use lib.Ieee.Positive.{num, den, den_pos, value→cross, first_pos}
use Rattle.e79.specs.Accuracy.{off, Proper}
use Rattle.e79.proofs.Ratios.{Close, close-mul, close-trans, close-same, close-once, close-half, close-seven, pos-back, pos-forth}
use Rattle.e79.proofs.Rounded.{Normal, grid-le-one, grid-relative, round-value}

-- ---- the relation
-- x is finite, has no minus sign, and is at most 1 and at most k roundings away from a / c
pub record Roundings (k : ℕ) (x : Float) (a c : ℕ) : Type 0 where
  pub plain : HasValue x false (num x) (den x)
  pub to_one : num x ≤ den x
  pub close : Close k (num x) (den x) a c

-- unless x is 0 it is not so small that a product leaves the normal range, where the error of a rounding is relative
abbrev Large : ℕ → Float → Type 0
Large k x = 0 < num x → den x ≤ num x * 2 ^ (54 * k)

pub record Within (k : ℕ) (x : Float) (a c : ℕ) : Type 0 where
  pub rounded : Roundings k x a c
  pub large : Large k x

-- ---- one rounding
own : (x : Float) (a c : ℕ) → HasValue x false a c → HasValue x false (num x) (den x)
own nan a c h = absurd h
own (inf s) a c h = absurd h
own (fin s m e) a c h = (h.0, refl)

once : (a c : ℕ) → 0 < c → a ≤ c → (0 < a → Normal binary64 a c) → Roundings 1 (round binary64 false a c) a c
once a c C h n =
    let x = round binary64 false a c in
    let l = 2 ^ low binary64 in
    let g = grid binary64 a c in
    let L : 0 < l = pow_pos (low binary64) in
    let v = round-value binary64 a c C h in
    let e : num x * l ≡ g * den x = value→cross x g l v in
    record {
      plain = own x g l v;
      to_one = le_of_mul-le-mul_right (le_trans (le_of_eq e) (le_trans (mul-le-mul_right (den x) (grid-le-one binary64 a c C h)) (le_of_eq (mul_comm l (den x))))) L;
      close = close-trans L (close-same e) (close-once (grid-relative binary64 a c C n));
    }

-- ---- a quotient of two whole numbers below 2 ^ 53
quotient-normal : (a c : ℕ) → c < 2 ^ 53 → 0 < a → Normal binary64 a c
quotient-normal a c C h = le_trans (mul-le-mul_left (2 ^ 52) (le_of_lt C)) (le_trans (lit≤ tt) (mul-le-mul_right (2 ^ 1074) h))

pub quotient : (a c : ℕ) → 0 < c → a ≤ c → c < 2 ^ 53 → Within 1 (round binary64 false a c) a c
quotient a c C h s =
    let x = round binary64 false a c in
    let o = once a c C h (quotient-normal a c s) in
    record {
      rounded = o;
      large = λ X.
          let least : den x ≤ a * den x = rw mul_comm (le-mul_of_pos_right (den x) (pos-back C o.close X)) in
          omega (arith, close-half o.close, mul-le-mul_left (num x) (le_of_lt s));
    }

-- ---- a product
mul-plain : (f : Format) (x y : Float) (a c b d : ℕ) → HasValue x false a c → HasValue y false b d → mul f x y ≡ round f false (num x * num y) (den x * den y)
unfolding mul
mul-plain f nan y a c b d p q = absurd p
mul-plain f (inf s) y a c b d p q = absurd p
mul-plain f (fin true m e) y a c b d p q = absurd (true≢false p.0)
mul-plain f (fin false m e) nan a c b d p q = absurd q
mul-plain f (fin false m e) (inf t) a c b d p q = absurd q
mul-plain f (fin false m e) (fin true n i) a c b d p q = absurd (true≢false q.0)
mul-plain f (fin false m e) (fin false n i) a c b d p q = refl

spread : (j k x p y q : ℕ) → p ≤ x * 2 ^ (54 * j) → q ≤ y * 2 ^ (54 * k) → p * q ≤ x * y * 2 ^ (54 * (j + k))
spread j k x p y q h l = le_trans (mul-le-mul h l) (le_of_eq (mul-mul-mul_comm x (2 ^ (54 * j)) y (2 ^ (54 * k)) ∙ simp (mul-add, pow-add)))

product-normal : (w v : ℕ) → w ≤ v * 2 ^ (54 * 18) → Normal binary64 v w
product-normal w v h = le_trans (mul-le-mul_left (2 ^ 52) h) (le_trans (le_of_eq (mul_left_comm (2 ^ 52) v (2 ^ (54 * 18)))) (mul-le-mul_left v (lit≤ tt)))

-- z / r is w / v after one rounding
product-large : (n z r w v : ℕ) → 0 < w → w * r ≤ z * v * 2 → v ≤ w * 2 ^ (54 * n) → r ≤ z * 2 ^ (54 * (1 + n))
product-large n z r w v W h l =
    let P = 2 ^ (54 * n) in
    let a : w * r ≤ w * (z * P * 2) = le_trans h (le_trans (mul-le-mul_right 2 (mul-le-mul_left z l)) (le_of_eq (simp (mul_assoc, mul_comm, mul_left_comm)))) in
    le_trans (le_of_mul-le-mul_left a W) (le_trans (mul-le-mul_left (z * P) (lit≤ tt)) (le_of_eq (mul_assoc z P (2 ^ 54) ∙ simp (mul-add, pow-add, mul_comm))))

pub product : {j k : ℕ} {x y : Float} {a c b d : ℕ} → j + k ≤ 18 → Within j x a c → Within k y b d → Within (1 + (j + k)) (mul binary64 x y) (a * b) (c * d)
product {j} {k} {x} {y} {a} {c} {b} {d} J s t = rw (mul-plain binary64 x y (num x) (den x) (num y) (den y) s.rounded.plain t.rounded.plain) made
  where
    w : ℕ
    w = num x * num y

    v : ℕ
    v = den x * den y

    z : Float
    z = round binary64 false (num x * num y) (den x * den y)

    v-pos : 0 < v
    v-pos = mul-pos (den_pos x) (den_pos y)

    wide : 0 < w → v ≤ w * 2 ^ (54 * (j + k))
    wide W = spread j k (num x) (den x) (num y) (den y) (s.large (first_pos (num x) (num y) W)) (t.large (first_pos (num y) (num x) (rw mul_comm at W)))

    o : Roundings 1 z w v
    o = once w v v-pos (mul-le-mul s.rounded.to_one t.rounded.to_one) (λ W. product-normal v w (le_trans (wide W) (mul-le-mul_left w (pow_mono (mul-le-mul_left 54 J)))))

    made : Within (1 + (j + k)) z (a * b) (c * d)
    made = record {
      rounded = record { plain = o.plain; to_one = o.to_one; close = close-trans v-pos o.close (close-mul s.rounded.close t.rounded.close) };
      large = λ Z. let W = pos-back v-pos o.close Z in product-large (j + k) (num z) (den z) w v W (close-half o.close) (wide W);
    }

-- ---- seven roundings
is_zero : (w v : ℕ) → (0 < w → 0 < v) → v ≡ 0 → w ≡ 0
is_zero w v h e = elim (eq-zero-or-pos w) [ inl z ↦ z | inr p ↦ omega (arith, h p) ]

seven-proper : (x : Float) (n d : ℕ) → T (fits binary64 x) → 0 < d → Roundings 7 x n d → Proper x n d
unfolding off
seven-proper nan n d f D s = absurd s.plain
seven-proper (inf t) n d f D s = absurd s.plain
seven-proper (fin true m e) n d f D s = absurd (true≢false s.plain.0)
seven-proper (fin false m e) n d f D s = record {
  is_double = f;
  is_finite = tt;
  from_zero = refl;
  to_one = s.to_one;
  zero_only = (is_zero n (m * up e) (pos-forth (down_pos e) s.close), is_zero (m * up e) n (pos-back D s.close));
  within = close-seven s.close;
}

-- a / c may be any fraction that equals n / d
pub proper : {x : Float} {a c : ℕ} (n d : ℕ) → T (fits binary64 x) → 0 < c → 0 < d → a * d ≡ n * c → Within 7 x a c → Proper x n d
proper {x} n d f C D e s =
    let r = s.rounded in
    seven-proper x n d f D (record { plain = r.plain; to_one = r.to_one; close = close-trans C r.close (close-same e) })
