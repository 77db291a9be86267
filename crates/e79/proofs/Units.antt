-- What `round` keeps, in units of the format's smallest value: no value of the format is nearer to the fraction, and in the normal range the error is at most one part in 2 ^ prec.
-- Nothing here is about floats. Assumes nothing.
use mathlib.Core.Path.{◌≡◌, sym, ap, ◌∙◌, subst}
use mathlib.Core.Logic.{◌⊎◌, inl, inr}
use mathlib.Core.Bool.{not}
use Prim.Native.Nat.{ℕ, zero, suc, ◌+◌, ◌-◌, ◌*◌, ◌/◌, ◌%◌, ◌^◌, ◌≤◌, ◌<◌, compare, Ordering}
use native.Mathlib.Nat.{le_trans, le_of_eq, le_of_lt, mul_assoc, mul_comm, mul-le-mul_right, mul-pos, add-zero, suc-mul, mod-lt, div-add-mod', div-div-eq-div-mul, le-div_iff_mul-le, zero-lt-suc}
use native.Mathlib.Numerals.{add-one}
use native.Mathlib.Omega.{arith}
use lib.Dec.{T, is_le, compare_is_eq, leb→le, nleb→lt, eqb→eq}
use lib.Pow.{pow-add, pow_pos, pow_mono}
use lib.Ieee.{nearest, size}
use lib.Ieee.Digits.{size_reaches, back}
use lib.Ieee.Nearest.{closest}
use lib.Ieee.Order.{drop, kept}
use Rattle.std.proofs.lemmas.Bool.{cases_lt}
use Rattle.e79.specs.Accuracy.{gap}

-- ---- the multiple of u that `closest` picks for n = q * u + r is no farther from n than its neighbours q * u, at r, and q * u + u, at u - r
abbrev Near : ℕ → ℕ → ℕ → ℕ → Type 0
Near z n r u = (gap z n ≤ r) × (gap z n + r ≤ u)

-- in the middle either neighbour will do
middle : (b q r u n : ℕ) → b < 2 → q * u + r ≡ n → r * 2 ≡ u → Near ((q + b) * u) n r u
middle zero q r u n l e h = rw add-zero (omega arith)
middle (suc zero) q r u n l e h = rw (add-one, suc-mul) (omega arith)
middle (suc (suc b)) q r u n l e h = omega arith

-- o is how r * 2 compares with u
picked : (q r u n : ℕ) (o : Ordering) → q * u + r ≡ n → r < u → (T (is_le o) → r * 2 ≤ u) → (T (not (is_le o)) → u < r * 2) → (T (compare_is_eq o) → r * 2 ≡ u) → Near (nearest q o * u) n r u
picked q r u n Ordering.lt e l low high same = let h : r * 2 ≤ u = low tt in omega arith
picked q r u n Ordering.eq e l low high same = middle (q % 2) q r u n (mod-lt q (zero-lt-suc 1)) e (same tt)
picked q r u n Ordering.gt e l low high same = let h : u < r * 2 = high tt in rw suc-mul (omega arith)

closest-near : (n u : ℕ) → 0 < u → Near (closest n u * u) n (n % u) u
closest-near n u U =
    let r = n % u in
    picked (n / u) r u n (compare (r * 2) u) (div-add-mod' n u) (mod-lt n U) (leb→le (r * 2) u) (nleb→lt (r * 2) u) (eqb→eq (r * 2) u)

-- ---- a value of the format, m * 2 ^ j units, does not lie strictly between two neighbours of the grid that `round` rounds to
apart : (p n c m j : ℕ) → 0 < p → m < 2 ^ p → (m * 2 ^ j ≤ n / (c * 2 ^ drop p n c) * 2 ^ drop p n c) ⊎ (suc (n / (c * 2 ^ drop p n c)) * 2 ^ drop p n c ≤ m * 2 ^ j)
apart p n c m j P h = elim (cases_lt j (drop p n c)) [ inl l ↦ inl (fewer l) | inr l ↦ same l ]
  where
    k : ℕ
    k = drop p n c

    q : ℕ
    q = n / (c * 2 ^ drop p n c)

    -- 2 ^ k divides the value
    same : k ≤ j → (m * 2 ^ j ≤ q * 2 ^ k) ⊎ (suc q * 2 ^ k ≤ m * 2 ^ j)
    same l =
        let e : m * 2 ^ (j - k) * 2 ^ k ≡ m * 2 ^ j = mul_assoc m (2 ^ (j - k)) (2 ^ k) ∙ ap (λ (x : ℕ). m * x) (sym (pow-add 2 (j - k) k) ∙ ap (λ (x : ℕ). 2 ^ x) (back j k l)) in
        elim (cases_lt q (m * 2 ^ (j - k))) [
          | inl a ↦ inr (le_trans (mul-le-mul_right (2 ^ k) a) (le_of_eq e))
          | inr a ↦ inl (le_trans (le_of_eq (sym e)) (mul-le-mul_right (2 ^ k) a))
        ]

    -- the value has no more digits than 2 ^ k * q, which has p + k of them
    fewer : j < k → m * 2 ^ j ≤ q * 2 ^ k
    fewer l =
        let a : 2 ^ (p - 1) * 2 ^ k ≤ n / c = le_trans (le_of_eq (sym (pow-add 2 (p - 1) k))) (size_reaches (n / c) (p - 1 + k) (omega arith)) in
        let b : 2 ^ (p - 1) ≤ q = subst (λ (x : ℕ). 2 ^ (p - 1) ≤ x) (div-div-eq-div-mul n c (2 ^ k)) ((le-div_iff_mul-le (pow_pos k)).1 a) in
        le_trans (mul-le-mul_right (2 ^ j) (le_of_lt h))
        (le_trans (le_of_eq (sym (pow-add 2 p j)))
        (le_trans (pow_mono (omega arith)) (le_trans (le_of_eq (pow-add 2 (p - 1) k)) (mul-le-mul_right (2 ^ k) b))))

-- ---- the fraction n / c in units; `round` gives kept * 2 ^ drop units
-- A multiple of 2 ^ drop, with the denominator multiplied out, is one of u = c * 2 ^ drop
regroup : (a b c : ℕ) → a * b * c ≡ a * (c * b)
regroup a b c = simp (mul_assoc, mul_comm)

kept_near : (p n c : ℕ) → 0 < c → Near (kept p n c * 2 ^ drop p n c * c) n (n % (c * 2 ^ drop p n c)) (c * 2 ^ drop p n c)
kept_near p n c C = rw (regroup (kept p n c)) (closest-near n (c * 2 ^ drop p n c) (mul-pos C (pow_pos (drop p n c))))

-- no value m * 2 ^ j of the format is nearer
pub kept-nearest : (p n c m j : ℕ) → 0 < p → 0 < c → m < 2 ^ p → gap (kept p n c * 2 ^ drop p n c * c) n ≤ gap (m * 2 ^ j * c) n
kept-nearest p n c m j P C h =
    let k = drop p n c in
    let u = c * 2 ^ k in
    let q = n / u in
    elim (apart p n c m j P h) [
      | inl a ↦ omega (arith, kept_near p n c C, div-add-mod' n u, le_trans (mul-le-mul_right c a) (le_of_eq (regroup q (2 ^ k) c)))
      | inr a ↦ omega (arith, kept_near p n c C, div-add-mod' n u, le_trans (le_of_eq (sym (regroup (suc q) (2 ^ k) c ∙ suc-mul q u))) (mul-le-mul_right c a))
    ]

-- ---- in the normal range the error is at most one part in 2 ^ p of n
pub kept-relative : (p n c : ℕ) → 0 < p → 0 < c → p ≤ size (n / c) → gap (kept p n c * 2 ^ drop p n c * c) n * (2 * 2 ^ (p - 1)) ≤ n
kept-relative p n c P C h =
    let k = drop p n c in
    let u = c * 2 ^ k in
    let z = kept p n c * 2 ^ k * c in
    let a : 2 ^ (p - 1) * 2 ^ k * c ≤ n = (le-div_iff_mul-le C).0 (le_trans (le_of_eq (sym (pow-add 2 (p - 1) k))) (size_reaches (n / c) (p - 1 + k) (omega arith))) in
    le_trans (le_of_eq (sym (mul_assoc (gap z n) 2 (2 ^ (p - 1)))))
    (le_trans (mul-le-mul_right (2 ^ (p - 1)) (omega (arith, kept_near p n c C)))
    (le_trans (le_of_eq (mul_comm u (2 ^ (p - 1)) ∙ sym (regroup (2 ^ (p - 1)) (2 ^ k) c))) a))
