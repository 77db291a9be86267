-- The bytes of a record are those of one number, the most significant first: its fields side by side.
-- Assumes nothing.
use mathlib.Core.Path.{◌≡◌, sym, ap, ◌∙◌}
use mathlib.Core.List.{List, [], ◌∷◌, ◌++◌}
use Prim.Native.Nat.{ℕ, zero, suc, ◌+◌, ◌-◌, ◌*◌, ◌/◌, ◌%◌, ◌^◌, ◌≤◌, ◌<◌}
use native.Mathlib.Nat.{mod-eq_of_lt, zero-add, mod-one}
use native.Mathlib.Numerals.{add-one}
use native.Mathlib.Omega.{arith}
use native.Mathlib.Decide.{dec_lt}
use lib.ListN.{get_or, get_or-eq_default}
use lib.Arith.{digits_lt}
use lib.Pow.{pow-add, high, low, shr-shr, mod-pow-add}
use Rattle.bits.specs.Bits.{field}
use Rattle.bits.specs.Put.{Slot, packed, Fit}
use Rattle.bits.proofs.Fields.{field_lt, field-split, more}
use Rattle.bits.proofs.Puts.{total, Own, packed-own}
use Rattle.filling.specs.Buffer.{big_endian}
use Rattle.filling.proofs.Numbers.{number-length, number-byte, number-parts}

-- the number whose digits are those of the fields, one after another
abbrev pub value_of : List Slot → ℕ
value_of [] = 0
value_of (f ∷ fs) = f.value * 2 ^ total fs + value_of fs

pub value-lt : (fs : List Slot) → Fit fs → value_of fs < 2 ^ total fs
value-lt [] fit = omega arith
value-lt (f ∷ fs) fit = rw (pow-add 2 f.width (total fs)) (digits_lt fit.0 (value-lt fs fit.1))

-- a list that has this number has each of the fields
own_value : (t : List ℕ) (i : ℕ) (fs : List Slot) → Fit fs → field t i (total fs) ≡ value_of fs → Own t i fs
own_value t i [] fit e = tt
own_value t i (f ∷ fs) fit e =
    let n = total fs in
    let both : field t i f.width * 2 ^ n + field t (i + f.width) n ≡ f.value * 2 ^ n + value_of fs = sym (field-split t i f.width n) ∙ e in
    let rest : value_of fs < 2 ^ n = value-lt fs fit.1 in
    let there : field t (i + f.width) n < 2 ^ n = field_lt t (i + f.width) n in (
      sym (high f.value n rest) ∙ ap (λ (x : ℕ). x / 2 ^ n) (sym both) ∙ high (field t i f.width) n there,
      own_value t (i + f.width) fs fit.1 (sym (low (field t i f.width) n there) ∙ ap (λ (x : ℕ). x % 2 ^ n) both ∙ low f.value n rest),
    )

-- ---- the bytes of a number have it as a field

byte-lt : (n v k : ℕ) → get_or (big_endian n v) k 0 < 256
byte-lt n v k =
    elim (dec_lt k n) [
      | yes h ↦ rw (number-byte n v k h) (omega arith)
      | no h ↦ rw (get_or-eq_default (big_endian n v) 0 {n = k} (rw (number-length n v) (omega arith))) (omega arith)
    ]

first-bytes : (n v k : ℕ) → k ≤ n → field (big_endian n v) 0 (8 * k) ≡ v / 2 ^ (8 * (n - k)) % 2 ^ (8 * k)
unfolding field
first-bytes n v zero h = sym (mod-one (v / 2 ^ (8 * (n - 0))))
first-bytes n v (suc k) h =
    let t = big_endian n v in
    let j = 8 * (n - suc k) in
    let d : 8 * suc k ≡ 8 * k + 8 = omega arith in
    let e : 8 * (n - k) ≡ j + 8 = omega arith in
    let p : n - 1 - k ≡ n - suc k = omega arith in
    let high : field t 0 (8 * k) ≡ v / 2 ^ j / 2 ^ 8 % 2 ^ (8 * k) = first-bytes n v k (omega arith) ∙ rw (e, shr-shr v j 8) in
    let byte : get_or t k 0 ≡ v / 2 ^ j % 256 = number-byte n v k h ∙ rw p in
    ap (λ (x : ℕ). field t 0 (8 * x)) (sym (add-one k)) ∙ more t 0 k (rw zero-add (byte-lt n v k)) ∙ rw (zero-add k, high, byte, d) (sym (mod-pow-add (v / 2 ^ j) (8 * k) 8))

number-field : (n v : ℕ) → v < 2 ^ (8 * n) → field (big_endian n v) 0 (8 * n) ≡ v
number-field n v h =
    let z : n - n ≡ 0 = omega arith in
    let one : v / 1 ≡ v = omega arith in
    first-bytes n v n (omega arith) ∙ rw (z, one) (mod-eq_of_lt h)

-- a record is m bytes of one number and n of another, where these are the parts of its number
pub record-bytes : (m n : ℕ) (fs : List Slot) (first second : ℕ) → Fit fs → total fs ≡ 8 * (m + n) → first ≡ value_of fs / 2 ^ (8 * n) → second % 2 ^ (8 * n) ≡ value_of fs % 2 ^ (8 * n)
    → packed (m + n) fs ≡ big_endian m first ++ big_endian n second
record-bytes m n fs first second fit all p q =
    let v = value_of fs in
    packed-own (big_endian (m + n) v) (m + n) fs (byte-lt (m + n) v) (number-length (m + n) v) all
    (own_value (big_endian (m + n) v) 0 fs fit (ap (field (big_endian (m + n) v) 0) all ∙ number-field (m + n) v (rw (← all) (value-lt fs fit))))
    ∙ number-parts m n v first second p q
