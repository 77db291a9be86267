-- The laws of `field`: it fits its width, it splits anywhere, and a byte is the field of 8 bits at it. So the number of the bytes that cover a field
-- gives the field, by a quotient and a remainder.
-- Assumes nothing.
use mathlib.Core.Path.{◌≡◌, refl, sym, ap, ◌∙◌}
use mathlib.Core.List.{List}
use Prim.Native.Nat.{ℕ, zero, suc, ◌+◌, ◌-◌, ◌*◌, ◌/◌, ◌%◌, ◌^◌, ◌≤◌, ◌<◌}
use native.Mathlib.Nat.{add-zero, zero-add, add_assoc, suc-add, mod-eq_of_lt, pow-suc, mul_assoc, mul_comm, one-mul, add-mul, lt_of_lt_of_le}
use native.Mathlib.Numerals.{add-one, one-add}
use native.Mathlib.Omega.{arith}
use lib.ListN.{length, get_or, take, drop, get_or-eq_default}
use lib.Seq.{get_or-take, get_or-drop}
use lib.Arith.{digits_lt}
use lib.Bits.{bit_and, and_mask}
use lib.Pow.{pow-lt, pow_mono, pow-add, mod-pow-add, shr-shr, high, low}
use Rattle.bits.specs.Bits.{bit, field}
use Rattle.bits.specs.Words.{part_of}
use Rattle.bits.specs.Put.{number}

pub bit-lt : (s : List ℕ) (i : ℕ) → bit s i < 2
unfolding bit
bit-lt s i = omega arith

-- ---- a number that is made of bits

-- equal bits make equal numbers
pub number_same : (f g : ℕ → ℕ) (i w : ℕ) → ((j : ℕ) → i ≤ j → j < i + w → f j ≡ g j) → number f i w ≡ number g i w
unfolding number
number_same f g i zero h = refl
number_same f g i (suc w) h = rw (h i (omega arith) (omega arith), number_same f g (i + 1) w (λ j l m. h j (omega arith) (omega arith)))

-- u + v bits are u bits, then v
pub number-split : (f : ℕ → ℕ) (i u v : ℕ) → number f i (u + v) ≡ number f i u * 2 ^ v + number f (i + u) v
unfolding number
number-split f i zero v = simp (zero-add, add-zero) (omega arith)
number-split f i (suc u) v =
    let e : i + suc u ≡ i + 1 + u = omega arith in
    rw (suc-add, number-split f (i + 1) u v, pow-add 2 u v, e, add-mul, mul_assoc) (omega arith)

module _ (f : ℕ → ℕ) (bits : (j : ℕ) → f j < 2) where
  pub number_lt : (i w : ℕ) → number f i w < 2 ^ w
  unfolding number
  number_lt i zero = omega arith
  number_lt i (suc w) = rw (pow-suc 2 w, mul_comm (2 ^ w) 2) (digits_lt (bits i) (number_lt (i + 1) w))

  -- what covers w bits gives them: of the bits from i on, u stand before them and c behind
  pub number_cut : (i u w c : ℕ) → number f i (u + (w + c)) / 2 ^ c % 2 ^ w ≡ number f (i + u) w
  number_cut i u w c =
      rw (number-split f i u (w + c), number-split f (i + u) w c, pow-add 2 w c, ← mul_assoc, ← add_assoc, ← add-mul, high _ c (number_lt (i + u + w) c), low _ w (number_lt (i + u) w))

-- ---- a field is one

pub field-number : (s : List ℕ) (i w : ℕ) → field s i w ≡ number (bit s) i w
unfolding field number
field-number s i zero = refl
field-number s i (suc w) = rw (field-number s (i + 1) w)

pub field_lt : (s : List ℕ) (i w : ℕ) → field s i w < 2 ^ w
field_lt s i w = rw field-number (number_lt (bit s) (bit-lt s) i w)

pub field-split : (s : List ℕ) (i u v : ℕ) → field s i (u + v) ≡ field s i u * 2 ^ v + field s (i + u) v
field-split s i u v = simp field-number (number-split (bit s) i u v)

pub cut : (s : List ℕ) (i u w c : ℕ) → field s i (u + (w + c)) / 2 ^ c % 2 ^ w ≡ field s (i + u) w
cut s i u w c = simp field-number (number_cut (bit s) (bit-lt s) i u w c)

-- the last w bits
pub tail : (s : List ℕ) (i u w : ℕ) → field s i (u + w) % 2 ^ w ≡ field s (i + u) w
tail s i u w = rw (field-split s i u w) (low _ w (field_lt s (i + u) w))

-- the first u bits
pub front : (s : List ℕ) (i u c : ℕ) → field s i (u + c) / 2 ^ c ≡ field s i u
front s i u c = rw (field-split s i u c) (high _ c (field_lt s (i + u) c))

-- w bits of n, by the bits ahead of them and the place that they come to
pub cut_at : (s : List ℕ) (i u w c n p : ℕ) → u + (w + c) ≡ n → i + u ≡ p → field s i n / 2 ^ c % 2 ^ w ≡ field s p w
cut_at s i u w c n p e d = rw (← e, ← d) (cut s i u w c)

-- the last w bits of n
pub tail_at : (s : List ℕ) (i u w n p : ℕ) → u + w ≡ n → i + u ≡ p → field s i n % 2 ^ w ≡ field s p w
tail_at s i u w n p e d = rw (← e, ← d) (tail s i u w)

-- equal bits make equal fields
pub field-same : (s t : List ℕ) (i w : ℕ) → ((j : ℕ) → i ≤ j → j < i + w → bit s j ≡ bit t j) → field s i w ≡ field t i w
field-same s t i w h = field-number s i w ∙ number_same (bit s) (bit t) i w h ∙ sym (field-number t i w)

-- a field of what is left behind q bytes
bit-drop : (s : List ℕ) (q i : ℕ) → bit (drop q s) i ≡ bit s (8 * q + i)
unfolding bit
bit-drop s q i =
    let d : (8 * q + i) / 8 ≡ q + i / 8 = omega arith in
    let m : (8 * q + i) % 8 ≡ i % 8 = omega arith in
    rw (get_or-drop q s (i / 8) 0, d, m)

pub field-drop : (s : List ℕ) (q i w : ℕ) → field (drop q s) i w ≡ field s (8 * q + i) w
unfolding field
field-drop s q i zero = refl
field-drop s q i (suc w) = rw (bit-drop s q i, field-drop s q (i + 1) w, add_assoc (8 * q) i 1)

-- a field within the first n bytes
pub field-take : (s : List ℕ) (n i w : ℕ) → i + w ≤ 8 * n → field (take n s) i w ≡ field s i w
unfolding bit
field-take s n i w h = field-same (take n s) s i w (λ j l m. rw (get_or-take n s (j / 8) 0 (omega arith)))

-- the w low bits of a byte are a field
pub low_field : (s : List ℕ) (q j w : ℕ) → j + w ≡ 8 → field s (8 * q + j) w ≡ get_or s q 0 % 2 ^ w
unfolding field bit
low_field s q j zero e = omega arith
low_field s q j (suc w) e =
    let d : (8 * q + j) / 8 ≡ q = omega arith in
    let m : 7 - (8 * q + j) % 8 ≡ w = omega arith in
    rw (add_assoc, low_field s q (j + 1) w (omega arith), d, m, ← one-add w, mod-pow-add _ 1 w)

-- a byte is a field of 8 bits
pub byte-field : (s : List ℕ) (q : ℕ) → get_or s q 0 < 256 → field s (8 * q) 8 ≡ get_or s q 0
byte-field s q h =
    let e : 8 * q ≡ 8 * q + 0 = omega arith in
    rw (e, low_field s q 0 8) (omega arith)

-- one byte more
pub more : (s : List ℕ) (q n : ℕ) → get_or s (q + n) 0 < 256 → field s (8 * q) (8 * (n + 1)) ≡ field s (8 * q) (8 * n) * 256 + get_or s (q + n) 0
more s q n h =
    let e : 8 * q + 8 * n ≡ 8 * (q + n) = omega arith in
    let d : 8 * (n + 1) ≡ 8 * n + 8 = omega arith in
    rw (d, field-split s (8 * q) (8 * n) 8, e, byte-field s (q + n) h)

pub below : (s : List ℕ) (q n : ℕ) → n < 8 → field s (8 * q) (8 * n) < 2 ^ 56
below s q n h = lt_of_lt_of_le (field_lt s (8 * q) (8 * n)) (pow_mono {i = 8 * n} {j = 56} (omega arith))

-- the n bytes from q on as one number, the first the most significant
abbrev pub bytes : List ℕ → ℕ → ℕ → ℕ
bytes s q zero = 0
bytes s q (suc n) = bytes s q n * 256 + get_or s (q + n) 0

pub bytes-field : (s : List ℕ) → ((k : ℕ) → get_or s k 0 < 256) → (q n : ℕ) → field s (8 * q) (8 * n) ≡ bytes s q n
unfolding field
bytes-field s h q zero = refl
bytes-field s h q (suc n) = rw (← add-one n, more s q n (h (q + n)), bytes-field s h q n)

-- eight bytes, written out
pub word : (s : List ℕ) → ((k : ℕ) → get_or s k 0 < 256) → (q : ℕ)
    → ((((((get_or s q 0 * 256 + get_or s (q + 1) 0) * 256 + get_or s (q + 2) 0) * 256 + get_or s (q + 3) 0) * 256 + get_or s (q + 4) 0) * 256 + get_or s (q + 5) 0) * 256 + get_or s (q + 6) 0) * 256 + get_or s (q + 7) 0 ≡ field s (8 * q) 64
word s h q = rw (bytes-field s h q 8, zero-add, add-zero)

-- bytes past the end are a field of 0
pub past-zero : (s : List ℕ) (q n : ℕ) → length s ≤ q → field s (8 * q) (8 * n) ≡ 0
unfolding field
past-zero s q zero h = refl
past-zero s q (suc n) h =
    let z : get_or s (q + n) 0 ≡ 0 = get_or-eq_default {A = ℕ} s 0 {n = q + n} (omega arith) in
    rw (← add-one n) (more s q n (rw z (omega arith)) ∙ rw (z, past-zero s q n h) refl)

-- the n last bytes of a list, and zeros behind them
pub padded : (s : List ℕ) (i n : ℕ) → length s ≡ i + n → n < 8 → field s (8 * i) (8 * n) * 2 ^ (64 - 8 * n) % 2 ^ 64 ≡ field s (8 * i) 64
padded s i n e h =
    let v = 8 * (8 - n) in
    let w : 64 - 8 * n ≡ v = omega arith in
    let t : 64 ≡ 8 * n + v = omega arith in
    let p : 8 * i + 8 * n ≡ 8 * (i + n) = omega arith in
    let z : field s (8 * i + 8 * n) v ≡ 0 = rw p (past-zero s (i + n) (8 - n) (omega (arith, e))) in
    let f : field s (8 * i) 64 ≡ field s (8 * i) (8 * n) * 2 ^ v = ap (field s (8 * i)) t ∙ field-split s (8 * i) (8 * n) v ∙ rw z (add-zero _) in
    rw (w, ← f) (mod-eq_of_lt (field_lt s (8 * i) 64))

-- a field out of the 64 bits n from byte q on, of which a stand before it
pub in-word : (s : List ℕ) (q n : ℕ) → n ≡ field s (8 * q) 64 → (a w p : ℕ) → a + w < 64 → 8 * q + a ≡ p → part_of n a w ≡ field s p w
in-word s q n e a w p h d =
    let f : 64 ≡ a + (w + (64 - a - w)) = omega arith in
    rw (e, ← d, ← cut s (8 * q) a w (64 - a - w), ← f)

-- one less than a power of two, as the machine has it, is positive and masks
pub power : (w : ℕ) → w < 64 → 1 * 2 ^ w % 2 ^ 64 ≡ 2 ^ w
power w h = rw one-mul (mod-eq_of_lt (pow-lt h))

pub mask : (n w : ℕ) → w < 64 → bit_and n (1 * 2 ^ w % 2 ^ 64 - 1) ≡ n % 2 ^ w
mask n w h = rw power (and_mask n w)

-- a part, as the machine takes it
pub taken : (n a w : ℕ) → a + w < 64 → bit_and (n / 2 / 2 ^ (63 - a - w)) (1 * 2 ^ w % 2 ^ 64 - 1) ≡ part_of n a w
taken n a w h =
    let e : 64 - a - w ≡ 1 + (63 - a - w) = omega arith in
    rw (mask _ w (omega arith), shr-shr n 1 (63 - a - w), e)
