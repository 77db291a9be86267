-- The laws of `put_field`: what is written reads back, and what stands before it is as it was.
-- Assumes nothing.
use mathlib.Core.Path.{◌≡◌, refl, sym, ap, ◌∙◌}
use mathlib.Core.Bool.{Bool, cond, true, false}
use mathlib.Core.List.{List, [], ◌∷◌}
use Prim.Native.Nat.{ℕ, zero, suc, ◌+◌, ◌-◌, ◌*◌, ◌/◌, ◌%◌, ◌^◌, ◌≤◌, ◌<◌}
use native.Mathlib.Nat.{add-zero, zero-add, mod-eq_of_lt}
use native.Mathlib.Numerals.{one-add}
use native.Mathlib.Omega.{arith}
use borrow.Author.Tests.{lt-ltb, le-ltb}
use lib.Dec.{ltb}
use native.Mathlib.Decide.{dec_lt}
use lib.ListN.{length, get_or, replicate, length-replicate, get_or-replicate, get_or-eq_default}
use lib.Pow.{mod-pow-add}
use lib.Seq.{ext_get_or}
use Rattle.bits.specs.Bits.{bit, field}
use Rattle.bits.specs.Put.{number, bytes_of, put_bit, put_field, Slot, put_fields, packed, Fit}
use Rattle.bits.proofs.Fields.{bit-lt, number_same, number_lt, number_cut, field-number, field-same, byte-field}

pub length-bytes : (f : ℕ → ℕ) (q n : ℕ) → length (bytes_of f q n) ≡ n
unfolding bytes_of
length-bytes f q zero = refl
length-bytes f q (suc n) = ap suc (length-bytes f (q + 1) n)

pub get_or-bytes : (f : ℕ → ℕ) (q n k : ℕ) → k < n → get_or (bytes_of f q n) k 0 ≡ number f (8 * (q + k)) 8
unfolding bytes_of
get_or-bytes f q zero k h = absurd (omega arith)
get_or-bytes f q (suc n) zero h = rw add-zero
get_or-bytes f q (suc n) (suc k) h =
    let e : q + suc k ≡ q + 1 + k = omega arith in
    rw e (get_or-bytes f (q + 1) n k (omega arith))

one_bit : (f : ℕ → ℕ) (i : ℕ) → number f i 1 ≡ f i
unfolding number
one_bit f i = omega arith

-- a list of bytes that are made of bits has these bits
pub bit-bytes : (f : ℕ → ℕ) → ((j : ℕ) → f j < 2) → (n j : ℕ) → j < 8 * n → bit (bytes_of f 0 n) j ≡ f j
unfolding bit
bit-bytes f bits n j h =
    let e : 8 ≡ j % 8 + (1 + (7 - j % 8)) = omega arith in
    let d : 8 * (j / 8) + j % 8 ≡ j = omega arith in
    rw (get_or-bytes f 0 n (j / 8) (omega arith), zero-add)
    (ap (λ (x : ℕ). number f (8 * (j / 8)) x / 2 ^ (7 - j % 8) % 2) e ∙ number_cut f bits (8 * (j / 8)) (j % 8) 1 (7 - j % 8) ∙ one_bit f _ ∙ ap f d)

-- ---- the bits of a list that was written to

pub put-before : (s : List ℕ) (i w v j : ℕ) → j < i → put_bit s i w v j ≡ bit s j
unfolding put_bit
put-before s i w v j h = rw (lt-ltb j i h)

pub put-within : (s : List ℕ) (i w v j : ℕ) → i ≤ j → j < i + w → put_bit s i w v j ≡ v / 2 ^ (i + w - 1 - j) % 2
unfolding put_bit
put-within s i w v j l h = rw (le-ltb j i l, lt-ltb j (i + w) h)

cond-lt : (b c : Bool) (x y : ℕ) → x < 2 → y < 2 → cond b x (cond c y x) < 2
cond-lt true c x y h l = h
cond-lt false true x y h l = l
cond-lt false false x y h l = h

pub put-lt : (s : List ℕ) (i w v j : ℕ) → put_bit s i w v j < 2
unfolding put_bit
put-lt s i w v j = cond-lt (ltb j i) (ltb j (i + w)) (bit s j) _ (bit-lt s j) (omega arith)

-- the bits of v, one after the other, make v's w low bits
value : (v i w e : ℕ) → i + w ≡ e → number (λ j. v / 2 ^ (e - 1 - j) % 2) i w ≡ v % 2 ^ w
unfolding number
value v i zero e h = omega arith
value v i (suc w) e h =
    let d : e - 1 - i ≡ w = omega arith in
    rw (value v (i + 1) w e (omega arith), d, ← one-add w, mod-pow-add v 1 w)

module _ (s : List ℕ) (i w v : ℕ) where
  pub length_put : length (put_field s i w v) ≡ length s
  unfolding put_field
  length_put = length-bytes (put_bit s i w v) 0 (length s)

  pub bit_put : (j : ℕ) → j < 8 * length s → bit (put_field s i w v) j ≡ put_bit s i w v j
  unfolding put_field
  bit_put j h = bit-bytes (put_bit s i w v) (put-lt s i w v) (length s) j h

  -- what is written reads back
  pub read_back : i + w ≤ 8 * length s → field (put_field s i w v) i w ≡ v % 2 ^ w
  read_back h =
      field-number (put_field s i w v) i w
      ∙ number_same (bit (put_field s i w v)) (λ j. v / 2 ^ (i + w - 1 - j) % 2) i w (λ j l m. bit_put j (omega arith) ∙ put-within s i w v j l m)
      ∙ value v i w (i + w) refl

  pub byte_put : (k : ℕ) → get_or (put_field s i w v) k 0 < 256
  unfolding put_field
  byte_put k =
      elim (dec_lt k (length s)) [
        | yes h ↦ rw (get_or-bytes (put_bit s i w v) 0 (length s) k h) (number_lt (put_bit s i w v) (put-lt s i w v) (8 * (0 + k)) 8)
        | no h ↦ rw (get_or-eq_default (bytes_of (put_bit s i w v) 0 (length s)) 0 {n = k} (rw (length-bytes (put_bit s i w v) 0 (length s)) (omega arith))) (omega arith)
      ]

-- two lists of bytes with the same bits are the same
pub same_bits : (s t : List ℕ) → ((k : ℕ) → get_or s k 0 < 256) → ((k : ℕ) → get_or t k 0 < 256) → length s ≡ length t
    → ((j : ℕ) → j < 8 * length s → bit s j ≡ bit t j) → s ≡ t
same_bits s t hs ht e h =
    ext_get_or 0 s t e
    (λ k l. sym (byte-field s k (hs k)) ∙ field-number s (8 * k) 8 ∙ number_same (bit s) (bit t) (8 * k) 8 (λ j m n. h j (omega arith)) ∙ sym (field-number t (8 * k) 8) ∙ byte-field t k (ht k))

-- ---- fields side by side

-- how many bits they take
abbrev pub total : List Slot → ℕ
total [] = 0
total (f ∷ fs) = f.width + total fs

-- what is read where they stand
abbrev pub read : List ℕ → ℕ → List Slot → List ℕ
read t i [] = []
read t i (f ∷ fs) = field t i f.width ∷ read t (i + f.width) fs

abbrev pub values : List Slot → List ℕ
values [] = []
values (f ∷ fs) = f.value ∷ values fs

-- each number is what t has where it is put
abbrev pub Own : List ℕ → ℕ → List Slot → Type 0
Own t i [] = Unit {0}
Own t i (f ∷ fs) = (f.value ≡ field t i f.width) × Own t (i + f.width) fs

pub length-puts : (s : List ℕ) (i : ℕ) (fs : List Slot) → length (put_fields s i fs) ≡ length s
unfolding put_fields
length-puts s i [] = refl
length-puts s i (f ∷ fs) = length-puts (put_field s i f.width f.value) (i + f.width) fs ∙ length_put s i f.width f.value

pub byte-puts : (s : List ℕ) (i : ℕ) (fs : List Slot) → ((k : ℕ) → get_or s k 0 < 256) → (k : ℕ) → get_or (put_fields s i fs) k 0 < 256
unfolding put_fields
byte-puts s i [] h k = h k
byte-puts s i (f ∷ fs) h k = byte-puts (put_field s i f.width f.value) (i + f.width) fs (byte_put s i f.width f.value) k

-- what stands before them is as it was
pub bit-before : (s : List ℕ) (i : ℕ) (fs : List Slot) (j : ℕ) → j < i → j < 8 * length s → bit (put_fields s i fs) j ≡ bit s j
unfolding put_fields
bit-before s i [] j l h = refl
bit-before s i (f ∷ fs) j l h =
    bit-before (put_field s i f.width f.value) (i + f.width) fs j (omega arith) (omega (arith, length_put s i f.width f.value))
    ∙ bit_put s i f.width f.value j h
    ∙ put-before s i f.width f.value j l

-- each reads back
pub read-puts : (s : List ℕ) (i : ℕ) (fs : List Slot) → Fit fs → i + total fs ≤ 8 * length s → read (put_fields s i fs) i fs ≡ values fs
unfolding put_fields
read-puts s i [] fit h = refl
read-puts s i (f ∷ fs) fit h =
    let t = put_field s i f.width f.value in
    let len : length t ≡ length s = length_put s i f.width f.value in
    let first : field (put_fields t (i + f.width) fs) i f.width ≡ f.value
    = field-same (put_fields t (i + f.width) fs) t i f.width (λ j l m. bit-before t (i + f.width) fs j m (omega arith))
    ∙ read_back s i f.width f.value (omega arith) ∙ mod-eq_of_lt fit.0 in
    rw (first, read-puts t (i + f.width) fs fit.1 (omega arith))

-- a bit of a field is that bit of the list
field-bit : (t : List ℕ) (i w j : ℕ) → i ≤ j → j < i + w → field t i w / 2 ^ (i + w - 1 - j) % 2 ≡ bit t j
field-bit t i w j l h =
    let e : w ≡ j - i + (1 + (i + w - 1 - j)) = omega arith in
    let d : i + (j - i) ≡ j = omega arith in
    rw (field-number t i w) (ap (λ (x : ℕ). number (bit t) i x / 2 ^ (i + w - 1 - j) % 2) e ∙ number_cut (bit t) (bit-lt t) i (j - i) 1 (i + w - 1 - j) ∙ one_bit (bit t) _ ∙ ap (bit t) d)

-- numbers that a list has, put where it has them, bring its bits
pub own_bits : (t s : List ℕ) (i : ℕ) (fs : List Slot) → Own t i fs → (j : ℕ) → i ≤ j → j < i + total fs → j < 8 * length s → bit (put_fields s i fs) j ≡ bit t j
unfolding put_fields
own_bits t s i [] own j l m h = absurd (omega arith)
own_bits t s i (f ∷ fs) own j l m h =
    let u = put_field s i f.width f.value in
    let len : length u ≡ length s = length_put s i f.width f.value in
    elim (dec_lt j (i + f.width)) [
      | yes b ↦
          bit-before u (i + f.width) fs j b (omega arith)
          ∙ bit_put s i f.width f.value j h
          ∙ put-within s i f.width f.value j l b
          ∙ rw own.0 (field-bit t i f.width j l b)
      | no b ↦ own_bits t u (i + f.width) fs own.1 j (omega arith) (omega arith) (omega arith)
    ]

-- ---- n bytes made of fields

zeros : (n k : ℕ) → get_or (replicate n 0) k 0 < 256
zeros n k =
    elim (dec_lt k n) [
      | yes h ↦ rw (get_or-replicate {A = ℕ} n k 0 0 h) (omega arith)
      | no h ↦ rw (get_or-eq_default {A = ℕ} (replicate n 0) 0 {n = k} (rw (length-replicate {A = ℕ} n 0) (omega arith))) (omega arith)
    ]

pub length-packed : (n : ℕ) (fs : List Slot) → length (packed n fs) ≡ n
unfolding packed
length-packed n fs = length-puts (replicate n 0) 0 fs ∙ length-replicate {A = ℕ} n 0

pub byte-packed : (n : ℕ) (fs : List Slot) (k : ℕ) → get_or (packed n fs) k 0 < 256
unfolding packed
byte-packed n fs = byte-puts (replicate n 0) 0 fs (zeros n)

pub read-packed : (n : ℕ) (fs : List Slot) → Fit fs → total fs ≤ 8 * n → read (packed n fs) 0 fs ≡ values fs
unfolding packed
read-packed n fs fit h = read-puts (replicate n 0) 0 fs fit (rw (length-replicate {A = ℕ} n 0, zero-add (total fs)) h)

-- n bytes are made of the fields that they have
pub packed-own : (t : List ℕ) (n : ℕ) (fs : List Slot) → ((k : ℕ) → get_or t k 0 < 256) → length t ≡ n → total fs ≡ 8 * n → Own t 0 fs → packed n fs ≡ t
unfolding packed
packed-own t n fs bytes len all own =
    same_bits (packed n fs) t (byte-packed n fs) bytes (length-packed n fs ∙ sym len)
    (λ j h. own_bits t (replicate n 0) 0 fs own j (omega arith) (omega (arith, length-packed n fs)) (omega (arith, length-packed n fs, length-replicate {A = ℕ} n 0)))
