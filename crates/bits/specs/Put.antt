-- A list of bytes with the bits of a field replaced, and bytes made of fields side by side.
-- Definitions only.
use Rattle.std.specs.Prelude.{ℕ, zero, suc, ◌+◌, ◌-◌, ◌*◌, ◌/◌, ◌%◌, ◌^◌, ◌<◌, cond, List, [], ◌∷◌, ltb, length, replicate}
use Rattle.bits.specs.Bits.{bit}

-- the number whose binary digits are f i, f (i + 1), .. , f (i + w - 1)
unfoldable pub number : (ℕ → ℕ) → ℕ → ℕ → ℕ
number f i zero = 0
number f i (suc w) = f i * 2 ^ w + number f (i + 1) w

-- the n bytes from byte q on whose bits are those of f
unfoldable pub bytes_of : (ℕ → ℕ) → ℕ → ℕ → List ℕ
bytes_of f q zero = []
bytes_of f q (suc n) = number f (8 * q) 8 ∷ bytes_of f (q + 1) n

-- bit j of the list whose w bits from bit i on are the w low digits of v: v's from i on, the list's elsewhere
unfoldable pub put_bit : List ℕ → ℕ → ℕ → ℕ → ℕ → ℕ
put_bit s i w v j = cond (ltb j i) (bit s j) (cond (ltb j (i + w)) (v / 2 ^ (i + w - 1 - j) % 2) (bit s j))

-- the list with the field of w bits from bit i on made v
unfoldable pub put_field : List ℕ → ℕ → ℕ → ℕ → List ℕ
put_field s i w v = bytes_of (put_bit s i w v) 0 (length s)

-- a number to put, and the width of its field
pub record Slot : Type 0 where
  pub width : ℕ
  pub value : ℕ

-- the list with fields put side by side from bit i on
unfoldable pub put_fields : List ℕ → ℕ → List Slot → List ℕ
unfolding put_field
put_fields s i [] = s
put_fields s i (f ∷ fs) = put_fields (put_field s i f.width f.value) (i + f.width) fs

-- n bytes made of fields side by side, with zeros behind them
unfoldable pub packed : ℕ → List Slot → List ℕ
unfolding put_fields
packed n fs = put_fields (replicate n 0) 0 fs

-- each number fits its field
abbrev pub Fit : List Slot → Type 0
Fit [] = Unit {0}
Fit (f ∷ fs) = (f.value < 2 ^ f.width) × Fit fs
