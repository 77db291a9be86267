-- Numbers packed bit by bit into a list of bytes, most significant bit first. Bit 0 is the top bit of the first byte; a byte past the end counts as 0.
-- Definitions only.
use Rattle.std.specs.Prelude.{ℕ, zero, suc, ◌+◌, ◌-◌, ◌*◌, ◌/◌, ◌%◌, ◌^◌, min, List, get_or}

-- bit i of the list
unfoldable pub bit : List ℕ → ℕ → ℕ
bit s i = get_or s (i / 8) 0 / 2 ^ (7 - i % 8) % 2

-- a field: the number whose binary digits are the w bits from bit i on
unfoldable pub field : List ℕ → ℕ → ℕ → ℕ
field s i zero = 0
field s i (suc w) = bit s i * 2 ^ w + field s (i + 1) w

-- the width that is read where `w` is asked for: a field has at most 56 bits, and a greater width counts as 56
abbrev pub width_read : ℕ → ℕ
width_read w = min w 56
