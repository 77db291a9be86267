-- Numbers of 64 bits, for the contracts of the private functions that read by whole words.
-- Definitions only.
use Rattle.std.specs.Prelude.{ℕ, ◌-◌, ◌/◌, ◌%◌, ◌^◌}

-- of a number of 64 bits, the w bits after the first a
abbrev pub part_of : ℕ → ℕ → ℕ → ℕ
part_of n a w = n / 2 ^ (64 - a - w) % 2 ^ w
