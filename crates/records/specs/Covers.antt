-- What a pass over the lists of a log asks of it, so that no record needs a test.
-- Definitions only.
use Rattle.std.specs.Prelude.{ℕ, ◌^◌, ◌≤◌, ◌<◌, List, length}

-- the first n bytes are there, and the place of each is a number of 32 bits
abbrev pub Covers : List ℕ → ℕ → Type 0
Covers s n = (n ≤ length s) × (length s < 2 ^ 32)
