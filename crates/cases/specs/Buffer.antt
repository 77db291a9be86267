-- The pattern that a buffer is filled with before it is lent, and what is left of it. Definitions only.
use Rattle.std.specs.Prelude.{◌≡◌, ℕ, ◌+◌, ◌%◌, ◌<◌, ◌≤◌, List, length, take, slice_index}

-- the pattern at place i
abbrev pub pattern_at : ℕ → ℕ
pattern_at i = 128 + i % 127

-- the buffer holds the pattern from a place on
abbrev pub Kept : List ℕ → ℕ → Type 0
Kept s from = (k : ℕ) → from ≤ k → k < length s → slice_index s k ≡ pattern_at k

-- the buffer holds the text at its front and the pattern behind it
pub record Left (text s : List ℕ) : Type 0 where
  pub front : take (length text) s ≡ text
  pub behind : Kept s (length text)
