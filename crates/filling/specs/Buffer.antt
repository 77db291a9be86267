-- A buffer with bytes written into it, and the bytes of a number.
-- Definitions only.
use Rattle.std.specs.Prelude.{◌≡◌, List, [], ◌∷◌, ◌++◌, ℕ, zero, suc, ◌+◌, ◌*◌, ◌/◌, ◌%◌, ◌^◌, ◌≤◌, length, take, drop}

-- a buffer with a text written into it from `at` on: what stands before and behind is as it was
unfoldable pub written : List ℕ → ℕ → List ℕ → List ℕ
written s at xs = take at s ++ (xs ++ drop (at + length xs) s)

-- what a call that writes a text answers and does: the place behind the text, and the buffer with the text written from `at` on
pub record Put (text before : List ℕ) (at r : ℕ) (after : List ℕ) : Type 0 where
  pub next : r ≡ at + length text
  pub bytes : after ≡ written before at text

-- a text of at most so many bytes at the front of a buffer: its length is answered, and the bytes behind it are as they were
pub record AtFront (text : List ℕ) (most : ℕ) (before : List ℕ) (r : ℕ) (after : List ℕ) : Type 0 where
  pub size : r ≡ length text
  pub bytes : after ≡ text ++ drop r before
  pub longest : r ≤ most
  -- both follow, and are what lending the part that was written asks
  pub within : r ≤ length after
  pub part : r ≡ length (take r after)

-- the n low bytes of a number, the most significant first
unfoldable pub big_endian : ℕ → ℕ → List ℕ
big_endian zero v = []
big_endian (suc n) v = v / 2 ^ (8 * n) % 256 ∷ big_endian n v
