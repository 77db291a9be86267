-- The lines of a text. Definitions only.
use Rattle.std.specs.Prelude.{◌≡◌, cond, List, [], ◌∷◌, ◌++◌, ℕ, zero, suc, ◌+◌, eqb, length, take}

-- how many bytes of a text are 10
unfoldable pub ends : List ℕ → ℕ
ends [] = 0
ends (b ∷ s) = cond (eqb b 10) 1 0 + ends s

-- a line ends in byte 10, and has no other byte 10 inside
pub record Line (s : List ℕ) : Type 0 where
  pub inside : List ℕ
  pub ending : s ≡ inside ++ (10 ∷ [])
  pub no_other : ends inside ≡ 0

-- so many lines, one behind the other, and nothing else
pub data Lines : ℕ → List ℕ → Type 0 where
  none : Lines zero []
  more : {n : ℕ} {s x : List ℕ} → Lines n s → Line x → Lines (suc n) (s ++ x)

-- the last line, behind n others, begins with a word
pub record LastLine (s : List ℕ) (n : ℕ) (word : List ℕ) : Type 0 where
  pub front : List ℕ
  pub last : List ℕ
  pub whole : s ≡ front ++ last
  pub lines : Lines n front
  pub line : Line last
  pub begins : take (length word) last ≡ word
