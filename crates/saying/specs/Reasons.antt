-- An error's words, as they are told. Definitions only.
use Rattle.std.specs.Prelude.{◌≡◌, ◌≢◌, List, ◌++◌, ℕ}
use Rattle.report.specs.Text.{ascii}

-- what std puts between an error's words and the system's number
abbrev pub before_number : List ℕ
before_number = ascii " (os error "

-- of an error's text the words that stand ahead of the number, and all of it where no number stands in it
pub data WithoutNumber (said words : List ℕ) : Type 0 where
  numbered : (number : List ℕ) → said ≡ words ++ (before_number ++ number) → WithoutNumber said words
  plain : ((xs ys : List ℕ) → said ≢ xs ++ (before_number ++ ys)) → words ≡ said → WithoutNumber said words
