-- What a text says as a number. Definitions only.
use Rattle.std.specs.Prelude.{◌≡◌, List, ℕ, ◌^◌, ◌<◌, Option, MatchOption}
use Rattle.report.specs.Report.{decimal}

-- no number of 64 bits is written so
abbrev pub NotDecimal : List ℕ → Type 0
NotDecimal text = (n : ℕ) → n < 2 ^ 64 → text ≡ decimal n → ⊥

-- the number whose decimal the text is, with no sign and no leading zero, or none, where no number of 64 bits has that decimal
abbrev pub ParsedFrom : List ℕ → Option ℕ → Type 0
ParsedFrom text r = MatchOption r (NotDecimal text) (λ n. text ≡ decimal n)
