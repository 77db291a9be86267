-- What is said of a log in words. Definitions only.
use Rattle.std.specs.Prelude.{List, [], ℕ}
use Rattle.rules.specs.Grounds.{Verdict}
use Rattle.std.specs.declared.result.Result.TheVariants.{Ok, Err}
use Rattle.rules.specs.Verdict.{verdict}
use Rattle.card.specs.Card.{words_of}

-- why a log is refused, and nothing of an accepted one
abbrev pub words_by : Verdict → List ℕ
words_by (Ok tt) = []
words_by (Err x) = words_of x

unfoldable pub in_words : List ℕ → List ℕ
unfolding verdict words_of
in_words s = words_by (verdict s)
