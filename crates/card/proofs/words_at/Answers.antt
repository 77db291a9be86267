-- `card::words_at` meets its contract: the row is the number's, and the refusal points where the numbers do. Assumes nothing.
use Rattle.card.specs.Card.{words_at}
use Rattle.card.proofs.words_at.Goals as goal

pub returns : goal.returns
unfolding words_at
returns c = rw (← c.row_at.ensures.its_word, ← c.row_at.ensures.its_meaning, ← c.refusal_at.ensures) c.put_words.ensures
