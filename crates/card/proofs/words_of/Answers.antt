-- `card::words_of` meets its contract: the row is the ground's. Assumes nothing.
use Rattle.card.specs.Card.{words_of}
use Rattle.card.proofs.words_of.Goals as goal

pub returns : goal.returns
unfolding words_of
returns c = rw (← c.row_of.ensures.its_word, ← c.row_of.ensures.its_meaning) c.put_words.ensures
