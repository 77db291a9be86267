-- `card::put_around` meets its contract: the second text stands behind the number. Assumes nothing.
use Rattle.filling.proofs.Written.{then}
use Rattle.card.proofs.put_around.Goals as goal

pub returns-clause-put : goal.returns-clause-put
returns-clause-put c = then c.put_labelled-number.ensures.put c.put_text.ensures
