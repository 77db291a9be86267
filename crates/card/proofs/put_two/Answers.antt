-- `card::put_two` meets its contract: the second text stands behind the first. Assumes nothing.
use Rattle.filling.proofs.Written.{then}
use Rattle.card.proofs.put_two.Goals as goal

pub returns : goal.returns
returns c = then c.put_text-behind.ensures c.put_text.ensures
