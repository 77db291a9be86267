-- `card::row_at` meets its contract: a number that the card does not have has no fields. Assumes nothing.
use Rattle.card.proofs.OffCard.{off-card}
use Rattle.card.proofs.row_at.Goals as goal

pub returns-in-None : goal.returns-in-None
returns-in-None c = off-card c.args.number c.in-None.ensures
