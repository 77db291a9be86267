-- `card::explain` meets its contract: every ground has its number on the card. Assumes nothing.
use mathlib.Core.Path.{◌≡◌, refl}
use Rattle.filling.proofs.Written.{front-nothing}
use Rattle.rules.specs.declared.Ground.{Ground}
use Rattle.rules.specs.declared.Ground.TheVariants.{NoHeader}
use Rattle.rules.specs.Names.{number_of}
use Rattle.card.specs.Card.{row_text, explained}
use Rattle.card.proofs.explain.Goals as goal

explained-ground : (g : Ground) → row_text (number_of g) ≡ explained (number_of g)
unfolding explained
explained-ground NoHeader = refl
explained-ground g = refl

pub returns-in-Some : goal.returns-in-Some
returns-in-Some c = rw (← c.in-Some.ensures, ← explained-ground c.in-Some.ground) c.put_row.ensures

pub returns-in-None : goal.returns-in-None
unfolding explained
returns-in-None c = rw c.in-None.ensures (front-nothing 512 _)
