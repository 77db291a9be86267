-- `credit_units` meets its contract: the standards are tested and listed, then the unit records are tested and credited by the listing.
-- Assumes nothing.
use mathlib.Core.Path.{sym}
use Rattle.rules.proofs.Risen.{standards-rise}
use Rattle.theoretical.proofs.Counting.{counted-from_zero}
use Rattle.theoretical.proofs.Crediting.{summed-none}
use Rattle.theoretical.proofs.credit_units.Goals as goal

pub credit_listed-requires-clause-rising : goal.credit_listed-requires-clause-rising
credit_listed-requires-clause-rising c = rw c.in_ok-list_standards.ensures.listed (standards-rise _ _ _ (sym c.in_ok-list_standards.ensures.answer))

pub credit_listed-requires-clause-summed : goal.credit_listed-requires-clause-summed
credit_listed-requires-clause-summed c = summed-none _ _ _ _ c.requires.actual_value.0 c.requires.actual_value.1

pub credit_listed-requires-clause-judged : goal.credit_listed-requires-clause-judged
credit_listed-requires-clause-judged c = counted-from_zero _ _ _ _ c.requires.actual_value.2
