-- `effective_units` meets its contract: the standards are accepted, so they are listed and rise, and the unit records are counted by the listing.
-- Assumes nothing.
use mathlib.Core.Path.{◌≡◌, ◌∙◌}
use Rattle.std.specs.declared.result.Result.TheVariants.{Ok}
use Rattle.rules.specs.Grounds.{Verdict}
use Rattle.rules.proofs.Risen.{standards-rise}
use Rattle.theoretical.proofs.Counting.{counted-from_zero}
use Rattle.judged.proofs.effective_units.Goals as goal

pub count_units-requires-clause-rising : goal.count_units-requires-clause-rising
count_units-requires-clause-rising c =
    let passed : ◌≡◌ {A = Verdict} c.list_standards.result (Ok tt) = c.list_standards.ensures.answer ∙ rw (c.standards.ensures.0, c.standards.ensures.1) c.requires.accepted in
    let listed = rw passed at c.list_standards.ensures.listed in
    rw (listed, c.standards.ensures.0, c.standards.ensures.1) (standards-rise _ _ _ c.requires.accepted)

pub count_units-requires-clause-so_far : goal.count_units-requires-clause-so_far
count_units-requires-clause-so_far c = counted-from_zero _ _ _ _ c.requires.judged_value
