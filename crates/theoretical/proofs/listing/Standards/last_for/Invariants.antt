use Rattle.theoretical.specs.Listing.{standard_of, entry_of}
use Rattle.theoretical.proofs.Chains.{Seeking}
use Rattle.theoretical.proofs.listing.Standards.last_for.Given as goal

abbrev pub invariant-loop-from : goal.invariant-loop-from
invariant-loop-from l = Seeking (λ j. standard_of (entry_of l.self-inside.entries j)) l.module l.recipe l.self-inside.count l.from

abbrev pub decreases-loop-from : goal.decreases-loop-from
decreases-loop-from l = l.from
