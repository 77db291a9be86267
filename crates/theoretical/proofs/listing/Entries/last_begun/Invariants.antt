use Rattle.theoretical.specs.Listing.{standard_of, entry_of}
use Rattle.theoretical.proofs.Chains.{Searching}
use Rattle.theoretical.proofs.listing.Entries.last_begun.Given as goal

abbrev pub invariant-loop-index : goal.invariant-loop-index
invariant-loop-index l = Searching l.module l.recipe l.time (λ i. standard_of (entry_of l.self i)) l.from l.index
