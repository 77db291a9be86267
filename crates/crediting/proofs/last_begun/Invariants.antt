use Rattle.records.specs.Log.{standard_at}
use Rattle.theoretical.proofs.Chains.{Searching}
use Rattle.crediting.proofs.last_begun.Given as goal

abbrev pub invariant-loop-index : goal.invariant-loop-index
invariant-loop-index l = Searching l.module l.recipe l.time (standard_at l.standards.bytes.now l.standards.header) l.standards.header.standards l.index
