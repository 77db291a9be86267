-- `Standards::new` meets its contract. Assumes nothing.
use mathlib.Core.Path.{refl}
use Rattle.records.specs.Log.{up_to}
use Rattle.theoretical.proofs.Chains.{chained_none}
use Rattle.theoretical.proofs.listing.Standards.new.Goals as goal

pub invariant_of-result : goal.invariant_of-result
invariant_of-result c = chained_none _ _ _ refl

pub returns : goal.returns
unfolding up_to
returns c = refl
