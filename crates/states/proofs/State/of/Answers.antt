-- `states::State::of` meets its contract: the rule of the table.
-- Assumes nothing.
use Rattle.states.proofs.Table.{table-state}
use Rattle.states.proofs.State.of.Goals as goal

pub returns : goal.returns
returns c = table-state c.args.code c.requires
