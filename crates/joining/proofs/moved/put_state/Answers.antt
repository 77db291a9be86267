-- `joining::moved::put_state` meets its contract: the six bytes are those of the record's number, moved up. Assumes nothing.
use mathlib.Core.Path.{sym}
use Rattle.filling.proofs.Written.{read_as}
use Rattle.joining.proofs.MovedBytes.{state-moved}
use Rattle.joining.proofs.moved.put_state.Goals as goal

pub returns : goal.returns
returns c = read_as (rw c.read_word-word.ensures (sym (state-moved c.args.states.bytes.now c.args.i c.args.by c.requires.fits))) c.put_number.ensures
