-- `joining::standards::key` meets its contract: the first 51 bits are module, recipe and start. Assumes nothing.
use Rattle.joining.proofs.Turning.{key_read}
use Rattle.joining.proofs.standards.key.Goals as goal

pub returns : goal.returns
returns c = rw c.read_word.ensures (key_read c.args.standards.bytes.now c.args.standards.header c.args.i)
