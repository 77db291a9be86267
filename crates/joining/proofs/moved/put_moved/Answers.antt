-- `joining::moved::put_moved` meets its contract: the time moved up stays in the first eight bytes. Assumes nothing.
use native.Mathlib.Omega.{arith}
use Rattle.filling.proofs.Numbers.{number-length}
use Rattle.filling.proofs.Written.{then}
use Rattle.joining.proofs.MovedBytes.{first-small}
use Rattle.joining.proofs.moved.put_moved.Goals as goal

pub overflow_add-first : goal.overflow_add-first
overflow_add-first c = rw c.read_word.ensures (record { fits = first-small c.args.log.now c.args.from c.args.n c.args.by c.requires.few c.requires.fits })

pub put_number-requires : goal.put_number-requires
put_number-requires c = let next = rw number-length at c.put_number-middle.ensures.next in (omega (arith, next), omega arith)

pub returns : goal.returns
returns c = rw (c.read_word.ensures, c.read_word-second.ensures) at ((then) c.put_number-middle.ensures c.put_number.ensures)
