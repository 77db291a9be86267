-- `printing::put_number` meets its contract: the number stands behind the space. Assumes nothing.
use native.Mathlib.Omega.{arith}
use Rattle.filling.proofs.Written.{then}
use Rattle.printing.specs.Tables.{number}
use Rattle.printing.proofs.Numbers.{number-length}
use Rattle.printing.proofs.put_number.Goals as goal

pub put_text-space-requires : goal.put_text-space-requires
put_text-space-requires c = omega (arith, number-length c.args.v)

pub put_decimal-requires : goal.put_decimal-requires
put_decimal-requires c = omega (arith, number-length c.args.v)

pub returns : goal.returns
unfolding number
returns c = (then) c.put_text-space.ensures c.put_decimal.ensures
