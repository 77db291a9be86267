-- `report::put_labelled` meets its contract: the number stands behind the label, and one of 64 bits has at most 20 digits. Assumes nothing.
use Prim.Native.Nat.{◌≤◌}
use native.Mathlib.Omega.{arith}
use lib.ListN.{length}
use Rattle.report.specs.Report.{decimal}
use Rattle.filling.proofs.Written.{then}
use Rattle.report.proofs.Decimals.{decimal-length}
use Rattle.report.proofs.put_labelled.Goals as goal

pub put_decimal-requires : goal.put_decimal-requires
put_decimal-requires c =
    let few : length (decimal c.args.n) ≤ 20 = decimal-length 19 c.args.n (omega arith) in
    omega (arith, few)

pub returns : goal.returns
returns c =
    let few : length (decimal c.args.n) ≤ 20 = decimal-length 19 c.args.n (omega arith) in
    record { put = then c.put_text-number.ensures c.put_decimal.ensures; upper_bound = omega (arith, few) }
