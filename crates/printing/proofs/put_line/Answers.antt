-- `printing::put_line` meets its contract: what the table tells of the module stands behind its number. Assumes nothing.
use native.Mathlib.Omega.{arith}
use Prim.Native.Nat.{◌<◌}
use Rattle.records.specs.Log.{decode}
use Rattle.filling.proofs.Written.{then, read_as}
use Rattle.printing.proofs.Printing.{told_same, line_decimal, line_length_lem}
use Rattle.printing.proofs.put_line.Goals as goal

pub put_decimal-number-requires : goal.put_decimal-number-requires
put_decimal-number-requires c =
    let low : c.args.m < 64 = omega (arith, c.args.account.now.consistent.few) in
    omega (arith, line_length_lem c.args.table (decode c.args.account.now.log.bytes.now) c.args.m low)

pub put_told-requires-clause-ordered : goal.put_told-requires-clause-ordered
put_told-requires-clause-ordered c = rw c.module_quantities.ensures (c.args.account.now.consistent.each c.args.m c.requires.m_bound)

pub put_told-requires-clause-in_bounds : goal.put_told-requires-clause-in_bounds
put_told-requires-clause-in_bounds c =
    let low : c.args.m < 64 = omega (arith, c.args.account.now.consistent.few) in
    rw (told_same c.args.table c.module_times.ensures c.module_quantities.ensures)
    (omega (arith, c.requires.m_in_bounds, line_length_lem c.args.table (decode c.args.account.now.log.bytes.now) c.args.m low))

pub returns : goal.returns
returns c =
    let low : c.args.m < 64 = omega (arith, c.args.account.now.consistent.few) in
    let told = read_as (told_same c.args.table c.module_times.ensures c.module_quantities.ensures) c.put_told.ensures in
    read_as (line_decimal c.args.table (decode c.args.account.now.log.bytes.now) c.args.m low) ((then) c.put_decimal-number.ensures told)
