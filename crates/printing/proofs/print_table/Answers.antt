-- `printing::print_table` meets its contract: one of the two texts is written at the front, and every table fits 5,000 bytes. Assumes nothing.
use native.Mathlib.Omega.{arith}
use lib.Dec.{lit≤}
use Rattle.reporting.proofs.Reporting.{prints_refused, prints_text}
use Rattle.printing.specs.Tables.{table_text}
use Rattle.printing.proofs.Printing.{table_longest}
use Rattle.printing.proofs.print_table.Goals as goal

pub put_table-requires : goal.put_table-requires
put_table-requires c = omega (arith, table_longest _ c.in-Ok.account.consistent c.args.table)

pub returns-in-Ok : goal.returns-in-Ok
returns-in-Ok c =
    let a = c.args in
    let own = rw c.in-Ok.is at c.judge_log.ensures in
    let accepted = rw own at c.in-Ok.account.accepted in
    let fits = table_longest _ (rw own at c.in-Ok.account.consistent) a.table in
    prints_text (table_text a.table) 5000 a.log.now a.buf.now _ _ accepted fits (rw own at c.put_table.ensures)

pub returns-in-Err : goal.returns-in-Err
returns-in-Err c =
    let a = c.args in
    prints_refused (table_text a.table) 5000 a.log.now a.buf.now _ _ _ (rw c.in-Err.is at c.judge_log.ensures) c.put_refused_line.ensures (lit≤ tt)
