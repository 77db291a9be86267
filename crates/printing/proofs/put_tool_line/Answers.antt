-- `printing::put_tool_line` meets its contract: what the table tells of the tool stands behind the word. Assumes nothing.
use native.Mathlib.Omega.{arith}
use Rattle.records.specs.Log.{decode}
use Rattle.judging.proofs.Accepted.{tool_ordered}
use Rattle.report.specs.Report.{tool}
use Rattle.filling.proofs.Written.{then, read_as}
use Rattle.printing.specs.Tables.{tool_in}
use Rattle.printing.proofs.Printing.{told_same, tool-length}
use Rattle.printing.proofs.put_tool_line.Goals as goal

pub put_text-name-requires : goal.put_text-name-requires
put_text-name-requires c = omega (arith, c.requires, tool-length c.args.table (decode c.args.account.now.log.bytes.now))

pub put_told-requires-clause-ordered : goal.put_told-requires-clause-ordered
put_told-requires-clause-ordered c = rw c.tool_quantities.ensures (tool_ordered _ c.args.account.now.consistent)

pub put_told-requires-clause-in_bounds : goal.put_told-requires-clause-in_bounds
put_told-requires-clause-in_bounds c =
    rw (told_same c.args.table c.tool_times.ensures c.tool_quantities.ensures)
    (omega (arith, c.requires, tool-length c.args.table (decode c.args.account.now.log.bytes.now)))

pub returns : goal.returns
unfolding tool_in tool
returns c = (then) c.put_text-name.ensures (read_as (told_same c.args.table c.tool_times.ensures c.tool_quantities.ensures) c.put_told.ensures)
