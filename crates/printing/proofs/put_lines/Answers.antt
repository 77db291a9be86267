-- `printing::put_lines` meets its contract: the lines of the modules passed stand in the buffer. Assumes nothing.
use native.Mathlib.Omega.{arith}
use Rattle.records.specs.Log.{decode}
use Rattle.report.proofs.Tables.{lined_none, lined_room, lined_more}
use Rattle.printing.specs.Tables.{line_in}
use Rattle.printing.proofs.put_lines.Goals as goal

pub loop-m-init : goal.loop-m-init
loop-m-init c = lined_none (line_in c.args.table (decode c.args.account.now.log.bytes.now)) _ _ _ c.requires

pub put_line-next-requires-clause-m_in_bounds : goal.put_line-next-requires-clause-m_in_bounds
put_line-next-requires-clause-m_in_bounds c = (lined_room (line_in c.args.table (decode c.args.account.now.log.bytes.now)) _ _ _ c.requires _ _ _ (omega arith) c.loop-m.invariant).1

pub loop-m-preserved : goal.loop-m-preserved
loop-m-preserved c = lined_more (line_in c.args.table (decode c.args.account.now.log.bytes.now)) _ _ _ c.requires _ _ _ _ _ (omega arith) c.loop-m.invariant c.put_line-next.ensures
