-- `printing::put_table` meets its contract: the heading, the modules' lines and the tool's line are put one behind the other. Assumes nothing.
use mathlib.Core.Path.{ap}
use native.Mathlib.Omega.{arith}
use lib.ListN.{length}
use Rattle.records.specs.Log.{decode}
use Rattle.report.proofs.Tables.{head_room, lines_room, last_room, all_put}
use Rattle.filling.proofs.Written.{read_as}
use Rattle.printing.specs.Tables.{heading_of, line_in, tool_in, table_text}
use Rattle.printing.proofs.put_table.Goals as goal

pub put_text-lines-requires : goal.put_text-lines-requires
unfolding table_text
put_text-lines-requires c =
    let l = decode c.args.account.now.log.bytes.now in
    let t = c.args.table in
    omega (arith, ap length c.heading.ensures, head_room (heading_of t) (line_in t l) l.modules (tool_in t l) c.args.buf.now c.requires)

pub put_lines-tool-requires : goal.put_lines-tool-requires
unfolding table_text
put_lines-tool-requires c =
    let l = decode c.args.account.now.log.bytes.now in
    let t = c.args.table in
    lines_room (heading_of t) (line_in t l) l.modules (tool_in t l) _ c.requires _ _ (read_as c.heading.ensures c.put_text-lines.ensures)

pub put_tool_line-requires : goal.put_tool_line-requires
unfolding table_text
put_tool_line-requires c =
    let l = decode c.args.account.now.log.bytes.now in
    let t = c.args.table in
    last_room (heading_of t) (line_in t l) l.modules (tool_in t l) _ c.requires _ _ _ _ (read_as c.heading.ensures c.put_text-lines.ensures) c.put_lines-tool.ensures

pub returns : goal.returns
unfolding table_text
returns c =
    let l = decode c.args.account.now.log.bytes.now in
    let t = c.args.table in
    all_put (heading_of t) (line_in t l) l.modules (tool_in t l) _ c.requires _ _ _ _ _ _ (read_as c.heading.ensures c.put_text-lines.ensures) c.put_lines-tool.ensures c.put_tool_line.ensures
