-- `reporting::put_report` meets its contract: the heading, the modules' lines and the tool's line are put one behind the other.
-- Assumes nothing.
use mathlib.Core.List.{List}
use Prim.Native.Nat.{ℕ}
use native.Mathlib.Omega.{arith}
use Rattle.records.specs.Log.{Log, decode}
use Rattle.rules.specs.Quantities.{of_module, of_tool}
use Rattle.report.specs.Report.{heading, module_line, tool_line, report_of}
use Rattle.report.proofs.Lengths.{heading-length}
use Rattle.report.proofs.Tables.{head_room, lines_room, last_room, all_put}
use Rattle.filling.specs.Buffer.{Put}
use Rattle.judging.proofs.Accepted.{tool_ordered}
use Rattle.reporting.specs.Reports.{report_text}
use Rattle.reporting.proofs.put_report.Goals as goal

abbrev line : Log → ℕ → List ℕ
line l m = module_line m (of_module l m)

abbrev last : Log → List ℕ
last l = tool_line (of_tool l)

pub put_heading-lines-requires : goal.put_heading-lines-requires
unfolding report_text report_of
put_heading-lines-requires c =
    let l = decode c.args.account.now.log.bytes.now in
    rw heading-length at (head_room heading (line l) l.modules (last l) c.args.buf.now c.requires)

pub put_lines-tool-requires : goal.put_lines-tool-requires
unfolding report_text report_of
put_lines-tool-requires c =
    let p = c.put_heading-lines in
    let l = decode c.args.account.now.log.bytes.now in
    lines_room heading (line l) l.modules (last l) c.args.buf.now c.requires p.result p.new.buf p.ensures

pub put_tool_line-requires-clause-ordered : goal.put_tool_line-requires-clause-ordered
put_tool_line-requires-clause-ordered c =
    let ordered = tool_ordered (decode c.args.account.now.log.bytes.now) c.args.account.now.consistent in
    grind (arith, ordered)

pub put_tool_line-requires-clause-q_in_bounds : goal.put_tool_line-requires-clause-q_in_bounds
unfolding report_text report_of
put_tool_line-requires-clause-q_in_bounds c =
    let p = c.put_heading-lines in
    let l = decode c.args.account.now.log.bytes.now in
    let room = last_room heading (line l) l.modules (last l) c.args.buf.now c.requires p.result c.put_lines-tool.result p.new.buf c.put_lines-tool.new.buf p.ensures c.put_lines-tool.ensures in
    grind (arith, room)

pub returns : goal.returns
unfolding report_text report_of
returns c =
    let p = c.put_heading-lines in
    let q = c.put_tool_line in
    let l = decode c.args.account.now.log.bytes.now in
    let tool : Put (last l) c.put_lines-tool.new.buf c.put_lines-tool.result q.result q.new.buf = grind (arith, q.ensures) in
    all_put heading (line l) l.modules (last l) c.args.buf.now c.requires p.result c.put_lines-tool.result q.result p.new.buf c.put_lines-tool.new.buf q.new.buf p.ensures c.put_lines-tool.ensures tool
