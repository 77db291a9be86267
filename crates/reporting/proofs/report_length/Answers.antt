-- `reporting::report_length` meets its contract: the heading, the modules' lines and the tool's line are the report.
-- Assumes nothing.
use mathlib.Core.Path.{ap, ◌∙◌}
use native.Mathlib.Omega.{arith}
use lib.ListN.{length}
use Rattle.records.specs.Log.{decode}
use Rattle.e79.specs.declared.Quantities.{Quantities}
use Rattle.report.specs.Report.{tool_line}
use Rattle.reporting.proofs.Reporting.{report_length_lem}
use Rattle.reporting.proofs.report_length.Goals as goal

pub returns : goal.returns
returns c =
    let tool = c.tool_line_length.ensures.size ∙ ap (λ (q : Quantities). length (tool_line q)) c.tool_quantities.ensures in
    omega (arith, report_length_lem (decode c.args.account.now.log.bytes.now), c.lines_length.ensures.0, tool)
