-- `reporting::lines_length` meets its contract: the length so far is that of the lines passed.
-- Assumes nothing.
use mathlib.Core.Path.{sym, ap, ◌∙◌}
use native.Mathlib.Omega.{arith}
use lib.ListN.{length}
use Rattle.records.specs.Log.{decode}
use Rattle.e79.specs.declared.Quantities.{Quantities}
use Rattle.rules.specs.Quantities.{of_module}
use Rattle.report.specs.Report.{module_line}
use Rattle.report.proofs.Tables.{lines_none, length_more}
use Rattle.reporting.proofs.lines_length.Goals as goal

pub loop-m-init : goal.loop-m-init
loop-m-init c = (sym (ap length (lines_none (λ m. module_line m (of_module (decode c.args.account.now.log.bytes.now) m)))), omega arith)

pub loop-m-preserved : goal.loop-m-preserved
loop-m-preserved c =
    let d = decode c.args.account.now.log.bytes.now in
    let size = c.module_line_length-size.ensures.size ∙ ap (λ (q : Quantities). length (module_line c.loop-m.m q)) c.module_quantities.ensures in
    (omega (arith, c.loop-m.invariant.0, size, length_more (λ m. module_line m (of_module d m)) c.loop-m.m), omega (arith, c.loop-m.invariant.1, c.module_line_length-size.ensures.within))
