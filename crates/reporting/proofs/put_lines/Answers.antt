-- `reporting::put_lines` meets its contract: the lines of the modules passed stand in the buffer.
-- Assumes nothing.
use mathlib.Core.Path.{ap}
use native.Mathlib.Omega.{arith}
use Rattle.records.specs.Log.{decode}
use Rattle.rules.specs.Quantities.{of_module}
use Rattle.report.specs.Report.{module_line}
use Rattle.filling.proofs.Written.{read_as}
use Rattle.report.proofs.Tables.{lined_none, lined_room, lined_more}
use Rattle.reporting.proofs.put_lines.Goals as goal

pub loop-m-init : goal.loop-m-init
loop-m-init c = let d = decode c.args.account.now.log.bytes.now in lined_none (λ m. module_line m (of_module d m)) d.modules c.args.buf.now c.args.at c.requires

pub put_module_line-next-requires-clause-q_in_bounds : goal.put_module_line-next-requires-clause-q_in_bounds
put_module_line-next-requires-clause-q_in_bounds c =
    let d = decode c.args.account.now.log.bytes.now in
    let l = c.loop-m in
    rw c.module_quantities.ensures (lined_room (λ m. module_line m (of_module d m)) d.modules c.args.buf.now c.args.at c.requires l.m l.next l.buf (omega (arith, c.loop-m-test.true, c.modules-m-end.ensures.0)) l.invariant).1

pub loop-m-preserved : goal.loop-m-preserved
loop-m-preserved c =
    let d = decode c.args.account.now.log.bytes.now in
    let l = c.loop-m in
    let p = c.put_module_line-next in
    lined_more (λ m. module_line m (of_module d m)) d.modules c.args.buf.now c.args.at c.requires l.m l.next p.result l.buf p.new.buf (omega (arith, c.loop-m-test.true, c.modules-m-end.ensures.0)) l.invariant (read_as (ap (module_line l.m) c.module_quantities.ensures) p.ensures)
