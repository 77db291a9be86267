-- `reporting::print_report` meets its contract: one of the two texts is written at the front, and every report fits 2,494 bytes.
-- Assumes nothing.
use mathlib.Core.Path.{◌≡◌}
use native.Mathlib.Omega.{arith}
use lib.Dec.{lit≤}
use Rattle.std.specs.declared.result.Result.TheVariants.{Ok}
use Rattle.rules.specs.Verdict.{verdict}
use Rattle.reporting.specs.Reports.{report_text}
use Rattle.reporting.proofs.Reporting.{report-longest, prints_refused, prints_text}
use Rattle.reporting.proofs.print_report.Goals as goal

pub put_report-requires : goal.put_report-requires
put_report-requires c = omega (arith, report-longest _ c.in-Ok.account.consistent)

pub returns-in-Ok : goal.returns-in-Ok
returns-in-Ok c =
    let s = c.args.log.now in
    let own = rw c.in-Ok.is at c.judge_log.ensures in
    let accepted : verdict s ≡ Ok tt = rw (← own) c.in-Ok.account.accepted in
    prints_text report_text 2494 s c.args.buf.now c.put_report.result c.put_report.new.buf accepted (report-longest _ (rw own at c.in-Ok.account.consistent)) (rw own at c.put_report.ensures)

pub returns-in-Err : goal.returns-in-Err
returns-in-Err c = prints_refused report_text 2494 c.args.log.now c.args.buf.now c.put_refused_line.result c.put_refused_line.new.buf _ (rw c.in-Err.is at c.judge_log.ensures) c.put_refused_line.ensures (lit≤ tt)
