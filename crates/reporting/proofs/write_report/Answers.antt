-- `reporting::write_report` meets its contract: nothing is written where the verdict for the buffer refuses, and else the whole report.
-- Assumes nothing.
use mathlib.Core.Path.{◌≡◌}
use Prim.Native.Nat.{◌≤◌}
use native.Mathlib.Omega.{arith}
use lib.ListN.{length}
use Rattle.std.specs.declared.result.Result.TheVariants.{Ok}
use Rattle.records.specs.Log.{decode}
use Rattle.rules.specs.Verdict.{verdict}
use Rattle.reporting.specs.Reports.{report_text}
use Rattle.reporting.proofs.Reporting.{room_refused, room_short, room_enough, written_none, written_all}
use Rattle.reporting.proofs.write_report.Goals as goal

pub returns-in_default : goal.returns-in_default
returns-in_default c =
    let none = written_none c.args.log.now c.args.buf.now _ (room_refused report_text c.args.log.now (length c.args.buf.now) c.in_default.field-0 (rw c.in_default.is at c.judge_log-judged.ensures)) in
    grind (arith, none)

pub returns-then-buf-report_length : goal.returns-then-buf-report_length
returns-then-buf-report_length c =
    let s = c.args.log.now in
    let own = rw c.in-Ok.is at c.judge_log-judged.ensures in
    let accepted : verdict s ≡ Ok tt = rw (← own) c.in-Ok.account.accepted in
    let size = rw own at c.report_length.ensures in
    written_none s c.args.buf.now _ (room_short report_text s (length c.args.buf.now) accepted (rw (← size) c.if-buf-report_length.true))

pub returns : goal.returns
returns c =
    let s = c.args.log.now in
    let own = rw c.in-Ok.is at c.judge_log-judged.ensures in
    let accepted : verdict s ≡ Ok tt = rw (← own) c.in-Ok.account.accepted in
    let size = rw own at c.report_length.ensures in
    let fits : length (report_text (decode s)) ≤ length c.args.buf.now = rw (← size) c.if-buf-report_length.false in
    written_all s c.args.buf.now c.put_report.result c.put_report.new.buf (rw own at c.in-Ok.account.consistent) (room_enough report_text s (length c.args.buf.now) accepted fits) fits (rw own at c.put_report.ensures)
