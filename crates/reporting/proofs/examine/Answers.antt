-- `reporting::examine` meets its contract: the log is judged, and the report of an accepted one is as long as its definition.
-- Assumes nothing.
use mathlib.Core.Path.{◌≡◌, ◌∙◌, ap}
use Prim.Native.Nat.{ℕ}
use lib.Dec.{ltb}
use Rattle.std.specs.declared.result.Result.TheVariants.{Ok}
use Rattle.rules.specs.declared.Ground.TheVariants.{ShortBuffer}
use Rattle.rules.specs.declared.LogList.TheVariants.{NoList}
use Rattle.rules.specs.Grounds.{ground}
use Rattle.rules.specs.Verdict.{verdict}
use Rattle.reporting.proofs.Reporting.{examined_refused, examined}
use Rattle.reporting.proofs.examine.Goals as goal

pub returns-in-Err : goal.returns-in-Err
returns-in-Err c = examined_refused c.args.log.now c.args.room _ (rw c.in-Err.is at c.judge_log.ensures)

pub returns-in-Ok : goal.returns-in-Ok
returns-in-Ok c =
    let own = rw c.in-Ok.is at c.judge_log.ensures in
    let accepted : verdict c.args.log.now ≡ Ok tt = rw (← own) c.in-Ok.account.accepted in
    let size = rw own at c.report_length.ensures in
    examined c.args.log.now c.args.room accepted _ (c.refuses.ensures ∙ ap (λ (n : ℕ). ground ShortBuffer NoList 0 (ltb c.args.room n)) size)
