-- `crediting::credited_units` meets its contract: an accepted log's account has the credited units.
-- Assumes nothing.
use mathlib.Core.Path.{◌≡◌}
use native.Mathlib.Omega.{arith}
use Rattle.std.specs.declared.result.Result.TheVariants.{Ok, Err}
use Rattle.records.specs.Log.{decode}
use Rattle.rules.specs.Credited.{credits_of}
use Rattle.rules.specs.Verdict.{verdict}
use Rattle.answering.proofs.Answers.{tool_refused, tool_answered}
use Rattle.crediting.specs.Calls.{AllCredited}
use Rattle.crediting.proofs.Credited.{all_credited_lem}
use Rattle.crediting.proofs.credited_units.Goals as goal

pub returns-in_err-judge_credited : goal.returns-in_err-judge_credited
returns-in_err-judge_credited c =
    let s = c.args.log.now in
    let err : c.from_residual.result ≡ Err c.in_err-judge_credited.field-0.0 = grind arith in
    rw err (tool_refused s (credits_of (decode s)) (AllCredited (decode s)) _ c.in_err-judge_credited.ensures.judged)

pub returns : goal.returns
returns c =
    let s = c.args.log.now in
    let accepted : verdict s ≡ Ok tt = rw (← c.in_ok-judge_credited.ensures.judged) c.in_ok-judge_credited.field-0.accepted in
    tool_answered s (credits_of (decode s)) (AllCredited (decode s)) _ accepted c.in_ok-judge_credited.ensures.credited (all_credited_lem s accepted)
