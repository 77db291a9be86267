-- `writing::finish_log` meets its contract: the bytes before the position are judged as a log is. Assumes nothing.
use mathlib.Core.Path.{◌≡◌, sym, ◌∙◌}
use native.Mathlib.Omega.{arith}
use Rattle.std.specs.declared.result.Result.TheVariants.{Err}
use Rattle.writing.proofs.Adding.{past_buffer, judged_before}
use Rattle.writing.proofs.finish_log.Goals as goal

pub returns-in_err-refuses : goal.returns-in_err-refuses
returns-in_err-refuses c =
    let err : c.from_residual.result ≡ Err c.in_err-refuses.field-0.0 = grind arith in
    rw err (past_buffer c.args.buf.now c.args.at _ (sym c.refuses.ensures ∙ c.in_err-refuses.was))

pub returns-in_err-judge_log : goal.returns-in_err-judge_log
returns-in_err-judge_log c =
    let err : c.from_residual-in_err-judge_log.result ≡ Err c.in_err-judge_log.field-0.0 = grind arith in
    rw err (judged_before c.args.buf.now c.args.at _ (sym c.refuses.ensures ∙ c.in_ok-refuses.was) (sym c.in_err-judge_log.ensures))

pub returns : goal.returns
returns c =
    let accepted = rw c.in_ok-judge_log.ensures at c.in_ok-judge_log.field-0.accepted in
    judged_before c.args.buf.now c.args.at _ (sym c.refuses.ensures ∙ c.in_ok-refuses.was) (sym accepted)
