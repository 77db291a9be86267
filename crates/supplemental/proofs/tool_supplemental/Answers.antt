-- `supplemental::tool_supplemental` meets its contract: a refused log is answered with its refusal, and an accepted one is measured. Assumes nothing.
use mathlib.Core.Path.{◌≡◌}
use native.Mathlib.Omega.{arith}
use Rattle.std.specs.declared.result.Result.TheVariants.{Err}
use Rattle.rules.proofs.KnownRefusals.{log-refusal}
use Rattle.supplemental.proofs.Answers.{log_refused}
use Rattle.supplemental.proofs.tool_supplemental.Goals as goal

pub returns-in_err-judge_log : goal.returns-in_err-judge_log
returns-in_err-judge_log c =
    let err : c.from_residual.result ≡ Err c.in_err-judge_log.field-0.0 = grind arith in
    rw err (log_refused c.args.log.now c.args.benchmarks.now _ (log-refusal c.args.log.now _ c.in_err-judge_log.ensures))
