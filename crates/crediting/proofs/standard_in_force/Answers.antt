-- `crediting::standard_in_force` meets its contract: the last standard of an accepted log that has begun is the one in force.
-- Assumes nothing.
use mathlib.Core.Path.{◌≡◌, ◌∙◌}
use native.Mathlib.Omega.{arith}
use Rattle.std.specs.declared.result.Result.TheVariants.{Ok, Err}
use Rattle.records.specs.Log.{header_of, standard_at, decode}
use Rattle.rules.specs.Theoretical.{in_force}
use Rattle.rules.specs.Verdict.{verdict}
use Rattle.answering.proofs.Answers.{module_refused, module_answered}
use Rattle.crediting.specs.Calls.{in_force_of, Uses}
use Rattle.crediting.proofs.Credited.{uses_lem, last_used}
use Rattle.crediting.proofs.standard_in_force.Goals as goal

pub returns-in_err-account : goal.returns-in_err-account
returns-in_err-account c =
    let a = c.args in
    let s = a.log.now in
    let err : c.from_residual.result ≡ Err c.in_err-account.field-0.0 = grind arith in
    rw err (module_refused s (in_force_of (in_force (decode s).standards a.«module» a.recipe a.time)) (Uses (standard_at s (header_of s)) (header_of s).standards a.«module» a.recipe a.time) a.«module» _ c.in_err-account.ensures)

pub returns : goal.returns
returns c =
    let a = c.args in
    let s = a.log.now in
    let own = c.in_ok-account.ensures in
    let accepted : verdict s ≡ Ok tt = rw (← own.0) c.in_ok-account.account.accepted in
    let header = rw own.0 at c.in_ok-account.account.log.own in
    let walked = rw (c.standards.ensures.0, c.standards.ensures.1, header, own.0) at c.last_begun.ensures in
    module_answered s (in_force_of (in_force (decode s).standards a.«module» a.recipe a.time)) (Uses (standard_at s (header_of s)) (header_of s).standards a.«module» a.recipe a.time) a.«module» _ accepted own.1
    (walked ∙ last_used s accepted a.«module» a.recipe a.time) (uses_lem s a.«module» a.recipe a.time)
