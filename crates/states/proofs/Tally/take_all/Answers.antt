-- `states::Tally::take_all` meets its contract. The invariant: the first i records pass, and what is held after them.
-- Assumes nothing.
use mathlib.Core.Path.{◌≡◌, refl, sym, ◌∙◌}
use native.Mathlib.Omega.{arith}
use Rattle.std.specs.declared.result.Result.TheVariants.{Err}
use Rattle.records.specs.Log.{state_at}
use Rattle.rules.specs.RecordGrounds.{state_ground}
use Rattle.rules.proofs.FirstGround.{first_none, first_more, first_stop, turn_range, refused-not}
use Rattle.states.proofs.Tally.take_all.Goals as goal

pub loop-i-init : goal.loop-i-init
loop-i-init c = record { passed = first_none _; same_totals = refl; held = c.requires }

pub returns-in_err-take-clause-scanned : goal.returns-in_err-take-clause-scanned
returns-in_err-take-clause-scanned c =
    let a = c.args in
    let err : c.from_residual.result ≡ Err c.in_err-take.field-0.0 = grind arith in
    record {
      answer = err ∙ sym (
          turn_range (state_ground a.log.header.period a.log.header.modules) (state_at a.log.bytes.now) a.log.header.states
          ∙ first_stop _ a.log.header.states c.loop-i.i _ c.loop-i-test.true c.loop-i.invariant.passed (sym c.take.ensures.stepped.answer ∙ c.in_err-take.was)
          );
      held = λ e. absurd (refused-not (sym err ∙ e));
    }

pub loop-i-preserved : goal.loop-i-preserved
loop-i-preserved c =
    let e = c.in_ok-take.was in
    record {
      passed = first_more _ c.loop-i.i c.loop-i.invariant.passed (sym c.take.ensures.stepped.answer ∙ e);
      same_totals = c.take.ensures.same_totals ∙ c.loop-i.invariant.same_totals;
      held = c.take.ensures.stepped.held e;
    }

pub returns-clause-scanned : goal.returns-clause-scanned
returns-clause-scanned c =
    let a = c.args in
    let e : c.loop-i.i ≡ a.log.header.states = omega arith in
    record {
      answer = sym (turn_range (state_ground a.log.header.period a.log.header.modules) (state_at a.log.bytes.now) a.log.header.states ∙ rw e at c.loop-i.invariant.passed);
      held = λ _. rw e at c.loop-i.invariant.held;
    }
