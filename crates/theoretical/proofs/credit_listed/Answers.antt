-- `credit_listed` meets its contract: the unit records ahead of the one in turn passed and are credited.
-- Assumes nothing.
use mathlib.Core.Path.{◌≡◌, refl, sym}
use native.Mathlib.Omega.{arith}
use Rattle.std.proofs.lemmas.Result.{err_from_is_err_and}
use Rattle.records.specs.Log.{up_to, unit_at}
use Rattle.rules.specs.Grounds.{in_turn}
use Rattle.rules.specs.RecordGrounds.{unit_ground, unit_grounds}
use Rattle.rules.specs.Sequence.{unit_key}
use Rattle.rules.specs.Keys.{unit_number, UnitFits}
use Rattle.rules.proofs.Keys.{sequenced_none}
use Rattle.theoretical.proofs.Counting.{all_counted}
use Rattle.theoretical.proofs.Turns.{turn_more, turn_stop}
use Rattle.theoretical.proofs.credit_listed.Goals as goal

pub loop-i-init : goal.loop-i-init
unfolding unit_grounds in_turn up_to
loop-i-init c = record { place = omega arith; passed = refl; sequenced = sequenced_none unit_key unit_number UnitFits (λ u. omega arith); summed = c.requires.summed; judged = c.requires.judged }

pub returns-in_err-credit_unit-clause-answer : goal.returns-in_err-credit_unit-clause-answer
unfolding unit_grounds
returns-in_err-credit_unit-clause-answer c =
    let p = err_from_is_err_and c.from_residual.result c.from_residual.ensures.1 in
    rw (p.1, p.2) (sym (turn_stop (unit_ground c.args.log.header.period c.args.log.header.modules c.args.standards.now) (unit_at c.args.log.bytes.now c.args.log.header) c.args.log.header.units c.loop-i.i _ c.loop-i-test.true c.loop-i.invariant.passed
    (sym c.in_err-credit_unit.ensures.answer)))

pub loop-i-preserved : goal.loop-i-preserved
unfolding unit_grounds
loop-i-preserved c =
    record {
      place = omega (arith, c.loop-i.invariant.place);
      passed = turn_more (unit_ground c.args.log.header.period c.args.log.header.modules c.args.standards.now) (unit_at c.args.log.bytes.now c.args.log.header) c.loop-i.i c.loop-i.invariant.passed (sym c.in_ok-credit_unit.ensures.answer);
      sequenced = c.in_ok-credit_unit.ensures.sequenced;
      summed = c.in_ok-credit_unit.ensures.summed;
      judged = c.in_ok-credit_unit.ensures.judged;
    }

pub returns-clause-judged : goal.returns-clause-judged
returns-clause-judged c =
    let all : c.loop-i.i ≡ c.args.log.header.units = omega (arith, c.loop-i-test.false) in
    all_counted (λ u. u.actual) c.args.standards.now (unit_at c.args.log.bytes.now c.args.log.header) c.args.log.header.units c.loop-i.credited (rw all at c.loop-i.invariant.judged)
