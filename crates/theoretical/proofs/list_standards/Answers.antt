-- `list_standards` meets its contract: the standards ahead of the one in turn passed and are listed.
-- Assumes nothing.
use mathlib.Core.Path.{refl, sym}
use native.Mathlib.Omega.{arith}
use Rattle.std.proofs.lemmas.Result.{err_from_is_err_and}
use Rattle.records.specs.Log.{up_to, standard_at}
use Rattle.rules.specs.Grounds.{in_turn}
use Rattle.rules.specs.RecordGrounds.{standard_ground, standard_grounds}
use Rattle.rules.specs.Sequence.{standard_key}
use Rattle.rules.specs.Keys.{standard_number, StandardFits}
use Rattle.rules.proofs.Keys.{sequenced_none}
use Rattle.theoretical.proofs.Turns.{turn_more, turn_stop}
use Rattle.theoretical.proofs.list_standards.Goals as goal

pub loop-i-init : goal.loop-i-init
unfolding standard_grounds in_turn up_to
loop-i-init c = record { passed = refl; sequenced = rw c.requires.none_listed (sequenced_none standard_key standard_number StandardFits (λ s. omega arith)); listed = c.requires.none_listed }

pub returns-in_err-list_standard-clause-answer : goal.returns-in_err-list_standard-clause-answer
unfolding standard_grounds
returns-in_err-list_standard-clause-answer c =
    let at = standard_at c.args.log.bytes.now c.args.log.header in
    let p = err_from_is_err_and c.from_residual.result c.from_residual.ensures.1 in
    rw (p.1, p.2) (sym (turn_stop (standard_ground c.args.log.header.period c.args.log.header.modules) at c.args.log.header.standards c.loop-i.i _ c.loop-i-test.true c.loop-i.invariant.passed (sym c.in_err-list_standard.ensures.answer)))

pub loop-i-preserved : goal.loop-i-preserved
unfolding standard_grounds
loop-i-preserved c =
    let at = standard_at c.args.log.bytes.now c.args.log.header in
    record {
      passed = turn_more (standard_ground c.args.log.header.period c.args.log.header.modules) at c.loop-i.i c.loop-i.invariant.passed (sym c.in_ok-list_standard.ensures.answer);
      sequenced = c.in_ok-list_standard.ensures.sequenced;
      listed = c.in_ok-list_standard.ensures.listed;
    }
