-- `states::Tally::take` meets its contract: a record that passes keeps what is held, as its module's first or as a later one.
-- Assumes nothing.
use mathlib.Core.Path.{sym, ap, ◌∙◌}
use native.Mathlib.Omega.{arith}
use Rattle.records.specs.Log.{state_at}
use Rattle.records.proofs.UpTo.{up_to_more}
use Rattle.rules.specs.Sequence.{state_key}
use Rattle.rules.specs.Keys.{state_number, StateFits}
use Rattle.rules.specs.RecordGrounds.{state_ground}
use Rattle.rules.proofs.Risen.{state-after}
use Rattle.rules.proofs.Keys.{sequenced_more, states-below}
use Rattle.states.proofs.Sound.{sound}
use Rattle.states.proofs.Pass.{state_fits, ending_next, held_first, held_next}
use Rattle.states.proofs.Tally.take.Goals as goal
use Rattle.states.proofs.Tally.take.Goals.{then-self-m-eq0, else-self-m-eq0}

pub end_stretch-requires-clause-ending : goal.end_stretch-requires-clause-ending
end_stretch-requires-clause-ending c =
    let fits : StateFits c.record-r.result = rw c.record-r.ensures (state_fits c.args.log.bytes.now c.args.i) in
    ending_next _ _ (sound _ _ _ _ _ (sym (c.test.ensures _ c.requires.held.sequenced) ∙ c.in_ok-test.was)) c.requires.held.held fits.0 c.if-self-m-eq0.false fits.1

pub of-requires : goal.of-requires
of-requires c = omega (arith, (sound _ _ _ _ _ (sym (c.test.ensures _ c.requires.held.sequenced) ∙ c.in_ok-test.was)).low)

pub returns-clause-stepped : goal.returns-clause-stepped
returns-clause-stepped c =
    let fits : StateFits c.record-r.result = rw c.record-r.ensures (state_fits c.args.log.bytes.now c.args.i) in
    let passed = sym (c.test.ensures _ c.requires.held.sequenced) ∙ c.in_ok-test.was in
    let ok = sound _ _ _ _ _ passed in
    record {
      answer = sym passed ∙ ap (state_ground c.args.log.header.period c.args.log.header.modules _ c.args.i) c.record-r.ensures;
      held = λ _. rw (up_to_more (state_at c.args.log.bytes.now) c.args.i, ← c.record-r.ensures, c.number_of-self.ensures, c.number.ensures.0, c.of.ensures) (record {
        sequenced = sequenced_more state_key state_number StateFits states-below _ _ _ c.requires.held.sequenced fits (state-after _ _ _ _ _ passed);
        held = elim c.if-self-m-eq0.branch [
          | then-self-m-eq0 w ↦ rw w.self-is (held_first _ _ ok c.requires.held.held fits.0 w.if-self-m-eq0.true)
          | else-self-m-eq0 w ↦ rw (w.self-is, w.end_stretch.ensures.totals, w.end_stretch.ensures.others.0, w.end_stretch.ensures.others.1) (held_next _ _ ok c.requires.held.held fits.0 w.if-self-m-eq0.false)
        ];
      });
    }
