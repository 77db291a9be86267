-- `list_standard` meets its contract: a standard that passes is listed behind those that it was tested against.
-- Assumes nothing.
use mathlib.Core.Path.{refl, sym, ◌∙◌}
use native.Mathlib.Omega.{arith}
use Rattle.records.specs.Log.{standard_at}
use Rattle.records.proofs.UpTo.{length_up_to, up_to_more}
use Rattle.records.proofs.Widths.{standard-time-low}
use Rattle.rules.specs.Sequence.{standard_key}
use Rattle.rules.specs.Keys.{standard_number, StandardFits}
use Rattle.rules.proofs.Risen.{standard-after}
use Rattle.rules.proofs.Keys.{standards-below, sequenced_more}
use Rattle.theoretical.proofs.Testing.{fits, passed-plain}
use Rattle.theoretical.proofs.list_standard.Goals as goal

pub test_standard-requires-clause-fits : goal.test_standard-requires-clause-fits
test_standard-requires-clause-fits c = rw c.record-s.ensures (fits c.args.log.bytes.now c.args.log.header c.args.i)

pub standard_number-requires : goal.standard_number-requires
standard_number-requires c = rw c.record-s.ensures (fits c.args.log.bytes.now c.args.log.header c.args.i)

pub push-requires-clause-room : goal.push-requires-clause-room
push-requires-clause-room c = rw (c.requires.listed, length_up_to (standard_at c.args.log.bytes.now c.args.log.header) c.args.i) c.requires.i_bound.0

pub push-requires-clause-fits : goal.push-requires-clause-fits
push-requires-clause-fits c =
    let plain = passed-plain _ _ _ _ _ (sym c.in_ok-test_standard.ensures) in
    let f = fits c.args.log.bytes.now c.args.log.header c.args.i in
    let low = standard-time-low c.args.log.bytes.now c.args.log.header c.args.i in
    (rw c.record-s.ensures f.0, rw c.record-s.ensures f.1, rw c.record-s.ensures (omega (arith, low)), plain)

pub returns-clause-sequenced : goal.returns-clause-sequenced
returns-clause-sequenced c =
    let fit : StandardFits c.record-s.result = rw c.record-s.ensures (fits c.args.log.bytes.now c.args.log.header c.args.i) in
    let after = standard-after _ _ _ _ _ (sym c.in_ok-test_standard.ensures) in
    rw (c.push.ensures, c.standard_number.ensures) (sequenced_more standard_key standard_number StandardFits standards-below c.args.standards.now _ _ c.requires.sequenced fit after)

pub returns-clause-listed : goal.returns-clause-listed
returns-clause-listed c = c.push.ensures ∙ rw (c.requires.listed, up_to_more (standard_at c.args.log.bytes.now c.args.log.header) c.args.i, c.record-s.ensures) refl
