-- `packing::closing::move_record` meets its contract: a record that is at its place already is not copied. Assumes nothing.
use mathlib.Core.Path.{◌≡◌, refl, sym}
use native.Mathlib.Omega.{arith}
use Rattle.packing.proofs.Words.{copied_still}
use Rattle.packing.proofs.closing.move_record.Goals as goal
use Rattle.packing.proofs.closing.move_record.Goals.{then-to-from, else-to-from}

pub returns : goal.returns
returns c =
    elim c.if-to-from.branch [
      | then-to-from w ↦ rw (c.if-drops.false, w.buf-is) record { bytes = w.copy_down.ensures; next = refl }
      | else-to-from w ↦ rw (c.if-drops.false, w.buf-is) (let same : c.args.to ≡ c.args.from = omega arith in record { bytes = rw same (sym (copied_still c.args.buf.now c.args.from c.args.n c.requires.inside)); next = refl })
    ]
