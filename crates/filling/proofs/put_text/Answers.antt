-- `filling::put_text` meets its contract: a part of the buffer is the whole text. Assumes nothing.
use mathlib.Core.Path.{refl, sym, ◌∙◌}
use native.Mathlib.Omega.{arith}
use lib.ListN.{length}
use Rattle.std.proofs.lemmas.Slice.{put_mid-paste}
use Rattle.filling.proofs.Written.{written-paste}
use Rattle.filling.proofs.put_text.Goals as goal

pub returns : goal.returns
returns c =
    let a = c.args in
    record {
      next = refl;
      bytes = put_mid-paste a.at _ a.buf.now _ a.text.now (length a.text.now) c.copy_from_slice.ensures.after (omega arith) refl ∙ sym (written-paste a.buf.now a.at a.text.now);
    }
