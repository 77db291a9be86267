-- `cases::texts::says` meets its contract: the line is at the front, and `==` decides. Assumes nothing.
use Rattle.std.proofs.Common.{sym, ◌∙◌}
use Rattle.std.proofs.lemmas.Bool.Decides.{Decides-eqb}
use Rattle.std.proofs.lemmas.Slice.Eq.{slice_eq-Decides}
use Rattle.filling.proofs.Written.{front-text}
use Rattle.cases.proofs.texts.says.Goals as goal

pub returns : goal.returns
returns c =
    let line = front-text c.put_refused_line-n.ensures in
    let same = slice_eq-Decides Decides-eqb _ _ _ c.eq.ensures in
    (λ h. sym (same.0 h) ∙ line, λ e. same.1 (line ∙ sym e))
