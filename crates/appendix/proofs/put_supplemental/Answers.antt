-- `appendix::put_supplemental` meets its contract: the four lines are put one behind the other, and take 82 bytes. Assumes nothing.
use native.Mathlib.Omega.{arith}
use Rattle.filling.specs.Buffer.{Put}
use Rattle.filling.proofs.Written.{then, at_front}
use Rattle.appendix.specs.Lines.{supplemental_text}
use Rattle.appendix.proofs.put_supplemental.Goals as goal

pub returns : goal.returns
unfolding supplemental_text
returns c =
    let s = c.args in
    let text : Put (supplemental_text s.f) s.buf.now 0 c.put_figure.result c.put_figure.new.buf =
    then (then (then c.put_figure-reference.ensures.put c.put_figure-optimized.ensures.put) c.put_figure-added.ensures.put) c.put_figure.ensures.put in
    at_front 96 (omega (arith, text.next, c.put_figure-reference.ensures.upper_bound, c.put_figure-optimized.ensures.upper_bound, c.put_figure-added.ensures.upper_bound, c.put_figure.ensures.upper_bound)) text
