-- `packing::lines::print_packing` meets its contract: the four lines stand one behind the other. Assumes nothing.
use native.Mathlib.Omega.{arith}
use Rattle.filling.specs.Buffer.{Put}
use Rattle.filling.proofs.Written.{then, at_front}
use Rattle.packing.specs.Lines.{packing_text}
use Rattle.packing.proofs.lines.print_packing.Goals as goal

pub returns : goal.returns
unfolding packing_text
returns c =
    let states = rw (c.saturating_sub-states.ensures, c.read_header-h.ensures, c.read_header-k.ensures) at c.put_line-second.ensures.put in
    let standards = rw (c.saturating_sub-standards.ensures, c.read_header-h.ensures, c.read_header-k.ensures) at c.put_line.ensures.put in
    let lines : Put (packing_text c.args.log.now c.args.packed.now) c.args.buf.now 0 c.put_line.result c.put_line.new.buf = then (then (then c.put_line-after.ensures.put c.put_line-first.ensures.put) states) standards in
    at_front 144 (omega (arith, lines.next, c.put_line-after.ensures.upper_bound, c.put_line-first.ensures.upper_bound, c.put_line-second.ensures.upper_bound, c.put_line.ensures.upper_bound)) lines
