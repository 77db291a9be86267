-- `packing::lines::put_line` meets its contract: the line's end stands behind the number. Assumes nothing.
use Rattle.filling.proofs.Written.{then}
use Rattle.packing.specs.Lines.{line}
use Rattle.packing.proofs.lines.put_line.Goals as goal

pub returns-clause-put : goal.returns-clause-put
unfolding line
returns-clause-put c = then c.put_labelled-end.ensures.put c.put_text.ensures
