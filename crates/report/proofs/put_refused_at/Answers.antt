-- `report::put_refused_at` meets its contract: the three labels with their numbers and the line's end are written one behind the other from the front on. Assumes nothing.
use native.Mathlib.Omega.{arith}
use Rattle.filling.specs.Buffer.{Put}
use Rattle.report.specs.Report.{refused_at}
use Rattle.filling.proofs.Written.{then, at_front}
use Rattle.report.proofs.put_refused_at.Goals as goal

pub returns : goal.returns
unfolding refused_at
returns c =
    let start = c.args in
    let line : Put (refused_at start.number start.list start.place) start.buf.now 0 c.put_text.result c.put_text.new.buf =
    then (then (then c.put_labelled-ground.ensures.put c.put_labelled-of_list.ensures.put) c.put_labelled-at_place.ensures.put) c.put_text.ensures in
    at_front 79 (omega (arith, line.next, c.put_labelled-ground.ensures.upper_bound, c.put_labelled-of_list.ensures.upper_bound, c.put_labelled-at_place.ensures.upper_bound, c.put_text.ensures.next)) line
