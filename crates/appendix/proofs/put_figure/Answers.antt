-- `appendix::put_figure` meets its contract: name, space, places and the line's end are put one behind the other. Assumes nothing.
use borrow.Author.Rules.{rules}
use native.Mathlib.Omega.{arith}
use Rattle.filling.proofs.Written.{then}
use Rattle.report.specs.Report.{places}
use Rattle.appendix.specs.Lines.{figure_line}
use Rattle.appendix.proofs.put_figure.Goals as goal

pub put_text-requires : goal.put_text-requires
unfolding places
put_text-requires c = search rules

pub returns : goal.returns
unfolding figure_line
returns c =
    let line = then (then (then c.put_text-named.ensures c.put_text-space.ensures) c.put_places-places.ensures) c.put_text.ensures in
    record {
      put = line;
      upper_bound = omega (arith, c.put_text-named.ensures.next, c.put_text-space.ensures.next, c.put_places-places.ensures.next, c.put_text.ensures.next);
    }
