-- `report::put_figures` meets its contract: each figure and the line's end are written one behind the other. Assumes nothing.
use native.Mathlib.Omega.{arith}
use Rattle.report.specs.Report.{figures}
use Rattle.filling.proofs.Written.{then}
use Rattle.report.proofs.Lengths.{figures_length_lem}
use Rattle.report.proofs.put_figures.Goals as goal

pub put_figure-availability-requires : goal.put_figure-availability-requires
put_figure-availability-requires c = omega (arith, figures_length_lem c.args.q)

pub put_figure-operational-requires : goal.put_figure-operational-requires
put_figure-operational-requires c = omega (arith, figures_length_lem c.args.q)

pub put_figure-rate-requires : goal.put_figure-rate-requires
put_figure-rate-requires c = omega (arith, figures_length_lem c.args.q)

pub put_figure-quality-requires : goal.put_figure-quality-requires
put_figure-quality-requires c = omega (arith, figures_length_lem c.args.q)

pub put_figure-oee-requires : goal.put_figure-oee-requires
put_figure-oee-requires c = omega (arith, figures_length_lem c.args.q)

pub put_text-requires : goal.put_text-requires
put_text-requires c = omega (arith, figures_length_lem c.args.q)

pub returns : goal.returns
unfolding figures
returns c = then (then (then (then (then c.put_figure-availability.ensures c.put_figure-operational.ensures) c.put_figure-rate.ensures) c.put_figure-quality.ensures) c.put_figure-oee.ensures)
    c.put_text.ensures
