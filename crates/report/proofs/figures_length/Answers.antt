-- `report::figures_length` meets its contract: the line is its five figures and its end. Assumes nothing.
use native.Mathlib.Omega.{arith}
use Rattle.report.proofs.Lengths.{figures_length_lem}
use Rattle.report.proofs.figures_length.Goals as goal

pub returns : goal.returns
returns c =
    let e5 = c.figure_length-oee.ensures in
    let e4 = c.figure_length-quality.ensures in
    let e3 = c.figure_length-rate.ensures in
    let e2 = c.figure_length-operational.ensures in
    let e1 = c.figure_length-availability.ensures in
    let q = c.args.q in
    record {
      size = omega (arith, figures_length_lem q, e1.size q.uptime, e2.size q.production, e3.size q.actual, e4.size q.effective, e5.size q.effective);
      within = omega arith;
    }
