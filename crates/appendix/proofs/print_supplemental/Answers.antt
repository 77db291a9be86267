-- `appendix::print_supplemental` meets its contract: one of the two texts is written at the front. Assumes nothing.
use mathlib.Core.Path.{refl}
use native.Mathlib.Omega.{arith}
use Rattle.appendix.proofs.Printed.{lines_printed, refusal_printed}
use Rattle.appendix.proofs.print_supplemental.Goals as goal

pub put_supplemental-requires : goal.put_supplemental-requires
put_supplemental-requires c =
    let p = c.in-Ok.ensures.promise c.in-Ok.f refl in
    record {
      reference_bound = (p.reference.at_most_one, p.optimized.at_most_one, p.added.at_most_one, p.units.at_most_one);
      in_bounds = omega arith;
    }

pub returns-in-Ok : goal.returns-in-Ok
returns-in-Ok c = lines_printed _ _ c.in-Ok.f c.in-Ok.ensures c.put_supplemental.ensures

pub returns-in-Err : goal.returns-in-Err
returns-in-Err c = refusal_printed _ _ c.in-Err.x c.in-Err.ensures c.put_refused_line.ensures
