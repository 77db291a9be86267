-- The bars follow from the definitions. Assumes nothing.
use mathlib.Core.Path.{refl}
use Rattle.e79.specs.Quantities.{based}
use Rattle.e79.specs.Printed.{rounded_of, printed_of}
use Rattle.rules.specs.Quantities.{sum_below}
use Rattle.rules.specs.Time.{count}
use Rattle.losses.specs.Losses.{losses_of}
use Rattle.edges.specs.Bars.{Bars}

pub bars : Bars
unfolding losses_of sum_below count printed_of rounded_of based
bars =
    record {
      none_missing = refl;
      earliest_of_three = refl;
      earliest_behind = refl;
      three_of_four = refl;
      four_missing = refl;
      four_missing_report = refl;
      all_nonscheduled = refl;
      all_effective = refl;
    }
