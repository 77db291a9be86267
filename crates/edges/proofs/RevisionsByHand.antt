-- The listings and what is in force follow from the definitions. Assumes nothing.
use mathlib.Core.Path.{refl}
use Rattle.bits.specs.Put.{number, bytes_of, put_bit}
use Rattle.records.specs.Encode.{encode}
use Rattle.report.specs.Report.{decimal, decimal_in}
use Rattle.listing.specs.Listings.{credit_listing}
use Rattle.edges.specs.CaseW.{case_w}
use Rattle.edges.specs.Revisions.{Revisions, revised, idle}
use Rattle.edges.proofs.ByStretches.{verdict_by, verdict_by-stretches}

pub revisions : Revisions
unfolding verdict_by encode number bytes_of put_bit case_w credit_listing decimal decimal_in
revisions =
    record {
      accepted = verdict_by-stretches revised;
      listed = refl;
      before_second = refl;
      at_second = refl;
      at_third = refl;
      past_the_period = refl;
      ahead_of_the_first = refl;
      other_recipe = refl;
      idle_accepted = verdict_by-stretches idle;
      nothing_listed = refl;
      case_w_listed = refl;
    }
