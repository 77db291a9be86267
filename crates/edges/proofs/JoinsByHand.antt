-- The joined log and what is refused follow from the definitions. Assumes nothing.
use mathlib.Core.Path.{refl}
use Rattle.bits.specs.Put.{number, bytes_of, put_bit}
use Rattle.records.specs.Encode.{encode}
use Rattle.joined.specs.Joined.{joined_log}
use Rattle.joined.specs.Joins.{join_grounds}
use Rattle.edges.specs.Joins.{Joins, earlier, later, together}
use Rattle.edges.proofs.ByStretches.{verdict_by, verdict_by-stretches}

pub joins : Joins
unfolding verdict_by encode number bytes_of put_bit joined_log join_grounds
joins =
    record {
      first_accepted = verdict_by-stretches (encode earlier);
      second_accepted = verdict_by-stretches (encode later);
      joined = refl;
      joined_accepted = verdict_by-stretches (encode together);
      size = refl;
      unlike_first = refl;
      too_long = refl;
      at_the_bound = refl;
    }
