-- The packed log and what is refused follow from the definitions. Assumes nothing.
use mathlib.Core.Path.{refl}
use Rattle.bits.specs.Put.{number, bytes_of, put_bit}
use Rattle.records.specs.Encode.{encode}
use Rattle.rules.specs.Verdict.{verdict}
use Rattle.packed.specs.Packed.{packed_log}
use Rattle.packed.specs.Packs.{packed_buffer, packed_answer}
use Rattle.edges.specs.Packings.{Packings, repeated, closed_up}
use Rattle.edges.proofs.ByStretches.{verdict_by, verdict_by-stretches}

pub packings : Packings
unfolding verdict_by encode number bytes_of put_bit verdict packed_log packed_buffer packed_answer
packings =
    record {
      accepted = verdict_by-stretches (encode repeated);
      packed = refl;
      packed_accepted = verdict_by-stretches (encode closed_up);
      before = refl;
      after = refl;
      again = refl;
      opening_left = refl;
      refused = refl;
      unchanged = refl;
    }
