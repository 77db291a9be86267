-- The listings of one shift are answered as claimed: each is computed from its bytes.
-- Assumes nothing.
use mathlib.Core.Path.{refl}
use Rattle.std.specs.List.{AllByRecursion}
use Rattle.bits.specs.Put.{number, bytes_of, put_bit}
use Rattle.records.specs.Encode.{encode}
use Rattle.edges.specs.Cases.{Holds}
use Rattle.edges.specs.Sequences.{sequences}
use Rattle.edges.proofs.ByStretches.{verdict_by}
use Rattle.edges.proofs.StarredCases.{Computes, ◌and◌, all}

computed : AllByRecursion Computes sequences
unfolding verdict_by encode number bytes_of put_bit
computed = refl and refl and refl and refl and refl and refl and refl and refl and refl and refl and refl and refl and refl and refl and tt

pub listings : AllByRecursion Holds sequences
listings = all sequences computed
