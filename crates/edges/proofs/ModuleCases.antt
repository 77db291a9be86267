-- The tool of two modules is answered as claimed: each case is computed from its bytes.
-- Assumes nothing.
use mathlib.Core.Path.{refl}
use Rattle.std.specs.List.{AllByRecursion}
use Rattle.bits.specs.Put.{number, bytes_of, put_bit}
use Rattle.records.specs.Encode.{encode}
use Rattle.edges.specs.Cases.{Holds}
use Rattle.edges.specs.Modules.{by_module}
use Rattle.edges.proofs.ByStretches.{verdict_by}
use Rattle.edges.proofs.StarredCases.{Computes, ◌and◌, all}

computed : AllByRecursion Computes by_module
unfolding verdict_by encode number bytes_of put_bit
computed = refl and refl and refl and refl and refl and refl and refl and refl and refl and refl and refl and refl and refl and refl and tt

pub by_module_lem : AllByRecursion Holds by_module
by_module_lem = all by_module computed
