-- R1-3 whole follows from the definitions: its bytes are decoded, its times go by stretches, its units to the standards that judge them.
-- Assumes nothing.
use mathlib.Core.Path.{◌≡◌, refl, ap, ◌∙◌}
use Rattle.bits.specs.Bits.{bit, field}
use Rattle.records.specs.Fields.{header_from, state_from, standard_from, unit_from}
use Rattle.records.specs.Log.{up_to, decode}
use Rattle.std.specs.declared.result.Result.TheVariants.{Ok}
use Rattle.rules.specs.Grounds.{Verdict, first_of, ◌then◌}
use Rattle.rules.specs.Theoretical.{placed_from, in_force, judged_by, units_judged}
use Rattle.rules.specs.Quantities.{sum_below}
use Rattle.rules.specs.Verdict.{verdict}
use Rattle.benchmarks.specs.Benchmarks.{benchmark_from, benchmark_at, effective_judged, benchmark_ground, benchmark_grounds, verdict_with}
use Rattle.supplemental.specs.Supplemental.{supplemental_of}
use Rattle.edges.specs.Appendix.{week_of_r13, benchmarks_of_r13, R13}
use Rattle.edges.proofs.ByStretches.{verdict_by, verdict_by-stretches}

log-accepted : verdict week_of_r13 ≡ Ok tt
unfolding verdict_by week_of_r13
log-accepted = verdict_by-stretches week_of_r13

benchmarks-accepted : benchmark_grounds (decode week_of_r13) benchmarks_of_r13 ≡ Ok tt
unfolding week_of_r13 benchmarks_of_r13 benchmark_grounds benchmark_ground effective_judged units_judged judged_by in_force placed_from first_of decode header_from state_from standard_from unit_from benchmark_from field bit up_to
benchmarks-accepted = refl

accepted : verdict_with week_of_r13 benchmarks_of_r13 ≡ Ok tt
unfolding verdict_with
accepted = ap (λ (v : Verdict). v then benchmark_grounds (decode week_of_r13) benchmarks_of_r13) log-accepted ∙ benchmarks-accepted

figures : supplemental_of (decode week_of_r13) (benchmark_at benchmarks_of_r13) ≡ record { reference = 6706; optimized = 4589; added = 1595; units = 7733 }
unfolding week_of_r13 benchmarks_of_r13 supplemental_of effective_judged units_judged judged_by in_force placed_from sum_below decode header_from state_from standard_from unit_from benchmark_from field bit up_to
figures = refl

pub r1-3 : R13
r1-3 = record { accepted = accepted; figures = figures }
