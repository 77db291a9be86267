-- Accepted benchmarks keep each of the four sums at or below the tool's theoretical time for effective units: their times are at most the standards', and their
-- total effective units at most those judged. So each figure is at most 1.0000.
-- Assumes nothing.
use mathlib.Core.Path.{◌≡◌, refl, ap, ◌∙◌}
use mathlib.Core.Bool.{◌||◌, not}
use mathlib.Core.List.{List}
use Prim.Native.Nat.{ℕ, ◌*◌, ◌≤◌, ◌<◌}
use native.Mathlib.Nat.{mul-le-mul_left, mul-le-mul_right}
use native.Mathlib.Omega.{arith}
use lib.Dec.{ltb, eqb}
use borrow.Author.Tests.{ltb-false}
use Rattle.records.specs.Log.{Log, header_of, standard_at, decode}
use Rattle.e79.specs.Quantities.{Ordered, Portion}
use Rattle.e79.specs.Printed.{rounded_of}
use Rattle.e79.proofs.Printing.{rounded-nearest, rounded-le-one}
use Rattle.std.specs.declared.result.Result.TheVariants.{Ok}
use Rattle.rules.specs.declared.Ground.TheVariants.{Spare, NoTime, AboveStandard, OverCounted}
use Rattle.rules.specs.declared.LogList.TheVariants.{Benchmarks}
use Rattle.rules.specs.Grounds.{ground, first_of}
use Rattle.rules.specs.Quantities.{of_tool, effective_time}
use Rattle.rules.specs.Verdict.{verdict}
use Rattle.rules.proofs.Booleans.{or_left, or_right}
use Rattle.rules.proofs.FirstGround.{then-left, then-right, not-met, first_all}
use Rattle.rules.proofs.Judged.{passed, judged_time_lem}
use Rattle.rules.proofs.Risen.{lists-accepted}
use Rattle.rules.proofs.SumLaws.{sum_same, sum-le}
use Rattle.benchmarks.specs.declared.Benchmark.{Benchmark}
use Rattle.benchmarks.specs.declared.Sums.{Sums}
use Rattle.benchmarks.specs.Benchmarks.{standards_in, time_at, effective_judged, any_zero, any_above, benchmark_ground, ground_at, judged_time, of_all}
use Rattle.benchmarks.specs.Taking.{sums_to}
use Rattle.benchmarks.proofs.Taking.{count_is, time_is}
use Rattle.supplemental.specs.Supplemental.{reference_time, optimized_time, added_time, total_units_time, supplemental_of, Rounded, AllRounded}

-- what the tests leave of a benchmark whose standard has this time and judges so many units
record Within (time judged : ℕ) (b : Benchmark) : Type 0 where
  reference : b.reference ≤ time
  optimized : b.optimized ≤ time
  added : b.added ≤ time
  units : b.units ≤ judged

within : (i time judged : ℕ) (b : Benchmark) → benchmark_ground i time judged b ≡ Ok tt → Within time judged b
unfolding benchmark_ground
within i time judged b e =
    let rest = ltb time b.optimized || ltb time b.added in
    let e12 = then-right (ground Spare Benchmarks i (not (eqb b.spare 0))) _ e in
    let e20 = then-right (ground NoTime Benchmarks i (any_zero b)) _ e12 in
    let above = not-met AboveStandard Benchmarks i (any_above time b) (then-left (ground AboveStandard Benchmarks i (any_above time b)) _ e20) in
    let others = or_right (ltb time b.reference) rest above in
    record {
      reference = ltb-false time b.reference (or_left (ltb time b.reference) rest above);
      optimized = ltb-false time b.optimized (or_left (ltb time b.optimized) (ltb time b.added) others);
      added = ltb-false time b.added (or_right (ltb time b.optimized) (ltb time b.added) others);
      units = ltb-false judged b.units (not-met OverCounted Benchmarks i (ltb judged b.units) (then-right (ground AboveStandard Benchmarks i (any_above time b)) _ e20));
    }

module _ (s : List ℕ) (accepted : verdict s ≡ Ok tt) where
  abbrev log : Log
  log = decode s

  -- the effective units judged by each standard, times its own time, make the tool's theoretical time for effective units
  all_times_lem : of_all log (λ i. effective_judged log i * time_at log i) ≡ (of_tool log).effective
  unfolding effective_judged effective_time decode
  all_times_lem =
      let h = header_of s in
      let a = lists-accepted s accepted in
      rw (count_is s h refl)
      (sum_same _ _ h.standards (λ i l. ap (λ (t : ℕ). effective_judged log i * t) (time_is s h refl i l))
      ∙ judged_time_lem (standard_at s h) h.standards log.modules (λ u. u.effective) log.units (passed log.modules log.standards log.period log.units a.units))

  module _ (at : ℕ → Benchmark) (tested : first_of (ground_at log at) (standards_in log) ≡ Ok tt) where
    each : (i : ℕ) → i < standards_in log → Within (time_at log i) (effective_judged log i) (at i)
    each i l = within i (time_at log i) (effective_judged log i) (at i) (first_all (ground_at log at) (standards_in log) tested i l)

    time-within : (time : Benchmark → ℕ) → ((i : ℕ) → i < standards_in log → time (at i) ≤ time_at log i) → of_all log (judged_time time log at) ≤ (of_tool log).effective
    time-within time h = rw (← all_times_lem) (sum-le _ _ (standards_in log) (λ i l. mul-le-mul_left (effective_judged log i) (h i l)))

    reference-within : reference_time log at ≤ (of_tool log).effective
    reference-within = time-within (λ b. b.reference) (λ i l. (each i l).reference)

    optimized-within : optimized_time log at ≤ (of_tool log).effective
    optimized-within = time-within (λ b. b.optimized) (λ i l. (each i l).optimized)

    added-within : added_time log at ≤ (of_tool log).effective
    added-within = time-within (λ b. b.added) (λ i l. (each i l).added)

    units-within : total_units_time log at ≤ (of_tool log).effective
    units-within = rw (← all_times_lem) (sum-le _ _ (standards_in log) (λ i l. mul-le-mul_right (time_at log i) (each i l).units))

    module _ (o : Ordered (of_tool log)) where
      portion : (n : ℕ) → n ≤ (of_tool log).effective → Portion n (of_tool log).total
      portion n h = record { part = omega (arith, h, o.effective_actual, o.actual_production, o.production_uptime, o.uptime_total); few = o.few }

      -- each sum may be divided by the total time
      pub portions : (S : Sums) → S ≡ sums_to log at (standards_in log)
          → Portion S.reference (of_tool log).total × Portion S.optimized (of_tool log).total × Portion S.added (of_tool log).total × Portion S.units (of_tool log).total
      portions S e = rw e (portion _ reference-within, portion _ optimized-within, portion _ added-within, portion _ units-within)

      rounded : (n : ℕ) → n ≤ (of_tool log).effective → Rounded (rounded_of n (of_tool log).total) n (of_tool log).total
      rounded n h = record { nearest = rounded-nearest n (of_tool log).total o.begun; at_most_one = rounded-le-one n (of_tool log).total o.begun (portion n h).part }

      pub all_rounded : AllRounded log at (supplemental_of log at)
      unfolding supplemental_of
      all_rounded = record { reference = rounded _ reference-within; optimized = rounded _ optimized-within; added = rounded _ added-within; units = rounded _ units-within }
