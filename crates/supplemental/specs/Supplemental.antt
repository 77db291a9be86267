-- The four supplemental figures of E79 (002, appendix 1 and R1-3), of the tool: a log's effective units, measured by the benchmarks of its standards.
-- Definitions only.
use Rattle.std.specs.Prelude.{List, [], ◌∷◌, ℕ, ◌≤◌}
use Rattle.records.specs.Log.{Log}
use Rattle.e79.specs.Printed.{rounded_of, NearestWhole}
use Rattle.rules.specs.Quantities.{of_tool}
use Rattle.benchmarks.specs.declared.Benchmark.{Benchmark}
use Rattle.benchmarks.specs.Benchmarks.{judged_time, units_time, of_all}
use Rattle.supplemental.specs.declared.Supplemental.{Supplemental}

-- the numerators
abbrev pub reference_time : Log → (ℕ → Benchmark) → ℕ
reference_time l at = of_all l (judged_time (λ b. b.reference) l at)

abbrev pub optimized_time : Log → (ℕ → Benchmark) → ℕ
optimized_time l at = of_all l (judged_time (λ b. b.optimized) l at)

abbrev pub added_time : Log → (ℕ → Benchmark) → ℕ
added_time l at = of_all l (judged_time (λ b. b.added) l at)

abbrev pub total_units_time : Log → (ℕ → Benchmark) → ℕ
total_units_time l at = of_all l (units_time l at)

-- each over the tool's total time, in ten-thousandths, rounded as printed figures are
unfoldable pub supplemental_of : Log → (ℕ → Benchmark) → Supplemental
unfolding rounded_of
supplemental_of l at =
    let total = (of_tool l).total in
    record {
      reference = rounded_of (reference_time l at) total;
      optimized = rounded_of (optimized_time l at) total;
      added = rounded_of (added_time l at) total;
      units = rounded_of (total_units_time l at) total;
    }

-- as a list, in the sequence in which they are handed out and printed
abbrev pub supplementals_of : Supplemental → List ℕ
supplementals_of f = f.reference ∷ f.optimized ∷ f.added ∷ f.units ∷ []

-- ---- what is promised of them

-- the whole number nearest to 10,000 n / d, an exact half going up, and at most 10,000
pub record Rounded (r n d : ℕ) : Type 0 where
  pub nearest : NearestWhole r n d
  pub at_most_one : r ≤ 10000

pub record AllRounded (l : Log) (at : ℕ → Benchmark) (f : Supplemental) : Type 0 where
  pub reference : Rounded f.reference (reference_time l at) (of_tool l).total
  pub optimized : Rounded f.optimized (optimized_time l at) (of_tool l).total
  pub added : Rounded f.added (added_time l at) (of_tool l).total
  pub units : Rounded f.units (total_units_time l at) (of_tool l).total
