-- What the working sums hold of the first n benchmarks.
-- Definitions only.
use Rattle.std.specs.Prelude.{◌≡◌, List, ℕ, ◌+◌, ◌*◌, ◌^◌, ◌≤◌, ◌<◌, get_or}
use Rattle.records.specs.declared.Header.{Header}
use Rattle.records.specs.Log.{Log, header_of, decode}
use Rattle.records.specs.Covers.{Covers}
use Rattle.rules.specs.Quantities.{sum_below}
use Rattle.benchmarks.specs.declared.Benchmark.{Benchmark}
use Rattle.benchmarks.specs.declared.Sums.{Sums}
use Rattle.benchmarks.specs.Benchmarks.{effective_judged, judged_time, units_time}

-- the four: reference, optimized, value-added, total effective units
abbrev pub sums_to : Log → (ℕ → Benchmark) → ℕ → Sums
sums_to l at n =
    record {
      reference = sum_below (judged_time (λ b. b.reference) l at) n;
      optimized = sum_below (judged_time (λ b. b.optimized) l at) n;
      added = sum_below (judged_time (λ b. b.added) l at) n;
      units = sum_below (units_time l at) n;
    }

-- the four grown by one benchmark, of a standard of this time that judges so many effective units
abbrev pub grown : Sums → ℕ → ℕ → Benchmark → Sums
grown S time judged b =
    record {
      reference = S.reference + judged * b.reference;
      optimized = S.optimized + judged * b.optimized;
      added = S.added + judged * b.added;
      units = S.units + b.units * time;
    }

-- times and units are numbers of 27 bits
abbrev pub Narrow : Benchmark → Type 0
Narrow b = (b.reference < 2 ^ 27) × (b.optimized < 2 ^ 27) × (b.added < 2 ^ 27) × (b.units < 2 ^ 27)

-- each of the four is below a bound
abbrev pub Below : ℕ → Sums → Type 0
Below bound S = (S.reference < bound) × (S.optimized < bound) × (S.added < bound) × (S.units < bound)

-- the bytes s of a log with header h, the bytes b of its benchmarks, all there, and the effective units J judged by each standard
pub record Lent (s : List ℕ) (h : Header) (b J : List ℕ) : Type 0 where
  pub header : h ≡ header_of s
  pub few : h.standards ≤ 512
  pub benchmarks : Covers b (14 * h.standards)
  pub low : (k : ℕ) → k < 512 → get_or J k 0 < 2 ^ 27
  pub judged : (k : ℕ) → k < 512 → get_or J k 0 ≡ effective_judged (decode s) k
