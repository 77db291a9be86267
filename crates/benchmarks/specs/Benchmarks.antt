-- Benchmarks, one for each standard of a log and in the standards' sequence: their form, when they are turned back, and the four sums of E79's supplemental
-- metrics (002, appendix 1).
-- Definitions only.
use Rattle.std.specs.Prelude.{ℕ, ◌+◌, ◌*◌, List, map, Bool, ◌||◌, not, ltb, eqb, length, get_or}
use Rattle.bits.specs.Bits.{field}
use Rattle.records.specs.Log.{Log, decode}
use Rattle.rules.specs.declared.Ground.TheVariants.{Length, Spare, NoTime, AboveStandard, OverCounted}
use Rattle.rules.specs.declared.LogList.TheVariants.{Benchmarks}
use Rattle.rules.specs.Grounds.{Verdict}
use Rattle.rules.specs.Grounds.{ground, ◌then◌, first_of}
use Rattle.rules.specs.Theoretical.{units_judged}
use Rattle.rules.specs.Quantities.{sum_below}
use Rattle.rules.specs.Verdict.{verdict}
use Rattle.benchmarks.specs.declared.Benchmark.{Benchmark}

-- ---- their form

-- the benchmark of 112 bits from bit p on: reference, optimized and value-added time, total effective units
unfoldable pub benchmark_from : List ℕ → ℕ → Benchmark
benchmark_from b p =
    record {
      reference = field b p 27;
      optimized = field b (p + 27) 27;
      added = field b (p + 54) 27;
      units = field b (p + 81) 27;
      spare = field b (p + 108) 4;
    }

-- benchmark i
abbrev pub benchmark_at : List ℕ → ℕ → Benchmark
benchmark_at b i = benchmark_from b (112 * i)

-- ---- what they are held to

-- how many standards a log has, and the theoretical time of standard i
abbrev pub standards_in : Log → ℕ
standards_in l = length l.standards

abbrev pub time_at : Log → ℕ → ℕ
time_at l i = get_or (map (λ s. s.theoretical) l.standards) i 0

-- the effective units judged by standard i
unfoldable pub effective_judged : Log → ℕ → ℕ
unfolding units_judged
effective_judged l i = units_judged (λ u. u.effective) l.standards l.units i

-- ---- when they are turned back

-- one of the three times is 0
abbrev pub any_zero : Benchmark → Bool
any_zero b = eqb b.reference 0 || (eqb b.optimized 0 || eqb b.added 0)

-- one of the three times is above the standard's
abbrev pub any_above : ℕ → Benchmark → Bool
any_above time b = ltb time b.reference || (ltb time b.optimized || ltb time b.added)

-- benchmark i, b, of a standard of this time that judges so many effective units
unfoldable pub benchmark_ground : ℕ → ℕ → ℕ → Benchmark → Verdict
benchmark_ground i time judged b =
    ground Spare Benchmarks i (not (eqb b.spare 0))
    then ground NoTime Benchmarks i (any_zero b)
    then ground AboveStandard Benchmarks i (any_above time b)
    then ground OverCounted Benchmarks i (ltb judged b.units)

abbrev pub ground_at : Log → (ℕ → Benchmark) → ℕ → Verdict
ground_at l at i = benchmark_ground i (time_at l i) (effective_judged l i) (at i)

-- the length, which is that of as many benchmarks as there are standards; then the benchmarks one by one
unfoldable pub benchmark_grounds : Log → List ℕ → Verdict
unfolding benchmark_ground first_of
benchmark_grounds l b = ground Length Benchmarks 0 (not (eqb (length b) (14 * standards_in l))) then first_of (ground_at l (benchmark_at b)) (standards_in l)

-- acceptance of a log and its benchmarks, or the first ground met: the log is tested first
unfoldable pub verdict_with : List ℕ → List ℕ → Verdict
unfolding verdict benchmark_grounds decode
verdict_with s b = verdict s then benchmark_grounds (decode s) b

-- ---- what they add up to

-- the effective units judged by standard i, times a time of its benchmark
abbrev pub judged_time : (Benchmark → ℕ) → Log → (ℕ → Benchmark) → ℕ → ℕ
judged_time time l at i = effective_judged l i * time (at i)

-- the total effective units of benchmark i, times its standard's own time
abbrev pub units_time : Log → (ℕ → Benchmark) → ℕ → ℕ
units_time l at i = (at i).units * time_at l i

-- such times of all standards
abbrev pub of_all : Log → (ℕ → ℕ) → ℕ
of_all l f = sum_below f (standards_in l)
