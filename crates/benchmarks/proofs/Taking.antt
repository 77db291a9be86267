-- The benchmarks tested and added, one by one; no sum of them comes near 2 ^ 63.
-- Assumes nothing.
use mathlib.Core.Path.{◌≡◌}
use mathlib.Core.List.{List}
use Prim.Native.Nat.{ℕ, ◌+◌, ◌*◌, ◌^◌, ◌≤◌, ◌<◌}
use native.Mathlib.Nat.{mul-le-mul}
use native.Mathlib.Omega.{arith}
use Rattle.bits.proofs.Fields.{field_lt}
use Rattle.records.specs.declared.Header.{Header}
use Rattle.records.specs.Log.{Log, header_of, standard_at, decode}
use Rattle.records.proofs.UpTo.{length_up_to, up_to_at, map-up_to}
use Rattle.records.proofs.Widths.{standard-time-low}
use Rattle.rules.specs.Quantities.{sum_below}
use Rattle.rules.proofs.SumLaws.{sum_more, sum_low}
use Rattle.benchmarks.specs.declared.Benchmark.{Benchmark}
use Rattle.benchmarks.specs.Benchmarks.{benchmark_from, benchmark_at, standards_in, time_at, effective_judged, judged_time, units_time}
use Rattle.benchmarks.specs.Taking.{sums_to, grown, Narrow, Below, Lent}

-- ---- what is read

pub narrow : (b : List ℕ) (p : ℕ) → Narrow (benchmark_from b p)
unfolding benchmark_from
narrow b p = (field_lt b p 27, field_lt b (p + 27) 27, field_lt b (p + 54) 27, field_lt b (p + 81) 27)

module _ (s : List ℕ) (h : Header) (e : h ≡ header_of s) where
  pub count_is : standards_in (decode s) ≡ h.standards
  unfolding decode
  count_is = rw e (length_up_to (standard_at s (header_of s)) (header_of s).standards)

  pub time_is : (i : ℕ) → i < h.standards → time_at (decode s) i ≡ (standard_at s h i).theoretical
  unfolding decode
  time_is i l =
      let n = (header_of s).standards in
      let m : i < n = rw e at l in
      rw (e, map-up_to (λ x. x.theoretical) (standard_at s (header_of s)) n) (up_to_at (λ j. (standard_at s (header_of s) j).theoretical) n i 0 m)

  pub time_low : (i : ℕ) → i < h.standards → time_at (decode s) i < 2 ^ 27
  time_low i l = rw (time_is i l) (standard-time-low s h i)

-- ---- no sum is too great

low_product : (a b : ℕ) → a < 2 ^ 27 → b < 2 ^ 27 → a * b ≤ 18014398241046529
low_product a b h l = mul-le-mul {n₁ = a} {m₁ = b} {n₂ = 134217727} {m₂ = 134217727} (omega arith) (omega arith)

pub grow_fits : (sum units time : ℕ) → sum < 2 ^ 63 → units < 2 ^ 27 → time < 2 ^ 27 → (units * time < 2 ^ 64) × (sum + units * time < 2 ^ 64)
grow_fits sum units time h l m = (omega (arith, low_product units time l m), omega (arith, low_product units time l m))

module _ (s b J : List ℕ) (h : Header) (lent : Lent s h b J) where
  abbrev l : Log
  l = decode s

  judged-low : (k : ℕ) → k < 512 → effective_judged l k < 2 ^ 27
  judged-low k m = omega (arith, lent.low k m, lent.judged k m)

  module _ (i : ℕ) (m : i < h.standards) where
    below : (f : ℕ → ℕ) → ((k : ℕ) → k < i → f k ≤ 18014398241046529) → sum_below f i < 2 ^ 63
    below f h' = omega (arith, sum_low f 18014398241046529 i h', lent.few)

    judged-below : (time : Benchmark → ℕ) → ((k : ℕ) → time (benchmark_at b k) < 2 ^ 27) → sum_below (judged_time time l (benchmark_at b)) i < 2 ^ 63
    judged-below time n = below (judged_time time l (benchmark_at b)) (λ k q. low_product (effective_judged l k) (time (benchmark_at b k)) (judged-low k (omega (arith, lent.few))) (n k))

    pub sums_below : Below (2 ^ 63) (sums_to l (benchmark_at b) i)
    sums_below = (
      judged-below (λ x. x.reference) (λ k. (narrow b (112 * k)).0),
      judged-below (λ x. x.optimized) (λ k. (narrow b (112 * k)).1),
      judged-below (λ x. x.added) (λ k. (narrow b (112 * k)).2),
      below (units_time l (benchmark_at b)) (λ k q. low_product (benchmark_at b k).units (time_at l k) (narrow b (112 * k)).3 (time_low s h lent.header k (omega arith))),
    )

-- ---- one more benchmark

module _ (l : Log) (at : ℕ → Benchmark) (i : ℕ) where
  pub sums_more : grown (sums_to l at i) (time_at l i) (effective_judged l i) (at i) ≡ sums_to l at (i + 1)
  sums_more =
      rw (sum_more (judged_time (λ b. b.reference) l at) i, sum_more (judged_time (λ b. b.optimized) l at) i, sum_more (judged_time (λ b. b.added) l at) i, sum_more (units_time l at) i)
