-- From the tests of the benchmarks to what the call answers.
-- Assumes nothing.
use mathlib.Core.Path.{◌≡◌, refl, sym, ap, ◌∙◌}
use mathlib.Core.Bool.{not}
use mathlib.Core.List.{List}
use Prim.Native.Nat.{ℕ, ◌*◌, ◌≤◌}
use native.Mathlib.Omega.{arith}
use lib.Dec.{ltb, eqb}
use lib.ListN.{length}
use borrow.Author.Tests.{eq-eqb}
use Rattle.records.specs.declared.Header.{Header}
use Rattle.records.specs.Log.{Log, up_to, header_of, standard_at, unit_at, decode}
use Rattle.rules.specs.declared.Refusal.{Refusal}
use Rattle.rules.specs.declared.Ground.TheVariants.{Length, Spare, NoTime, AboveStandard, OverCounted}
use Rattle.rules.specs.declared.LogList.TheVariants.{Benchmarks}
use Rattle.std.specs.declared.result.Result.TheVariants.{Ok, Err}
use Rattle.rules.specs.Grounds.{Verdict, ground, first_of, ◌then◌}
use Rattle.rules.specs.Verdict.{verdict}
use Rattle.rules.specs.Refusals.{OfLog, benchmark_refusals}
use Rattle.rules.proofs.Given.{given_refused, given_answered}
use Rattle.rules.proofs.KnownRefusals.{AllKnown, known_ground, known_then, known_first}
use Rattle.judging.proofs.Judging.{Counted, accepted_counts}
use Rattle.theoretical.specs.Credits.{JudgedSoFar}
use Rattle.benchmarks.specs.declared.Benchmark.{Benchmark}
use Rattle.benchmarks.specs.Benchmarks.{benchmark_at, standards_in, time_at, effective_judged, any_zero, any_above, benchmark_ground, ground_at, benchmark_grounds, verdict_with}
use Rattle.benchmarks.specs.Taking.{Lent}
use Rattle.benchmarks.proofs.Taking.{count_is}
use Rattle.supplemental.specs.declared.Supplemental.{Supplemental}
use Rattle.supplemental.specs.Supplemental.{supplemental_of, AllRounded}
use Rattle.supplemental.specs.Calls.{WithBenchmarks, of_log, of_benchmarks, ToolSupplemental}

-- ---- the refusals of benchmarks

known-benchmark : (i time judged : ℕ) (b : Benchmark) → AllKnown benchmark_refusals (benchmark_ground i time judged b)
unfolding benchmark_ground
known-benchmark i time judged b =
    let rows = benchmark_refusals in
    known_then rows _ _ (known_ground rows Spare Benchmarks i (not (eqb b.spare 0)) tt)
    (known_then rows _ _ (known_ground rows NoTime Benchmarks i (any_zero b) tt)
    (known_then rows _ _ (known_ground rows AboveStandard Benchmarks i (any_above time b) tt) (known_ground rows OverCounted Benchmarks i (ltb judged b.units) tt)))

known-benchmarks : (l : Log) (b : List ℕ) → AllKnown benchmark_refusals (benchmark_grounds l b)
unfolding benchmark_grounds
known-benchmarks l b =
    let rows = benchmark_refusals in
    known_then rows _ _ (known_ground rows Length Benchmarks 0 (not (eqb (length b) (14 * standards_in l))) tt)
    (known_first rows (ground_at l (benchmark_at b)) (standards_in l) (λ i. known-benchmark i (time_at l i) (effective_judged l i) (benchmark_at b i)))

module _ (s b : List ℕ) where
  -- ---- a log that is refused

  pub log_refused : (x : Refusal) → OfLog s x → ToolSupplemental s b (Err x)
  unfolding verdict_with
  log_refused x o = given_refused (verdict_with s b) _ _ (WithBenchmarks s b) x (ap (λ (v : Verdict). v then benchmark_grounds (decode s) b) o.met) (of_log o)

  -- ---- one that is accepted

  module _ (a : verdict s ≡ Ok tt) where
    pub sized : Counted (length s) (header_of s)
    sized = accepted_counts s a

    -- what is lent to the pass over the benchmarks
    pub lent : (h : Header) → h ≡ header_of s → length b ≡ 14 * h.standards → (J : List ℕ) → JudgedSoFar (λ u. u.effective) (up_to (standard_at s h) h.standards) (up_to (unit_at s h) h.units) h.units J → Lent s h b J
    unfolding effective_judged decode
    lent h e whole J j =
        let few : h.standards ≤ 512 = rw e sized.counts.1 in
        let units : h.units ≤ 2000 = rw e sized.counts.2 in
        record {
          header = e;
          few = few;
          benchmarks = (omega (arith, whole), omega (arith, whole));
          low = λ k l. omega (arith, j.low k l);
          judged = λ k l. rw e at (j.judged k l);
        }

    tested-with : verdict_with s b ≡ benchmark_grounds (decode s) b
    unfolding verdict_with
    tested-with = ap (λ (v : Verdict). v then benchmark_grounds (decode s) b) a

    benchmark-refused : (x : Refusal) → benchmark_grounds (decode s) b ≡ Err x → ToolSupplemental s b (Err x)
    benchmark-refused x e = given_refused (verdict_with s b) _ _ (WithBenchmarks s b) x (tested-with ∙ e) (of_benchmarks a e ((known-benchmarks (decode s) b).known x e))

    -- of another length
    pub size_refused : (n : ℕ) → n ≡ (header_of s).standards → (x : Refusal) → ground Length Benchmarks 0 (not (eqb (length b) (14 * n))) ≡ Err x → ToolSupplemental s b (Err x)
    unfolding benchmark_grounds
    size_refused n e x g =
        let same : standards_in (decode s) ≡ n = count_is s (header_of s) refl ∙ sym e in
        benchmark-refused x (ap (λ (v : Verdict). v then first_of (ground_at (decode s) (benchmark_at b)) (standards_in (decode s))) (ap (λ (k : ℕ). ground Length Benchmarks 0 (not (eqb (length b) (14 * k)))) same ∙ g))

    module _ (whole : length b ≡ 14 * (header_of s).standards) where
      one_by_one : benchmark_grounds (decode s) b ≡ first_of (ground_at (decode s) (benchmark_at b)) (standards_in (decode s))
      unfolding benchmark_grounds
      one_by_one = rw (eq-eqb (length b) (14 * standards_in (decode s)) (whole ∙ ap (λ (n : ℕ). 14 * n) (sym (count_is s (header_of s) refl))))

      pub one_refused : (x : Refusal) → first_of (ground_at (decode s) (benchmark_at b)) (standards_in (decode s)) ≡ Err x → ToolSupplemental s b (Err x)
      one_refused x e = benchmark-refused x (one_by_one ∙ e)

      pub figures_answered : (f : Supplemental) → first_of (ground_at (decode s) (benchmark_at b)) (standards_in (decode s)) ≡ Ok tt → f ≡ supplemental_of (decode s) (benchmark_at b)
          → AllRounded (decode s) (benchmark_at b) (supplemental_of (decode s) (benchmark_at b)) → ToolSupplemental s b (Ok f)
      figures_answered f e q ok = given_answered (verdict_with s b) _ _ (WithBenchmarks s b) f (tested-with ∙ one_by_one ∙ e) q ok
