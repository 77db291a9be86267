-- What the call for the supplemental figures answers, and what is promised of it.
-- Definitions only.
use Rattle.std.specs.Prelude.{◌≡◌, List, ℕ}
use Rattle.records.specs.Log.{decode}
use Rattle.rules.specs.declared.Refusal.{Refusal}
use Rattle.std.specs.declared.result.Result.{Result}
use Rattle.std.specs.declared.result.Result.TheVariants.{Ok, Err}
use Rattle.rules.specs.Verdict.{verdict}
use Rattle.rules.specs.Refusals.{Known, OfLog, benchmark_refusals}
use Rattle.rules.specs.Answers.{Given}
use Rattle.benchmarks.specs.Benchmarks.{benchmark_at, benchmark_grounds, verdict_with}
use Rattle.supplemental.specs.declared.Supplemental.{Supplemental}
use Rattle.supplemental.specs.Supplemental.{supplemental_of, AllRounded}

-- a refusal of the log, or of the benchmarks of an accepted one
pub data WithBenchmarks (s b : List ℕ) (x : Refusal) : Type 0 where
  of_log : OfLog s x → WithBenchmarks s b x
  of_benchmarks : verdict s ≡ Ok tt → benchmark_grounds (decode s) b ≡ Err x → Known benchmark_refusals x → WithBenchmarks s b x

-- of the bytes s of a log and b of its benchmarks
abbrev pub ToolSupplemental : List ℕ → List ℕ → Result Supplemental Refusal → Type 0
ToolSupplemental s b r =
    Given (verdict_with s b) (supplemental_of (decode s) (benchmark_at b)) (AllRounded (decode s) (benchmark_at b)) (WithBenchmarks s b) r
