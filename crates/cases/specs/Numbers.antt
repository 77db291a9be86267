-- What the calls answer as seven numbers, and bytes that hold them. Definitions only.
use Rattle.std.specs.Prelude.{◌≡◌, ℕ, ◌*◌, ◌<◌, cond, List, [], ◌∷◌, ◌++◌, drop, length, ◌==◌, slice_index, to_bits, Float, Option, Some, None}
use Rattle.std.specs.Float.{binary64}
use Rattle.bits.specs.Bits.{field}
use Rattle.e79.specs.Doubles.{figures_of}
use Rattle.records.specs.Log.{decode}
use Rattle.e79.specs.Quantities.{quantities_of}
use Rattle.e79.specs.declared.Figures.{Figures}
use Rattle.std.specs.declared.result.Result.{Result}
use Rattle.std.specs.declared.result.Result.TheVariants.{Ok, Err}
use Rattle.rules.specs.declared.Refusal.{Refusal}
use Rattle.rules.specs.Quantities.{module_times, tool_times, of_module, of_tool, times_of}
use Rattle.rules.specs.Refusals.{three_of}
use Rattle.rules.specs.Verdict.{verdict, verdict_on}
use Rattle.rules.specs.Answers.{answer_of}
use Rattle.losses.specs.Losses.{losses_of, shares_of}
use Rattle.benchmarks.specs.Benchmarks.{benchmark_at, verdict_with}
use Rattle.supplemental.specs.Supplemental.{supplemental_of, supplementals_of}

-- these numbers, and zeros behind them up to seven
abbrev pub seven : List ℕ → List ℕ
seven ns = ns ++ drop (length ns) (0 ∷ 0 ∷ 0 ∷ 0 ∷ 0 ∷ 0 ∷ 0 ∷ [])

-- an answer: 0 and its numbers; a refusal: its number, its list, its place
abbrev pub seven_of : {A : Type 0} → (A → List ℕ) → Result A Refusal → List ℕ
seven_of numbers (Ok a) = seven (0 ∷ numbers a)
seven_of numbers (Err x) = seven (three_of x)

-- a double's bit pattern; "no base" is 2 ^ 64 - 1
abbrev pub of_efficiency : Option Float → ℕ
of_efficiency (Some x) = to_bits binary64 x
of_efficiency None = 18446744073709551615

-- the six doubles
abbrev pub patterns_of : Figures → List ℕ
patterns_of f =
    of_efficiency f.availability
    ∷ of_efficiency f.operational
    ∷ of_efficiency f.rate
    ∷ of_efficiency f.quality
    ∷ to_bits binary64 f.oee
    ∷ to_bits binary64 f.product
    ∷ []

-- what a call of a kind answers for a log and a module: the state times 1 of the module, 2 of the tool; the quantities 3 and 4; the doubles 5 and 6; the
-- losses 7 and 8
unfoldable pub answers_of : ℕ → List ℕ → ℕ → List ℕ
answers_of kind s m =
    cond (kind == 1) (seven_of times_of (answer_of (verdict_on s m) (module_times (decode s) m)))
    (cond (kind == 2) (seven_of times_of (answer_of (verdict s) (tool_times (decode s))))
    (cond (kind == 3) (seven_of quantities_of (answer_of (verdict_on s m) (of_module (decode s) m)))
    (cond (kind == 4) (seven_of quantities_of (answer_of (verdict s) (of_tool (decode s))))
    (cond (kind == 5) (seven_of patterns_of (answer_of (verdict_on s m) (figures_of (of_module (decode s) m))))
    (cond (kind == 6) (seven_of patterns_of (answer_of (verdict s) (figures_of (of_tool (decode s)))))
    (cond (kind == 7) (seven_of shares_of (answer_of (verdict_on s m) (losses_of (of_module (decode s) m))))
    (seven_of shares_of (answer_of (verdict s) (losses_of (of_tool (decode s)))))))))))

-- what the call for the supplemental figures answers for a log and its benchmarks
abbrev pub measured_of : List ℕ → List ℕ → List ℕ
measured_of s b = seven_of supplementals_of (answer_of (verdict_with s b) (supplemental_of (decode s) (benchmark_at b)))

-- the bytes are these seven numbers, of eight bytes each
pub record Numbers (bytes numbers : List ℕ) : Type 0 where
  pub size : length bytes ≡ 56
  pub each : (k : ℕ) → k < 7 → field bytes (64 * k) 64 ≡ slice_index numbers k
