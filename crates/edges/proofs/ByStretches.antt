-- The verdict and the report with each state time as the sum of its stretches. Of the bytes of a log both compute, however long its period.
-- Assumes nothing.
use mathlib.Core.Path.{◌≡◌, refl, ap, ◌∙◌, fun_ext}
use mathlib.Core.Bool.{◌||◌}
use mathlib.Core.Option.{none}
use mathlib.Core.List.{List}
use Prim.Native.Nat.{ℕ, ◌+◌}
use lib.Dec.{ltb}
use Rattle.bits.specs.Bits.{bit, field}
use Rattle.records.specs.Fields.{header_from, state_from, standard_from, unit_from}
use Rattle.records.specs.Log.{Log, header_of, decode}
use Rattle.e79.specs.declared.Quantities.{Quantities}
use Rattle.e79.specs.Quantities.{based}
use Rattle.e79.specs.Printed.{rounded_of, printed_of}
use Rattle.rules.specs.declared.Ground.TheVariants.{TooFast, TooGreat}
use Rattle.rules.specs.declared.LogList.TheVariants.{NoList}
use Rattle.std.specs.declared.result.Result.TheVariants.{Ok, Err}
use Rattle.rules.specs.Grounds.{Verdict, ground, ◌then◌, first_of}
use Rattle.rules.specs.Time.{is_state}
use Rattle.rules.specs.RecordGrounds.{state_grounds, standard_grounds, unit_grounds}
use Rattle.rules.specs.Quantities.{time_in, uptime, actual_time, effective_time, sum_below, of_module, of_tool, tool_times}
use Rattle.rules.specs.Verdict.{header_grounds, fast_ground, any_over, any_time_over, sum_grounds, verdict}
use Rattle.rules.proofs.FirstGround.{then-accepted}
use Rattle.states.proofs.Stretches.{stretches, accepted_by_stretches}
use Rattle.report.specs.Report.{short, places, shown, figure, figures, heading, tool, module_line, tool_line, joined, table_of, report_of}
use Rattle.judging.specs.Working.{Grounded}
use Rattle.reporting.specs.Reports.{report_text}
use Rattle.judging.proofs.Accepted.{consistent, none_over}
use Rattle.judging.proofs.Judging.{counted}

-- ---- a module's quantities, and the tool's from its modules'

abbrev time_by : Log → ℕ → ℕ → ℕ
time_by l k m = stretches l.states l.period m k none 0

abbrev quantities_by : Log → ℕ → Quantities
quantities_by l m =
    record {
      total = l.period;
      uptime = time_by l 0 m + time_by l 1 m + time_by l 2 m;
      production = time_by l 0 m;
      actual = actual_time l m;
      effective = effective_time l m;
    }

abbrev summed : (ℕ → Quantities) → ℕ → Quantities
summed each n =
    record {
      total = sum_below (λ m. (each m).total) n;
      uptime = sum_below (λ m. (each m).uptime) n;
      production = sum_below (λ m. (each m).production) n;
      actual = sum_below (λ m. (each m).actual) n;
      effective = sum_below (λ m. (each m).effective) n;
    }

abbrev states_of : Log → Verdict
states_of l = state_grounds l.period l.modules l.states

same : (l : Log) → states_of l ≡ Ok tt → of_module l ≡ quantities_by l
unfolding uptime time_in
same l a = fun_ext (λ m. simp (accepted_by_stretches l.period l.modules m l.states a))

-- ---- the tool's five quantities

pub tool_by-stretches : (l : Log) → states_of l ≡ Ok tt → of_tool l ≡ summed (quantities_by l) l.modules
tool_by-stretches l a = ap (λ (each : ℕ → Quantities). summed each l.modules) (same l a)

-- ---- the report

-- by stretches where the state records are accepted
abbrev report_in : Verdict → Log → List ℕ
report_in (Ok tt) l = report_of l.modules (quantities_by l) (summed (quantities_by l) l.modules)
report_in (Err x) l = report_text l

unfoldable pub report_by : Log → List ℕ
unfolding state_grounds is_state actual_time effective_time sum_below report_of table_of joined heading module_line short tool_line tool figures figure shown places printed_of rounded_of based
report_by l = report_in (states_of l) l

pub report_by-stretches : (l : Log) → report_text l ≡ report_by l
unfolding report_text report_by
report_by-stretches l = go (states_of l) refl
  where
    go : (v : Verdict) → states_of l ≡ v → report_text l ≡ report_in v l
    go (Ok tt) a = ap (λ (each : ℕ → Quantities). report_of l.modules each (summed each l.modules)) (same l a)
    go (Err x) a = refl

-- ---- the verdict

-- what comes second matters only where the first accepts
then_same : (u v w : Verdict) → (u ≡ Ok tt → v ≡ w) → u then v ≡ u then w
then_same (Ok tt) v w h = h refl
then_same (Err x) v w h = refl

abbrev fast_by : Log → ℕ → Verdict
fast_by l m = ground TooFast NoList m (ltb (time_by l 0 m) (actual_time l m))

-- 17 is never met
sums-by-stretches : (l : Log) → Grounded l → sum_grounds l ≡ first_of (fast_by l) l.modules
unfolding sum_grounds fast_ground
sums-by-stretches l g =
    let fast = first_of (fast_ground l) l.modules in
    then_same fast (ground TooGreat NoList 0 (any_over (of_tool l) || any_time_over (tool_times l))) (Ok tt) (λ e. ap (ground TooGreat NoList 0) (none_over l (consistent l g e)))
    ∙ then-accepted fast
    ∙ ap (λ (each : ℕ → Quantities). first_of (λ m. ground TooFast NoList m (ltb (each m).production (each m).actual)) l.modules) (same l g.states)

unfoldable pub verdict_by : List ℕ → Verdict
unfolding header_grounds state_grounds standard_grounds unit_grounds first_of is_state actual_time decode header_from state_from standard_from unit_from field bit
verdict_by s =
    let l = decode s in
    header_grounds s
    then states_of l
    then standard_grounds l.period l.modules l.standards
    then unit_grounds l.period l.modules l.standards l.units
    then first_of (fast_by l) l.modules

pub verdict_by-stretches : (s : List ℕ) → verdict s ≡ verdict_by s
unfolding verdict verdict_by
verdict_by-stretches s =
    let l = decode s in
    then_same (header_grounds s) _ _ (λ header.
    let n = counted s (header_of s) refl header in
    then_same (states_of l) _ _ (λ states.
    then_same (standard_grounds l.period l.modules l.standards) _ _ (λ standards.
    then_same (unit_grounds l.period l.modules l.standards l.units) _ _ (λ units.
    sums-by-stretches l (record { one_module = n.modules.0; few = n.modules.1; begun = n.period.0; short = n.period.1; states = states; units = units })))))
