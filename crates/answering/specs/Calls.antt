-- What each call answers: its value for an accepted log, or the refusal; and what is promised of either.
-- Definitions only.
use Rattle.std.specs.Prelude.{◌≡◌, List, ℕ, ◌≤◌}
use Rattle.records.specs.Log.{decode}
use Rattle.e79.specs.Quantities.{Ordered}
use Rattle.e79.specs.Doubles.{figures_of}
use Rattle.e79.specs.Accuracy.{Accurate}
use Rattle.e79.specs.declared.Figures.{Figures}
use Rattle.e79.specs.declared.Quantities.{Quantities}
use Rattle.rules.specs.declared.Refusal.{Refusal}
use Rattle.rules.specs.declared.StateTimes.{StateTimes}
use Rattle.std.specs.declared.result.Result.{Result}
use Rattle.std.specs.declared.result.Result.TheVariants.{Ok}
use Rattle.rules.specs.declared.Ground.TheVariants.{StrayModule}
use Rattle.rules.specs.declared.LogList.TheVariants.{NoList}
use Rattle.rules.specs.Quantities.{all_times, module_times, tool_times, of_module, of_tool}
use Rattle.rules.specs.Verdict.{verdict, verdict_on}
use Rattle.rules.specs.Refusals.{OfLog}
use Rattle.rules.specs.Answers.{Given}
use Rattle.rules.specs.Grounds.{refusal}
use Rattle.losses.specs.declared.Losses.{Losses}
use Rattle.losses.specs.Losses.{losses_of, AddsUp}

-- a call about module m: a refusal of the log, or 7 with list 0, for a module that an accepted log does not have
pub data OnModule (s : List ℕ) (m : ℕ) (x : Refusal) : Type 0 where
  of_log : OfLog s x → OnModule s m x
  stray : verdict s ≡ Ok tt → (decode s).modules ≤ m → x ≡ refusal StrayModule NoList m → OnModule s m x

-- ---- the eight calls

-- the six times of a module add up to the period
abbrev pub ModuleTimes : List ℕ → ℕ → Result StateTimes Refusal → Type 0
ModuleTimes s m r = Given (verdict_on s m) (module_times (decode s) m) (λ t. all_times t ≡ (decode s).period) (OnModule s m) r

-- those of the tool to its total time
abbrev pub ToolTimes : List ℕ → Result StateTimes Refusal → Type 0
ToolTimes s r = Given (verdict s) (tool_times (decode s)) (λ t. all_times t ≡ (of_tool (decode s)).total) (OfLog s) r

abbrev pub ModuleQuantities : List ℕ → ℕ → Result Quantities Refusal → Type 0
ModuleQuantities s m r = Given (verdict_on s m) (of_module (decode s) m) Ordered (OnModule s m) r

abbrev pub ToolQuantities : List ℕ → Result Quantities Refusal → Type 0
ToolQuantities s r = Given (verdict s) (of_tool (decode s)) Ordered (OfLog s) r

-- the OEE double is nearest to its quotient, the product is proper, and so on: `Accurate`
abbrev pub ModuleFigures : List ℕ → ℕ → Result Figures Refusal → Type 0
ModuleFigures s m r = Given (verdict_on s m) (figures_of (of_module (decode s) m)) (Accurate (of_module (decode s) m)) (OnModule s m) r

abbrev pub ToolFigures : List ℕ → Result Figures Refusal → Type 0
ToolFigures s r = Given (verdict s) (figures_of (of_tool (decode s))) (Accurate (of_tool (decode s))) (OfLog s) r

-- the five make 10,000, and no other five that do lie nearer: `AddsUp`
abbrev pub ModuleLosses : List ℕ → ℕ → Result Losses Refusal → Type 0
ModuleLosses s m r = Given (verdict_on s m) (losses_of (of_module (decode s) m)) (AddsUp (of_module (decode s) m)) (OnModule s m) r

abbrev pub ToolLosses : List ℕ → Result Losses Refusal → Type 0
ToolLosses s r = Given (verdict s) (losses_of (of_tool (decode s))) (AddsUp (of_tool (decode s))) (OfLog s) r
