-- Whatever is handed out of a log is made of its module count, its state times and its quantities, which packing keeps.
-- Assumes nothing.
use mathlib.Core.Path.{ap}
use Prim.Native.Nat.{ℕ}
use Rattle.e79.specs.declared.Quantities.{Quantities}
use Rattle.e79.specs.Doubles.{figures_of}
use Rattle.rules.specs.declared.StateTimes.{StateTimes}
use Rattle.losses.specs.Losses.{losses_of}
use Rattle.report.specs.Report.{report_of}
use Rattle.reporting.specs.Reports.{report_text}
use Rattle.packed.proofs.Packing.{same_told}
use Rattle.tool_log.specs.Packing.{PackedHandsOutTheSame}

pub packed-told : PackedHandsOutTheSame
unfolding report_text
packed-told s ok =
    let e = same_told s ok in
    record {
      modules = e.modules;
      times = λ m. ap (λ (f : ℕ → StateTimes). f m) e.times;
      tool_times = e.tool_times;
      quantities = λ m. ap (λ (f : ℕ → Quantities). f m) e.quantities;
      tool_quantities = e.tool;
      figures = λ m. ap (λ (f : ℕ → Quantities). figures_of (f m)) e.quantities;
      tool_figures = ap figures_of e.tool;
      losses = λ m. ap (λ (f : ℕ → Quantities). losses_of (f m)) e.quantities;
      tool_losses = ap losses_of e.tool;
      report = λ i. report_of (e.modules i) (e.quantities i) (e.tool i);
    }
