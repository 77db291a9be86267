-- From the call's answer to what is printed of it. Assumes nothing.
use mathlib.Core.Path.{◌≡◌, sym, ap, ◌∙◌}
use mathlib.Core.List.{List}
use Prim.Native.Nat.{ℕ}
use lib.Dec.{lit≤}
use Rattle.records.specs.Log.{decode}
use Rattle.std.specs.declared.result.Result.TheVariants.{Ok, Err}
use Rattle.rules.specs.declared.Refusal.{Refusal}
use Rattle.rules.specs.Grounds.{Verdict}
use Rattle.rules.proofs.Given.{was_answered, was_refused}
use Rattle.filling.specs.Buffer.{AtFront}
use Rattle.filling.proofs.Written.{front-more}
use Rattle.report.specs.Report.{refused_line}
use Rattle.reporting.specs.Reports.{printed_by}
use Rattle.benchmarks.specs.Benchmarks.{benchmark_at, verdict_with}
use Rattle.supplemental.specs.declared.Supplemental.{Supplemental}
use Rattle.supplemental.specs.Supplemental.{supplemental_of}
use Rattle.supplemental.specs.Calls.{ToolSupplemental}
use Rattle.appendix.specs.Lines.{supplemental_text, supplemental_printed}

module _ (s b : List ℕ) where
  abbrev figures : Supplemental
  figures = supplemental_of (decode s) (benchmark_at b)

  pub lines_printed : (f : Supplemental) → ToolSupplemental s b (Ok f) → {before : List ℕ} {n : ℕ} {after : List ℕ} → AtFront (supplemental_text f) 96 before n after → AtFront (supplemental_printed s b) 96 before n after
  unfolding supplemental_printed
  lines_printed f g p =
      let answered = was_answered (verdict_with s b) figures f g.answer in
      let same : supplemental_printed s b ≡ supplemental_text f = ap (λ (w : Verdict). printed_by w (supplemental_text figures)) answered.0 ∙ ap supplemental_text (sym answered.1) in
      rw same p

  pub refusal_printed : (x : Refusal) → ToolSupplemental s b (Err x) → {before : List ℕ} {n : ℕ} {after : List ℕ} → AtFront (refused_line x) 79 before n after → AtFront (supplemental_printed s b) 96 before n after
  unfolding supplemental_printed
  refusal_printed x g p =
      let refused = was_refused (verdict_with s b) figures x g.answer in
      let same : supplemental_printed s b ≡ refused_line x = ap (λ (w : Verdict). printed_by w (supplemental_text figures)) refused in
      rw same (front-more (lit≤ tt) p)
