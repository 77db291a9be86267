-- Case W whole follows from the definitions: its bytes are decoded, its times go by stretches.
-- Assumes nothing.
use mathlib.Core.Path.{◌≡◌, refl, ap, ap₂, ◌∙◌}
use mathlib.Core.List.{List}
use Prim.Native.Nat.{ℕ}
use lib.Dec.{ltb}
use lib.ListN.{length}
use Rattle.records.specs.Log.{decode}
use Rattle.rules.specs.declared.Ground.TheVariants.{ShortBuffer}
use Rattle.rules.specs.declared.LogList.TheVariants.{NoList}
use Rattle.std.specs.declared.result.Result.TheVariants.{Ok}
use Rattle.rules.specs.Grounds.{Verdict, ground, ◌then◌}
use Rattle.rules.specs.Time.{count}
use Rattle.rules.specs.Quantities.{sum_below, actual_time, effective_time, of_tool}
use Rattle.rules.specs.Verdict.{verdict}
use Rattle.losses.specs.Losses.{losses_of}
use Rattle.rules.specs.Answers.{written_by}
use Rattle.reporting.specs.Reports.{report_text, verdict_for_text, verdict_for, text_written, written_part}
use Rattle.edges.specs.CaseW.{case_w, case_w_log, case_w_report, CaseW}
use Rattle.edges.proofs.ByStretches.{verdict_by, verdict_by-stretches, report_by, report_by-stretches, tool_by-stretches}

-- what a buffer gets, from the report on an accepted log
module _ (s text : List ℕ) (a : verdict s ≡ Ok tt) (r : report_text (decode s) ≡ text) (room : ℕ) where
  for-room : verdict_for s room ≡ ground ShortBuffer NoList 0 (ltb room (length text))
  unfolding verdict_for_text
  for-room = ap₂ (λ (v : Verdict) (t : List ℕ). v then ground ShortBuffer NoList 0 (ltb room (length t))) a r

  part : written_part s room ≡ written_by (ground ShortBuffer NoList 0 (ltb room (length text))) text
  unfolding text_written
  part = ap₂ written_by for-room r

accepted : verdict case_w ≡ Ok tt
unfolding verdict_by case_w
accepted = verdict_by-stretches case_w

report : report_text (decode case_w) ≡ case_w_report
unfolding verdict_by report_by case_w case_w_report
report = report_by-stretches (decode case_w)

losses : losses_of (of_tool (decode case_w)) ≡ record { availability = 298; operational = 2202; rate = 357; quality = 308; oee = 6835 }
unfolding verdict_by case_w losses_of actual_time effective_time sum_below count
losses = ap losses_of (tool_by-stretches (decode case_w) refl) ∙ refl

pub case_w_lem : CaseW
unfolding verdict_by case_w case_w_log case_w_report
case_w_lem =
    record {
      records = refl;
      accepted = accepted;
      report = report;
      size = refl;
      in_183 = part case_w case_w_report accepted report _;
      in_182 = for-room case_w case_w_report accepted report _;
      losses = losses;
    }
