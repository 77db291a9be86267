-- The report's length, and what the report calls answer.
-- Assumes nothing.
use mathlib.Core.Path.{◌≡◌, refl, sym, ap, ◌∙◌}
use mathlib.Core.Bool.{Bool, true, false}
use mathlib.Core.List.{List, [], ◌++◌}
use Prim.Native.Nat.{ℕ, ◌+◌, ◌≤◌, ◌<◌}
use native.Mathlib.Nat.{zero-add}
use native.Mathlib.Omega.{arith}
use lib.ListN.{length, take, drop}
use lib.Dec.{ltb}
use lib.Seq.{take-append_seam}
use borrow.Author.Tests.{lt-ltb, le-ltb, ltb-true}
use Rattle.records.specs.Log.{Log, decode}
use Rattle.rules.specs.declared.Refusal.{Refusal}
use Rattle.rules.specs.declared.Ground.TheVariants.{ShortBuffer}
use Rattle.rules.specs.declared.LogList.TheVariants.{NoList}
use Rattle.rules.specs.Grounds.{Verdict}
use Rattle.std.specs.declared.result.Result.TheVariants.{Ok, Err}
use Rattle.rules.specs.Grounds.{ground, ◌then◌}
use Rattle.rules.specs.Quantities.{of_module, of_tool}
use Rattle.rules.specs.Verdict.{verdict}
use Rattle.rules.proofs.FirstGround.{refused-not}
use Rattle.filling.specs.Buffer.{Put, AtFront}
use Rattle.report.specs.Report.{heading, module_line, module_lines, tool_line, report_of, refused_line}
use Rattle.report.proofs.Lengths.{heading-length, length-report}
use Rattle.report.proofs.Tables.{table_length}
use Rattle.filling.proofs.Written.{written-front, at_front, front-more}
use Rattle.judging.specs.Working.{Consistent}
use Rattle.rules.specs.Answers.{written_by}
use Rattle.reporting.specs.Reports.{printed_by, printed, Prints, report_text, verdict_for_text, verdict_for, ForText, of_log, short, Examined, text_written, written_part, Written}
use Rattle.rules.proofs.KnownRefusals.{log-refusal}

-- ---- the length of a report

pub report_length_lem : (l : Log) → length (report_text l) ≡ 32 + length (module_lines (of_module l) l.modules) + length (tool_line (of_tool l))
unfolding report_text report_of
report_length_lem l = rw heading-length at (table_length heading (λ m. module_line m (of_module l m)) l.modules (tool_line (of_tool l)))

-- ---- the verdict for a buffer

module _ (text : Log → List ℕ) (s : List ℕ) (room : ℕ) where
  abbrev size : ℕ
  size = length (text (decode s))

  pub room_refused : (x : Refusal) → verdict s ≡ Err x → verdict_for_text text s room ≡ Err x
  unfolding verdict_for_text
  room_refused x e = ap (λ (w : Verdict). w then ground ShortBuffer NoList 0 (ltb room size)) e

  module _ (e : verdict s ≡ Ok tt) where
    pub for-room : verdict_for_text text s room ≡ ground ShortBuffer NoList 0 (ltb room size)
    unfolding verdict_for_text
    for-room = ap (λ (w : Verdict). w then ground ShortBuffer NoList 0 (ltb room size)) e

    pub room_short : room < size → verdict_for_text text s room ≡ Err (record { ground = ShortBuffer; list = NoList; place = 0 })
    room_short h = for-room ∙ ap (ground ShortBuffer NoList 0) (lt-ltb room size h)

    pub room_enough : size ≤ room → verdict_for_text text s room ≡ Ok tt
    room_enough h = for-room ∙ ap (ground ShortBuffer NoList 0) (le-ltb room size h)

    -- what the test of the room refuses is refused for the room
    pub refused_short : (x : Refusal) → ground ShortBuffer NoList 0 (ltb room size) ≡ Err x → ForText text s room x
    refused_short x f = go (ltb room size) refl f
      where
        go : (b : Bool) → ltb room size ≡ b → ground ShortBuffer NoList 0 b ≡ Err x → ForText text s room x
        go true p g = let q : x ≡ record { ground = ShortBuffer; list = NoList; place = 0 } = cc in short e (ltb-true room size p) q
        go false p g = absurd (refused-not (sym g))

module _ (s : List ℕ) (room : ℕ) where
  pub examined_refused : (x : Refusal) → verdict s ≡ Err x → Examined s room (Err x)
  examined_refused x e = record { answer = sym (room_refused report_text s room x e); refusal = λ y f. of_log (log-refusal s y (e ∙ f)) }

  pub examined : verdict s ≡ Ok tt → (v : Verdict) → v ≡ ground ShortBuffer NoList 0 (ltb room (length (report_text (decode s)))) → Examined s room v
  examined e v q = record { answer = q ∙ sym (for-room report_text s room e); refusal = λ y f. refused_short report_text s room e y (sym q ∙ f) }

-- ---- what is written

pub written_none : (s b : List ℕ) (x : Refusal) → verdict_for s (length b) ≡ Err x → Written s b 0 b
unfolding text_written
written_none s b x e =
    let part : written_part s (length b) ≡ [] = ap (λ (w : Verdict). written_by w (report_text (decode s))) e in
    record {
      size = rw part;
      bytes = rw part;
      within = omega arith;
      longest = omega arith;
      empty = (λ z. (x, e), λ y. refl);
    }

pub written_all : (s b : List ℕ) (r : ℕ) (a : List ℕ) → Consistent (decode s) → verdict_for s (length b) ≡ Ok tt → length (report_text (decode s)) ≤ length b → Put (report_text (decode s)) b 0 r a → Written s b r a
unfolding text_written report_text
written_all s b r a consistent e h p =
    let text = report_text (decode s) in
    let part : written_part s (length b) ≡ text = ap (λ (w : Verdict). written_by w text) e in
    let size : r ≡ length text = p.next ∙ zero-add (length text) in
    record {
      size = size ∙ sym (ap length part);
      bytes = p.bytes ∙ written-front b text ∙ ap (λ (n : ℕ). text ++ drop n b) (sym size) ∙ ap (λ (x : List ℕ). x ++ drop r b) (sym part);
      within = omega (arith, size);
      longest = omega (arith, size, length-report (decode s).modules (of_module (decode s)) (of_tool (decode s)) consistent.few);
      empty = (λ z. absurd (omega (arith, size, report_length_lem (decode s))), λ y. absurd (refused-not (sym y.1 ∙ e)));
    }

-- the part handed back
pub part-back : (s b : List ℕ) (r : ℕ) (a : List ℕ) → Written s b r a → take r a ≡ written_part s (length b)
part-back s b r a w = rw (w.bytes, w.size) (take-append_seam (written_part s (length b)) (drop (length (written_part s (length b))) b))

-- ---- what is printed

pub report-longest : (l : Log) → Consistent l → length (report_text l) ≤ 2494
unfolding report_text
report-longest l ok = length-report l.modules (of_module l) (of_tool l) ok.few

module _ (text : Log → List ℕ) (most : ℕ) (s b : List ℕ) (r : ℕ) (a : List ℕ) where
  pub prints_refused : (x : Refusal) → verdict s ≡ Err x → AtFront (refused_line x) 79 b r a → 79 ≤ most → Prints text most s b r a
  unfolding printed
  prints_refused x e p h =
      let same : printed text s ≡ refused_line x = ap (λ (w : Verdict). printed_by w (text (decode s))) e in
      rw same (front-more h p)

  pub prints_front : verdict s ≡ Ok tt → AtFront (text (decode s)) most b r a → Prints text most s b r a
  unfolding printed
  prints_front e p =
      let same : printed text s ≡ text (decode s) = ap (λ (w : Verdict). printed_by w (text (decode s))) e in
      rw same p

  pub prints_text : verdict s ≡ Ok tt → length (text (decode s)) ≤ most → Put (text (decode s)) b 0 r a → Prints text most s b r a
  prints_text e h p = prints_front e (at_front most h p)
