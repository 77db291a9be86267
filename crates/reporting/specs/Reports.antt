-- The report on a log, the verdict for a buffer of a length, what the report calls leave in the buffer, and what a program prints of a log.
-- Definitions only.
use Rattle.std.specs.Prelude.{◌≡◌, List, ◌++◌, ◌↔◌, ℕ, ◌≤◌, ◌<◌, ltb, length, drop}
use Rattle.records.specs.Log.{Log, decode}
use Rattle.rules.specs.declared.Refusal.{Refusal}
use Rattle.rules.specs.declared.Ground.TheVariants.{ShortBuffer}
use Rattle.rules.specs.declared.LogList.TheVariants.{NoList}
use Rattle.rules.specs.Grounds.{Verdict, refusal}
use Rattle.std.specs.declared.result.Result.TheVariants.{Ok, Err}
use Rattle.rules.specs.Grounds.{ground, ◌then◌}
use Rattle.rules.specs.Answers.{written_by}
use Rattle.rules.specs.Quantities.{of_module, of_tool}
use Rattle.rules.specs.Verdict.{verdict}
use Rattle.rules.specs.Refusals.{OfLog}
use Rattle.filling.specs.Buffer.{AtFront}
use Rattle.report.specs.Report.{report_of, refused_line}

-- the report: the heading, a line for each module, and the tool's line
unfoldable pub report_text : Log → List ℕ
unfolding report_of
report_text l = report_of l.modules (of_module l) (of_tool l)

-- acceptance of a log and a buffer of `room` bytes for a text about it, or the refusal: 18 only for an accepted log, whose text is longer than the buffer
unfoldable pub verdict_for_text : (Log → List ℕ) → List ℕ → ℕ → Verdict
unfolding verdict decode
verdict_for_text text s room = verdict s then ground ShortBuffer NoList 0 (ltb room (length (text (decode s))))

pub data ForText (text : Log → List ℕ) (s : List ℕ) (room : ℕ) (x : Refusal) : Type 0 where
  of_log : OfLog s x → ForText text s room x
  short : verdict s ≡ Ok tt → room < length (text (decode s)) → x ≡ refusal ShortBuffer NoList 0 → ForText text s room x

-- for its report
abbrev pub verdict_for : List ℕ → ℕ → Verdict
verdict_for s room = verdict_for_text report_text s room

abbrev pub ForRoom : List ℕ → ℕ → Refusal → Type 0
ForRoom s room x = ForText report_text s room x

pub record Examined (s : List ℕ) (room : ℕ) (r : Verdict) : Type 0 where
  pub answer : r ≡ verdict_for s room
  pub refusal : (x : Refusal) → r ≡ Err x → ForRoom s room x

-- what is written of it
unfoldable pub text_written : (Log → List ℕ) → List ℕ → ℕ → List ℕ
unfolding verdict_for_text decode
text_written text s room = written_by (verdict_for_text text s room) (text (decode s))

-- of the report
abbrev pub written_part : List ℕ → ℕ → List ℕ
written_part s room = text_written report_text s room

-- the length of the written part is answered, it stands at the front of the buffer, and the bytes behind it are as they were
pub record Written (s before : List ℕ) (r : ℕ) (after : List ℕ) : Type 0 where
  pub size : r ≡ length (written_part s (length before))
  pub bytes : after ≡ written_part s (length before) ++ drop r before
  pub within : r ≤ length before
  pub longest : r ≤ 2494
  pub empty : (r ≡ 0) ↔ ((x : Refusal) × (verdict_for s (length before) ≡ Err x))

-- the part that `report` hands back, at a pointer: it begins where the buffer begins, and holds what is written
pub record HandedBack (s before : List ℕ) (buffer pointer : ℕ × ℕ) (part : List ℕ) : Type 0 where
  pub begins : pointer ≡ buffer
  pub bytes : part ≡ written_part s (length before)

-- what a program prints of a log: a text where the log is accepted, and else the line that says why it is refused
abbrev pub printed_by : Verdict → List ℕ → List ℕ
printed_by (Ok tt) text = text
printed_by (Err x) text = refused_line x

unfoldable pub printed : (Log → List ℕ) → List ℕ → List ℕ
unfolding verdict decode refused_line
printed text s = printed_by (verdict s) (text (decode s))

-- it stands at the front of the buffer, and has at most so many bytes
abbrev pub Prints : (Log → List ℕ) → ℕ → List ℕ → List ℕ → ℕ → List ℕ → Type 0
Prints text most s before r after = AtFront (printed text s) most before r after
