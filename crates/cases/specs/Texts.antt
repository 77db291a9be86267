-- The text that a log and a buffer's length call for, and what is seen of a call of `report`. Definitions only.
use Rattle.std.specs.Prelude.{◌≡◌, ℕ, List}
use Rattle.records.specs.Log.{decode}
use Rattle.reporting.specs.Reports.{report_text, verdict_for_text, verdict_for, written_part, printed_by}
use Rattle.cases.specs.Buffer.{Left}

-- the report, or the line that says why the log is refused for a buffer of `room` bytes
unfoldable pub text_for : List ℕ → ℕ → List ℕ
unfolding report_text verdict_for_text decode
text_for s room = printed_by (verdict_for s room) (report_text (decode s))

-- what is seen of `report`, lent the first `room` bytes of a buffer that held the pattern: it handed back what is due, left it at the front, and changed no
-- other byte
pub record Seen (s : List ℕ) (room : ℕ) (text after : List ℕ) : Type 0 where
  pub due : text ≡ written_part s room
  pub bytes : Left text after
