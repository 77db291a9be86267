-- The listing of credited units, as bytes, and what a call that writes a text about a log into a lent buffer promises. Definitions only.
use Rattle.std.specs.Prelude.{List, ◌++◌, ℕ, ◌≤◌, length}
use Rattle.std.specs.declared.result.Result.{Result}
use Rattle.records.specs.Log.{Log, decode}
use Rattle.rules.specs.declared.Refusal.{Refusal}
use Rattle.rules.specs.Answers.{FrontWritten}
use Rattle.rules.specs.Credited.{credited_to}
use Rattle.report.specs.Text.{ascii}
use Rattle.report.specs.Report.{decimal, joined}
use Rattle.reporting.specs.Reports.{verdict_for_text, ForText}

-- a standard's line: its index, a space, its units, and byte 10, in which each line ends
unfoldable pub credit_line : ℕ → ℕ → List ℕ
credit_line i units = decimal i ++ ascii " " ++ decimal units ++ ascii "\n"

-- a line for each standard in list sequence, and no heading: nothing of a log without standards
unfoldable pub credit_listing : Log → List ℕ
unfolding joined credit_line credited_to
credit_listing l = joined (λ i. credit_line i (credited_to l i)) (length l.standards)

-- ---- a text about a log, in a lent buffer

-- it stands at the front of the buffer, and has at most so many bytes
abbrev pub TextWritten : (Log → List ℕ) → ℕ → List ℕ → List ℕ → Result ℕ Refusal → List ℕ → Type 0
TextWritten text most s before r after =
    FrontWritten (verdict_for_text text s (length before)) (text (decode s)) (λ n. (n ≤ length before) × (n ≤ most)) (ForText text s (length before)) before r after
