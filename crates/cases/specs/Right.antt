-- What is right of a case that is not told: what it expects is what the definitions give. Definitions only.
use Rattle.std.specs.Prelude.{◌≡◌, ℕ, ◌≤◌, min, List, length, take, drop}
use Rattle.reporting.specs.Reports.{written_part, report_text, printed}
use Rattle.cases.specs.Numbers.{answers_of, measured_of, Numbers}
use Rattle.cases.specs.Texts.{text_for}

-- how many bytes are lent where so many are asked for
abbrev pub lent : ℕ → ℕ
lent asked = min asked 4096

-- the supplemental figures of a log of so many bytes and of the benchmarks behind it
abbrev pub measured_in : List ℕ → ℕ → List ℕ
measured_in s size = let n = min size (length s) in measured_of (take n s) (drop n s)

-- by the kind of the case, the log, what is asked for beside it, and what is expected
pub data Right (kind : ℕ) (s : List ℕ) (asked : ℕ) (expected : List ℕ) : Type 0 where
  by_report : kind ≡ 0 → expected ≡ text_for s (lent asked) → Right kind s asked expected
  by_numbers : 1 ≤ kind → kind ≤ 8 → Numbers expected (answers_of kind s asked) → Right kind s asked expected
  by_write : kind ≡ 9 → expected ≡ written_part s (lent asked) → Right kind s asked expected
  by_print : kind ≡ 10 → expected ≡ printed report_text s → Right kind s asked expected
  by_supplemental : kind ≡ 11 → Numbers expected (measured_in s asked) → Right kind s asked expected
