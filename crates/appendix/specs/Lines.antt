-- The supplemental figures as lines, and what is printed of a log and its benchmarks. Definitions only.
use Rattle.std.specs.Prelude.{List, ◌++◌, ℕ}
use Rattle.records.specs.Log.{decode}
use Rattle.report.specs.Text.{ascii}
use Rattle.report.specs.Report.{places, refused_line}
use Rattle.reporting.specs.Reports.{printed_by}
use Rattle.card.specs.Card.{words_of}
use Rattle.printing.specs.Words.{words_by}
use Rattle.benchmarks.specs.Benchmarks.{benchmark_at, verdict_with}
use Rattle.supplemental.specs.declared.Supplemental.{Supplemental}
use Rattle.supplemental.specs.Supplemental.{supplemental_of}

-- a name, a space, a figure of four places, and byte 10, in which each line ends
unfoldable pub figure_line : List ℕ → ℕ → List ℕ
unfolding places
figure_line name figure = name ++ ascii " " ++ places figure ++ ascii "\n"

-- the four lines
unfoldable pub supplemental_text : Supplemental → List ℕ
unfolding figure_line
supplemental_text f =
    figure_line (ascii "reference") f.reference
    ++ figure_line (ascii "optimized") f.optimized
    ++ figure_line (ascii "value-added") f.added
    ++ figure_line (ascii "total-effective-units") f.units

-- the four lines where log and benchmarks are accepted, and else the line that says why they are not
unfoldable pub supplemental_printed : List ℕ → List ℕ → List ℕ
unfolding verdict_with decode supplemental_text supplemental_of refused_line
supplemental_printed s b = printed_by (verdict_with s b) (supplemental_text (supplemental_of (decode s) (benchmark_at b)))

-- why they are not, in words, and nothing where they are
unfoldable pub supplemental_words : List ℕ → List ℕ → List ℕ
unfolding verdict_with words_of
supplemental_words s b = words_by (verdict_with s b)
