-- The starred cases follow from the definitions: each is computed from its bytes.
-- Assumes nothing.
use mathlib.Core.Path.{◌≡◌, refl, ◌∙◌}
use mathlib.Core.List.{List, [], ◌∷◌}
use Rattle.std.specs.List.{AllByRecursion}
use Rattle.bits.specs.Put.{number, bytes_of, put_bit}
use Rattle.records.specs.Log.{decode}
use Rattle.records.specs.Encode.{encode}
use Rattle.e79.specs.Doubles.{efficiency_of, combined, figures_of}
use Rattle.rules.specs.Quantities.{actual_time, uptime, of_module}
use Rattle.report.specs.Report.{figure, tool_line}
use Rattle.edges.specs.Cases.{Claim, answers, credits, reports, multiplies, prints, lines, Holds, cases}
use Rattle.edges.proofs.ByStretches.{verdict_by, verdict_by-stretches, report_by, report_by-stretches}

-- what computes for a claim: its verdict and its report by stretches
abbrev pub Computes : Claim → Type 0
Computes (answers s v) = verdict_by s ≡ v
Computes (credits s m t) = actual_time (decode s) m ≡ t
Computes (reports s text) = report_by (decode s) ≡ text
Computes (multiplies s m x) = (figures_of (of_module (decode s) m)).product ≡ x
Computes (prints n d text) = figure n d ≡ text
Computes (lines q text) = tool_line q ≡ text

holds : (c : Claim) → Computes c → Holds c
holds (answers s v) e = verdict_by-stretches s ∙ e
holds (credits s m t) e = e
holds (reports s text) e = report_by-stretches (decode s) ∙ e
holds (multiplies s m x) e = e
holds (prints n d text) e = e
holds (lines q text) e = e

pub all : (cs : List Claim) → AllByRecursion Computes cs → AllByRecursion Holds cs
all [] a = tt
all (c ∷ cs) a = (holds c a.0, all cs a.1)

infixr 20 ◌and◌
pub ◌and◌ : {A B : Type 0} → A → B → A × B
a and b = (a, b)

-- a line for each case, in the sequence of the list
computed : AllByRecursion Computes cases
unfolding verdict_by report_by uptime efficiency_of combined figures_of encode number bytes_of put_bit
computed =
    refl and refl
    and refl and refl
    and refl and refl
    and refl and refl
    and refl and refl
    and refl and refl
    and refl and refl and refl and refl and refl
    and refl and refl
    and refl and refl and refl
    and refl and refl and refl
    and refl and refl
    and refl
    and refl
    and tt

pub starred : AllByRecursion Holds cases
starred = all cases computed
