-- `report::put_figure` meets its contract: behind the space, each arm writes what `shown` has for it. Assumes nothing.
use mathlib.Core.Path.{sym, ap, ◌∙◌}
use mathlib.Core.List.{◌++◌}
use native.Mathlib.Omega.{arith}
use lib.ListN.{length}
use Rattle.e79.proofs.Printing.{printed-le-one}
use Rattle.report.specs.Text.{ascii}
use Rattle.report.specs.Report.{places, shown, figure}
use Rattle.filling.proofs.Written.{then, read_as}
use Rattle.report.proofs.Lengths.{figure-space}
use Rattle.report.proofs.put_figure.Goals as goal

pub put_text-field-requires : goal.put_text-field-requires
put_text-field-requires c = let s = c.args in omega (arith, figure-space s.n s.d)

pub put_places-requires : goal.put_places-requires
unfolding shown places
put_places-requires c =
    let known = sym c.printed_of_ordered-printed.ensures ∙ c.in-Some.is in
    let low = printed-le-one c.args.n c.args.d _ c.requires.portion.part known in
    (omega arith, omega (arith, figure-space c.args.n c.args.d, ap (λ x. length (shown x)) known))

pub put_text-requires : goal.put_text-requires
unfolding shown
put_text-requires c =
    let known = sym c.printed_of_ordered-printed.ensures ∙ c.in-None.is in
    omega (arith, figure-space c.args.n c.args.d, ap (λ x. length (shown x)) known)

pub returns-in-Some : goal.returns-in-Some
unfolding figure shown
returns-in-Some c =
    let known = sym c.printed_of_ordered-printed.ensures ∙ c.in-Some.is in
    read_as (ap (λ x. ascii " " ++ shown x) (sym known)) (then c.put_text-field.ensures c.put_places.ensures)

pub returns-in-None : goal.returns-in-None
unfolding figure shown
returns-in-None c =
    let known = sym c.printed_of_ordered-printed.ensures ∙ c.in-None.is in
    read_as (ap (λ x. ascii " " ++ shown x) (sym known)) (then c.put_text-field.ensures c.put_text.ensures)
