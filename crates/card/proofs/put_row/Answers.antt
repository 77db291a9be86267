-- `card::put_row` meets its contract: the number, the three fields with their labels and the line's end are put one behind the other. Assumes nothing.
use mathlib.Core.Path.{ap}
use mathlib.Core.List.{◌++◌}
use native.Mathlib.Omega.{arith}
use lib.ListN.{length-append}
use Prim.Native.Nat.{ℕ}
use Rattle.filling.specs.Buffer.{Put}
use Rattle.filling.proofs.Written.{then, read_as, at_front}
use Rattle.report.specs.Text.{ascii}
use Rattle.report.specs.Report.{decimal}
use Rattle.rules.specs.Names.{number_of}
use Rattle.card.specs.Card.{row_text}
use Rattle.card.proofs.put_row.Goals as goal

pub returns : goal.returns
unfolding row_text
returns c =
    let row = c.row_of-row.ensures in
    let number = read_as (ap (λ n. ascii "refusal " ++ decimal n) c.number.ensures) c.put_labelled-number.ensures.put in
    let word = read_as (ap (λ s. ascii ": " ++ s) row.its_word) c.put_two-word.ensures in
    let meaning = read_as (ap (λ s. ascii "\nmeaning: " ++ s) row.its_meaning) c.put_two-meaning.ensures in
    let look_for = read_as (ap (λ s. ascii "\nlook for: " ++ s) row.its_look_for) c.put_two-look_for.ensures in
    let line : Put (row_text (number_of c.args.ground)) c.args.buf.now 0 c.put_text.result c.put_text.new.buf =
    then (then (then (then number word) meaning) look_for) c.put_text.ensures in
    at_front 512 (omega (arith, line.next, c.put_labelled-number.ensures.upper_bound, row.short_word, length-append {A = ℕ})) line
