-- `card::put_words` meets its contract: word, meaning, place and line's end are put one behind the other. Assumes nothing.
use native.Mathlib.Omega.{arith}
use lib.ListN.{length-append}
use Prim.Native.Nat.{ℕ}
use Rattle.filling.specs.Buffer.{Put}
use Rattle.filling.proofs.Written.{then, at_front}
use Rattle.card.specs.Card.{whereabouts, line_of}
use Rattle.card.proofs.put_words.Goals as goal

pub returns : goal.returns
returns c =
    let place = c.put_whereabouts-place.ensures in
    let line : Put (line_of c.args.row.word.now c.args.row.meaning.now (whereabouts c.args.x)) c.args.buf.now 0 c.put_text.result c.put_text.new.buf =
    then (then (then c.put_text-word.ensures c.put_two-meaning.ensures) place.put) c.put_text.ensures in
    at_front 512 (omega (arith, line.next, length-append {A = ℕ})) line
