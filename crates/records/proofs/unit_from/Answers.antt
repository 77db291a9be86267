-- `records::unit_from` meets its contract: the first 51 bits are those of the eight bytes that it begins with, and the last 37 end the eight that it ends with. Assumes nothing.
use native.Mathlib.Omega.{arith}
use mathlib.Core.Path.{ap, ◌∙◌}
use Prim.Native.Nat.{◌+◌, ◌*◌}
use Rattle.bits.proofs.Fields.{front}
use Rattle.records.specs.Fields.{unit_from}
use Rattle.records.proofs.unit_from.Goals as goal

pub returns : goal.returns
returns c =
    let a = c.args in
    let at = c.place-at.result in
    c.unit_in.ensures a.log.now (8 * at) (8 * (at + 3)) (rw c.read_word-first.ensures (front a.log.now (8 * at) 51 13)) c.read_word-second.ensures (omega arith)
    ∙ ap (unit_from a.log.now) (omega (arith, c.place-at.ensures))
