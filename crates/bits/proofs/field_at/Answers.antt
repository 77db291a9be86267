-- `bits::field_at` meets its contract: the field is a part of the 64 bits from its first byte on. Assumes nothing.
use mathlib.Core.Path.{◌∙◌, ap}
use Prim.Native.Nat.{◌/◌, ◌%◌}
use native.Mathlib.Omega.{arith}
use Rattle.bits.specs.Bits.{field}
use Rattle.bits.proofs.Fields.{in-word}
use Rattle.bits.proofs.field_at.Goals as goal

pub returns : goal.returns
returns c =
    let a = c.args in
    let w = c.width_read.ensures in
    c.part.ensures
    ∙ in-word a.s.now (a.at / 8) c.word_at.result c.word_at.ensures (a.at % 8) c.width_read.result a.at (omega arith) (omega arith)
    ∙ ap (field a.s.now a.at) w
