-- `bits::word_past_end` meets its contract: the bytes that are there, and zeros. Assumes nothing.
use mathlib.Core.Path.{sym}
use Prim.Native.Nat.{◌-◌}
use native.Mathlib.Omega.{arith}
use lib.ListN.{length}
use Rattle.bits.proofs.Fields.{past-zero, padded}
use Rattle.bits.proofs.word_past_end.Goals as goal

pub returns-then-s-i : goal.returns-then-s-i
returns-then-s-i c = sym (past-zero c.args.s.now c.args.i 8 c.if-s-i.true)

pub returns : goal.returns
returns c =
    let a = c.args in
    rw c.bytes_within.ensures (padded a.s.now a.i (length a.s.now - a.i) (omega (arith, c.if-s-i.false)) (omega (arith, c.if-s-i.false)))
