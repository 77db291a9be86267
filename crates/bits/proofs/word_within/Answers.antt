-- `bits::word_within` meets its contract: eight bytes, each below 256, are a field of 64 bits. Assumes nothing.
use native.Mathlib.Omega.{arith}
use Rattle.bits.proofs.Fields.{word}
use Rattle.bits.proofs.word_within.Goals as goal

pub returns : goal.returns
returns c = omega (arith, word c.args.s.now (λ k. omega (arith, c.type_inv.s k)) c.args.i)
