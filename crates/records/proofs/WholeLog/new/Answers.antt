-- `records::WholeLog::new` keeps its invariant: the length that a log's own header gives is below 2 ^ 32. Assumes nothing.
use native.Mathlib.Omega.{arith}
use Rattle.records.proofs.Widths.{whole-short}
use Rattle.records.proofs.WholeLog.new.Goals as goal

pub invariant_of-result : goal.invariant_of-result
invariant_of-result c = record { own = c.requires.own; there = (c.requires.whole, omega (arith, c.requires.whole, whole-short c.args.bytes.now c.args.header c.requires.own)) }
