-- `joining::standards::put_standards` meets its contract: at each turn the next of the two is written behind those before it. Assumes nothing.
use native.Mathlib.Omega.{arith}
use Rattle.records.specs.Log.{standard_at}
use Rattle.joining.proofs.Turning.{standard-narrow, merged_none, merged_place, merged_first, merged_second, merged_all}
use Rattle.joining.proofs.standards.put_standards.Goals as goal

pub loop-i-init : goal.loop-i-init
loop-i-init c = merged_none _ _ _ _ _ _ _

pub first_is_next-requires-clause-left : goal.first_is_next-requires-clause-left
first_is_next-requires-clause-left c = record { first = c.loop-i.invariant.first; second = c.loop-i.invariant.second; more = omega arith }

pub put_standard-next-requires-clause-index : goal.put_standard-next-requires-clause-index
put_standard-next-requires-clause-index c = (c.first_is_next.ensures.first c.if-first_is_next.true).0

pub put_standard-next-requires-clause-room : goal.put_standard-next-requires-clause-room
put_standard-next-requires-clause-room c = omega (arith, merged_place _ _ _ _ _ _ _ _ _ _ _ c.loop-i.invariant)

pub put_standard-next-requires-clause-fits : goal.put_standard-next-requires-clause-fits
put_standard-next-requires-clause-fits c = omega (arith, (standard-narrow c.args.first.bytes.now c.args.first.header c.loop-i.i).2)

pub loop-i-preserved-then-first_is_next : goal.loop-i-preserved-then-first_is_next
loop-i-preserved-then-first_is_next c =
    merged_first _ _ _ _ _ _ _ c.requires.mergeable (standard_at c.args.first.bytes.now c.args.first.header c.loop-i.i) c.loop-i.i c.loop-i.j _ _ _ _ c.loop-i.invariant (rw c.if-first_is_next.true at c.first_is_next.ensures) c.put_standard-next.ensures

pub put_standard-next-requires-else-first_is_next-clause-index : goal.put_standard-next-requires-else-first_is_next-clause-index
put_standard-next-requires-else-first_is_next-clause-index c = (c.first_is_next.ensures.second c.if-first_is_next.false).0

pub put_standard-next-requires-else-first_is_next-clause-room : goal.put_standard-next-requires-else-first_is_next-clause-room
put_standard-next-requires-else-first_is_next-clause-room c = omega (arith, merged_place _ _ _ _ _ _ _ _ _ _ _ c.loop-i.invariant)

pub put_standard-next-requires-else-first_is_next-clause-fits : goal.put_standard-next-requires-else-first_is_next-clause-fits
put_standard-next-requires-else-first_is_next-clause-fits c = c.requires.mergeable.fits c.loop-i.j (c.first_is_next.ensures.second c.if-first_is_next.false).0

pub loop-i-preserved : goal.loop-i-preserved
loop-i-preserved c =
    merged_second _ _ _ _ _ _ _ c.requires.mergeable (standard_at c.args.first.bytes.now c.args.first.header c.loop-i.i) c.loop-i.i c.loop-i.j _ _ _ _ c.loop-i.invariant (rw c.if-first_is_next.false at c.first_is_next.ensures) c.put_standard-next-else-first_is_next.ensures

pub returns-clause-put : goal.returns-clause-put
returns-clause-put c = merged_all _ _ _ _ _ _ _ c.requires.mergeable _ _ _ _ (omega arith) c.loop-i.invariant

pub returns-clause-place : goal.returns-clause-place
returns-clause-place c = omega (arith, merged_place _ _ _ _ _ _ _ _ _ _ _ c.loop-i.invariant, c.loop-i.invariant.first, c.loop-i.invariant.second)
