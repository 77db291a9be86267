-- `printing::put_numbers` meets its contract: the numbers passed stand in the buffer, one behind the other. Assumes nothing.
use native.Mathlib.Omega.{arith}
use Rattle.report.proofs.Tables.{lined_none, lined_room, lined_more, lined_all}
use Rattle.filling.proofs.Written.{put-length, then}
use Rattle.printing.specs.Tables.{numbers}
use Rattle.printing.proofs.Numbers.{nth, numbers-length, numbers_room}
use Rattle.printing.proofs.put_numbers.Goals as goal

pub loop-v-init : goal.loop-v-init
loop-v-init c = lined_none (nth c.args.values.now) _ _ _ (numbers_room _ _ _ c.requires)

pub put_number-next-requires : goal.put_number-next-requires
put_number-next-requires c = (lined_room (nth c.args.values.now) _ _ _ (numbers_room _ _ _ c.requires) _ _ _ (omega arith) c.loop-v.invariant).1

pub loop-v-preserved : goal.loop-v-preserved
loop-v-preserved c = lined_more (nth c.args.values.now) _ _ _ (numbers_room _ _ _ c.requires) _ _ _ _ _ (omega arith) c.loop-v.invariant c.put_number-next.ensures

pub put_text-requires : goal.put_text-requires
put_text-requires c =
    let all = lined_all c.loop-v.invariant (omega arith) in
    omega (arith, all.next, put-length all (numbers_room _ _ _ c.requires), numbers-length c.args.values.now, c.requires)

pub returns : goal.returns
unfolding numbers
returns c = (then) (lined_all c.loop-v.invariant (omega arith)) c.put_text.ensures
