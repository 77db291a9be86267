-- `joining::copy_units` meets its contract: they are the last bytes. Assumes nothing.
use Prim.Native.Nat.{◌-◌}
use native.Mathlib.Omega.{arith}
use lib.ListN.{length, drop, length-drop}
use lib.Seq.{take_all}
use Rattle.joining.proofs.copy_units.Goals as goal

pub put_text-requires : goal.put_text-requires
put_text-requires c =
    let s = c.args.log.bytes.now in
    let begin = rw c.units.ensures.1 at c.begin.ensures in
    let all = take_all (length s - c.begin.result) (drop c.begin.result s) (omega (arith, length-drop c.begin.result s)) in
    rw all (omega (arith, begin, length-drop c.begin.result s, c.args.log.there.0, c.requires))

pub returns-clause-place : goal.returns-clause-place
returns-clause-place c =
    let s = c.args.log.bytes.now in
    let begin = rw c.units.ensures.1 at c.begin.ensures in
    let all = take_all (length s - c.begin.result) (drop c.begin.result s) (omega (arith, length-drop c.begin.result s)) in
    let put = rw all at c.put_text.ensures in
    omega (arith, begin, length-drop c.begin.result s, c.args.log.there.0, put.next)

pub returns-clause-put : goal.returns-clause-put
returns-clause-put c =
    let s = c.args.log.bytes.now in
    let begin = rw c.units.ensures.1 at c.begin.ensures in
    let all = take_all (length s - c.begin.result) (drop c.begin.result s) (omega (arith, length-drop c.begin.result s)) in
    rw (all, begin) at c.put_text.ensures
