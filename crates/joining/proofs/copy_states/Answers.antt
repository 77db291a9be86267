-- `joining::copy_states` meets its contract: they are all there, behind the header. Assumes nothing.
use mathlib.Core.Path.{◌≡◌}
use Prim.Native.Nat.{◌+◌, ◌*◌, ◌-◌}
use native.Mathlib.Omega.{arith}
use lib.ListN.{drop, length-drop}
use lib.Seq.{length-take-le}
use Rattle.joining.proofs.copy_states.Goals as goal

pub put_text-requires : goal.put_text-requires
put_text-requires c =
    let n = c.args.log.header.states in
    let size = length-take-le (10 + 6 * n - 10) (drop 10 c.args.log.bytes.now) (omega (arith, length-drop 10 c.args.log.bytes.now, c.args.log.there.0)) in
    omega (arith, size, c.requires)

pub returns-clause-place : goal.returns-clause-place
returns-clause-place c =
    let n = c.args.log.header.states in
    let size = length-take-le (10 + 6 * n - 10) (drop 10 c.args.log.bytes.now) (omega (arith, length-drop 10 c.args.log.bytes.now, c.args.log.there.0)) in
    omega (arith, size, c.put_text.ensures.next)

pub returns-clause-put : goal.returns-clause-put
returns-clause-put c =
    let n : 10 + 6 * c.args.log.header.states - 10 ≡ 6 * c.args.log.header.states = omega arith in
    rw n at c.put_text.ensures
