-- `bits::bytes_within` meets its contract: what is read so far is a field. Assumes nothing.
use mathlib.Core.Path.{ap, ◌∙◌}
use Prim.Native.Nat.{ℕ, ◌+◌, ◌*◌, ◌<◌}
use native.Mathlib.Omega.{arith}
use Rattle.std.proofs.lemmas.List.Edits.{get_or-between, length-between}
use Rattle.bits.specs.Bits.{field}
use Rattle.bits.proofs.Fields.{more, below}
use Rattle.bits.proofs.bytes_within.Goals as goal

pub loop-b-init : goal.loop-b-init
unfolding field
loop-b-init c = omega arith

pub overflow_mul-word : goal.overflow_mul-word
overflow_mul-word c =
    let a = c.args in
    omega (arith, below a.s.now a.i c.loop-b.b-index (omega (arith, length-between a.s.now a.i (a.i + a.n) (omega arith))))

pub overflow_add-word : goal.overflow_add-word
overflow_add-word c =
    let a = c.args in
    let k = c.loop-b.b-index in
    let l : k < a.n = omega (arith, length-between a.s.now a.i (a.i + a.n) (omega arith)) in
    omega (arith, get_or-between a.s.now a.i (a.i + a.n) k 0 (omega arith), c.type_inv.s (a.i + k), below a.s.now a.i k (omega arith))

pub loop-b-preserved : goal.loop-b-preserved
loop-b-preserved c =
    let a = c.args in
    let k = c.loop-b.b-index in
    let l : k < a.n = omega (arith, length-between a.s.now a.i (a.i + a.n) (omega arith)) in
    omega (arith, get_or-between a.s.now a.i (a.i + a.n) k 0 (omega arith), more a.s.now a.i k (omega (arith, c.type_inv.s (a.i + k))))
