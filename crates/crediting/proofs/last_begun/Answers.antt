-- `crediting::last_begun` meets its contract: a standard that is another's or has not begun is passed over, and the first that has is the last of them.
-- Assumes nothing.
use mathlib.Core.Path.{◌≡◌, refl, sym, ap, ◌∙◌}
use Prim.Native.Nat.{suc, ◌-◌}
use native.Mathlib.Omega.{arith}
use Rattle.rules.specs.Theoretical.{has_begun}
use Rattle.theoretical.proofs.Chains.{passed, reached, none_reached}
use Rattle.crediting.proofs.last_begun.Goals as goal

pub loop-index-init : goal.loop-index-init
loop-index-init c = record { within = omega arith; same = refl }

pub returns-then-has_begun : goal.returns-then-has_begun
returns-then-has_begun c =
    let a = c.args in
    let i = c.loop-index.index - 1 in
    let one : c.loop-index.index ≡ suc i = omega (arith, c.loop-index-test.true) in
    let e = reached a.«module» a.recipe a.time _ a.standards.header.standards i (rw one at c.loop-index.invariant)
    (ap (has_begun a.«module» a.recipe a.time) (sym c.record-s.ensures) ∙ sym c.has_begun.ensures ∙ c.if-has_begun.true) in
    rw (e, c.record-s.ensures) refl

pub loop-index-preserved : goal.loop-index-preserved
loop-index-preserved c =
    let a = c.args in
    let i = c.loop-index.index - 1 in
    let one : c.loop-index.index ≡ suc i = omega (arith, c.loop-index-test.true) in
    passed a.«module» a.recipe a.time _ a.standards.header.standards i (rw one at c.loop-index.invariant)
    (ap (has_begun a.«module» a.recipe a.time) (sym c.record-s.ensures) ∙ sym c.has_begun.ensures ∙ c.if-has_begun.false)

pub returns : goal.returns
returns c =
    let a = c.args in
    let zero : c.loop-index.index ≡ 0 = omega (arith, c.loop-index-test.false) in
    let e = none_reached a.«module» a.recipe a.time _ a.standards.header.standards (rw zero at c.loop-index.invariant) in
    rw e refl
