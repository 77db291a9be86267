-- `Entries::last_begun` meets its contract: a standard that is another's or has not begun is passed over, and the first that has is the last of them.
-- Assumes nothing.
use mathlib.Core.Path.{◌≡◌, refl, sym, ap, ◌∙◌}
use Prim.Native.Nat.{suc, ◌+◌, ◌-◌}
use native.Mathlib.Omega.{arith}
use Rattle.std.specs.Prelude.{Some}
use Rattle.rules.specs.Theoretical.{placed}
use Rattle.theoretical.specs.declared.listing.Entry.{Entry}
use Rattle.theoretical.specs.Listing.{standard_of, entry_of}
use Rattle.theoretical.proofs.Chains.{passed, later, reached, none_reached}
use Rattle.theoretical.proofs.listing.Entries.last_begun.Goals as goal

pub returns-then-has_begun : goal.returns-then-has_begun
returns-then-has_begun c =
    let one : c.loop-index.index ≡ suc (c.loop-index.index - 1) = omega (arith, c.loop-index-test.true) in
    let e = reached c.args.«module» c.args.recipe c.args.time _ c.args.from (c.loop-index.index - 1) (rw one at c.loop-index.invariant) (sym c.has_begun.ensures ∙ c.if-has_begun.true) in
    rw (e, c.placed.ensures) (ap (λ (x : Entry). Some (placed (c.loop-index.index - 1) (standard_of x))) c.entry.ensures)

pub loop-index-init : goal.loop-index-init
loop-index-init c =
    let e : c.pass_far-left.result + (c.args.from - c.pass_far-left.result) ≡ c.args.from = omega (arith, c.pass_far-left.ensures.within) in
    later c.args.«module» c.args.recipe c.args.time (λ i. standard_of (entry_of c.args.self.now i)) c.args.from (c.args.from - c.pass_far-left.result) c.pass_far-left.result
    (rw e record { within = omega arith; same = refl })
    (λ i a b. c.pass_far-left.ensures.later i a (rw (← e) b))

pub loop-index-preserved : goal.loop-index-preserved
loop-index-preserved c =
    let one : c.loop-index.index ≡ suc (c.loop-index.index - 1) = omega (arith, c.loop-index-test.true) in
    passed c.args.«module» c.args.recipe c.args.time _ c.args.from (c.loop-index.index - 1) (rw one at c.loop-index.invariant) (sym c.has_begun.ensures ∙ c.if-has_begun.false)

pub returns : goal.returns
returns c =
    let zero : c.loop-index.index ≡ 0 = omega (arith, c.loop-index-test.false) in
    let e = none_reached c.args.«module» c.args.recipe c.args.time _ c.args.from (rw zero at c.loop-index.invariant) in
    rw e refl
