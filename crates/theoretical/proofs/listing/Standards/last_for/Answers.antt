-- `Standards::last_for` meets its contract: a standard of the bin that is another's is passed over.
-- Assumes nothing.
use mathlib.Core.Path.{◌≡◌, refl, sym, ap, ◌∙◌}
use Prim.Native.Nat.{suc, ◌-◌}
use native.Mathlib.Omega.{arith}
use Rattle.std.specs.Prelude.{Some}
use Rattle.rules.specs.Theoretical.{is_for, placed}
use Rattle.theoretical.specs.declared.listing.Entry.{Entry}
use Rattle.theoretical.specs.Listing.{pair_of, bin_of, is_in, standard_of, entry_of}
use Rattle.theoretical.proofs.Chains.{own_pair, link_le, bin-low, from_the_bin, sought, nothing_sought, further}
use Rattle.theoretical.proofs.listing.Standards.last_for.Goals as goal

pub loop-from-init : goal.loop-from-init
loop-from-init c =
    let found : c.bin_of.result ≡ bin_of (pair_of c.args.«module» c.args.recipe) = c.bin_of.ensures.bin ∙ ap bin_of c.pair_of.ensures in
    from_the_bin (λ j. standard_of (entry_of c.self.inside.entries j)) c.args.«module» c.args.recipe c.self.inside.count _ (rw found (c.self.invariant.lasts (bin_of (pair_of c.args.«module» c.args.recipe)) (bin-low _)))

pub returns-then-is_for : goal.returns-then-is_for
returns-then-is_for c =
    let i = c.loop-from.from - 1 in
    let one : c.loop-from.from ≡ suc i = omega (arith, c.loop-from-test.true) in
    let s = rw one at c.loop-from.invariant in
    let e = sought (λ j. standard_of (entry_of c.self.inside.entries j)) c.args.«module» c.args.recipe c.self.inside.count i s (ap (λ (x : Entry). is_for c.args.«module» c.args.recipe (standard_of x)) (sym c.entry-entry.ensures) ∙ sym c.is_for.ensures ∙ c.if-is_for.true) in
    rw (← c.self.view_is, e, c.placed.ensures) (ap (λ (x : Entry). Some (placed i (standard_of x))) c.entry-entry.ensures)

pub loop-from-smaller : goal.loop-from-smaller
loop-from-smaller c =
    let i = c.loop-from.from - 1 in
    let ahead = c.self.invariant.aheads i (omega (arith, c.loop-from-test.true, c.loop-from.invariant.within)) in
    let low = link_le (is_in (bin_of (entry_of c.self.inside.entries i).pair)) (λ j. standard_of (entry_of c.self.inside.entries j)) i in
    omega (arith, ahead, low, c.loop-from-test.true)

pub loop-from-preserved : goal.loop-from-preserved
loop-from-preserved c =
    let i = c.loop-from.from - 1 in
    let one : c.loop-from.from ≡ suc i = omega (arith, c.loop-from-test.true) in
    let s = rw one at c.loop-from.invariant in
    further (λ j. standard_of (entry_of c.self.inside.entries j)) c.args.«module» c.args.recipe c.self.inside.count i _ s (ap (λ (x : Entry). is_for c.args.«module» c.args.recipe (standard_of x)) (sym c.entry-entry.ensures) ∙ sym c.is_for.ensures ∙ c.if-is_for.false) (rw (own_pair (entry_of c.self.inside.entries i)) (c.self.invariant.aheads i (omega (arith, s.within))))

pub returns : goal.returns
returns c =
    let zero : c.loop-from.from ≡ 0 = omega (arith, c.loop-from-test.false) in
    let s = rw zero at c.loop-from.invariant in
    rw (← c.self.view_is, nothing_sought (λ j. standard_of (entry_of c.self.inside.entries j)) c.args.«module» c.args.recipe c.self.inside.count s) refl
