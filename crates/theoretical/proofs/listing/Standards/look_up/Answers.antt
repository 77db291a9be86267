-- `Standards::look_up` meets its contract: behind the last standard for the module and the recipe there are others' alone; where that one has not begun, the walk goes
-- on from it.
-- Assumes nothing.
use mathlib.Core.Path.{refl, ◌∙◌}
use native.Mathlib.Omega.{arith}
use Rattle.theoretical.specs.Listing.{standard_of, entry_of}
use Rattle.theoretical.proofs.Chains.{none_found, some_found, none_begun, newest_begun, newest_passed}
use Rattle.theoretical.proofs.listing.Standards.look_up.Goals as goal

pub returns-in_err-newest : goal.returns-in_err-newest
returns-in_err-newest c = rw (c.from_residual.ensures, none_begun c.args.«module» c.args.recipe c.args.time c.args.self.now (none_found _ c.in_err-newest.ensures)) refl

pub returns-then-newest-time : goal.returns-then-newest-time
returns-then-newest-time c =
    let e = newest_begun c.args.«module» c.args.recipe c.args.time _ c.args.self.now (some_found _ _ c.in_ok-newest.ensures) c.if-newest-time.true in
    rw e refl

pub last_begun-requires : goal.last_begun-requires
last_begun-requires c =
    let s = newest_passed c.args.«module» c.args.recipe c.args.time (λ i. standard_of (entry_of c.self.inside.entries i)) c.self.inside.count c.in_ok-newest.newest (some_found _ _ (rw (← c.self.view_is) at c.in_ok-newest.ensures)) c.if-newest-time.false in
    (omega (arith, s.within, c.self.invariant.few), c.requires.0, c.requires.1)

pub returns : goal.returns
returns c =
    let s = newest_passed c.args.«module» c.args.recipe c.args.time (λ i. standard_of (entry_of c.self.inside.entries i)) c.self.inside.count c.in_ok-newest.newest (some_found _ _ (rw (← c.self.view_is) at c.in_ok-newest.ensures)) c.if-newest-time.false in
    c.last_begun.ensures ∙ rw (← c.self.view_is, s.same) refl
