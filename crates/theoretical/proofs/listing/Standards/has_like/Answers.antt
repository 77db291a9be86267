-- `Standards::has_like` meets its contract: none of those passed has the module, the recipe and the start.
-- Assumes nothing.
use mathlib.Core.Path.{refl, sym, ap, ◌∙◌}
use Rattle.records.specs.Log.{up_to}
use Rattle.theoretical.specs.declared.listing.Entry.{Entry}
use Rattle.theoretical.specs.Listing.{standard_of}
use Rattle.theoretical.proofs.Chains.{is_like, among_passed, among_reached}
use Rattle.theoretical.proofs.listing.Standards.has_like.Goals as goal

pub loop-i-init : goal.loop-i-init
unfolding up_to
loop-i-init c = refl

pub returns-then-is_like : goal.returns-then-is_like
returns-then-is_like c = rw (← c.self.view_is) (sym (among_reached c.args.s _ c.self.inside.count c.loop-i.i c.loop-i-test.true (ap (λ (x : Entry). is_like c.args.s (standard_of x)) (sym c.entry.ensures) ∙ sym c.is_like.ensures ∙ c.if-is_like.true)))

pub loop-i-preserved : goal.loop-i-preserved
loop-i-preserved c = among_passed c.args.s _ c.loop-i.i c.loop-i.invariant (ap (λ (x : Entry). is_like c.args.s (standard_of x)) (sym c.entry.ensures) ∙ sym c.is_like.ensures ∙ c.if-is_like.false)
