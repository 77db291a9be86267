-- `Standards::push` meets its contract: the entry gives the standard back, and its bin's last one is it.
-- Assumes nothing.
use mathlib.Core.Path.{ap, ◌∙◌}
use mathlib.Core.List.{List, [], ◌∷◌, ◌++◌}
use native.Mathlib.Omega.{arith}
use Rattle.records.specs.declared.Standard.{Standard}
use Rattle.theoretical.proofs.Chains.{room, given_back, listed_more, chained_more}
use Rattle.theoretical.proofs.listing.Standards.push.Goals as goal

pub put-requires : goal.put-requires
put-requires c = room c.self.inside.entries c.self.inside.count c.args.self.now c.self.view_is c.requires.room

pub bounds-self-inside-i : goal.bounds-self-inside-i
bounds-self-inside-i c = room c.self.inside.entries c.self.inside.count c.args.self.now c.self.view_is c.requires.room

pub invariant_of-self : goal.invariant_of-self
invariant_of-self c =
    let few = room c.self.inside.entries c.self.inside.count c.args.self.now c.self.view_is c.requires.room in
    rw (c.put.ensures, c.bin_of-bin.ensures.bin) (chained_more c.self.inside.entries c.self.inside.count _ few (omega arith) (omega arith) (omega arith) c.self.inside.ahead c.self.inside.last (omega arith) (omega arith) c.self.invariant)

pub returns : goal.returns
returns c =
    let few = room c.self.inside.entries c.self.inside.count c.args.self.now c.self.view_is c.requires.room in
    rw c.put.ensures
    (listed_more c.self.inside.entries c.self.inside.count _ few (omega arith) (omega arith) (omega arith)
    ∙ rw (given_back c.args.s c.pair_of-pair.result c.pair_of-pair.ensures c.requires.fits.1 c.requires.fits.3) (ap (λ (ss : List Standard). ss ++ (c.args.s ∷ [])) c.self.view_is))
