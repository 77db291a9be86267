-- `card::put_whereabouts` meets its contract: where no list and no module is told, nothing is. Assumes nothing.
use mathlib.Core.Path.{◌≡◌, refl, sym, ◌∙◌}
use mathlib.Core.Bool.{false}
use mathlib.Core.List.{[]}
use Prim.Native.Nat.{ℕ}
use Rattle.std.proofs.Common.{rules}
use Rattle.filling.proofs.Written.{read_as, put-nothing}
use Rattle.rules.specs.declared.Ground.{Ground}
use Rattle.rules.specs.declared.Ground.TheVariants.{TooWide}
use Rattle.rules.specs.declared.LogList.TheVariants.{NoList}
use Rattle.card.specs.Card.{is_module, place_of}
use Rattle.card.proofs.put_whereabouts.Goals as goal

nowhere : (g : Ground) (p : ℕ) → (g ≡ TooWide → ⊥) → is_module g ≡ false → [] ≡ place_of g NoList p
nowhere TooWide p h e = absurd (h refl)
nowhere g p h e = (cc)

pub returns-in-NoList-default-2-clause-put : goal.returns-in-NoList-default-2-clause-put
returns-in-NoList-default-2-clause-put c =
    let e = nowhere c.args.x.ground c.args.x.place (search rules) (sym c.is_module.ensures ∙ c.if-is_module.false) in
    rw c.in-NoList-default-2.is-0 (read_as e (put-nothing _ _))
