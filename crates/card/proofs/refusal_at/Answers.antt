-- `card::refusal_at` meets its contract: ground and list of the numbers, or what stands for them, point where the numbers do. Assumes nothing.
use mathlib.Core.Path.{sym, ◌∙◌}
use Rattle.card.proofs.Numbers.{place-numbered, same-ground, no_list, no_list-module}
use Rattle.card.proofs.refusal_at.Goals as goal

pub returns-in-Some : goal.returns-in-Some
returns-in-Some c =
    let same = same-ground c.args.number _ c.unwrap_or-ground.result c.ground_of.ensures c.unwrap_or-ground.ensures c.args.list c.args.place in
    place-numbered c.in-Some.list c.unwrap_or-ground.result c.args.place ∙ rw c.in-Some.ensures same

pub returns-in-None : goal.returns-in-None
returns-in-None c =
    let same = same-ground c.args.number _ c.unwrap_or-ground.result c.ground_of.ensures c.unwrap_or-ground.ensures c.args.list c.args.place in
    no_list-module c.unwrap_or-ground.result c.args.list c.args.place c.in-None.ensures (sym c.is_module.ensures ∙ c.if-is_module.true) ∙ same

pub returns-in-None-2 : goal.returns-in-None-2
returns-in-None-2 c =
    let same = same-ground c.args.number _ c.unwrap_or-ground.result c.ground_of.ensures c.unwrap_or-ground.ensures c.args.list c.args.place in
    no_list c.unwrap_or-ground.result c.args.list c.args.place c.in-None.ensures (sym c.is_module.ensures ∙ c.if-is_module.false) ∙ same
