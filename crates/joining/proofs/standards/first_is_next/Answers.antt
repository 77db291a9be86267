-- `joining::standards::first_is_next` meets its contract: a list that is over has no next, and else the numbers decide. Assumes nothing.
use Rattle.records.specs.Log.{standard_at}
use Rattle.joining.proofs.Turning.{first_over, second_over, compared, standard-narrow}
use Rattle.joining.proofs.standards.first_is_next.Goals as goal

pub returns-then-i-first : goal.returns-then-i-first
returns-then-i-first c = first_over _ _ _ _ c.args.by c.args.i c.args.j c.requires.left c.if-i-first.true

pub returns-then-j-second : goal.returns-then-j-second
returns-then-j-second c = second_over _ _ _ _ c.args.by c.args.i c.args.j c.requires.left c.if-i-first.false c.if-j-second.true

pub returns : goal.returns
returns c =
    compared (standard_at c.args.first.bytes.now c.args.first.header) _ (standard_at c.args.second.bytes.now c.args.second.header) _ c.args.by c.args.i c.args.j c.requires.left
    c.key.result c.key-2.result c.if-i-first.false c.if-j-second.false c.requires.mergeable
    (standard-narrow c.args.first.bytes.now c.args.first.header c.args.i) (standard-narrow c.args.second.bytes.now c.args.second.header c.args.j) c.key.ensures c.key-2.ensures
