-- `losses::one_more` meets its contract: the parts that are ahead of part i are counted.
-- Assumes nothing.
use mathlib.Core.Path.{◌≡◌, refl, ap, ◌∙◌}
use mathlib.Core.Bool.{Bool, true, false, cond}
use native.Mathlib.Omega.{arith}
use mir.Val.{bool_byte}
use lib.Dec.{ltb}
use lib.ListN.{get_or}
use Rattle.rules.specs.Time.{count}
use Rattle.losses.specs.Losses.{ahead_of, served}
use Rattle.losses.proofs.Served.{count-more, count-le}
use Rattle.losses.proofs.one_more.Goals as goal
use Rattle.losses.proofs.one_more.Goals.{then-ahead_of, else-ahead_of}

pub loop-j-init : goal.loop-j-init
unfolding count
loop-j-init c = refl

pub overflow_add-ahead : goal.overflow_add-ahead
overflow_add-ahead c = record { fits = omega (arith, c.loop-j.invariant, count-le (ahead_of (λ k. get_or c.args.rests.now k 0) c.args.i) c.loop-j.j, c.loop-j-test.true) }

pub loop-j-preserved : goal.loop-j-preserved
loop-j-preserved c =
    let p = ahead_of (λ k. get_or c.args.rests.now k 0) c.args.i in
    let j = c.loop-j.j in
    elim c.if-ahead_of.branch [
      | then-ahead_of w ↦ rw (w.ahead-is, count-more p j, ← c.ahead_of.ensures, w.if-ahead_of.true, c.loop-j.invariant) refl
      | else-ahead_of w ↦ rw (w.ahead-is, count-more p j, ← c.ahead_of.ensures, w.if-ahead_of.false, c.loop-j.invariant) (omega arith)
    ]

pub returns : goal.returns
unfolding served
returns c =
    let p = ahead_of (λ k. get_or c.args.rests.now k 0) c.args.i in
    let end : c.loop-j.j ≡ 5 = omega (arith, c.loop-j-test.false, c.loop-j.auto.j-end) in
    let all : c.loop-j.ahead ≡ count p 5 = c.loop-j.invariant ∙ ap (count p) end in
    rw (← all) (rw c.from.ensures (go (ltb c.loop-j.ahead c.args.missing)))
  where
    go : (b : Bool) → bool_byte b ≡ cond b 1 0
    go true = refl
    go false = refl
