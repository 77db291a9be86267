-- `states::uptime_of` meets its contract. The invariant: the sum is the time in those of the states passed that count.
-- Assumes nothing.
use mathlib.Core.Path.{◌≡◌, sym, ap, ◌∙◌}
use mathlib.Core.Bool.{Bool, false}
use mathlib.Core.List.{List}
use Prim.Native.Nat.{ℕ, ◌+◌, ◌<◌}
use lib.ListN.{get_or}
use Rattle.states.specs.Held.{is_uptime, uptime_marks}
use native.Mathlib.Omega.{arith}
use Rattle.states.proofs.Uptime.{mark-at, uptime_up_to, up_none, up_marked, up_unmarked, up_all, up_within}
use Rattle.states.proofs.uptime_of.Goals as goal
use Rattle.states.proofs.uptime_of.Goals.{then-counted, else-counted}

-- what the array has of a state is whether it counts
marked : (C : List Bool) → C ≡ uptime_marks 24 → (k : ℕ) → k < 6 → (b : Bool) → get_or C k false ≡ b → is_uptime k ≡ b
marked C e k h b q = sym (mark-at k h) ∙ ap (λ (x : List Bool). get_or x k false) (sym e) ∙ q

pub loop-k-init : goal.loop-k-init
loop-k-init c = (omega arith, sym (up_none _ _))

pub overflow_add-sum-then-counted : goal.overflow_add-sum-then-counted
overflow_add-sum-then-counted c =
    let k = c.loop-k.k in
    let low = c.loop-k-test.true in
    omega (arith, c.loop-k.invariant.1, up_marked c.args.totals.now c.args.m k (marked _ c.requires.1 k low _ c.if-counted.true), up_within c.args.totals.now c.args.m (k + 1) (omega arith), c.requires.2)

pub loop-k-preserved : goal.loop-k-preserved
loop-k-preserved c =
    let k = c.loop-k.k in
    let low = c.loop-k-test.true in (
      omega arith,
      elim c.if-counted.branch [
        | then-counted w ↦ rw (w.sum-is, up_marked c.args.totals.now c.args.m k (marked _ c.requires.1 k low _ w.if-counted.true), c.loop-k.invariant.1)
        | else-counted w ↦ rw (w.sum-is, up_unmarked c.args.totals.now c.args.m k (marked _ c.requires.1 k low _ w.if-counted.false)) c.loop-k.invariant.1
      ],
    )

pub returns : goal.returns
returns c = let l = c.loop-k in l.invariant.1 ∙ ap (uptime_up_to _ _) (omega (arith, l.invariant.0, c.loop-k-test.false)) ∙ up_all _ _
