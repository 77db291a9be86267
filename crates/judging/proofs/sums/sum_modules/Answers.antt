-- `judging::sums::sum_modules` meets its contract: the sum so far is that of the modules passed, and none is above the longest period.
-- Assumes nothing.
use mathlib.Core.Path.{sym, ap, ◌∙◌}
use Prim.Native.Nat.{ℕ, ◌+◌, ◌*◌, ◌≤◌}
use native.Mathlib.Omega.{arith}
use lib.ListN.{get_or}
use Rattle.rules.proofs.SumLaws.{sum-none, sum_more, sum_low}
use Rattle.judging.proofs.sums.sum_modules.Goals as goal

pub loop-m-init : goal.loop-m-init
loop-m-init c = let a = c.args in (omega arith, sym (sum-none (λ j. get_or a.values.now j 0)))

pub loop-m-preserved : goal.loop-m-preserved
loop-m-preserved c =
    let a = c.args in
    let l = c.loop-m in
    (omega (arith, c.loop-m-test.true), ap (λ (x : ℕ). x + get_or a.values.now l.m 0) l.invariant.1 ∙ sym (sum_more (λ j. get_or a.values.now j 0) l.m))

pub overflow_add-sum : goal.overflow_add-sum
overflow_add-sum c =
    let low : let a = c.args in let l = c.loop-m in (l.sum ≤ 31622400000 * l.m) × (get_or a.values.now l.m 0 ≤ 31622400000) = let a = c.args in
    let l = c.loop-m in
    (rw l.invariant.1 (sum_low (λ j. get_or a.values.now j 0) 31622400000 l.m (λ j h. c.requires.1 j (omega (arith, c.loop-m-test.true)))), c.requires.1 l.m c.loop-m-test.true) in
    omega (arith, low, c.loop-m-test.true, c.requires.0)
