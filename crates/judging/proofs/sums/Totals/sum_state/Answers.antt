-- `judging::sums::Totals::sum_state` meets its contract: the sum so far is that of the modules passed, and none is above the longest period.
-- Assumes nothing.
use mathlib.Core.Path.{sym, ap, ◌∙◌}
use Prim.Native.Nat.{ℕ, ◌+◌, ◌*◌}
use native.Mathlib.Omega.{arith}
use lib.ListN.{get_or}
use Rattle.records.specs.Log.{decode}
use Rattle.rules.proofs.SumLaws.{sum-none, sum_more, sum_low}
use Rattle.judging.proofs.ToolSums.{state_room}
use Rattle.judging.proofs.sums.Totals.sum_state.Goals as goal

pub loop-m-init : goal.loop-m-init
loop-m-init c = sym (sum-none (λ j. get_or c.args.self.now.totals.now (6 * j + c.args.k) 0))

pub loop-m-preserved : goal.loop-m-preserved
loop-m-preserved c =
    let l = c.loop-m in
    ap (λ (x : ℕ). x + get_or c.args.self.now.totals.now (6 * l.m + c.args.k) 0) l.invariant ∙ sym (sum_more (λ j. get_or c.args.self.now.totals.now (6 * j + c.args.k) 0) l.m)

pub overflow_add-sum-in-loop-m : goal.overflow_add-sum-in-loop-m
overflow_add-sum-in-loop-m c =
    let t = c.args.self.now in
    let l = c.loop-m in
    let room = state_room (decode t.log.now) c.requires.consistent t.modules t.modules_value t.totals.now t.uptime.now t.actual.now t.effective.now t.working_totals c.args.k c.requires.state in
    let so-far = rw (← l.invariant) at (sum_low (λ j. get_or t.totals.now (6 * j + c.args.k) 0) 31622400000 l.m (λ j h. room.2 j (omega (arith, c.loop-m-test.true)))) in
    record { fits = omega (arith, so-far, room.2 l.m c.loop-m-test.true, room.0, c.loop-m-test.true) }
