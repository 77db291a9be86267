-- `judging::test_speeds` meets its contract: each module passed is not too fast.
-- Assumes nothing.
use mathlib.Core.Path.{◌≡◌, sym, ap, ◌∙◌}
use mathlib.Core.List.{List}
use Prim.Native.Nat.{ℕ, ◌*◌, ◌<◌}
use native.Mathlib.Nat.{add-zero}
use native.Mathlib.Omega.{arith}
use lib.Dec.{ltb}
use lib.ListN.{get_or}
use Rattle.std.specs.declared.result.Result.TheVariants.{Err}
use Rattle.records.specs.Log.{Log, decode}
use Rattle.rules.specs.declared.Ground.TheVariants.{TooFast}
use Rattle.rules.specs.declared.LogList.TheVariants.{NoList}
use Rattle.rules.specs.Grounds.{ground}
use Rattle.rules.specs.Quantities.{time_in}
use Rattle.rules.specs.Verdict.{fast_ground}
use Rattle.judging.specs.Working.{WorkingTotals}
use Rattle.rules.proofs.FirstGround.{first_none, first_more, first_stop}
use Rattle.judging.proofs.test_speeds.Goals as goal

-- what the arrays hold decides the ground
speed : (l : Log) (T U A E : List ℕ) → WorkingTotals l T U A E → (m : ℕ) → m < l.modules → ground TooFast NoList m (ltb (get_or T (6 * m) 0) (get_or A m 0)) ≡ fast_ground l m
unfolding fast_ground
speed l T U A E held m h =
    let production : get_or T (6 * m) 0 ≡ time_in l 0 m = ap (λ (i : ℕ). get_or T i 0) (sym (add-zero (6 * m))) ∙ held.times m 0 h (omega arith) in
    rw (production, held.actuals m h)

pub loop-m-init : goal.loop-m-init
loop-m-init c = first_none (fast_ground (decode c.args.t.now.log.now))

pub returns-in_err-refuses : goal.returns-in_err-refuses
returns-in_err-refuses c =
    let t = c.args.t.now in
    let err : c.from_residual.result ≡ Err c.in_err-refuses.field-0.0 = grind arith in
    err ∙ sym (first_stop (fast_ground (decode t.log.now)) t.modules c.loop-m.m _ c.loop-m-test.true c.loop-m.invariant
    (sym (speed (decode t.log.now) t.totals.now t.uptime.now t.actual.now t.effective.now t.working_totals c.loop-m.m (rw (← t.modules_value) c.loop-m-test.true)) ∙ sym c.refuses.ensures ∙ c.in_err-refuses.was))

pub loop-m-preserved : goal.loop-m-preserved
loop-m-preserved c =
    let t = c.args.t.now in
    first_more (fast_ground (decode t.log.now)) c.loop-m.m c.loop-m.invariant
    (sym (speed (decode t.log.now) t.totals.now t.uptime.now t.actual.now t.effective.now t.working_totals c.loop-m.m (rw (← t.modules_value) c.loop-m-test.true)) ∙ sym c.refuses.ensures ∙ c.in_ok-refuses.was)
