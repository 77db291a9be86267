-- `states::tally_states` meets its contract. The invariant: the modules below m are opened, their last stretches are closed at the period, and their uptimes are summed.
-- Assumes nothing.
use borrow.Author.Rules.{rules}
use mathlib.Core.Path.{◌≡◌, refl, sym, ◌∙◌}
use Prim.Native.Nat.{ℕ, ◌<◌}
use native.Mathlib.Omega.{arith}
use lib.ListN.{length-replicate}
use Rattle.std.specs.declared.result.Result.TheVariants.{Ok, Err}
use Rattle.records.specs.Log.{state_at}
use Rattle.states.proofs.Sums.{uptime-room}
use Rattle.states.proofs.Pass.{states_none, held_none, refused_as, stopped, finish_start, finish_stop, ending_last, closed_sums, finish_more, finish_all}
use Rattle.states.proofs.tally_states.Goals as goal

pub take_all-requires : goal.take_all-requires
take_all-requires c = record { sequenced = states_none _; held = rw c.requires.totals_value.0 (held_none (state_at c.args.log.bytes.now) c.args.log.header.period) }

pub returns-in_err-take_all : goal.returns-in_err-take_all
returns-in_err-take_all c =
    let was : c.take_all.result ≡ Err c.in_err-take_all.field-0.0 = grind arith in
    refused_as (stopped _ _ _ (sym c.take_all.ensures.scanned.answer ∙ was)) (grind arith)

pub loop-m-init : goal.loop-m-init
loop-m-init c =
    let e : c.take_all.result ≡ Ok tt = grind arith in
    record {
      same_totals = refl;
      finishing = finish_start (sym c.take_all.ensures.scanned.answer ∙ e) (rw c.requires.totals_value.1 (length-replicate {A = ℕ} 64 0)) (c.take_all.ensures.scanned.held e).held;
    }

pub returns-in_err-refuses : goal.returns-in_err-refuses
returns-in_err-refuses c =
    let below : c.loop-m.m < 64 = omega arith in
    refused_as (finish_stop c.loop-m.invariant.finishing below c.loop-m-test.true (sym c.refuses.ensures ∙ c.in_err-refuses.was)) (grind arith)

pub end_stretch-requires-clause-ending : goal.end_stretch-requires-clause-ending
end_stretch-requires-clause-ending c =
    let below : c.loop-m.m < 64 = omega arith in
    ending_last c.loop-m.invariant.finishing below (sym c.refuses.ensures ∙ c.in_ok-refuses.was) (omega arith)

pub uptime_of-requires : goal.uptime_of-requires
uptime_of-requires c =
    let below : c.loop-m.m < 64 = omega arith in
    (below, c.uptime_states-counts.ensures, rw c.end_stretch.ensures.totals (uptime-room (closed_sums c.loop-m.invariant.finishing below (sym c.refuses.ensures ∙ c.in_ok-refuses.was)) (omega arith)))

pub loop-m-preserved : goal.loop-m-preserved
loop-m-preserved c =
    let below : c.loop-m.m < 64 = omega arith in
    record {
      same_totals = c.end_stretch.ensures.same_totals ∙ c.loop-m.invariant.same_totals;
      finishing = rw (c.uptime_of.ensures, c.end_stretch.ensures.totals, c.end_stretch.ensures.others.0, c.end_stretch.ensures.others.1) (finish_more c.loop-m.invariant.finishing below (sym c.refuses.ensures ∙ c.in_ok-refuses.was));
    }

pub returns : goal.returns
returns c =
    let e : c.loop-m.m ≡ c.args.log.header.modules = omega arith in
    finish_all (rw e at c.loop-m.invariant.finishing) (search rules)
