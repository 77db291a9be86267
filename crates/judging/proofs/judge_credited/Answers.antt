-- `judging::judge_credited` meets its contract: the header, the state records, the standards with the unit records, and the sums are tested in turn.
-- Assumes nothing.
use mathlib.Core.Path.{◌≡◌, refl, sym, ◌∙◌}
use native.Mathlib.Omega.{arith}
use Rattle.std.specs.declared.result.Result.TheVariants.{Ok, Err}
use Rattle.rules.specs.Verdict.{header_grounds}
use Rattle.judging.proofs.Judging.{StatesPass, UnitsPass, counted, header_period, header_modules, judged_header, judged_states, judged_units, held, all_credited, judged_speeds, judged_greats, all_consistent, all_accepted}
use Rattle.judging.proofs.judge_credited.Goals as goal

pub returns-in_err-test_header-clause-judged : goal.returns-in_err-test_header-clause-judged
returns-in_err-test_header-clause-judged c =
    let err : c.from_residual.result ≡ Err c.in_err-test_header.field-0.0 = grind arith in
    rw err (judged_header c.args.log.now c.in_err-test_header.field-0.0 (grind arith))

pub new-log-requires-clause-whole : goal.new-log-requires-clause-whole
new-log-requires-clause-whole c =
    let header : header_grounds c.args.log.now ≡ Ok tt = grind arith in
    let n = counted c.args.log.now _ c.read_header-h.ensures header in
    n.whole

pub tally_states-requires-clause-modules_bound : goal.tally_states-requires-clause-modules_bound
tally_states-requires-clause-modules_bound c =
    let header : header_grounds c.args.log.now ≡ Ok tt = grind arith in
    let n = counted c.args.log.now _ c.read_header-h.ensures header in
    rw (c.states.ensures.1, c.new-log.ensures.1) n.modules.1

pub returns-in_err-tally_states-clause-judged : goal.returns-in_err-tally_states-clause-judged
returns-in_err-tally_states-clause-judged c =
    let header : header_grounds c.args.log.now ≡ Ok tt = grind arith in
    let n = counted c.args.log.now _ c.read_header-h.ensures header in
    let t = rw (c.states.ensures.0, c.states.ensures.1, c.new-log.ensures.0, c.new-log.ensures.1, c.read_header-h.ensures) at c.tally_states.ensures in
    let err : c.from_residual-in_err-tally_states.result ≡ Err c.in_err-tally_states.field-0.0 = grind arith in
    rw err (judged_states c.args.log.now header c.in_err-tally_states.field-0.0 (grind arith))

pub credit_units-requires-clause-counts_bound : goal.credit_units-requires-clause-counts_bound
credit_units-requires-clause-counts_bound c =
    let header : header_grounds c.args.log.now ≡ Ok tt = grind arith in
    let n = counted c.args.log.now _ c.read_header-h.ensures header in
    rw (c.units.ensures.1, c.new-log.ensures.1) (n.counts.1, n.counts.2)

pub returns-in_err-credit_units-clause-judged : goal.returns-in_err-credit_units-clause-judged
returns-in_err-credit_units-clause-judged c =
    let header : header_grounds c.args.log.now ≡ Ok tt = grind arith in
    let n = counted c.args.log.now _ c.read_header-h.ensures header in
    let t = rw (c.states.ensures.0, c.states.ensures.1, c.new-log.ensures.0, c.new-log.ensures.1, c.read_header-h.ensures) at c.tally_states.ensures in
    let fine : StatesPass c.args.log.now = grind arith in
    let u = rw (c.units.ensures.0, c.units.ensures.1, c.new-log.ensures.0, c.new-log.ensures.1, c.read_header-h.ensures) at c.credit_units.ensures in
    let err : c.from_residual-in_err-credit_units.result ≡ Err c.in_err-credit_units.field-0.0 = grind arith in
    rw err (judged_units c.args.log.now header fine c.in_err-credit_units.field-0.0 (grind arith))

pub invariant_of-sums : goal.invariant_of-sums
invariant_of-sums c =
    let header : header_grounds c.args.log.now ≡ Ok tt = grind arith in
    let n = counted c.args.log.now _ c.read_header-h.ensures header in
    let t = rw (c.states.ensures.0, c.states.ensures.1, c.new-log.ensures.0, c.new-log.ensures.1, c.read_header-h.ensures) at c.tally_states.ensures in
    let fine : StatesPass c.args.log.now = grind arith in
    let u = rw (c.units.ensures.0, c.units.ensures.1, c.new-log.ensures.0, c.new-log.ensures.1, c.read_header-h.ensures) at c.credit_units.ensures in
    let good : UnitsPass c.args.log.now = grind arith in
    rw c.new-log.ensures.0
    record {
      period_value = header_period c.args.log.now _ c.read_header-h.ensures;
      modules_value = header_modules c.args.log.now _ c.read_header-h.ensures;
      working_totals = held c.args.log.now header fine good _ _ _ _ _ _ _ t (t.answer ∙ fine) u (u.answer ∙ good);
    }

pub test_speeds-requires : goal.test_speeds-requires
test_speeds-requires c =
    let header : header_grounds c.args.log.now ≡ Ok tt = grind arith in
    let n = counted c.args.log.now _ c.read_header-h.ensures header in
    n.modules.1

pub returns-in_err-test_speeds-clause-judged : goal.returns-in_err-test_speeds-clause-judged
returns-in_err-test_speeds-clause-judged c =
    let header : header_grounds c.args.log.now ≡ Ok tt = grind arith in
    let n = counted c.args.log.now _ c.read_header-h.ensures header in
    let t = rw (c.states.ensures.0, c.states.ensures.1, c.new-log.ensures.0, c.new-log.ensures.1, c.read_header-h.ensures) at c.tally_states.ensures in
    let fine : StatesPass c.args.log.now = grind arith in
    let u = rw (c.units.ensures.0, c.units.ensures.1, c.new-log.ensures.0, c.new-log.ensures.1, c.read_header-h.ensures) at c.credit_units.ensures in
    let good : UnitsPass c.args.log.now = grind arith in
    let speeds = rw (c.new-log.ensures.0, header_modules c.args.log.now _ c.read_header-h.ensures) at c.test_speeds.ensures in
    let err : c.from_residual-in_err-test_speeds.result ≡ Err c.in_err-test_speeds.field-0.0 = grind arith in
    rw err (judged_speeds c.args.log.now header fine good _ (sym speeds ∙ c.in_err-test_speeds.was))

pub tool_quantities-requires : goal.tool_quantities-requires
tool_quantities-requires c =
    let header : header_grounds c.args.log.now ≡ Ok tt = grind arith in
    let n = counted c.args.log.now _ c.read_header-h.ensures header in
    let t = rw (c.states.ensures.0, c.states.ensures.1, c.new-log.ensures.0, c.new-log.ensures.1, c.read_header-h.ensures) at c.tally_states.ensures in
    let fine : StatesPass c.args.log.now = grind arith in
    let u = rw (c.units.ensures.0, c.units.ensures.1, c.new-log.ensures.0, c.new-log.ensures.1, c.read_header-h.ensures) at c.credit_units.ensures in
    let good : UnitsPass c.args.log.now = grind arith in
    let speeds = rw (c.new-log.ensures.0, header_modules c.args.log.now _ c.read_header-h.ensures) at c.test_speeds.ensures in
    let fast = sym speeds ∙ c.in_ok-test_speeds.was in
    rw c.new-log.ensures.0 (all_consistent c.args.log.now header fine good fast)

pub tool_times-requires : goal.tool_times-requires
tool_times-requires c =
    let header : header_grounds c.args.log.now ≡ Ok tt = grind arith in
    let n = counted c.args.log.now _ c.read_header-h.ensures header in
    let t = rw (c.states.ensures.0, c.states.ensures.1, c.new-log.ensures.0, c.new-log.ensures.1, c.read_header-h.ensures) at c.tally_states.ensures in
    let fine : StatesPass c.args.log.now = grind arith in
    let u = rw (c.units.ensures.0, c.units.ensures.1, c.new-log.ensures.0, c.new-log.ensures.1, c.read_header-h.ensures) at c.credit_units.ensures in
    let good : UnitsPass c.args.log.now = grind arith in
    let speeds = rw (c.new-log.ensures.0, header_modules c.args.log.now _ c.read_header-h.ensures) at c.test_speeds.ensures in
    let fast = sym speeds ∙ c.in_ok-test_speeds.was in
    rw c.new-log.ensures.0 (all_consistent c.args.log.now header fine good fast)

pub returns-in_err-refuses-clause-judged : goal.returns-in_err-refuses-clause-judged
returns-in_err-refuses-clause-judged c =
    let header : header_grounds c.args.log.now ≡ Ok tt = grind arith in
    let n = counted c.args.log.now _ c.read_header-h.ensures header in
    let t = rw (c.states.ensures.0, c.states.ensures.1, c.new-log.ensures.0, c.new-log.ensures.1, c.read_header-h.ensures) at c.tally_states.ensures in
    let fine : StatesPass c.args.log.now = grind arith in
    let u = rw (c.units.ensures.0, c.units.ensures.1, c.new-log.ensures.0, c.new-log.ensures.1, c.read_header-h.ensures) at c.credit_units.ensures in
    let good : UnitsPass c.args.log.now = grind arith in
    let speeds = rw (c.new-log.ensures.0, header_modules c.args.log.now _ c.read_header-h.ensures) at c.test_speeds.ensures in
    let fast = sym speeds ∙ c.in_ok-test_speeds.was in
    let err : c.from_residual-in_err-refuses.result ≡ Err c.in_err-refuses.field-0.0 = grind arith in
    rw err (judged_greats c.args.log.now header fine good fast _ _ (rw (c.over_quantities.ensures, c.over_times.ensures, c.tool_quantities.ensures, c.tool_times.ensures, c.new-log.ensures.0) refl) (sym c.refuses.ensures ∙ c.in_err-refuses.was))

pub invariant_of-result : goal.invariant_of-result
invariant_of-result c =
    let header : header_grounds c.args.log.now ≡ Ok tt = grind arith in
    let n = counted c.args.log.now _ c.read_header-h.ensures header in
    let t = rw (c.states.ensures.0, c.states.ensures.1, c.new-log.ensures.0, c.new-log.ensures.1, c.read_header-h.ensures) at c.tally_states.ensures in
    let fine : StatesPass c.args.log.now = grind arith in
    let u = rw (c.units.ensures.0, c.units.ensures.1, c.new-log.ensures.0, c.new-log.ensures.1, c.read_header-h.ensures) at c.credit_units.ensures in
    let good : UnitsPass c.args.log.now = grind arith in
    let speeds = rw (c.new-log.ensures.0, header_modules c.args.log.now _ c.read_header-h.ensures) at c.test_speeds.ensures in
    let fast = sym speeds ∙ c.in_ok-test_speeds.was in
    rw c.new-log.ensures.0
    record {
      accepted = all_accepted c.args.log.now header fine good fast;
      consistent = all_consistent c.args.log.now header fine good fast;
      working_totals = held c.args.log.now header fine good _ _ _ _ _ _ _ t (t.answer ∙ fine) u (u.answer ∙ good);
    }

pub returns-clause-credited : goal.returns-clause-credited
returns-clause-credited c =
    let header : header_grounds c.args.log.now ≡ Ok tt = grind arith in
    let t = rw (c.states.ensures.0, c.states.ensures.1, c.new-log.ensures.0, c.new-log.ensures.1, c.read_header-h.ensures) at c.tally_states.ensures in
    let fine : StatesPass c.args.log.now = grind arith in
    let u = rw (c.units.ensures.0, c.units.ensures.1, c.new-log.ensures.0, c.new-log.ensures.1, c.read_header-h.ensures) at c.credit_units.ensures in
    let good : UnitsPass c.args.log.now = grind arith in
    all_credited c.args.log.now header fine good _ _ _ _ u (u.answer ∙ good)
