-- `report::module_line_length` meets its contract: a number below 10 has one digit, and any other that is printed two. Assumes nothing.
use native.Mathlib.Omega.{arith}
use Rattle.report.proofs.Lengths.{short-one, short-two, module-length}
use Rattle.report.proofs.module_line_length.Goals as goal

pub returns-then-m-lt10 : goal.returns-then-m-lt10
returns-then-m-lt10 c =
    let m = c.args.m in
    record {
      size = omega (arith, module-length m c.args.q, short-one m c.if-m-lt10.true);
      within = omega arith;
      one_digit = λ _. omega arith;
    }

pub returns-else-m-lt10 : goal.returns-else-m-lt10
returns-else-m-lt10 c =
    let m = c.args.m in
    record {
      size = omega (arith, module-length m c.args.q, short-two m c.if-m-lt10.false);
      within = omega arith;
      one_digit = λ h. omega arith;
    }
