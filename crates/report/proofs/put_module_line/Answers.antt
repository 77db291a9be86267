-- `report::put_module_line` meets its contract: the number, which is below 100, and behind it the figures. Assumes nothing.
use mathlib.Core.Path.{◌≡◌, sym, ap, ◌∙◌}
use mathlib.Core.List.{◌++◌}
use Prim.Native.Nat.{◌+◌}
use native.Mathlib.Omega.{arith}
use lib.ListN.{length}
use Rattle.report.specs.Report.{decimal, figures, module_line}
use Rattle.filling.proofs.Written.{then, read_as}
use Rattle.report.proofs.Decimals.{short-decimal}
use Rattle.report.proofs.Lengths.{module-length}
use Rattle.report.proofs.put_module_line.Goals as goal

pub put_decimal-number-requires : goal.put_decimal-number-requires
put_decimal-number-requires c =
    let line_length_lem : length (module_line c.args.m c.args.q) ≡ length (decimal c.args.m) + length (figures c.args.q) = module-length c.args.m c.args.q ∙ ap (λ s. length s + length (figures c.args.q)) (short-decimal c.args.m c.requires.m_bound) in
    omega (arith, line_length_lem)

pub put_figures-requires : goal.put_figures-requires
put_figures-requires c =
    let line_length_lem : length (module_line c.args.m c.args.q) ≡ length (decimal c.args.m) + length (figures c.args.q) = module-length c.args.m c.args.q ∙ ap (λ s. length s + length (figures c.args.q)) (short-decimal c.args.m c.requires.m_bound) in
    record { ordered = c.requires.ordered; q_in_bounds = omega (arith, line_length_lem) }

pub returns : goal.returns
unfolding module_line
returns c = read_as (ap (λ s. s ++ figures c.args.q) (sym (short-decimal c.args.m c.requires.m_bound)))
    (then c.put_decimal-number.ensures c.put_figures.ensures)
