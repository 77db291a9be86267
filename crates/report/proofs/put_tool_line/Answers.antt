-- `report::put_tool_line` meets its contract: the byte string is the word, and the figures follow it. Assumes nothing.
use native.Mathlib.Omega.{arith}
use Rattle.report.specs.Report.{tool, tool_line}
use Rattle.filling.proofs.Written.{then}
use Rattle.report.proofs.Lengths.{tool-length}
use Rattle.report.proofs.put_tool_line.Goals as goal

pub put_text-name-requires : goal.put_text-name-requires
put_text-name-requires c = omega (arith, tool-length c.args.q)

pub put_figures-requires : goal.put_figures-requires
put_figures-requires c = record { ordered = c.requires.ordered; q_in_bounds = omega (arith, tool-length c.args.q) }

pub returns : goal.returns
unfolding tool_line tool
returns c = then c.put_text-name.ensures c.put_figures.ensures
