-- `report::tool_line_length` meets its contract: the line is its four letters and its figures. Assumes nothing.
use native.Mathlib.Omega.{arith}
use Rattle.report.proofs.Lengths.{tool-length}
use Rattle.report.proofs.tool_line_length.Goals as goal

pub returns : goal.returns
returns c = record { size = omega (arith, tool-length c.args.q); within = omega arith }
