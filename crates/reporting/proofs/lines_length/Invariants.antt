use mathlib.Core.Path.{◌≡◌}
use Prim.Native.Nat.{◌*◌, ◌≤◌}
use lib.ListN.{length}
use Rattle.records.specs.Log.{decode}
use Rattle.rules.specs.Quantities.{of_module}
use Rattle.report.specs.Report.{module_lines}
use Rattle.reporting.proofs.lines_length.Given as goal

abbrev pub invariant-loop-m : goal.invariant-loop-m
invariant-loop-m l = (l.size ≡ length (module_lines (of_module (decode l.account.log.bytes.now)) l.m)) × (l.size ≤ 38 * l.m)
