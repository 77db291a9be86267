use Rattle.records.specs.Log.{decode}
use Rattle.rules.specs.Quantities.{of_module}
use Rattle.report.specs.Report.{module_line}
use Rattle.report.proofs.Tables.{Lined}
use Rattle.reporting.proofs.put_lines.Given as goal

abbrev pub invariant-loop-m : goal.invariant-loop-m
invariant-loop-m l = let d = decode l.account.log.bytes.now in Lined (λ m. module_line m (of_module d m)) d.modules l.m l.initial.buf l.at l.next l.buf
