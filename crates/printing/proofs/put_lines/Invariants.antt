use Rattle.records.specs.Log.{decode}
use Rattle.report.proofs.Tables.{Lined}
use Rattle.printing.specs.Tables.{line_in}
use Rattle.printing.proofs.put_lines.Given as goal

abbrev pub invariant-loop-m : goal.invariant-loop-m
invariant-loop-m l =
    let log = decode l.account.log.bytes.now in
    Lined (line_in l.table log) log.modules l.m l.initial.buf l.at l.next l.buf
