use lib.ListN.{length}
use Rattle.report.proofs.Tables.{Lined}
use Rattle.printing.proofs.Numbers.{nth}
use Rattle.printing.proofs.put_numbers.Given as goal

abbrev pub invariant-loop-v : goal.invariant-loop-v
invariant-loop-v l = Lined (nth l.values) (length l.values) l.v-index l.initial.buf l.at l.next l.buf
