use lib.ListN.{get_or}
use Rattle.report.proofs.Tables.{Lined}
use Rattle.listing.specs.Listings.{credit_line}
use Rattle.listing.proofs.put_credits.Given as goal

abbrev pub invariant-loop-i : goal.invariant-loop-i
invariant-loop-i l = Lined (λ i. credit_line i (get_or l.credited i 0)) l.standards l.i l.initial.buf 0 l.next l.buf
