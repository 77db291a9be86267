-- The standards ahead of both lists' next are written, as merged.
use Prim.Native.Nat.{◌+◌, ◌-◌}
use Rattle.records.specs.Log.{standard_at}
use Rattle.joining.proofs.Turning.{MergedSoFar}
use Rattle.joining.proofs.standards.put_standards.Given as goal

abbrev pub invariant-loop-i : goal.invariant-loop-i
invariant-loop-i l =
    MergedSoFar (standard_at l.first.bytes.now l.first.header) l.first.header.standards (standard_at l.second.bytes.now l.second.header) l.second.header.standards l.by l.initial.buf l.at l.i l.j l.next l.buf

abbrev pub decreases-loop-i : goal.decreases-loop-i
decreases-loop-i l = l.n - (l.i + l.j)
