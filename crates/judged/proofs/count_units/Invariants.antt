use mathlib.Core.Path.{◌≡◌}
use Prim.Native.Nat.{◌+◌, ◌*◌}
use Rattle.records.specs.Log.{up_to, unit_at}
use Rattle.records.specs.Whole.{units_begin}
use Rattle.theoretical.specs.Credits.{JudgedSoFar}
use Rattle.judged.proofs.count_units.Given as goal

abbrev pub invariant-loop-i : goal.invariant-loop-i
invariant-loop-i l =
    record {
      place : l.byte ≡ units_begin l.log.header + 11 * l.i;
      judged : JudgedSoFar (λ u. u.effective) l.standards (up_to (unit_at l.log.bytes.now l.log.header) l.i) l.i l.judged;
    }
