use mathlib.Core.Path.{◌≡◌}
use Prim.Native.Nat.{◌+◌, ◌*◌}
use Rattle.records.specs.Log.{up_to, unit_at}
use Rattle.std.specs.declared.result.Result.TheVariants.{Ok}
use Rattle.rules.specs.Keys.{UnitsSequenced}
use Rattle.rules.specs.RecordGrounds.{unit_grounds}
use Rattle.theoretical.specs.Credits.{SumsSoFar, JudgedSoFar}
use Rattle.theoretical.proofs.credit_listed.Given as goal

abbrev pub invariant-loop-i : goal.invariant-loop-i
invariant-loop-i l =
    record {
      place : l.byte ≡ 10 + 6 * l.log.header.states + 10 * l.log.header.standards + 11 * l.i;
      passed : unit_grounds l.log.header.period l.log.header.modules l.standards (up_to (unit_at l.log.bytes.now l.log.header) l.i) ≡ Ok tt;
      sequenced : UnitsSequenced (up_to (unit_at l.log.bytes.now l.log.header) l.i) l.before;
      summed : SumsSoFar l.standards (up_to (unit_at l.log.bytes.now l.log.header) l.i) l.i l.actual l.effective;
      judged : JudgedSoFar (λ u. u.actual) l.standards (up_to (unit_at l.log.bytes.now l.log.header) l.i) l.i l.credited;
    }
