use mathlib.Core.Path.{◌≡◌}
use Rattle.records.specs.Log.{up_to, standard_at}
use Rattle.std.specs.declared.result.Result.TheVariants.{Ok}
use Rattle.rules.specs.Keys.{StandardsSequenced}
use Rattle.rules.specs.RecordGrounds.{standard_grounds}
use Rattle.theoretical.proofs.list_standards.Given as goal

abbrev pub invariant-loop-i : goal.invariant-loop-i
invariant-loop-i l =
    record {
      passed : standard_grounds l.log.header.period l.log.header.modules (up_to (standard_at l.log.bytes.now l.log.header) l.i) ≡ Ok tt;
      sequenced : StandardsSequenced l.standards l.before;
      listed : l.standards ≡ up_to (standard_at l.log.bytes.now l.log.header) l.i;
    }
