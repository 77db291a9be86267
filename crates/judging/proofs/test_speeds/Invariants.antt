use mathlib.Core.Path.{◌≡◌}
use Rattle.std.specs.declared.result.Result.TheVariants.{Ok}
use Rattle.records.specs.Log.{decode}
use Rattle.rules.specs.Grounds.{first_of}
use Rattle.rules.specs.Verdict.{fast_ground}
use Rattle.judging.proofs.test_speeds.Given as goal

abbrev pub invariant-loop-m : goal.invariant-loop-m
invariant-loop-m l = first_of (fast_ground (decode l.t.log.now)) l.m ≡ Ok tt
