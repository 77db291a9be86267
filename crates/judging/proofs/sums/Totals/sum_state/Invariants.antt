use mathlib.Core.Path.{◌≡◌}
use Prim.Native.Nat.{◌+◌, ◌*◌}
use lib.ListN.{get_or}
use Rattle.rules.specs.Quantities.{sum_below}
use Rattle.judging.proofs.sums.Totals.sum_state.Given as goal

abbrev pub invariant-loop-m : goal.invariant-loop-m
invariant-loop-m l = l.sum ≡ sum_below (λ j. get_or l.self.totals.now (6 * j + l.k) 0) l.m
