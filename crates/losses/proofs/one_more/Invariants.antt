use mathlib.Core.Path.{◌≡◌}
use lib.ListN.{get_or}
use Rattle.rules.specs.Time.{count}
use Rattle.losses.specs.Losses.{ahead_of}
use Rattle.losses.proofs.one_more.Given as goal

abbrev pub invariant-loop-j : goal.invariant-loop-j
invariant-loop-j l = l.ahead ≡ count (ahead_of (λ k. get_or l.rests k 0) l.i) l.j
