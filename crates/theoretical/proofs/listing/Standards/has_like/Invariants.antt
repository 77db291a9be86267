use mathlib.Core.Path.{◌≡◌}
use mathlib.Core.Bool.{false}
use Rattle.rules.specs.RecordGrounds.{is_among}
use Rattle.theoretical.specs.Listing.{listed}
use Rattle.theoretical.proofs.listing.Standards.has_like.Given as goal

abbrev pub invariant-loop-i : goal.invariant-loop-i
invariant-loop-i l = is_among l.s (listed l.self-inside.entries l.i) ≡ false
