use Prim.Native.Nat.{ℕ, ◌≤◌, ◌<◌}
use lib.ListN.{get_or}
use Rattle.theoretical.proofs.listing.Entries.pass_later.Given as goal

-- those behind `left` start after the time
abbrev pub invariant-loop-left : goal.invariant-loop-left
invariant-loop-left l = (l.left ≤ l.from) × ((i : ℕ) → l.left ≤ i → i < l.from → l.time < get_or l.self.starts i 0)

abbrev pub decreases-loop-left : goal.decreases-loop-left
decreases-loop-left l = l.left
