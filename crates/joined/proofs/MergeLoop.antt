-- A loop that writes the merge: i of the first list and j of the second are written, and the next is the lower of the two that come next, or the only one left.
-- Assumes nothing.
use mathlib.Core.Path.{◌≡◌}
use mathlib.Core.List.{List, [], ◌∷◌}
use Prim.Native.Nat.{ℕ, zero, suc, ◌<◌}
use native.Mathlib.Decide.{dec_lt}
use native.Mathlib.Omega.{arith}
use lib.ListN.{length, get_or, drop, drop_of_length-le}
use lib.Seq.{drop-cons}
use Rattle.rules.proofs.Sequence.{below-trans}
use Rattle.rules.specs.Lists.{Each, Before, Rises}
use Rattle.rules.proofs.Each.{each-so}
use Rattle.joined.specs.Merged.{merged}
use Rattle.joined.proofs.Merging.{merge-first, merge-second}

module _ {A : Type 0} (key : A → List ℕ) (d : A) where
  pub drop-rises : (rs : List A) (i : ℕ) → Rises key rs → Rises key (drop i rs)
  drop-rises rs zero u = u
  drop-rises [] (suc i) u = tt
  drop-rises (r ∷ rs) (suc i) u = drop-rises rs i u.1

  -- what comes next is before all that is left
  next-least : (rs : List A) (i : ℕ) → Rises key rs → i < length rs → Each (Before key (get_or rs i d)) (drop (suc i) rs)
  next-least rs i u h = let v : Rises key (get_or rs i d ∷ drop (suc i) rs) = rw (drop-cons rs i d h) at (drop-rises rs i u) in v.0

  below-all : (x : A) (rs : List A) (i : ℕ) → Rises key rs → (i < length rs → Before key x (get_or rs i d)) → Each (Before key x) (drop i rs)
  below-all x rs i u h = elim (dec_lt i (length rs)) [
    | yes l ↦ rw (drop-cons rs i d l) (h l, each-so (Before key (get_or rs i d)) (Before key x) (λ q b. below-trans (key x) (key (get_or rs i d)) (key q) (h l) b) (drop (suc i) rs) (next-least rs i u l))
    | no l ↦ rw (drop_of_length-le rs {i = i} (omega arith)) tt
  ]

  module _ (rs ss : List A) (u : Rises key rs) (v : Rises key ss) (i j : ℕ) where
    -- the first list's is next
    pub take-first : i < length rs → (j < length ss → Before key (get_or rs i d) (get_or ss j d)) → merged key (drop i rs) (drop j ss) ≡ get_or rs i d ∷ merged key (drop (suc i) rs) (drop j ss)
    take-first l h = rw (drop-cons rs i d l) (merge-first key (get_or rs i d) (drop (suc i) rs) (drop j ss) (below-all (get_or rs i d) ss j v h))

    -- the second list's is next
    pub take-second : j < length ss → (i < length rs → Before key (get_or ss j d) (get_or rs i d)) → merged key (drop i rs) (drop j ss) ≡ get_or ss j d ∷ merged key (drop i rs) (drop (suc j) ss)
    take-second l h = rw (drop-cons ss j d l) (merge-second key (get_or ss j d) (drop i rs) (drop (suc j) ss) (below-all (get_or ss j d) rs i u h) (next-least ss j v l))
