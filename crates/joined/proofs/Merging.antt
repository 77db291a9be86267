-- The laws of a merge: it has the records of both lists and no others, it rises where both do and no two are alike, and it is taken from the front one record at a time.
-- Assumes nothing.
use mathlib.Core.Path.{◌≡◌, refl, sym, ap, ◌∙◌}
use mathlib.Core.Bool.{Bool, true, false, cond}
use mathlib.Core.Logic.{◌⊎◌, inl, inr}
use mathlib.Core.List.Memᴰ
use mathlib.Core.List.{List, [], ◌∷◌, Memᴰ}
use Prim.Native.Nat.{ℕ, suc, ◌+◌}
use native.Mathlib.Omega.{arith}
use lib.ListN.{length}
use Rattle.rules.specs.Sequence.{is_below}
use Rattle.rules.proofs.Booleans.{false-true}
use Rattle.rules.proofs.Sequence.{below-trans, below-itself}
use Rattle.rules.specs.Lists.{Each, Before, Rises}
use Rattle.rules.proofs.Each.{each-so}
use Rattle.rules.proofs.Sound.{is-false}
use Rattle.joined.specs.Merged.{placed_in, merged}

module _ {A : Type 0} (key : A → List ℕ) where
  -- one of the two comes before the other
  abbrev pub Apart : A → A → Type 0
  Apart s r = Before key s r ⊎ Before key r s

  pub not-after : (s r : A) → Before key r s → is_below (key s) (key r) ≡ false
  not-after s r h = is-false (is_below (key s) (key r)) (λ g. below-itself (key r) (below-trans (key r) (key s) (key r) h g))

  -- ---- one record put into its place

  module _ (s : A) where
    pub placed-length : (rs : List A) → length (placed_in key s rs) ≡ suc (length rs)
    unfolding placed_in
    placed-length [] = refl
    placed-length (r ∷ rs) = go (is_below (key s) (key r)) (placed-length rs)
      where
        go : (b : Bool) → length (placed_in key s rs) ≡ suc (length rs) → length (cond b (s ∷ (r ∷ rs)) (r ∷ placed_in key s rs)) ≡ suc (suc (length rs))
        go true h = refl
        go false h = ap suc h

    pub placed-each : (P : A → Type 0) (rs : List A) → P s → Each P rs → Each P (placed_in key s rs)
    unfolding placed_in
    placed-each P [] h e = (h, tt)
    placed-each P (r ∷ rs) h e = go (is_below (key s) (key r)) (placed-each P rs h e.1)
      where
        go : (b : Bool) → Each P (placed_in key s rs) → Each P (cond b (s ∷ (r ∷ rs)) (r ∷ placed_in key s rs))
        go true f = (h, e)
        go false f = (e.0, f)

    pub placed-rises : (rs : List A) → Rises key rs → Each (Apart s) rs → Rises key (placed_in key s rs)
    unfolding placed_in
    placed-rises [] u a = (tt, tt)
    placed-rises (r ∷ rs) u a = go (is_below (key s) (key r)) refl (placed-rises rs u.1 a.1)
      where
        other : is_below (key s) (key r) ≡ false → Apart s r → Before key r s
        other e (inl h) = absurd (false-true (sym e ∙ h))
        other e (inr h) = h

        go : (b : Bool) → is_below (key s) (key r) ≡ b → Rises key (placed_in key s rs) → Rises key (cond b (s ∷ (r ∷ rs)) (r ∷ placed_in key s rs))
        go true e f = ((e, each-so (Before key r) (Before key s) (λ q h. below-trans (key s) (key r) (key q) e h) rs u.0), u)
        go false e f = (placed-each (Before key r) rs (other e a.0) u.0, f)

    -- members: the record, and those of the list
    pub placed-own : (rs : List A) → Memᴰ s (placed_in key s rs)
    unfolding placed_in
    placed-own [] = Memᴰ.head refl
    placed-own (r ∷ rs) = go (is_below (key s) (key r)) (placed-own rs)
      where
        go : (b : Bool) → Memᴰ s (placed_in key s rs) → Memᴰ s (cond b (s ∷ (r ∷ rs)) (r ∷ placed_in key s rs))
        go true h = Memᴰ.head refl
        go false h = Memᴰ.tail h

    pub placed-others : {a : A} {rs : List A} → Memᴰ a rs → Memᴰ a (placed_in key s rs)
    unfolding placed_in
    placed-others {a} (Memᴰ.head {x = x} {xs = xs} e) = go (is_below (key s) (key x))
      where
        go : (b : Bool) → Memᴰ a (cond b (s ∷ (x ∷ xs)) (x ∷ placed_in key s xs))
        go true = Memᴰ.tail (Memᴰ.head e)
        go false = Memᴰ.head e
    placed-others {a} (Memᴰ.tail {x = x} {xs = xs} m) = go (is_below (key s) (key x)) (placed-others m)
      where
        go : (b : Bool) → Memᴰ a (placed_in key s xs) → Memᴰ a (cond b (s ∷ (x ∷ xs)) (x ∷ placed_in key s xs))
        go true h = Memᴰ.tail (Memᴰ.tail m)
        go false h = Memᴰ.tail h

    placed-front : (rs : List A) → Each (Before key s) rs → placed_in key s rs ≡ s ∷ rs
    unfolding placed_in
    placed-front [] e = refl
    placed-front (r ∷ rs) e = rw e.0

  -- ---- two lists

  pub merged-length : (rs ss : List A) → length (merged key rs ss) ≡ length rs + length ss
  unfolding merged
  merged-length rs [] = omega arith
  merged-length rs (s ∷ ss) = placed-length s (merged key rs ss) ∙ omega (arith, merged-length rs ss)

  pub merged-each : (P : A → Type 0) (rs ss : List A) → Each P rs → Each P ss → Each P (merged key rs ss)
  unfolding merged
  merged-each P rs [] e f = e
  merged-each P rs (s ∷ ss) e f = placed-each s P (merged key rs ss) f.0 (merged-each P rs ss e f.1)

  pub merged-first : {a : A} {rs : List A} (ss : List A) → Memᴰ a rs → Memᴰ a (merged key rs ss)
  unfolding merged
  merged-first [] m = m
  merged-first {rs = rs} (s ∷ ss) m = placed-others s (merged-first ss m)

  pub merged-second : {a : A} (rs : List A) {ss : List A} → Memᴰ a ss → Memᴰ a (merged key rs ss)
  unfolding merged
  merged-second rs (Memᴰ.head {x = x} {xs = xs} e) = Memᴰ.cast e (placed-own x (merged key rs xs))
  merged-second rs (Memᴰ.tail {x = x} m) = placed-others x (merged-second rs m)

  -- no two alike: each of the second list is apart from each of the first
  pub merged-rises : (rs ss : List A) → Rises key rs → Rises key ss → Each (λ s. Each (Apart s) rs) ss → Rises key (merged key rs ss)
  unfolding merged
  merged-rises rs [] u v x = u
  merged-rises rs (s ∷ ss) u v x =
      placed-rises s (merged key rs ss) (merged-rises rs ss u v.1 x.1)
      (merged-each (Apart s) rs ss x.0 (each-so (Before key s) (Apart s) (λ q h. inl h) ss v.0))

  -- ---- taken from the front, as a loop that writes it does

  pub merge-first : (r : A) (rs ss : List A) → Each (Before key r) ss → merged key (r ∷ rs) ss ≡ r ∷ merged key rs ss
  unfolding merged placed_in
  merge-first r rs [] h = refl
  merge-first r rs (s ∷ ss) h = rw (merge-first r rs ss h.1, not-after s r h.0)

  pub merge-second : (s : A) (rs ss : List A) → Each (Before key s) rs → Each (Before key s) ss → merged key rs (s ∷ ss) ≡ s ∷ merged key rs ss
  unfolding merged
  merge-second s rs ss e f = placed-front s (merged key rs ss) (merged-each (Before key s) rs ss e f)
