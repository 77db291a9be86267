-- The merged standards: before the first log's period those of the first are in force, from there on those of the second, moved up.
-- Assumes nothing.
use mathlib.Core.Path.{◌≡◌, refl, sym, ap, ◌∙◌}
use mathlib.Core.Logic.{◌⊎◌, inl, inr}
use mathlib.Core.List.{List, [], ◌∷◌, map, Memᴰ}
use Prim.Native.Nat.{ℕ, ◌+◌, ◌≤◌, ◌<◌}
use native.Mathlib.Omega.{arith}
use Rattle.records.specs.declared.Standard.{Standard}
use Rattle.rules.specs.Sequence.{standard_key}
use Rattle.rules.specs.Lists.{Each, Before, Rises}
use Rattle.rules.proofs.Each.{each-so, each-image, rises-map}
use Rattle.sound.proofs.Force.{Applies, each-member, members-each, Holds}
use Rattle.joined.specs.Joined.{standard_up}
use Rattle.joined.specs.Merged.{merged}
use Rattle.joined.proofs.Merging.{Apart, merged-each, merged-first, merged-second, merged-rises}
use Rattle.joined.proofs.Up.{standard-up, start-apart}

pub map-member : {A B : Type 0} (f : A → B) {a : A} {rs : List A} → Memᴰ a rs → Memᴰ (f a) (map f rs)
map-member f (Memᴰ.head e) = Memᴰ.head (ap f e)
map-member f (Memᴰ.tail m) = Memᴰ.tail (map-member f m)

module _ (p : ℕ) (ss ts : List Standard) where
  abbrev pub both : List Standard
  both = merged standard_key ss (map (standard_up p) ts)

  -- a standard of the second list, moved up
  pub record Moved (x : Standard) : Type 0 where
    pub old : Standard
    pub listed : Memᴰ old ts
    pub same : x ≡ standard_up p old

  -- where a merged standard comes from
  pub origin : (x : Standard) → Memᴰ x both → Memᴰ x ss ⊎ Moved x
  origin x m =
      each-member (λ x. Memᴰ x ss ⊎ Moved x) m
      (merged-each standard_key (λ x. Memᴰ x ss ⊎ Moved x) ss (map (standard_up p) ts) (members-each _ ss (λ x m. inl m)) (moved ts (λ y m. m)))
    where
      moved : (us : List Standard) → ((y : Standard) → Memᴰ y us → Memᴰ y ts) → Each (λ x. Memᴰ x ss ⊎ Moved x) (map (standard_up p) us)
      moved [] h = tt
      moved (y ∷ us) h = (inr (record { old = y; listed = h y (Memᴰ.head refl); same = refl }), moved us (λ z m. h z (Memᴰ.tail m)))

  module _ (early : Each (λ s. s.start < p) ss) where
    pub both-rise : Rises standard_key ss → Rises standard_key ts → Rises standard_key both
    both-rise u v =
        merged-rises standard_key ss (map (standard_up p) ts) u (rises-map standard_key (standard_up p) (Before standard_key) (standard-up p) ts v)
        (each-image (standard_up p) (λ s. Each (Apart standard_key s) ss) (λ y. each-so (λ r. r.start < p) (Apart standard_key (standard_up p y)) (λ r h. start-apart (standard_up p y) r (omega arith)) ss early) ts)

    module _ (m recipe t : ℕ) (s : Standard) where
      pub holds-before : t < p → Holds ss m recipe t s → Holds both m recipe t s
      holds-before l h =
          record {
            listed = merged-first standard_key (map (standard_up p) ts) h.listed;
            fits = h.fits;
            latest = λ q n f. go q f (origin q n);
          }
        where
          go : (q : Standard) → Applies m recipe t q → Memᴰ q ss ⊎ Moved q → q.start ≤ s.start
          go q f (inl n) = h.latest q n f
          go q f (inr n) = absurd (omega (arith, f.begun, ap (λ (x : Standard). x.start) n.same))

      pub holds-after : Holds ts m recipe t s → Holds both m recipe (p + t) (standard_up p s)
      holds-after h =
          record {
            listed = merged-second standard_key ss (map-member (standard_up p) h.listed);
            fits = record { own = h.fits.own; begun = omega (arith, h.fits.begun) };
            latest = λ q n f. go q f (origin q n);
          }
        where
          old : (q : Standard) → Applies m recipe (p + t) q → (n : Moved q) → Applies m recipe t n.old
          old q f n =
              record {
                own = (ap (λ (x : Standard). x.«module») (sym n.same) ∙ f.own.0, ap (λ (x : Standard). x.recipe) (sym n.same) ∙ f.own.1);
                begun = omega (arith, f.begun, ap (λ (x : Standard). x.start) n.same);
              }

          go : (q : Standard) → Applies m recipe (p + t) q → Memᴰ q ss ⊎ Moved q → q.start ≤ p + s.start
          go q f (inl n) = omega (arith, each-member (λ s. s.start < p) n early)
          go q f (inr n) = omega (arith, h.latest n.old n.listed (old q f n), ap (λ (x : Standard). x.start) n.same)
