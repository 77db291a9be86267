-- The standard in force, by membership: of the list's standards that apply it has the latest start; in a rising list there is one such, at one index.
-- Assumes nothing.
use mathlib.Core.Path.{◌≡◌, refl, sym, ap, ◌∙◌}
use mathlib.Core.Bool.{false}
use mathlib.Core.Option.{Option, none, some}
use mathlib.Core.List.{List, [], ◌∷◌, Memᴰ}
use Prim.Native.Nat.{ℕ, zero, suc, ◌≤◌, ◌<◌}
use native.Mathlib.Omega.{arith}
use lib.ListN.{length, get_or}
use Rattle.records.specs.declared.Standard.{Standard}
use Rattle.records.specs.Log.{up_to}
use Rattle.records.proofs.UpTo.{up_to_all}
use Rattle.rules.specs.declared.Placed.{Placed}
use Rattle.rules.specs.Sequence.{standard_key}
use Rattle.rules.specs.Theoretical.{For, Answers, in_force}
use Rattle.rules.specs.RecordGrounds.{is_none}
use Rattle.rules.specs.Lists.{Each, Before, Rises}
use Rattle.rules.specs.Credited.{no_standard, nth}
use Rattle.rules.proofs.Booleans.{false-true}
use Rattle.rules.proofs.Sequence.{below-itself}
use Rattle.rules.proofs.InForce.{in_force_lem}

-- ---- members and indexes

module _ {A : Type 0} where
  pub each-member : (P : A → Type 0) {a : A} {rs : List A} → Memᴰ a rs → Each P rs → P a
  each-member P (Memᴰ.head e) h = rw e h.0
  each-member P (Memᴰ.tail m) h = each-member P m h.1

  pub members-each : (P : A → Type 0) (rs : List A) → ((a : A) → Memᴰ a rs → P a) → Each P rs
  members-each P [] h = tt
  members-each P (r ∷ rs) h = (h r (Memᴰ.head refl), members-each P rs (λ a m. h a (Memᴰ.tail m)))

  pub at-member : (rs : List A) (i : ℕ) (d : A) → i < length rs → Memᴰ (get_or rs i d) rs
  at-member [] i d h = absurd (omega arith)
  at-member (r ∷ rs) zero d h = Memᴰ.head refl
  at-member (r ∷ rs) (suc i) d h = Memᴰ.tail (at-member rs i d (omega arith))

  pub member-at : (d : A) {a : A} {rs : List A} → Memᴰ a rs → (i : ℕ) × (i < length rs) × (get_or rs i d ≡ a)
  member-at d (Memᴰ.head e) = (0, omega arith, sym e)
  member-at d (Memᴰ.tail m) = let w = member-at d m in (suc w.0, omega (arith, w.1), w.2)

module _ {A : Type 0} (key : A → List ℕ) where
  -- in a rising list a key has one record
  pub same-record : {a b : A} {rs : List A} → Rises key rs → Memᴰ a rs → Memᴰ b rs → key a ≡ key b → a ≡ b
  same-record r (Memᴰ.head e) (Memᴰ.head f) k = e ∙ sym f
  same-record {b = b} r (Memᴰ.head {x = x} e) (Memᴰ.tail n) k =
      let h : key x ≡ key b = ap key (sym e) ∙ k in
      absurd (below-itself (key b) (rw h at (each-member (Before key x) n r.0)))
  same-record {a = a} r (Memᴰ.tail m) (Memᴰ.head {x = x} f) k =
      let h : key x ≡ key a = ap key (sym f) ∙ sym k in
      absurd (below-itself (key a) (rw h at (each-member (Before key x) m r.0)))
  same-record r (Memᴰ.tail m) (Memᴰ.tail n) k = same-record r.1 m n k

  -- and a record one index
  pub same-index : (rs : List A) (d : A) → Rises key rs → (i j : ℕ) → i < length rs → j < length rs → get_or rs i d ≡ get_or rs j d → i ≡ j
  same-index [] d r i j h l e = absurd (omega arith)
  same-index (x ∷ rs) d r zero zero h l e = refl
  same-index (x ∷ rs) d r zero (suc j) h l e = let k = ap key e in absurd (below-itself (key x) (rw (sym k) at (each-member (Before key x) (at-member rs j d (omega arith)) r.0)))
  same-index (x ∷ rs) d r (suc i) zero h l e = let k = ap key e in absurd (below-itself (key x) (rw k at (each-member (Before key x) (at-member rs i d (omega arith)) r.0)))
  same-index (x ∷ rs) d r (suc i) (suc j) h l e = ap suc (same-index rs d r.1 i j (omega arith) (omega arith) e)

-- ---- the standard in force

-- a standard for the module and the recipe that starts at or before the time
pub record Applies (m recipe time : ℕ) (s : Standard) : Type 0 where
  pub own : For m recipe s
  pub begun : s.start ≤ time

pub record Holds (ss : List Standard) (m recipe time : ℕ) (s : Standard) : Type 0 where
  pub listed : Memᴰ s ss
  pub fits : Applies m recipe time s
  pub latest : (q : Standard) → Memᴰ q ss → Applies m recipe time q → q.start ≤ s.start

-- what the lookup's answer says
abbrev pub Found : List Standard → ℕ → ℕ → ℕ → Option Placed → Type 0
Found ss m recipe time none = (q : Standard) → Memᴰ q ss → Applies m recipe time q → ⊥
Found ss m recipe time (some p) = Holds ss m recipe time p.standard × (p.index < length ss) × (nth ss p.index ≡ p.standard)

module _ (ss : List Standard) (m recipe time : ℕ) where
  ask : (o : Option Placed) → Answers (nth ss) (length ss) m recipe time o → Found ss m recipe time o
  ask none a = λ q n f. let w = member-at no_standard n in a w.0 w.1 (rw w.2 f.own) (rw w.2 f.begun)
  ask (some p) a =
      let e : nth ss p.index ≡ p.standard = sym a.same in (
        record {
          listed = rw e at (at-member ss p.index no_standard a.listed);
          fits = record { own = a.own; begun = a.begun };
          latest = λ q n f. let w = member-at no_standard n in rw w.2 at (a.latest w.0 w.1 (rw w.2 f.own) (rw w.2 f.begun));
        },
        a.listed,
        e,
      )

  pub found : Found ss m recipe time (in_force ss m recipe time)
  found =
      let e : up_to (nth ss) (length ss) ≡ ss = up_to_all (nth ss) ss no_standard (λ i l. refl) in
      ask (in_force ss m recipe time) (rw e at (in_force_lem (nth ss) m recipe time (length ss)))

  -- an answer with its index, for the one standard in force of a rising list
  pub record Answered (s : Standard) (o : Option Placed) : Type 0 where
    pub place : Placed
    pub answer : o ≡ some place
    pub standard : place.standard ≡ s
    pub inside : place.index < length ss
    pub there : nth ss place.index ≡ s

  one : (rises : Rises standard_key ss) (a b : Standard) → Holds ss m recipe time a → Holds ss m recipe time b → a ≡ b
  one rises a b x y =
      let e : a.«module» ≡ b.«module» = x.fits.own.0 ∙ sym y.fits.own.0 in
      let f : a.recipe ≡ b.recipe = x.fits.own.1 ∙ sym y.fits.own.1 in
      let g : a.start ≡ b.start = omega (arith, x.latest b y.listed y.fits, y.latest a x.listed x.fits) in
      same-record standard_key rises x.listed y.listed (rw (e, f, g))

  pub answered : Rises standard_key ss → (s : Standard) → Holds ss m recipe time s → Answered s (in_force ss m recipe time)
  answered rises s h = go (in_force ss m recipe time) found
    where
      go : (o : Option Placed) → Found ss m recipe time o → Answered s o
      go none f = absurd (f s h.listed h.fits)
      go (some p) f =
          let e = one rises p.standard s f.0 h in
          record { place = p; answer = refl; standard = e; inside = f.1; there = f.2 ∙ e }

  -- where a unit record is judged, its standard
  pub record Judge (o : Option Placed) : Type 0 where
    pub place : Placed
    pub answer : o ≡ some place
    pub holds : Holds ss m recipe time place.standard
    pub inside : place.index < length ss
    pub there : nth ss place.index ≡ place.standard

  pub judge : is_none (in_force ss m recipe time) ≡ false → Judge (in_force ss m recipe time)
  judge e = go (in_force ss m recipe time) found e
    where
      go : (o : Option Placed) → Found ss m recipe time o → is_none o ≡ false → Judge o
      go none f e = absurd (false-true (sym e))
      go (some p) f e = record { place = p; answer = refl; holds = f.0; inside = f.1; there = f.2 }

pub not-none : (o : Option Placed) (p : Placed) → o ≡ some p → is_none o ≡ false
not-none o p e = rw e
