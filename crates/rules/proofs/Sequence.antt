-- The laws of rising lists: keys are in order, so a rising list is decided by which records it has.
-- Assumes nothing.
use mathlib.Core.Path.{◌≡◌, refl, sym, ap, ap₂, ◌∙◌}
use mathlib.Core.Bool.{true, ◌&&◌}
use mathlib.Core.Logic.{◌⊎◌, inl, inr}
use mathlib.Core.Option.{Option, none, some}
use mathlib.Core.List.Memᴰ
use mathlib.Core.List.Permᴰ
use mathlib.Core.List.{List, [], ◌∷◌, ◌++◌, foldl, foldl-append, Memᴰ, Permᴰ}
use Prim.Native.Nat.{ℕ, zero, suc, ◌≤◌, ◌<◌}
use native.Mathlib.Decide.{ℕ_discrete}
use native.Mathlib.Omega.{arith}
use lib.ListN.{length, get_or}
use lib.Dec.{ltb, eqb}
use borrow.Author.Tests.{ltb-true, eqb-true, lt-ltb, eq-eqb}
use Rattle.records.specs.Log.{up_to}
use Rattle.records.proofs.UpTo.{length_up_to, up_to_at}
use Rattle.records.specs.declared.StateRecord.{StateRecord}
use Rattle.records.specs.declared.Standard.{Standard}
use Rattle.rules.specs.Theoretical.{For}
use Rattle.rules.specs.Sequence.{is_below, just_before, is_after, is_rising_after, is_rising, state_key, standard_key}
use Rattle.rules.specs.Lists.{Each}
use Rattle.rules.proofs.Booleans.{false-true, both, either, or-true, and-true, and_assoc}

-- ---- keys

abbrev pub Lower : ℕ → ℕ → List ℕ → List ℕ → Type 0
Lower a b j k = (a < b) ⊎ ((a ≡ b) × (is_below j k ≡ true))

pub lower : (a b : ℕ) (j k : List ℕ) → is_below (a ∷ j) (b ∷ k) ≡ true → Lower a b j k
unfolding is_below
lower a b j k e =
    elim (either (ltb a b) (eqb a b && is_below j k) e) [
      | inl h ↦ inl (ltb-true a b h)
      | inr h ↦ let p = both (eqb a b) (is_below j k) h in inr (eqb-true a b p.0, p.1)
    ]

pub below : (a b : ℕ) (j k : List ℕ) → Lower a b j k → is_below (a ∷ j) (b ∷ k) ≡ true
unfolding is_below
below a b j k (inl h) = rw (lt-ltb a b h)
below a b j k (inr p) = or-true (ltb a b) (eqb a b && is_below j k) (rw (eq-eqb a b p.0) p.1)

pub below-trans : (j k l : List ℕ) → is_below j k ≡ true → is_below k l ≡ true → is_below j l ≡ true
unfolding is_below
below-trans [] k l p q = absurd (false-true p)
below-trans (a ∷ j) [] l p q = absurd (false-true p)
below-trans (a ∷ j) (b ∷ k) [] p q = absurd (false-true q)
below-trans (a ∷ j) (b ∷ k) (c ∷ l) p q = below a c j l (join (lower a b j k p) (lower b c k l q) (below-trans j k l))
  where
    join : Lower a b j k → Lower b c k l → (is_below j k ≡ true → is_below k l ≡ true → is_below j l ≡ true) → Lower a c j l
    join (inl x) (inl y) rest = inl (omega arith)
    join (inl x) (inr y) rest = inl (omega (arith, y.0))
    join (inr x) (inl y) rest = inl (omega (arith, x.0))
    join (inr x) (inr y) rest = inr (x.0 ∙ y.0, rest x.1 y.1)

pub below-itself : (j : List ℕ) → is_below j j ≡ true → ⊥
unfolding is_below
below-itself [] h = false-true h
below-itself (a ∷ j) h = go (lower a a j j h) (below-itself j)
  where
    go : Lower a a j j → (is_below j j ≡ true → ⊥) → ⊥
    go (inl x) rest = omega arith
    go (inr x) rest = rest x.1

-- the state record with the key above is not earlier
pub time-not-below : (q r : StateRecord) → is_below (state_key q) (state_key r) ≡ true → q.time ≤ r.time
time-not-below q r h = go (lower q.time r.time (q.«module» ∷ []) (r.«module» ∷ []) h)
  where
    go : Lower q.time r.time (q.«module» ∷ []) (r.«module» ∷ []) → q.time ≤ r.time
    go (inl x) = omega arith
    go (inr x) = omega (arith, x.0)

-- of two state records of a module, the one with the key above is later
pub time-above : (q r : StateRecord) → q.«module» ≡ r.«module» → is_below (state_key q) (state_key r) ≡ true → q.time < r.time
unfolding is_below
time-above q r e h = go (lower q.time r.time (q.«module» ∷ []) (r.«module» ∷ []) h)
  where
    last : Lower q.«module» r.«module» [] [] → ⊥
    last (inl x) = omega (arith, e)
    last (inr x) = false-true x.1

    go : Lower q.time r.time (q.«module» ∷ []) (r.«module» ∷ []) → q.time < r.time
    go (inl x) = x
    go (inr x) = absurd (last (lower q.«module» r.«module» [] [] x.1))

-- of two keys with the same number in front, the rest of the one above is above
below_rest : (a b : ℕ) (j k : List ℕ) → a ≡ b → is_below (a ∷ j) (b ∷ k) ≡ true → is_below j k ≡ true
below_rest a b j k e h = go (lower a b j k h)
  where
    go : Lower a b j k → is_below j k ≡ true
    go (inl x) = absurd (omega (arith, e))
    go (inr x) = x.1

-- of two standards for a module and a recipe, the one with the key above starts later
pub start-above : (b s : Standard) → For s.«module» s.recipe b → is_below (standard_key b) (standard_key s) ≡ true → b.start < s.start
unfolding is_below
start-above b s e h =
    let rest : is_below (b.recipe ∷ b.start ∷ []) (s.recipe ∷ s.start ∷ []) ≡ true = below_rest b.«module» s.«module» (b.recipe ∷ b.start ∷ []) (s.recipe ∷ s.start ∷ []) e.0 h in
    go (lower b.start s.start [] [] (below_rest b.recipe s.recipe (b.start ∷ []) (s.start ∷ []) e.1 rest))
  where
    go : Lower b.start s.start [] [] → b.start < s.start
    go (inl x) = x
    go (inr x) = absurd (false-true x.1)

-- ---- rising lists

module _ {A : Type 0} (key : A → List ℕ) where
  -- each key of a list is above k
  abbrev pub AllAbove : List ℕ → List A → Type 0
  AllAbove k rs = Each (λ r. is_below k (key r) ≡ true) rs

  all_above : (j k : List ℕ) (rs : List A) → is_below j k ≡ true → AllAbove k rs → AllAbove j rs
  all_above j k [] h a = tt
  all_above j k (r ∷ rs) h a = (below-trans j k (key r) h a.0, all_above j k rs h a.1)

  pub rising_above : (r : A) (rs : List A) → is_rising_after key (some r) rs ≡ true → AllAbove (key r) rs
  unfolding is_rising_after
  rising_above r [] e = tt
  rising_above r (q ∷ rs) e =
      let p = both (is_below (key r) (key q)) (is_rising_after key (some q) rs) e in
      (p.0, all_above (key r) (key q) rs p.0 (rising_above q rs p.1))

  pub rising_tail : (before : Option A) (r : A) (rs : List A) → is_rising_after key before (r ∷ rs) ≡ true → is_rising_after key (some r) rs ≡ true
  unfolding is_rising_after
  rising_tail before r rs e = (both (is_after key before r) (is_rising_after key (some r) rs) e).1

  above-member : (k : List ℕ) {a : A} {rs : List A} → Memᴰ a rs → AllAbove k rs → is_below k (key a) ≡ true
  above-member k (Memᴰ.head e) h = rw e h.0
  above-member k (Memᴰ.tail m) h = above-member k m h.1

  -- each key of a list is below k
  abbrev pub AllBelow : List ℕ → List A → Type 0
  AllBelow k rs = Each (λ r. is_below (key r) k ≡ true) rs

  -- a record after the last of a rising list is above each of it
  all-below : (before : Option A) (rs : List A) (r : A) → is_rising_after key before rs ≡ true → is_after key (foldl (λ l q. some q) before rs) r ≡ true → AllBelow (key r) rs
  unfolding is_rising_after
  all-below before [] r e h = tt
  all-below before (q ∷ []) r e h = (h, tt)
  all-below before (q ∷ p ∷ rs) r e h =
      let rest = rising_tail before q (p ∷ rs) e in
      let more = all-below (some q) (p ∷ rs) r rest h in
      (below-trans (key q) (key p) (key r) (both (is_below (key q) (key p)) (is_rising_after key (some p) rs) rest).0 more.0, more)

  pub rising_below : (rs : List A) (r : A) → is_rising key rs ≡ true → is_after key (just_before rs) r ≡ true → AllBelow (key r) rs
  unfolding just_before
  rising_below rs r e h = all-below none rs r e h

  Within : List A → List A → Type 0
  Within xs ys = (a : A) → Memᴰ a xs → Memᴰ a ys

  -- rising lists that have the same members are the same
  same-members : (before ahead : Option A) (xs ys : List A) → is_rising_after key before xs ≡ true → is_rising_after key ahead ys ≡ true → Within xs ys → Within ys xs → xs ≡ ys
  unfolding Within
  same-members before ahead [] [] p q f g = refl
  same-members before ahead [] (y ∷ ys) p q f g = absurd (Memᴰ.not-nil (g y (Memᴰ.head refl)))
  same-members before ahead (x ∷ xs) [] p q f g = absurd (Memᴰ.not-nil (f x (Memᴰ.head refl)))
  same-members before ahead (x ∷ xs) (y ∷ ys) p q f g =
      let above-x : AllAbove (key x) xs = rising_above x xs (rising_tail before x xs p) in
      let above-y : AllAbove (key y) ys = rising_above y ys (rising_tail ahead y ys q) in
      let e : x ≡ y = heads above-x above-y (Memᴰ.cases_cons (f x (Memᴰ.head refl))) (Memᴰ.cases_cons (g y (Memᴰ.head refl))) in
      ap₂ ◌∷◌ e (
      same-members (some x) (some y) xs ys (rising_tail before x xs p) (rising_tail ahead y ys q)
      (λ a m. others (key x) xs ys y (ap key (sym e)) above-x m (Memᴰ.cases_cons (f a (Memᴰ.tail m))))
      (λ a m. others (key y) ys xs x (ap key e) above-y m (Memᴰ.cases_cons (g a (Memᴰ.tail m))))
      )
    where
      heads : AllAbove (key x) xs → AllAbove (key y) ys → (x ≡ y) ⊎ Memᴰ x ys → (y ≡ x) ⊎ Memᴰ y xs → x ≡ y
      heads u v (inl e) k = e
      heads u v (inr m) (inl e) = sym e
      heads u v (inr m) (inr n) = absurd (below-itself (key x) (below-trans (key x) (key y) (key x) (above-member (key x) n u) (above-member (key y) m v)))

      -- a member of a tail is not the head
      others : (k : List ℕ) (us vs : List A) (b : A) → key b ≡ k → AllAbove k us → {a : A} → Memᴰ a us → (a ≡ b) ⊎ Memᴰ a vs → Memᴰ a vs
      others k us vs b e u {a} m (inl q) =
          let w : key a ≡ k = ap key q ∙ e in
          absurd (below-itself k (rw w at (above-member k m u)))
      others k us vs b e u m (inr n) = n

  perm-member : {a : A} {xs ys : List A} → Permᴰ xs ys → Memᴰ a xs → Memᴰ a ys
  perm-member Permᴰ.nil m = m
  perm-member (Permᴰ.cons e d) m = elim (Memᴰ.cases_cons m) [ inl h ↦ Memᴰ.head (h ∙ e) | inr n ↦ Memᴰ.tail (perm-member d n) ]
  perm-member (Permᴰ.swap e d) m =
      elim (Memᴰ.cases_cons m) [
        | inl h ↦ Memᴰ.tail (Memᴰ.head (h ∙ e))
        | inr n ↦ elim (Memᴰ.cases_cons n) [ inl h ↦ Memᴰ.head (h ∙ d) | inr o ↦ Memᴰ.tail (Memᴰ.tail o) ]
      ]
  perm-member (Permᴰ.trans d e) m = perm-member e (perm-member d m)

  -- rising lists with the same members, or of the same records in whatever sequence, are the same
  pub rising_same : (xs ys : List A) → is_rising key xs ≡ true → is_rising key ys ≡ true → ((a : A) → Memᴰ a xs → Memᴰ a ys) → ((a : A) → Memᴰ a ys → Memᴰ a xs) → xs ≡ ys
  unfolding Within
  rising_same xs ys p q f g = same-members none none xs ys p q f g

  pub same_rising : (xs ys : List A) → is_rising key xs ≡ true → is_rising key ys ≡ true → Permᴰ xs ys → xs ≡ ys
  same_rising xs ys p q d = rising_same xs ys p q (λ a. perm-member d) (λ a. perm-member (Permᴰ.symm d))

-- ---- a list read record by record

module _ {A : Type 0} (key : A → List ℕ) where
  more-after : (before : Option A) (rs : List A) (r : A) → is_rising_after key before (rs ++ (r ∷ [])) ≡ is_rising_after key before rs && is_after key (foldl (λ l q. some q) before rs) r
  unfolding is_rising_after
  more-after before [] r = and-true (is_after key before r)
  more-after before (q ∷ rs) r = rw (more-after (some q) rs r) (and_assoc (is_after key before q) (is_rising_after key (some q) rs) _)

  -- one more record
  pub rising_more : (rs : List A) (r : A) → is_rising key (rs ++ (r ∷ [])) ≡ is_rising key rs && is_after key (just_before rs) r
  unfolding just_before
  rising_more rs r = more-after none rs r

  below_at : (k : List ℕ) (rs : List A) (i : ℕ) (d : A) → AllBelow key k rs → i < length rs → is_below (key (get_or rs i d)) k ≡ true
  below_at k [] i d b h = absurd (omega arith)
  below_at k (r ∷ rs) zero d b h = b.0
  below_at k (r ∷ rs) (suc i) d b h = below_at k rs i d b.1 (omega arith)

  -- of two records of a rising list, the earlier one has the lower key
  pub rising_pair : (at : ℕ → A) (n : ℕ) → is_rising key (up_to at n) ≡ true → (i j : ℕ) → i < j → j < n → is_below (key (at i)) (key (at j)) ≡ true
  unfolding up_to
  rising_pair at zero e i j h l = absurd (omega arith)
  rising_pair at (suc n) e i j h l =
      let p = both (is_rising key (up_to at n)) (is_after key (just_before (up_to at n)) (at n)) (sym (rising_more (up_to at n) (at n)) ∙ e) in
      elim (ℕ_discrete j n) [
        | yes q ↦
            let m : i < n = omega (arith, q) in
            let b = below_at (key (at n)) (up_to at n) i (at n) (rising_below key (up_to at n) (at n) p.0 p.1) (rw (length_up_to at n) m) in
            rw q (rw (up_to_at at n i (at n) m) at b)
        | no q ↦ rising_pair at n p.0 i j h (omega (arith, q))
      ]

-- the last of a list that ends in r
pub last_more : {A : Type 0} (rs : List A) (r : A) → just_before (rs ++ (r ∷ [])) ≡ some r
unfolding just_before
last_more rs r = foldl-append (λ l q. some q) none rs (r ∷ [])
