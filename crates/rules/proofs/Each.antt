-- Each of a list has a property, and each comes before all behind it: the two facts that an accepted list comes down to.
-- Assumes nothing.
use mathlib.Core.Path.{◌≡◌, refl, sym}
use mathlib.Core.Bool.{true}
use mathlib.Core.Option.{Option, none, some}
use mathlib.Core.List.{List, [], ◌∷◌, ◌++◌, map, foldl}
use Prim.Native.Nat.{ℕ}
use native.Mathlib.Omega.{arith}
use Rattle.rules.specs.Sequence.{just_before, is_after, is_rising_after, is_rising}
use Rattle.rules.specs.Lists.{Each, Ordered, Before, Rises}
use Rattle.rules.proofs.Sequence.{rising_above, rising_tail}

-- ---- each

module _ {A : Type 0} where
  pub each-so : (P Q : A → Type 0) → ((r : A) → P r → Q r) → (rs : List A) → Each P rs → Each Q rs
  each-so P Q h [] e = tt
  each-so P Q h (r ∷ rs) e = (h r e.0, each-so P Q h rs e.1)

  -- two properties make a third
  pub each-both : (P Q R : A → Type 0) → ((r : A) → P r → Q r → R r) → (rs : List A) → Each P rs → Each Q rs → Each R rs
  each-both P Q R h [] e f = tt
  each-both P Q R h (r ∷ rs) e f = (h r e.0 f.0, each-both P Q R h rs e.1 f.1)

  pub each-append : (P : A → Type 0) (rs qs : List A) → Each P rs → Each P qs → Each P (rs ++ qs)
  each-append P [] qs e f = f
  each-append P (r ∷ rs) qs e f = (e.0, each-append P rs qs e.1 f)

  pub each-left : (P : A → Type 0) (rs qs : List A) → Each P (rs ++ qs) → Each P rs
  each-left P [] qs e = tt
  each-left P (r ∷ rs) qs e = (e.0, each-left P rs qs e.1)

  pub each-right : (P : A → Type 0) (rs qs : List A) → Each P (rs ++ qs) → Each P qs
  each-right P [] qs e = e
  each-right P (r ∷ rs) qs e = each-right P rs qs e.1

  pub each-map : {B : Type 0} (f : B → A) (P : B → Type 0) (Q : A → Type 0) → ((r : B) → P r → Q (f r)) → (rs : List B) → Each P rs → Each Q (map f rs)
  each-map f P Q h [] e = tt
  each-map f P Q h (r ∷ rs) e = (h r e.0, each-map f P Q h rs e.1)

  pub each-image : {B : Type 0} (f : B → A) (Q : A → Type 0) → ((r : B) → Q (f r)) → (rs : List B) → Each Q (map f rs)
  each-image f Q h [] = tt
  each-image f Q h (r ∷ rs) = (h r, each-image f Q h rs)

-- ---- each before all behind it

module _ {A : Type 0} (key : A → List ℕ) where
  rises-after : (before : Option A) (rs : List A) → is_rising_after key before rs ≡ true → Rises key rs
  rises-after before [] e = tt
  rises-after before (r ∷ rs) e =
      let t = rising_tail key before r rs e in
      (rising_above key r rs t, rises-after (some r) rs t)

  pub rises : (rs : List A) → is_rising key rs ≡ true → Rises key rs
  rises rs e = rises-after none rs e

  -- and back
  rising-after : (before : Option A) (rs : List A) → Rises key rs → ((b : A) → before ≡ some b → Each (Before key b) rs) → is_rising_after key before rs ≡ true
  unfolding is_rising_after
  rising-after none [] u k = refl
  rising-after (some b) [] u k = refl
  rising-after none (r ∷ rs) u k = rising-after (some r) rs u.1 (λ b e. let q : r ≡ b = cc in rw (sym q) u.0)
  rising-after (some b) (r ∷ rs) u k = rw (k b refl).0 (rising-after (some r) rs u.1 (λ c e. let q : r ≡ c = cc in rw (sym q) u.0))

  pub rising : (rs : List A) → Rises key rs → is_rising key rs ≡ true
  rising rs u = rising-after none rs u (λ b e. absurd (nothing b e))
    where
      nothing : (b : A) → none ≡ some b → ⊥
      nothing b e = let z : ◌≡◌ {A = ℕ} 0 1 = cc in omega arith

  pub rises-append : (rs qs : List A) → Rises key rs → Rises key qs → Each (λ r. Each (Before key r) qs) rs → Rises key (rs ++ qs)
  rises-append [] qs e f x = f
  rises-append (r ∷ rs) qs e f x = (each-append (Before key r) rs qs e.0 x.0, rises-append rs qs e.1 f x.1)

  pub rises-map : {B : Type 0} (f : B → A) (Below : B → B → Type 0) → ((r q : B) → Below r q → Before key (f r) (f q)) → (rs : List B) → Ordered Below rs → Rises key (map f rs)
  rises-map f Below h [] e = tt
  rises-map f Below h (r ∷ rs) e = (each-map f (Below r) (Before key (f r)) (λ q b. h r q b) rs e.0, rises-map f Below h rs e.1)

  -- after all of a list is after its last
  pub after-each : (before : Option A) (earlier : List A) (r : A) → is_after key before r ≡ true → Each (λ q. Before key q r) earlier → is_after key (foldl (λ l q. some q) before earlier) r ≡ true
  after-each before [] r h e = h
  after-each before (q ∷ qs) r h e = after-each (some q) qs r e.0 e.1

  pub after-all : (earlier : List A) (r : A) → Each (λ q. Before key q r) earlier → is_after key (just_before earlier) r ≡ true
  unfolding just_before
  after-all earlier r e = after-each none earlier r refl e
