-- Wherever a subject's value changes, a list that gives it has a record of that subject at that time, and the records that are left are one for each such change. So no
-- list, rising or not, that gives the same values has fewer records, and a rising one has the same left.
-- Assumes nothing.
use mathlib.Core.Path.{◌≡◌, refl, sym, ap, ◌∙◌}
use mathlib.Core.Bool.{Bool, true, false, cond}
use mathlib.Core.Logic.{◌⊎◌, inl, inr}
use mathlib.Core.Option.{Option, none, some}
use mathlib.Core.List.Memᴰ
use mathlib.Core.List.{List, [], ◌∷◌, foldl, Memᴰ}
use Prim.Native.Nat.{ℕ, zero, suc, ◌≤◌, ◌<◌}
use native.Mathlib.Decide.{ℕ_discrete}
use native.Mathlib.Omega.{arith}
use lib.ListN.{length}
use Rattle.rules.specs.Lists.{Each, Before, Rises}
use Rattle.rules.proofs.Booleans.{false-true}
use Rattle.rules.proofs.Each.{each-so, each-both, rising}
use Rattle.rules.proofs.Sequence.{rising_same}
use Rattle.rules.proofs.Sound.{is-false}
use Rattle.sound.proofs.Force.{each-member, members-each}
use Rattle.packed.specs.Packed.{held_before, is_held, without}
use Rattle.packed.proofs.Changes.{Setting, same-truth, some-held, same-before, value_at, repeats, Later, Ascends, ascends, own-value, SameFor, repeats-alike}
use Rattle.packed.proofs.Without.{without-member, member-without, ordered-without}

-- ---- a list less one of its records

pub record Less {A : Type 0} (y : A) (ys : List A) : Type 0 where
  pub rest : List A
  pub size : length ys ≡ suc (length rest)
  pub others : (z : A) → Memᴰ z ys → (z ≡ y) ⊎ Memᴰ z rest

less : {A : Type 0} {y : A} (ys : List A) → Memᴰ y ys → Less y ys
less [] m = absurd (Memᴰ.not-nil m)
less {A} {y} (x ∷ ys) m = elim (Memᴰ.cases_cons m) [ inl e ↦ here e | inr n ↦ behind (less ys n) ]
  where
    here : y ≡ x → Less y (x ∷ ys)
    here e = record { rest = ys; size = refl; others = λ z k. elim (Memᴰ.cases_cons k) [ inl q ↦ inl (q ∙ sym e) | inr n ↦ inr n ] }

    behind : Less y ys → Less y (x ∷ ys)
    behind p =
        record {
          rest = x ∷ p.rest;
          size = ap suc p.size;
          others = λ z k. elim (Memᴰ.cases_cons k) [
            | inl q ↦ inr (Memᴰ.head q)
            | inr n ↦ elim (p.others z n) [ inl q ↦ inl q | inr o ↦ inr (Memᴰ.tail o) ]
          ];
        }

-- ---- a list read with a test

module _ {B X : Type 0} (next : B → X → B) where
  -- after those that pass
  abbrev pub passed : (X → Bool) → B → List X → B
  passed test = foldl (λ b x. cond (test x) (next b x) b)

  pub passed-same : (f g : X → Bool) (b : B) (xs : List X) → Each (λ x. f x ≡ g x) xs → passed f b xs ≡ passed g b xs
  passed-same f g b [] e = refl
  passed-same f g b (x ∷ xs) e = rw e.0 (passed-same f g (cond (g x) (next b x) b) xs e.1)

  pub passed-none : (f : X → Bool) (b : B) (xs : List X) → Each (λ x. f x ≡ false) xs → passed f b xs ≡ b
  passed-none f b [] e = refl
  passed-none f b (x ∷ xs) e = rw e.0 (passed-none f b xs e.1)

module _ {A K : Type 0} (kind : Setting A K) where
  -- ---- as many records as there are subjects and times

  -- a record of the list about subject k and at time n
  pub record Partner (k : K) (n : ℕ) (qs : List A) : Type 0 where
    pub it : A
    pub listed : Memᴰ it qs
    pub own : kind.subject it ≡ k
    pub moment : kind.time it ≡ n

  abbrev Matched : List A → A → Type 0
  Matched ys x = Partner (kind.subject x) (kind.time x) ys

  no-more : (xs ys : List A) → Ascends kind xs → Each (Matched ys) xs → length xs ≤ length ys
  no-more [] ys h p = omega arith
  no-more (x ∷ xs) ys h p =
      let d = less ys (p.0.listed) in
      let rest = no-more xs d.rest h.1 (each-both (Later kind x) (Matched ys) (Matched d.rest) (other p.0 d) xs h.0 p.1) in
      omega (arith, d.size, rest)
    where
      other : (w : Matched ys x) (d : Less (w.it) ys) (a : A) → Later kind x a → Matched ys a → Matched (d.rest) a
      other w d a l v =
          elim (d.others v.it v.listed) [
            | inl q ↦
                let s : kind.subject x ≡ kind.subject a = sym w.own ∙ ap (kind.subject) (sym q) ∙ v.own in
                let t : kind.time x ≡ kind.time a = sym w.moment ∙ ap (kind.time) (sym q) ∙ v.moment in
                absurd (omega (arith, l s, t))
            | inr n ↦ record { it = v.it; listed = n; own = v.own; moment = v.moment }
          ]

  -- ---- a value that changes

  -- what a list says of subject k at time t depends on which of its records are about k and have begun by t, and is nothing where none has
  pub record Depends (says : List A → K → ℕ → Option ℕ) : Type 0 where
    pub same : (qs : List A) (k : K) (t u : ℕ) → Each (λ a. kind.meets k t a ≡ kind.meets k u a) qs → says qs k t ≡ says qs k u
    pub empty : (qs : List A) (k : K) (t : ℕ) → Each (λ a. kind.meets k t a ≡ false) qs → says qs k t ≡ none

  module _ (says : List A → K → ℕ → Option ℕ) (depends : Depends says) where
    -- not about subject k and at time n
    abbrev Elsewhere : K → ℕ → A → Type 0
    Elsewhere k n a = kind.meets k n a ≡ true → kind.time a ≡ n → ⊥

    search-for : (qs : List A) (k : K) (n : ℕ) → Partner k n qs ⊎ Each (Elsewhere k n) qs
    search-for [] k n = inr tt
    search-for (r ∷ qs) k n =
        elim (search-for qs k n) [
          | inl p ↦ inl (record { it = p.it; listed = Memᴰ.tail p.listed; own = p.own; moment = p.moment })
          | inr f ↦ step (kind.meets k n r) refl (ℕ_discrete (kind.time r) n) f
        ]
      where
        step : (b : Bool) → kind.meets k n r ≡ b → Dec (kind.time r ≡ n) → Each (Elsewhere k n) qs → Partner k n (r ∷ qs) ⊎ Each (Elsewhere k n) (r ∷ qs)
        step true w (yes q) f = inl (record { it = r; listed = Memᴰ.head refl; own = (kind.met k n r w).0; moment = q })
        step true w (no q) f = inr (λ v e. q e, f)
        step false w d f = inr (λ v e. false-true (sym w ∙ v), f)

    changed : (qs : List A) (k : K) (n v : ℕ) → says qs k n ≡ some v → is_held (held_before (says qs k) n) v ≡ false → Partner k n qs
    changed qs k n v e h = elim (search-for qs k n) [ inl p ↦ p | inr f ↦ absurd (none-there n f e h) ]
      where
        none-there : (i : ℕ) → Each (Elsewhere k i) qs → says qs k i ≡ some v → is_held (held_before (says qs k) i) v ≡ false → ⊥
        none-there zero f e h =
            let z : says qs k 0 ≡ none
            = depends.empty qs k 0 (each-so (Elsewhere k 0) (λ a. kind.meets k 0 a ≡ false) (λ a g. is-false (kind.meets k 0 a) (λ w. g w (omega (arith, (kind.met k 0 a w).1)))) qs f) in
            let y : ◌≡◌ {A = ℕ} 0 1 = cc in
            omega arith
        none-there (suc i) f e h =
            let z : says qs k (suc i) ≡ says qs k i
            = depends.same qs k (suc i) i (each-so (Elsewhere k (suc i)) (λ a. kind.meets k (suc i) a ≡ kind.meets k i a) (λ a g. same-truth (kind.meets k (suc i) a) (kind.meets k i a)
            (λ w. let p = kind.met k (suc i) a w in kind.meet k i a p.0 (below a (g w) p.1 (ℕ_discrete (kind.time a) (suc i))))
            (λ w. let p = kind.met k i a w in kind.meet k (suc i) a p.0 (omega (arith, p.1)))) qs f) in
            false-true (sym h ∙ some-held (says qs k i) v (sym z ∙ e))
          where
            below : (a : A) → (kind.time a ≡ suc i → ⊥) → kind.time a ≤ suc i → Dec (kind.time a ≡ suc i) → kind.time a ≤ i
            below a g l (yes q) = absurd (g q)
            below a g l (no q) = omega (arith, q)

  pub value-depends : Depends (value_at kind)
  value-depends =
      record {
        same = λ rs k t u e. passed-same (λ found r. some (kind.value r)) (kind.meets k t) (kind.meets k u) none rs e;
        empty = λ rs k t e. passed-none (λ found r. some (kind.value r)) (kind.meets k t) none rs e;
      }

  -- ---- lists that give the same values

  -- good records begin below the period
  module _ (period : ℕ) (Good : A → Type 0) (early : (r : A) → Good r → kind.time r < period) where
    pub fewest : (says : List A → K → ℕ → Option ℕ) → Depends says → (rs qs : List A) → Rises (kind.key) rs → Each Good rs
        → ((r : A) → Good r → (t : ℕ) → t < period → says qs (kind.subject r) t ≡ value_at kind rs (kind.subject r) t) → length (without (repeats kind rs) rs) ≤ length qs
    fewest says depends rs qs up good same =
        let asc = ascends kind rs up in
        no-more (without (repeats kind rs) rs) qs (ordered-without (repeats kind rs) (Later kind) rs asc) (members-each (Matched qs) (without (repeats kind rs) rs) (λ a m.
        let p = without-member (repeats kind rs) rs m in
        let g = each-member Good p.0 good in
        let l = early a g in
        changed says depends qs (kind.subject a) (kind.time a) (kind.value a) (same a g (kind.time a) l ∙ own-value kind rs none asc p.0)
        (ap (λ (o : Option ℕ). is_held o (kind.value a)) (same-before period (kind.time a) (says qs (kind.subject a)) (value_at kind rs (kind.subject a)) l (same a g)) ∙ p.1)))

    module _ (alike : (q r : A) → Good q → Good r → kind.subject q ≡ kind.subject r → kind.time q ≡ kind.time r → kind.value q ≡ kind.value r → q ≡ r) where
      -- a record that repeats nothing is in each rising list that gives the same values
      new-in-both : (rs qs : List A) (r : A) → Ascends kind rs → Ascends kind qs → Each Good qs → Good r → Memᴰ r rs → SameFor kind period rs qs r → repeats kind rs r ≡ false → Memᴰ r qs
      new-in-both rs qs r up uq good g m same e =
          let l = early r g in
          let v : value_at kind qs (kind.subject r) (kind.time r) ≡ some (kind.value r) = sym (same (kind.time r) l) ∙ own-value kind rs none up m in
          let w = changed (value_at kind) value-depends qs (kind.subject r) (kind.time r) (kind.value r) v (sym (repeats-alike kind period rs qs r l same) ∙ e) in
          let u : value_at kind qs (kind.subject r) (kind.time r) ≡ some (kind.value w.it) = rw (w.own, w.moment) at (own-value kind qs none uq w.listed) in
          let z : some (kind.value w.it) ≡ some (kind.value r) = sym u ∙ v in
          let q : w.it ≡ r = alike w.it r (each-member Good w.listed good) g w.own w.moment cc in
          rw q at w.listed

      left-in-both : (rs qs : List A) → Ascends kind rs → Ascends kind qs → Each Good rs → Each Good qs → ((r : A) → Good r → SameFor kind period rs qs r)
          → (a : A) → Memᴰ a (without (repeats kind rs) rs) → Memᴰ a (without (repeats kind qs) qs)
      left-in-both rs qs up uq good other same a m =
          let p = without-member (repeats kind rs) rs m in
          let g = each-member Good p.0 good in
          let s = same a g in
          member-without (repeats kind qs) qs (new-in-both rs qs a up uq other g p.0 s p.1) (sym (repeats-alike kind period rs qs a (early a g) s) ∙ p.1)

      pub same-left : (rs qs : List A) → Rises (kind.key) rs → Rises (kind.key) qs → Each Good rs → Each Good qs → ((r : A) → Good r → SameFor kind period rs qs r)
          → without (repeats kind rs) rs ≡ without (repeats kind qs) qs
      same-left rs qs up uq good other same =
          rising_same (kind.key) (without (repeats kind rs) rs) (without (repeats kind qs) qs)
          (rising (kind.key) _ (ordered-without (repeats kind rs) (Before (kind.key)) rs up))
          (rising (kind.key) _ (ordered-without (repeats kind qs) (Before (kind.key)) qs uq))
          (left-in-both rs qs (ascends kind rs up) (ascends kind qs uq) good other same)
          (left-in-both qs rs (ascends kind qs uq) (ascends kind rs up) other good (λ r g t l. sym (same r g t l)))
