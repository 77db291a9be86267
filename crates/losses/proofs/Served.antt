-- Who is served: of k that go one each to the largest of n remainders just k are given, and no part that goes without has a larger remainder than one that
-- is served.
-- Assumes nothing.
use mathlib.Core.Path.{◌≡◌, refl, sym, ap, ap₂, ◌∙◌}
use mathlib.Core.Logic.{inl, inr}
use mathlib.Core.Bool.{Bool, true, false, cond, true≢false}
use Prim.Native.Nat.{ℕ, zero, suc, ◌+◌, ◌≤◌, ◌<◌, zero-le}
use native.Mathlib.Numerals.{add-one}
use native.Mathlib.Omega.{arith}
use lib.Dec.{ltb}
use borrow.Author.Tests.{lt-ltb, le-ltb, ltb-true, ltb-false, eq-eqb, ne_eqb}
use Rattle.std.proofs.lemmas.Bool.{cases_lt}
use Rattle.rules.specs.Quantities.{sum_below}
use Rattle.rules.specs.Time.{count}
use Rattle.rules.proofs.SumLaws.{sum_same, sum-le, sum-lt}
use Rattle.losses.specs.Losses.{ahead_of, served}

-- ---- how many pass a test, as a sum

-- 1 where a test passes
abbrev pub one : Bool → ℕ
one b = cond b 1 0

pub counted : (p : ℕ → Bool) (n : ℕ) → count p n ≡ sum_below (λ i. one (p i)) n
unfolding count sum_below
counted p zero = refl
counted p (suc n) = omega (arith, counted p n)

pub count-more : (p : ℕ → Bool) (n : ℕ) → count p (n + 1) ≡ count p n + one (p n)
unfolding count
count-more p n = rw add-one (omega arith)

one-le : (p q : Bool) → (p ≡ true → q ≡ true) → one p ≤ one q
one-le true q h = rw (h refl) (omega arith)
one-le false q h = zero-le

agree : (p q : ℕ → Bool) (n : ℕ) → ((i : ℕ) → i < n → p i ≡ q i) → count p n ≡ count q n
agree p q n h = counted p n ∙ sum_same _ _ n (λ i l. ap one (h i l)) ∙ sym (counted q n)

pub count-le : (p : ℕ → Bool) (n : ℕ) → count p n ≤ n
unfolding count
count-le p zero = zero-le
count-le p (suc n) = omega (arith, count-le p n, one-le (p n) true (λ e. refl))

module _ (rest : ℕ → ℕ) where
  -- ---- the sequence in which they are served

  larger : (i j : ℕ) → rest i < rest j → ahead_of rest i j ≡ true
  unfolding ahead_of
  larger i j h = rw (lt-ltb (rest i) (rest j) h)

  smaller : (i j : ℕ) → rest j < rest i → ahead_of rest i j ≡ false
  unfolding ahead_of
  smaller i j h = rw (le-ltb (rest i) (rest j) (omega arith), ne_eqb (rest i) (rest j) (λ e. omega arith))

  tie : (i j : ℕ) → rest i ≡ rest j → ahead_of rest i j ≡ ltb j i
  unfolding ahead_of
  tie i j e = rw (le-ltb (rest i) (rest j) (omega arith), eq-eqb (rest i) (rest j) e)

  -- j ahead of i: no smaller remainder, and where they tie j is the earlier
  ahead : (i j : ℕ) → ahead_of rest i j ≡ true → (rest i ≤ rest j) × (rest j ≤ rest i → j < i)
  ahead i j e = elim (cases_lt (rest i) (rest j)) [
    | inl l ↦ omega arith
    | inr k ↦ elim (cases_lt (rest j) (rest i)) [
      | inl g ↦ let z : true ≡ false = sym e ∙ smaller i j g in absurd (true≢false z)
      | inr g ↦ let t : ltb j i ≡ true = sym (tie i j (omega arith)) ∙ e in (omega arith, λ h. ltb-true j i t)
    ]
  ]

  not-ahead : (i j : ℕ) → ahead_of rest i j ≡ false → (rest j ≤ rest i) × (rest i ≤ rest j → i ≤ j)
  not-ahead i j e = elim (cases_lt (rest i) (rest j)) [
    | inl l ↦ let z : true ≡ false = sym (larger i j l) ∙ e in absurd (true≢false z)
    | inr k ↦ elim (cases_lt (rest j) (rest i)) [
      | inl g ↦ omega arith
      | inr g ↦ let t : ltb j i ≡ false = sym (tie i j (omega arith)) ∙ e in (omega arith, λ h. ltb-false j i t)
    ]
  ]

  is-ahead : (i j : ℕ) → rest i ≤ rest j → (rest j ≤ rest i → j < i) → ahead_of rest i j ≡ true
  is-ahead i j l h = elim (cases_lt (rest i) (rest j)) [
    | inl g ↦ larger i j g
    | inr g ↦ tie i j (omega arith) ∙ lt-ltb j i (h g)
  ]

  in-turn : (i j k : ℕ) → ahead_of rest i j ≡ true → ahead_of rest j k ≡ true → ahead_of rest i k ≡ true
  in-turn i j k p q =
      let a = ahead i j p in
      let b = ahead j k q in
      is-ahead i k (omega arith) (λ h. omega (arith, a.1 (omega arith), b.1 (omega arith)))

  not-itself : (i : ℕ) → ahead_of rest i i ≡ false
  not-itself i = tie i i refl ∙ le-ltb i i (omega arith)

  -- ---- how many are ahead of a part

  abbrev rank : ℕ → ℕ → ℕ
  rank n i = count (ahead_of rest i) n

  rank-le : (n i j : ℕ) → ahead_of rest i j ≡ true → rank n j ≤ rank n i
  rank-le n i j e = rw (counted, counted) (sum-le _ _ n (λ k h. one-le (ahead_of rest j k) (ahead_of rest i k) (in-turn i j k e)))

  rank-lt : (n i j : ℕ) → j < n → ahead_of rest i j ≡ true → rank n j < rank n i
  rank-lt n i j l e =
      rw (counted, counted) (sum-lt _ _ n j l (rw (not-itself j, e) (omega arith)) (λ k h. one-le (ahead_of rest j k) (ahead_of rest i k) (in-turn i j k e)))

  -- ---- just k are served
  -- one part more, n: where at least k are ahead of it it gets none and alters nothing, else it takes one

  few : (n k i : ℕ) → k ≤ rank n n → ltb (one (ahead_of rest i n) + rank n i) k ≡ ltb (rank n i) k
  few n k i l = go (ahead_of rest i n) refl
    where
      go : (b : Bool) → ahead_of rest i n ≡ b → ltb (one b + rank n i) k ≡ ltb (rank n i) k
      go true e = let h = rank-le n i n e in le-ltb (1 + rank n i) k (omega arith) ∙ sym (le-ltb (rank n i) k (omega arith))
      go false e = ap (λ (x : ℕ). ltb x k) (omega arith)

  many : (n k i : ℕ) → i < n → rank n n ≤ k → ltb (one (ahead_of rest i n) + rank n i) (suc k) ≡ ltb (rank n i) k
  many n k i l m = go (ahead_of rest i n) refl
    where
      go : (b : Bool) → ahead_of rest i n ≡ b → ltb (one b + rank n i) (suc k) ≡ ltb (rank n i) k
      go true e = elim (cases_lt (rank n i) k) [
        | inl g ↦ lt-ltb (1 + rank n i) (suc k) (omega arith) ∙ sym (lt-ltb (rank n i) k g)
        | inr g ↦ le-ltb (1 + rank n i) (suc k) (omega arith) ∙ sym (le-ltb (rank n i) k g)
      ]
      go false e =
          let f = not-ahead i n e in
          let p : ahead_of rest n i ≡ true = is-ahead n i f.0 (λ h. l) in
          let h = rank-lt n n i l p in
          lt-ltb (0 + rank n i) (suc k) (omega arith) ∙ sym (lt-ltb (rank n i) k (omega arith))

  own : (n k : ℕ) → ltb (one (ahead_of rest n n) + rank n n) k ≡ ltb (rank n n) k
  own n k = rw (not-itself n) (ap (λ (x : ℕ). ltb x k) (omega arith))

  with-few : (n k : ℕ) → k ≤ rank n n → count (served rest (suc n) k) (suc n) ≡ count (served rest n k) n
  unfolding served count
  with-few n k l =
      ap₂ (λ (b : Bool) (x : ℕ). one b + x) (own n k ∙ le-ltb (rank n n) k l) (agree _ _ n (λ i h. few n k i l))
      ∙ omega arith

  with-many : (n k : ℕ) → rank n n ≤ k → count (served rest (suc n) (suc k)) (suc n) ≡ suc (count (served rest n k) n)
  unfolding served count
  with-many n k l =
      ap₂ (λ (b : Bool) (x : ℕ). one b + x) (own n (suc k) ∙ lt-ltb (rank n n) (suc k) (omega arith)) (agree _ _ n (λ i h. many n k i h l))
      ∙ omega arith

  none : (k : ℕ) → k ≤ 0 → count (served rest 0 k) 0 ≡ k
  unfolding count
  none k h = omega arith

  pub just-as-many : (n k : ℕ) → k ≤ n → count (served rest n k) n ≡ k
  just-as-many zero k h = none k h
  just-as-many (suc n) zero h = with-few n zero zero-le ∙ just-as-many n zero zero-le
  just-as-many (suc n) (suc k) h = elim (cases_lt k (rank n n)) [
    | inl l ↦ with-few n (suc k) l ∙ just-as-many n (suc k) (omega (arith, count-le (ahead_of rest n) n))
    | inr l ↦ with-many n k l ∙ ap suc (just-as-many n k (omega arith))
  ]

  -- ---- who goes without has no larger remainder than who is served

  pub no-larger : (n k i j : ℕ) → i < n → j < n → served rest n k i ≡ true → served rest n k j ≡ false → rest j ≤ rest i
  unfolding served
  no-larger n k i j l m s w = elim (cases_lt (rest i) (rest j)) [
    | inl g ↦ omega (arith, rank-lt n i j m (larger i j g), ltb-true (rank n i) k s, ltb-false (rank n j) k w)
    | inr g ↦ g
  ]
