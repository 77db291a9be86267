-- The laws of `count`: its bound, and how it grows over a stretch.
-- Assumes nothing.
use mathlib.Core.Path.{◌≡◌, refl, ap, ap₂, ◌∙◌}
use mathlib.Core.Bool.{Bool, true, false, cond}
use Prim.Native.Nat.{ℕ, zero, suc, ◌+◌, ◌-◌, ◌≤◌, ◌<◌, zero-le}
use native.Mathlib.Nat.{le_refl, add-zero, add-suc}
use native.Mathlib.Omega.{arith}
use Rattle.rules.specs.Time.{count}

-- a count is at most the number counted over
pub count-le : (p : ℕ → Bool) (n : ℕ) → count p n ≤ n
unfolding count
count-le p zero = zero-le
count-le p (suc n) = go (p n) (count-le p n)
  where
    go : (b : Bool) → count p n ≤ n → cond b 1 0 + count p n ≤ suc n
    go true h = omega arith
    go false h = omega arith

-- two tests that agree below n have one count there
pub count-agree : (p q : ℕ → Bool) (n : ℕ) → ((t : ℕ) → t < n → p t ≡ q t) → count p n ≡ count q n
unfolding count
count-agree p q zero h = refl
count-agree p q (suc n) h = ap₂ (λ (b : Bool) (x : ℕ). cond b 1 0 + x) (h n (le_refl (suc n))) (count-agree p q n (λ t l. h t (omega arith)))

stretch : (p : ℕ → Bool) (v : Bool) (a d : ℕ) → ((t : ℕ) → a ≤ t → t < a + d → p t ≡ v) → count p (a + d) ≡ count p a + cond v d 0
unfolding count
stretch p v a zero h = ap (count p) (add-zero a) ∙ go v
  where
    go : (b : Bool) → count p a ≡ count p a + cond b 0 0
    go true = omega arith
    go false = omega arith
stretch p v a (suc d) h =
    ap (count p) (add-suc a d)
    ∙ ap (λ (b : Bool). cond b 1 0 + count p (a + d)) (h (a + d) (omega arith) (omega arith))
    ∙ go v (stretch p v a d (λ t l u. h t l (omega arith)))
  where
    go : (b : Bool) → count p (a + d) ≡ count p a + cond b d 0 → cond b 1 0 + count p (a + d) ≡ count p a + cond b (suc d) 0
    go true e = omega arith
    go false e = omega arith

-- over a stretch on which the test is constant the count grows by the stretch's length, or not at all
pub count-stretch : (p : ℕ → Bool) (v : Bool) (a b : ℕ) → a ≤ b → ((t : ℕ) → a ≤ t → t < b → p t ≡ v) → count p b ≡ count p a + cond v (b - a) 0
count-stretch p v a b l h =
    let e : a + (b - a) ≡ b = omega arith in
    rw e at (stretch p v a (b - a) (λ t x y. h t x (omega arith)))

-- two tests that agree from a on have counts that grow alike there
alike : (p q : ℕ → Bool) (a d : ℕ) → ((t : ℕ) → a ≤ t → p t ≡ q t) → count p (a + d) + count q a ≡ count q (a + d) + count p a
unfolding count
alike p q a zero h = rw add-zero (omega arith)
alike p q a (suc d) h = rw (add-suc, h (a + d) (omega arith)) (omega (arith, alike p q a d h))

pub count-alike : (p q : ℕ → Bool) (a b : ℕ) → a ≤ b → ((t : ℕ) → a ≤ t → p t ≡ q t) → count p b + count q a ≡ count q b + count p a
count-alike p q a b l h =
    let e : a + (b - a) ≡ b = omega arith in
    rw e at (alike p q a (b - a) h)
