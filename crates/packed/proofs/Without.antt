-- The records of a list that do not meet a test are records of the list, no more of them, and come as they did there.
-- Assumes nothing.
use mathlib.Core.Path.{◌≡◌, refl, sym, ap, ◌∙◌}
use mathlib.Core.Bool.{Bool, true, false, cond}
use mathlib.Core.Logic.{◌⊎◌, inl, inr}
use mathlib.Core.List.Memᴰ
use mathlib.Core.List.{List, [], ◌∷◌, ◌++◌, Memᴰ}
use Prim.Native.Nat.{suc, ◌≤◌}
use native.Mathlib.Nat.{le_refl}
use native.Mathlib.Omega.{arith}
use lib.ListN.{length}
use Rattle.rules.specs.Lists.{Each, Ordered}
use Rattle.rules.proofs.Booleans.{false-true}
use Rattle.packed.specs.Packed.{without}

module _ {A : Type 0} (test : A → Bool) where
  pub without-member : {a : A} (rs : List A) → Memᴰ a (without test rs) → Memᴰ a rs × (test a ≡ false)
  unfolding without
  without-member [] m = absurd (Memᴰ.not-nil m)
  without-member {a} (r ∷ rs) m = step (test r) refl m (without-member rs)
    where
      step : (b : Bool) → test r ≡ b → Memᴰ a (cond b (without test rs) (r ∷ without test rs)) → (Memᴰ a (without test rs) → Memᴰ a rs × (test a ≡ false)) → Memᴰ a (r ∷ rs) × (test a ≡ false)
      step true e m rest = let p = rest m in (Memᴰ.tail p.0, p.1)
      step false e m rest = elim (Memᴰ.cases_cons m) [ inl q ↦ (Memᴰ.head q, ap test q ∙ e) | inr n ↦ let p = rest n in (Memᴰ.tail p.0, p.1) ]

  pub member-without : {a : A} (rs : List A) → Memᴰ a rs → test a ≡ false → Memᴰ a (without test rs)
  unfolding without
  member-without [] m t = absurd (Memᴰ.not-nil m)
  member-without {a} (r ∷ rs) m t = step (test r) refl (Memᴰ.cases_cons m) (λ n. member-without rs n t)
    where
      step : (b : Bool) → test r ≡ b → (a ≡ r) ⊎ Memᴰ a rs → (Memᴰ a rs → Memᴰ a (without test rs)) → Memᴰ a (cond b (without test rs) (r ∷ without test rs))
      step true e (inl q) rest = absurd (false-true (sym t ∙ ap test q ∙ e))
      step true e (inr n) rest = rest n
      step false e (inl q) rest = Memᴰ.head q
      step false e (inr n) rest = Memᴰ.tail (rest n)

  pub length-without : (rs : List A) → length (without test rs) ≤ length rs
  unfolding without
  length-without [] = le_refl 0
  length-without (r ∷ rs) = step (test r) (length-without rs)
    where
      step : (b : Bool) → length (without test rs) ≤ length rs → length (cond b (without test rs) (r ∷ without test rs)) ≤ suc (length rs)
      step true h = omega arith
      step false h = omega arith

  pub each-without : (P : A → Type 0) (rs : List A) → Each P rs → Each P (without test rs)
  unfolding without
  each-without P [] e = tt
  each-without P (r ∷ rs) e = step (test r) (each-without P rs e.1)
    where
      step : (b : Bool) → Each P (without test rs) → Each P (cond b (without test rs) (r ∷ without test rs))
      step true f = f
      step false f = (e.0, f)

  pub ordered-without : (Below : A → A → Type 0) (rs : List A) → Ordered Below rs → Ordered Below (without test rs)
  unfolding without
  ordered-without Below [] e = tt
  ordered-without Below (r ∷ rs) e = step (test r) (ordered-without Below rs e.1)
    where
      step : (b : Bool) → Ordered Below (without test rs) → Ordered Below (cond b (without test rs) (r ∷ without test rs))
      step true f = f
      step false f = (each-without (Below r) rs e.0, f)

  -- one more record
  pub without-more : (rs : List A) (r : A) → without test (rs ++ (r ∷ [])) ≡ without test rs ++ cond (test r) [] (r ∷ [])
  unfolding without
  without-more [] r = refl
  without-more (q ∷ rs) r = step (test q) (without-more rs r)
    where
      step : (b : Bool) → without test (rs ++ (r ∷ [])) ≡ without test rs ++ cond (test r) [] (r ∷ [])
          → cond b (without test (rs ++ (r ∷ []))) (q ∷ without test (rs ++ (r ∷ []))) ≡ cond b (without test rs) (q ∷ without test rs) ++ cond (test r) [] (r ∷ [])
      step true e = e
      step false e = ap (λ (l : List A). q ∷ l) e

-- tests that agree on a list's records
pub without-same : {A : Type 0} (f g : A → Bool) (rs : List A) → Each (λ r. f r ≡ g r) rs → without f rs ≡ without g rs
unfolding without
without-same f g [] h = refl
without-same f g (r ∷ rs) h = rw (h.0, without-same f g rs h.1)
