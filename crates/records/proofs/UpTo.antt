-- A list made of at 0, at 1, .. : its length, its elements and its front.
-- Assumes nothing.
use mathlib.Core.Path.{◌≡◌, refl, sym, ap, ◌∙◌}
use mathlib.Core.List.{List, [], ◌∷◌, ◌++◌, map, map-append}
use Prim.Native.Nat.{ℕ, zero, suc, ◌+◌, ◌<◌}
use native.Mathlib.Numerals.{add-one}
use native.Mathlib.Decide.{dec_lt}
use native.Mathlib.Omega.{arith}
use lib.ListN.{length, get_or, length-append, get_or-append}
use lib.Seq.{get_or-append_seam, ext_get_or}
use Rattle.records.specs.Log.{up_to}

module _ {A : Type 0} (at : ℕ → A) where
  pub length_up_to : (n : ℕ) → length (up_to at n) ≡ n
  unfolding up_to
  length_up_to zero = refl
  length_up_to (suc n) = rw (length-append (up_to at n) (at n ∷ []), length_up_to n) (omega arith)

  pub up_to_more : (n : ℕ) → up_to at (n + 1) ≡ up_to at n ++ (at n ∷ [])
  unfolding up_to
  up_to_more n = rw (add-one n)

  -- the i-th element of a decoded list is what is read at i
  pub up_to_at : (n i : ℕ) (d : A) → i < n → get_or (up_to at n) i d ≡ at i
  unfolding up_to
  up_to_at zero i d h = absurd (omega arith)
  up_to_at (suc n) i d h =
      elim (dec_lt i n) [
        | yes l ↦ get_or-append (up_to at n) (at n ∷ []) d i (rw (length_up_to n) l) ∙ up_to_at n i d l
        | no l ↦
            let e : i ≡ n = omega arith in
            rw e (ap (λ (k : ℕ). get_or (up_to at n ++ (at n ∷ [])) k d) (sym (length_up_to n)) ∙ get_or-append_seam (up_to at n) (at n) [] d)
      ]

  -- a list whose elements are at 0, at 1, .. is that list
  pub up_to_all : (xs : List A) (d : A) → ((i : ℕ) → i < length xs → at i ≡ get_or xs i d) → up_to at (length xs) ≡ xs
  up_to_all xs d h = ext_get_or d (up_to at (length xs)) xs (length_up_to (length xs)) (λ i l. let m : i < length xs = omega (arith, length_up_to (length xs)) in up_to_at (length xs) i d m ∙ h i m)

-- each of them by f
pub map-up_to : {A B : Type 0} (f : A → B) (at : ℕ → A) (n : ℕ) → map f (up_to at n) ≡ up_to (λ i. f (at i)) n
unfolding up_to
map-up_to f at zero = refl
map-up_to f at (suc n) = map-append f (up_to at n) (at n ∷ []) ∙ ap (λ (xs : List _). xs ++ (f (at n) ∷ [])) (map-up_to f at n)
