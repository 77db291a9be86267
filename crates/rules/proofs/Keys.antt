-- Keys as numbers: of two keys whose numbers fit their places the lower one is the lesser number. So one comparison tests the sequence of the next record.
-- Assumes nothing.
use mathlib.Core.Path.{◌≡◌, refl, sym, ◌∙◌}
use mathlib.Core.Bool.{Bool, true, false, ◌&&◌, ◌||◌}
use mathlib.Core.List.{List, [], ◌∷◌, ◌++◌}
use Prim.Native.Nat.{ℕ, suc, ◌+◌, ◌*◌, ◌^◌, ◌<◌}
use native.Mathlib.Nat.{mul-le-mul_right}
use native.Mathlib.Decide.{ℕ_discrete, dec_lt}
use native.Mathlib.Omega.{arith}
use lib.Dec.{ltb, eqb}
use borrow.Author.Tests.{eq-eqb, ne_eqb, lt-ltb, le-ltb}
use Rattle.records.specs.declared.StateRecord.{StateRecord}
use Rattle.records.specs.declared.Standard.{Standard}
use Rattle.records.specs.declared.UnitRecord.{UnitRecord}
use Rattle.rules.specs.Sequence.{is_below, just_before, is_after, is_rising_after, is_rising, state_key, standard_key, unit_key}
use Rattle.rules.specs.Keys.{Sequenced, state_number, StateFits, standard_number, StandardFits, unit_number, UnitFits}
use Rattle.rules.proofs.Booleans.{both_true}
use Rattle.rules.proofs.Sequence.{rising_more, last_more}

-- ---- keys as numbers

below_one : (a b : ℕ) → is_below (a ∷ []) (b ∷ []) ≡ ltb a b
unfolding is_below
below_one a b = go (ltb a b) (eqb a b)
  where
    go : (x y : Bool) → x || (y && false) ≡ x
    go true y = refl
    go false true = refl
    go false false = refl

-- two numbers, and the same two with n more
raised : (n x y s t : ℕ) → s ≡ n + x → t ≡ n + y → ltb x y ≡ ltb s t
raised n x y s t d e = elim (dec_lt x y) [ yes h ↦ lt-ltb x y h ∙ sym (lt-ltb s t (omega arith)) | no h ↦ le-ltb x y (omega arith) ∙ sym (le-ltb s t (omega arith)) ]

-- a number ahead of two keys that are compared as x and y, both below w
below_more : (w a b x y : ℕ) (j k : List ℕ) → x < w → y < w → is_below j k ≡ ltb x y → is_below (a ∷ j) (b ∷ k) ≡ ltb (a * w + x) (b * w + y)
unfolding is_below
below_more w a b x y j k p q e =
    elim (dec_lt a b) [
      | yes l ↦ rw (lt-ltb a b l) (sym (lt-ltb (a * w + x) (b * w + y) (omega (arith, mul-le-mul_right {m = suc a} {n = b} w l))))
      | no l ↦ elim (ℕ_discrete a b) [
        | yes o ↦ rw (le-ltb a b (omega arith), eq-eqb a b o, e, o) (raised (b * w) x y (b * w + x) (b * w + y) refl refl)
        | no o ↦ rw (le-ltb a b (omega arith), ne_eqb a b o) (sym (le-ltb (a * w + x) (b * w + y) (omega (arith, mul-le-mul_right {m = suc b} {n = a} w (omega (arith, l, o))))))
      ]
    ]

pub states-below : (b r : StateRecord) → StateFits b → StateFits r → is_below (state_key b) (state_key r) ≡ ltb (state_number b) (state_number r)
states-below b r f g =
    below_more 64 b.time r.time b.«module» r.«module» _ _ f.0 g.0 (below_one b.«module» r.«module»)
    ∙ raised 64 (b.time * 64 + b.«module») (r.time * 64 + r.«module») (state_number b) (state_number r) (omega arith) (omega arith)

pub standards-below : (b s : Standard) → StandardFits b → StandardFits s → is_below (standard_key b) (standard_key s) ≡ ltb (standard_number b) (standard_number s)
standards-below b s f g =
    let pair : (v : Standard) → StandardFits v → v.recipe * 2 ^ 35 + v.start < 2 ^ 45 = λ v h. omega (arith, h.1, h.2) in
    below_more (2 ^ 45) b.«module» s.«module» (b.recipe * 2 ^ 35 + b.start) (s.recipe * 2 ^ 35 + s.start) _ _ (pair b f) (pair s g)
    (below_more (2 ^ 35) b.recipe s.recipe b.start s.start _ _ f.2 g.2 (below_one b.start s.start))
    ∙ raised (2 ^ 35) (b.«module» * 2 ^ 45 + (b.recipe * 2 ^ 35 + b.start)) (s.«module» * 2 ^ 45 + (s.recipe * 2 ^ 35 + s.start)) (standard_number b) (standard_number s) (omega arith) (omega arith)

pub units-below : (b u : UnitRecord) → UnitFits b → UnitFits u → is_below (unit_key b) (unit_key u) ≡ ltb (unit_number b) (unit_number u)
units-below b u f g =
    let pair : (v : UnitRecord) → UnitFits v → v.«module» * 1024 + v.recipe < 65536 = λ v h. omega (arith, h.0, h.1) in
    below_more 65536 b.time u.time (b.«module» * 1024 + b.recipe) (u.«module» * 1024 + u.recipe) _ _ (pair b f) (pair u g)
    (below_more 1024 b.«module» u.«module» b.recipe u.recipe _ _ f.1 g.1 (below_one b.recipe u.recipe))
    ∙ raised 65536 (b.time * 65536 + (b.«module» * 1024 + b.recipe)) (u.time * 65536 + (u.«module» * 1024 + u.recipe)) (unit_number b) (unit_number u) (omega arith) (omega arith)

-- ---- one record more

module _ {A : Type 0} (key : A → List ℕ) (number : A → ℕ) (Fits : A → Type 0) where
  -- no record yet
  pub sequenced_none : ((r : A) → 0 < number r) → Sequenced key number Fits [] 0
  unfolding is_rising_after just_before
  sequenced_none positive = record { rises = refl; next = λ r f. sym (lt-ltb 0 (number r) (positive r)) }

  module _ (as-numbers : (b r : A) → Fits b → Fits r → is_below (key b) (key r) ≡ ltb (number b) (number r)) where
    pub sequenced_more : (rs : List A) (before : ℕ) (r : A) → Sequenced key number Fits rs before → Fits r → is_after key (just_before rs) r ≡ true → Sequenced key number Fits (rs ++ (r ∷ [])) (number r)
    sequenced_more rs before r s f after =
        record {
          rises = rising_more key rs r ∙ both_true (is_rising key rs) (is_after key (just_before rs) r) s.rises after;
          next = λ q g. rw (last_more rs r) (as-numbers r q f g);
        }
