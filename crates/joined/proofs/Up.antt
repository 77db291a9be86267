-- Records moved up keep their sequence, their codes and the standards in force among them.
-- Assumes nothing.
use mathlib.Core.Path.{◌≡◌, refl, sym, ap, ◌∙◌}
use mathlib.Core.Bool.{Bool, true, ◌&&◌, cond}
use mathlib.Core.Logic.{inl, inr}
use mathlib.Core.Option.{Option, none, some}
use mathlib.Core.List.{List, [], ◌∷◌, map, foldl}
use Prim.Native.Nat.{ℕ, ◌+◌, ◌≤◌, ◌<◌}
use native.Mathlib.Decide.{dec_lt, dec_le}
use native.Mathlib.Omega.{arith}
use lib.Dec.{leb, eqb}
use borrow.Author.Tests.{le-leb, lt-leb}
use Rattle.records.specs.declared.StateRecord.{StateRecord}
use Rattle.records.specs.declared.Standard.{Standard}
use Rattle.records.specs.declared.UnitRecord.{UnitRecord}
use Rattle.rules.specs.Sequence.{is_below, state_key, standard_key, unit_key}
use Rattle.rules.specs.Time.{keep, code_at}
use Rattle.rules.proofs.Sequence.{Lower, lower, below}
use Rattle.rules.specs.Lists.{Before}
use Rattle.joined.specs.Joined.{state_up, standard_up, unit_up}
use Rattle.joined.proofs.Merging.{Apart}

module _ (p : ℕ) where
  up : (x y : ℕ) (j k : List ℕ) → Lower x y j k → Lower (p + x) (p + y) j k
  up x y j k (inl h) = inl (omega arith)
  up x y j k (inr h) = inr (ap (λ (z : ℕ). p + z) h.0, h.1)

  -- keys moved up in their first number
  below-up : (x y : ℕ) (j k : List ℕ) → is_below (x ∷ j) (y ∷ k) ≡ true → is_below ((p + x) ∷ j) ((p + y) ∷ k) ≡ true
  below-up x y j k h = below (p + x) (p + y) j k (up x y j k (lower x y j k h))

  -- and behind it
  below-next : (x y : ℕ) (j k j′ k′ : List ℕ) → (is_below j k ≡ true → is_below j′ k′ ≡ true) → is_below (x ∷ j) (y ∷ k) ≡ true → is_below (x ∷ j′) (y ∷ k′) ≡ true
  below-next x y j k j′ k′ f h = below x y j′ k′ (go (lower x y j k h))
    where
      go : Lower x y j k → Lower x y j′ k′
      go (inl l) = inl l
      go (inr e) = inr (e.0, f e.1)

  pub state-up : (r q : StateRecord) → Before state_key r q → Before state_key (state_up p r) (state_up p q)
  state-up r q h = below-up r.time q.time (r.«module» ∷ []) (q.«module» ∷ []) h

  pub unit-up : (r q : UnitRecord) → Before unit_key r q → Before unit_key (unit_up p r) (unit_up p q)
  unit-up r q h = below-up r.time q.time (r.«module» ∷ r.recipe ∷ []) (q.«module» ∷ q.recipe ∷ []) h

  pub standard-up : (r q : Standard) → Before standard_key r q → Before standard_key (standard_up p r) (standard_up p q)
  standard-up r q h =
      below-next r.«module» q.«module» _ _ _ _
      (below-next r.recipe q.recipe (r.start ∷ []) (q.start ∷ []) ((p + r.start) ∷ []) ((p + q.start) ∷ []) (below-up r.start q.start [] []))
      h

  -- ---- codes

  keep-up : (m t : ℕ) (found : Option ℕ) (r : StateRecord) → keep m (p + t) found (state_up p r) ≡ keep m t found r
  keep-up m t found r = ap (λ (b : Bool). cond (eqb r.«module» m && b) (some r.code) found) (go (dec_le r.time t))
    where
      go : Dec (r.time ≤ t) → leb (p + r.time) (p + t) ≡ leb r.time t
      go (yes h) = rw (le-leb r.time t h, le-leb (p + r.time) (p + t) (omega arith))
      go (no h) = rw (lt-leb r.time t (omega arith), lt-leb (p + r.time) (p + t) (omega arith))

  pub code-up : (m t : ℕ) (rs : List StateRecord) → code_at (map (state_up p) rs) m (p + t) ≡ code_at rs m t
  unfolding code_at
  code-up m t rs = go none rs
    where
      go : (found : Option ℕ) (rs : List StateRecord) → foldl (keep m (p + t)) found (map (state_up p) rs) ≡ foldl (keep m t) found rs
      go found [] = refl
      go found (r ∷ rs) = ap (λ (o : Option ℕ). foldl (keep m (p + t)) o (map (state_up p) rs)) (keep-up m t found r) ∙ go (keep m t found r) rs

-- ---- records that come before others by their times

pub state-before : (r q : StateRecord) → r.time < q.time → Before state_key r q
state-before r q h = below r.time q.time (r.«module» ∷ []) (q.«module» ∷ []) (inl h)

pub unit-before : (r q : UnitRecord) → r.time < q.time → Before unit_key r q
unit-before r q h = below r.time q.time (r.«module» ∷ r.recipe ∷ []) (q.«module» ∷ q.recipe ∷ []) (inl h)

-- standards with different starts are apart
pub start-apart : (s r : Standard) → r.start < s.start → Apart standard_key s r
start-apart s r h = go (dec_lt s.«module» r.«module») (dec_lt r.«module» s.«module»)
  where
    key : (x y : Standard) → Lower x.«module» y.«module» (x.recipe ∷ x.start ∷ []) (y.recipe ∷ y.start ∷ []) → Before standard_key x y
    key x y l = below x.«module» y.«module» (x.recipe ∷ x.start ∷ []) (y.recipe ∷ y.start ∷ []) l

    rest : s.«module» ≡ r.«module» → Dec (s.recipe < r.recipe) → Dec (r.recipe < s.recipe) → Apart standard_key s r
    rest e (yes l) d = inl (key s r (inr (e, below s.recipe r.recipe (s.start ∷ []) (r.start ∷ []) (inl l))))
    rest e (no n) (yes l) = inr (key r s (inr (sym e, below r.recipe s.recipe (r.start ∷ []) (s.start ∷ []) (inl l))))
    rest e (no n) (no k) = inr (key r s (inr (sym e, below r.recipe s.recipe (r.start ∷ []) (s.start ∷ []) (inr (omega arith, below r.start s.start [] [] (inl h))))))

    go : Dec (s.«module» < r.«module») → Dec (r.«module» < s.«module») → Apart standard_key s r
    go (yes l) d = inl (key s r (inl l))
    go (no n) (yes l) = inr (key r s (inl l))
    go (no n) (no k) = rest (omega arith) (dec_lt s.recipe r.recipe) (dec_lt r.recipe s.recipe)
