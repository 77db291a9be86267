-- What the header and each kind of record share: a size in bytes, fields that fill it, and that its bytes and its numbers give one another.
-- Assumes nothing.
use mathlib.Core.Path.{◌≡◌, refl, sym, ap, ◌∙◌}
use mathlib.Core.List.{List}
use Prim.Native.Nat.{ℕ, ◌+◌, ◌*◌, ◌≤◌, ◌<◌}
use native.Mathlib.Nat.{le_of_eq}
use native.Mathlib.Decide.{dec_lt}
use native.Mathlib.Omega.{arith}
use lib.ListN.{length, get_or, take, drop, length-take, length-drop, get_or-eq_default}
use lib.Seq.{get_or-take, get_or-drop, length-take-le}
use Rattle.bits.specs.Put.{Slot, packed, Fit}
use Rattle.bits.proofs.Fields.{field-take}
use Rattle.bits.proofs.Puts.{total, read, values, Own, read-packed, packed-own}
use Rattle.records.specs.Fields.{header_from, state_from, standard_from, unit_from}
use Rattle.records.specs.Encode.{header_slots, state_slots, standard_slots, unit_slots}
use Rattle.records.specs.declared.Header.{Header}
use Rattle.records.specs.declared.StateRecord.{StateRecord}
use Rattle.records.specs.declared.Standard.{Standard}
use Rattle.records.specs.declared.UnitRecord.{UnitRecord}
use Rattle.records.proofs.Places.{header-drop, state-drop, standard-drop, unit-drop}

-- a kind of record: what is read from a bit on, and the fields that it is written by
pub record Kind {A : Type 0} (size : ℕ) (from : List ℕ → ℕ → A) (slots : A → List Slot) : Type 0 where
  pub moved : (s : List ℕ) (q : ℕ) → from (drop q s) 0 ≡ from s (8 * q)
  pub front : (s : List ℕ) → from (take size s) 0 ≡ from s 0
  pub again : (t : List ℕ) (r : A) → read t 0 (slots r) ≡ values (slots r) → from t 0 ≡ r
  pub own : (t : List ℕ) → Own t 0 (slots (from t 0))
  pub whole : (r : A) → total (slots r) ≡ 8 * size

-- the front of a list of bytes is one
pub small-take : (s : List ℕ) (n : ℕ) → ((k : ℕ) → get_or s k 0 < 256) → (k : ℕ) → get_or (take n s) k 0 < 256
small-take s n h k =
    elim (dec_lt k n) [
      | yes l ↦ rw (get_or-take n s k 0 l) (h k)
      | no l ↦ rw (get_or-eq_default {A = ℕ} (take n s) 0 {n = k} (omega (arith, length-take n s))) (omega arith)
    ]

module _ {A : Type 0} {size : ℕ} {from : List ℕ → ℕ → A} {slots : A → List Slot} (K : Kind size from slots) where
  -- what is read where the bytes of a record stand
  pub placed : (s : List ℕ) (q : ℕ) (r : A) → take size (drop q s) ≡ packed size (slots r) → Fit (slots r) → from s (8 * q) ≡ r
  placed s q r e fit =
      sym (K.moved s q) ∙ sym (K.front (drop q s)) ∙ ap (λ (t : List ℕ). from t 0) e
      ∙ K.again (packed size (slots r)) r (read-packed size (slots r) fit (le_of_eq (K.whole r)))

  -- the bytes of what is read
  pub rewritten : (s : List ℕ) (q : ℕ) → ((k : ℕ) → get_or s k 0 < 256) → q + size ≤ length s → packed size (slots (from s (8 * q))) ≡ take size (drop q s)
  rewritten s q bytes h =
      let t = take size (drop q s) in
      let len : length t ≡ size = length-take-le size (drop q s) (omega (arith, length-drop q s)) in
      let small : (k : ℕ) → get_or t k 0 < 256 = small-take (drop q s) size (λ j. rw (get_or-drop q s j 0) (bytes (q + j))) in
      rw (← K.moved s q, ← K.front (drop q s)) (packed-own t size (slots (from t 0)) small len (K.whole (from t 0)) (K.own t))

-- ---- header

abbrev header_of : List ℕ → Header
header_of l = record { period = get_or l 0 0; modules = get_or l 1 0; states = get_or l 2 0; standards = get_or l 3 0; units = get_or l 4 0 }

pub header-kind : Kind 10 header_from header_slots
unfolding header_from
header-kind =
    record {
      moved = header-drop;
      front = λ s. rw (field-take s 10 0 35 (omega arith), field-take s 10 35 7 (omega arith), field-take s 10 42 14 (omega arith), field-take s 10 56 11 (omega arith), field-take s 10 67 13 (omega arith));
      again = λ t r e. ap header_of e;
      own = λ t. (refl, (refl, (refl, (refl, (refl, tt)))));
      whole = λ r. refl;
    }

-- ---- state

abbrev state_of_lem : List ℕ → StateRecord
state_of_lem l = record { «module» = get_or l 0 0; code = get_or l 1 0; time = get_or l 2 0; spare = get_or l 3 0 }

pub state-kind : Kind 6 state_from state_slots
unfolding state_from
state-kind =
    record {
      moved = state-drop;
      front = λ s. rw (field-take s 6 0 6 (omega arith), field-take s 6 6 5 (omega arith), field-take s 6 11 35 (omega arith), field-take s 6 46 2 (omega arith));
      again = λ t r e. ap state_of_lem e;
      own = λ t. (refl, (refl, (refl, (refl, tt))));
      whole = λ r. refl;
    }

-- ---- standard

abbrev standard_of_lem : List ℕ → Standard
standard_of_lem l = record { «module» = get_or l 0 0; recipe = get_or l 1 0; start = get_or l 2 0; theoretical = get_or l 3 0; spare = get_or l 4 0 }

pub standard-kind : Kind 10 standard_from standard_slots
unfolding standard_from
standard-kind =
    record {
      moved = standard-drop;
      front = λ s. rw (field-take s 10 0 6 (omega arith), field-take s 10 6 10 (omega arith), field-take s 10 16 35 (omega arith), field-take s 10 51 27 (omega arith), field-take s 10 78 2 (omega arith));
      again = λ t r e. ap standard_of_lem e;
      own = λ t. (refl, (refl, (refl, (refl, (refl, tt)))));
      whole = λ r. refl;
    }

-- ---- unit

abbrev unit_of_lem : List ℕ → UnitRecord
unit_of_lem l = record { «module» = get_or l 0 0; recipe = get_or l 1 0; time = get_or l 2 0; actual = get_or l 3 0; effective = get_or l 4 0; spare = get_or l 5 0 }

pub unit-kind : Kind 11 unit_from unit_slots
unfolding unit_from
unit-kind =
    record {
      moved = unit-drop;
      front = λ s. rw (field-take s 11 0 6 (omega arith), field-take s 11 6 10 (omega arith), field-take s 11 16 35 (omega arith), field-take s 11 51 16 (omega arith), field-take s 11 67 16 (omega arith), field-take s 11 83 5 (omega arith));
      again = λ t r e. ap unit_of_lem e;
      own = λ t. (refl, (refl, (refl, (refl, (refl, (refl, tt))))));
      whole = λ r. refl;
    }
