-- The bytes of a record moved up: its number, as it is read, with so much more where its time stands.
-- Assumes nothing.
use mathlib.Core.Path.{◌≡◌, refl, sym, ap, ◌∙◌}
use mathlib.Core.List.{List, [], ◌∷◌, ◌++◌, append-nil}
use Prim.Native.Nat.{ℕ, ◌+◌, ◌-◌, ◌*◌, ◌/◌, ◌%◌, ◌^◌, ◌<◌}
use native.Mathlib.Nat.{add-zero}
use native.Mathlib.Omega.{arith}
use lib.ListN.{drop}
use lib.Pow.{high, low}
use Rattle.bits.specs.Bits.{field}
use Rattle.bits.specs.Put.{Slot, packed, Fit}
use Rattle.bits.proofs.Fields.{field_lt, field-split, field-drop, tail_at}
use Rattle.bits.proofs.Puts.{total, Own}
use Rattle.filling.specs.Buffer.{big_endian}
use Rattle.records.specs.declared.Header.{Header}
use Rattle.records.specs.declared.StateRecord.{StateRecord}
use Rattle.records.specs.declared.Standard.{Standard}
use Rattle.records.specs.declared.UnitRecord.{UnitRecord}
use Rattle.records.specs.Encode.{state_slots, standard_slots, unit_slots, state_bytes, standard_bytes, unit_bytes}
use Rattle.records.specs.Fields.{state_from, standard_from, unit_from}
use Rattle.records.specs.Log.{state_at, standard_at, unit_at}
use Rattle.records.proofs.RecordKinds.{Kind, state-kind, standard-kind, unit-kind}
use Rattle.records.proofs.Widths.{state-fits, standard-fits, unit-fits}
use Rattle.writing.proofs.Bytes.{value_of, record-bytes}
use Rattle.joined.specs.Joined.{state_up, standard_up, unit_up}

-- ---- the number of what is read

-- fields that a list has make the number that it has there
own-number : (t : List ℕ) (i : ℕ) (fs : List Slot) → Own t i fs → value_of fs ≡ field t i (total fs)
unfolding field
own-number t i [] own = refl
own-number t i (f ∷ fs) own = rw (field-split t i f.width (total fs), ← own.0, ← own-number t (i + f.width) fs own.1)

read-number : {A : Type 0} {size : ℕ} {from : List ℕ → ℕ → A} {slots : A → List Slot} (K : Kind size from slots) (s : List ℕ) (q : ℕ) → value_of (slots (from s (8 * q))) ≡ field s (8 * q) (8 * size)
read-number {size = size} {from = from} {slots = slots} K s q =
    let d = drop q s in
    ap (λ r. value_of (slots r)) (sym (K.moved s q))
    ∙ own-number d 0 (slots (from d 0)) (K.own d)
    ∙ ap (field d 0) (K.whole (from d 0))
    ∙ field-drop s q 0 (8 * size)
    ∙ ap (λ (p : ℕ). field s p (8 * size)) (add-zero (8 * q))

-- ---- a state record

module _ (by : ℕ) (r : StateRecord) where
  state-number : value_of (state_slots (state_up by r)) ≡ value_of (state_slots r) + 4 * by
  state-number = omega arith

  state-still : Fit (state_slots r) → by + r.time < 2 ^ 35 → Fit (state_slots (state_up by r))
  state-still f h = (f.0, (f.1.0, (h, (f.1.1.1.0, tt))))

module _ (s : List ℕ) (i by : ℕ) (h : by + (state_at s i).time < 2 ^ 35) where
  abbrev place : ℕ
  place = 10 + 6 * i

  here : state_at s i ≡ state_from s (8 * place)
  here = ap (state_from s) (omega arith)

  pub state-moved : state_bytes (state_up by (state_at s i)) ≡ big_endian 6 (field s (8 * (8 + 6 * i)) 64 % 2 ^ 48 + 4 * by)
  unfolding big_endian
  state-moved =
      let r = state_at s i in
      let n : field s (8 * (8 + 6 * i)) 64 % 2 ^ 48 ≡ field s (8 * place) 48 = tail_at s (8 * (8 + 6 * i)) 16 48 64 (8 * place) refl (omega arith) in
      let v : value_of (state_slots r) ≡ field s (8 * place) 48 = ap (λ (x : StateRecord). value_of (state_slots x)) here ∙ read-number state-kind s place in
      let w : value_of (state_slots (state_up by r)) ≡ field s (8 * (8 + 6 * i)) 64 % 2 ^ 48 + 4 * by = state-number by r ∙ ap (λ (x : ℕ). x + 4 * by) (v ∙ sym n) in
      record-bytes 6 0 (state_slots (state_up by r)) (field s (8 * (8 + 6 * i)) 64 % 2 ^ 48 + 4 * by) 0 (state-still by r (state-fits s (80 + 48 * i)) h) refl (omega (arith, w)) (omega arith)
      ∙ append-nil (big_endian 6 (field s (8 * (8 + 6 * i)) 64 % 2 ^ 48 + 4 * by))

-- ---- a standard and a unit record: eight bytes with the time moved up, and n more

-- the number of a record of 8 + n bytes, moved up, in its two parts
module _ (s : List ℕ) (q n by : ℕ) (few : n < 8) where
  abbrev first : ℕ
  first = field s (8 * q) 64 + 2 ^ 13 * by

  abbrev rest : ℕ
  rest = field s (8 * q + 64) (8 * n)

  pub moved-parts : (fs : List Slot) → Fit fs → total fs ≡ 8 * (8 + n) → value_of fs ≡ first * 2 ^ (8 * n) + rest → packed (8 + n) fs ≡ big_endian 8 first ++ big_endian n (field s (8 * (q + n)) 64)
  moved-parts fs fit all v =
      let small : rest < 2 ^ (8 * n) = field_lt s (8 * q + 64) (8 * n) in
      let behind : field s (8 * (q + n)) 64 % 2 ^ (8 * n) ≡ rest = last_bits in
      record-bytes 8 n fs first (field s (8 * (q + n)) 64) fit all (sym (high first (8 * n) small) ∙ ap (λ (x : ℕ). x / 2 ^ (8 * n)) (sym v)) (behind ∙ sym (low first (8 * n) small) ∙ ap (λ (x : ℕ). x % 2 ^ (8 * n)) (sym v))
    where
      last_bits : field s (8 * (q + n)) 64 % 2 ^ (8 * n) ≡ field s (8 * q + 64) (8 * n)
      last_bits = tail_at s (8 * (q + n)) (64 - 8 * n) (8 * n) 64 (8 * q + 64) (omega (arith, few)) (omega (arith, few))

  -- the number before it is moved
  pub two-parts : field s (8 * q) (8 * (8 + n)) ≡ field s (8 * q) 64 * 2 ^ (8 * n) + rest
  two-parts = let e : 8 * (8 + n) ≡ 64 + 8 * n = omega arith in ap (field s (8 * q)) e ∙ field-split s (8 * q) 64 (8 * n)

  -- with the time in its 35 bits moved up the first part does not pass 64
  pub first-small : by + field s (8 * q + 16) 35 < 2 ^ 35 → first < 2 ^ 64
  first-small h =
      let a : field s (8 * q) 64 ≡ field s (8 * q) 16 * 2 ^ 48 + field s (8 * q + 16) 48 = field-split s (8 * q) 16 48 in
      let b : field s (8 * q + 16) 48 ≡ field s (8 * q + 16) 35 * 2 ^ 13 + field s (8 * q + 16 + 35) 13 = field-split s (8 * q + 16) 35 13 in
      omega (arith, a, b, h, field_lt s (8 * q) 16, field_lt s (8 * q + 16 + 35) 13)

module _ (by : ℕ) (r : Standard) where
  standard-number : value_of (standard_slots (standard_up by r)) ≡ value_of (standard_slots r) + 2 ^ 29 * by
  standard-number = omega arith

  standard-still : Fit (standard_slots r) → by + r.start < 2 ^ 35 → Fit (standard_slots (standard_up by r))
  standard-still f h = (f.0, (f.1.0, (h, (f.1.1.1.0, (f.1.1.1.1.0, tt)))))

module _ (s : List ℕ) (h : Header) (i by : ℕ) (low : by + (standard_at s h i).start < 2 ^ 35) where
  abbrev standard_place : ℕ
  standard_place = 10 + 6 * h.states + 10 * i

  standard_here : standard_at s h i ≡ standard_from s (8 * standard_place)
  standard_here = ap (standard_from s) (omega arith)

  pub standard-moved : standard_bytes (standard_up by (standard_at s h i))
      ≡ big_endian 8 (field s (8 * standard_place) 64 + 2 ^ 13 * by) ++ big_endian 2 (field s (8 * (standard_place + 2)) 64)
  standard-moved =
      let r = standard_at s h i in
      let v : value_of (standard_slots r) ≡ field s (8 * standard_place) 64 * 2 ^ 16 + field s (8 * standard_place + 64) 16
      = ap (λ (x : Standard). value_of (standard_slots x)) standard_here ∙ read-number standard-kind s standard_place ∙ two-parts s standard_place 2 by (omega arith) in
      moved-parts s standard_place 2 by (omega arith) (standard_slots (standard_up by r)) (standard-still by r (standard-fits s (80 + 48 * h.states + 80 * i)) low) refl (omega (arith, standard-number by r, v))

module _ (by : ℕ) (r : UnitRecord) where
  unit-number : value_of (unit_slots (unit_up by r)) ≡ value_of (unit_slots r) + 2 ^ 37 * by
  unit-number = omega arith

  unit-still : Fit (unit_slots r) → by + r.time < 2 ^ 35 → Fit (unit_slots (unit_up by r))
  unit-still f h = (f.0, (f.1.0, (h, (f.1.1.1.0, (f.1.1.1.1.0, (f.1.1.1.1.1.0, tt))))))

module _ (s : List ℕ) (h : Header) (i by : ℕ) (low : by + (unit_at s h i).time < 2 ^ 35) where
  abbrev unit_place : ℕ
  unit_place = 10 + 6 * h.states + 10 * h.standards + 11 * i

  unit_here : unit_at s h i ≡ unit_from s (8 * unit_place)
  unit_here = ap (unit_from s) (omega arith)

  pub unit-moved : unit_bytes (unit_up by (unit_at s h i))
      ≡ big_endian 8 (field s (8 * unit_place) 64 + 2 ^ 13 * by) ++ big_endian 3 (field s (8 * (unit_place + 3)) 64)
  unit-moved =
      let r = unit_at s h i in
      let v : value_of (unit_slots r) ≡ field s (8 * unit_place) 64 * 2 ^ 24 + field s (8 * unit_place + 64) 24
      = ap (λ (x : UnitRecord). value_of (unit_slots x)) unit_here ∙ read-number unit-kind s unit_place ∙ two-parts s unit_place 3 by (omega arith) in
      moved-parts s unit_place 3 by (omega arith) (unit_slots (unit_up by r)) (unit-still by r (unit-fits s (80 + 48 * h.states + 80 * h.standards + 88 * i)) low) refl (omega (arith, unit-number by r, v))
