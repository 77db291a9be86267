-- Decoding and encoding undo one another: the bytes of a record stand where it is read, and its numbers are those that its bytes are made of.
-- Assumes nothing.
use mathlib.Core.Path.{◌≡◌, refl, sym, ap, ◌∙◌}
use mathlib.Core.List.{List, [], ◌∷◌, ◌++◌, append_assoc, append-nil}
use Prim.Native.Nat.{ℕ, zero, suc, ◌+◌, ◌*◌, ◌≤◌, ◌<◌}
use native.Mathlib.Nat.{mul-zero, mul-suc, add_assoc, add_comm}
use native.Mathlib.Omega.{arith}
use lib.ListN.{length, get_or, take, drop, length-append, length-drop, take-append-drop}
use lib.Seq.{take_at, drop_at, drop-append-add, drop-drop, take-add, take_all}
use Rattle.bits.specs.Put.{Slot, packed, Fit}
use Rattle.bits.proofs.Puts.{length-packed}
use Rattle.records.specs.Fields.{state_from, standard_from, unit_from}
use Rattle.records.specs.Log.{Log, header_of, state_at, standard_at, unit_at, up_to, decode}
use Rattle.records.specs.Encode.{header_slots, state_slots, standard_slots, unit_slots, header_bytes, state_bytes, standard_bytes, unit_bytes, joined, header_for, encode, AllFit, LogFits}
use Rattle.records.specs.declared.Header.{Header}
use Rattle.records.proofs.UpTo.{up_to_all}
use Rattle.records.proofs.Widths.{header-counts}
use Rattle.records.proofs.RecordKinds.{Kind, placed, rewritten, header-kind, state-kind, standard-kind, unit-kind}

-- ---- the bytes of a list of records

-- the bytes of two lists, one after the other
pub joined-append : {A : Type 0} (bytes : A → List ℕ) (rs qs : List A) → joined bytes (rs ++ qs) ≡ joined bytes rs ++ joined bytes qs
unfolding joined
joined-append bytes [] qs = refl
joined-append bytes (r ∷ rs) qs = rw (joined-append bytes rs qs, append_assoc (bytes r) (joined bytes rs) (joined bytes qs))

module _ {A : Type 0} (size : ℕ) (slots : A → List Slot) where
  pub length_joined : (rs : List A) → length (joined (λ r. packed size (slots r)) rs) ≡ size * length rs
  unfolding joined
  length_joined [] = sym (mul-zero size)
  length_joined (r ∷ rs) =
      length-append (packed size (slots r)) (joined (λ r. packed size (slots r)) rs)
      ∙ rw (length-packed size (slots r), length_joined rs, mul-suc size (length rs)) (add_comm size (size * length rs))

  -- the bytes of record i stand behind those of the i before it
  pub joined_at : (rs : List A) (rest : List ℕ) (i : ℕ) (d : A) → i < length rs
      → take size (drop (size * i) (joined (λ r. packed size (slots r)) rs ++ rest)) ≡ packed size (slots (get_or rs i d))
  unfolding joined
  joined_at [] rest i d h = absurd (omega arith)
  joined_at (r ∷ rs) rest zero d h =
      rw (mul-zero size, append_assoc (packed size (slots r)) (joined (λ r. packed size (slots r)) rs) rest)
      (take_at (packed size (slots r)) _ size (length-packed size (slots r)))
  joined_at (r ∷ rs) rest (suc i) d h =
      let b = packed size (slots r) in
      let j = joined (λ r. packed size (slots r)) rs in
      let e : size * suc i ≡ length b + size * i = rw (mul-suc size i, length-packed size (slots r)) (add_comm (size * i) size) in
      rw (append_assoc b j rest, e, drop-append-add b (j ++ rest) (size * i)) (joined_at rs rest i d (omega arith))

fit_at : {A : Type 0} (slots : A → List Slot) (rs : List A) (i : ℕ) (d : A) → AllFit slots rs → i < length rs → Fit (slots (get_or rs i d))
fit_at slots [] i d fit h = absurd (omega arith)
fit_at slots (r ∷ rs) zero d fit h = fit.0
fit_at slots (r ∷ rs) (suc i) d fit h = fit_at slots rs i d fit.1 (omega arith)

module _ {A : Type 0} {size : ℕ} {from : List ℕ → ℕ → A} {slots : A → List Slot} (K : Kind size from slots) where
  -- a list whose records' bytes stand from byte `base` on is what is read there
  pub list_read : (at : ℕ → A) (s : List ℕ) (base : ℕ) → ((i : ℕ) → at i ≡ from s (8 * (base + size * i)))
      → (rs : List A) (rest : List ℕ) → drop base s ≡ joined (λ r. packed size (slots r)) rs ++ rest → AllFit slots rs → up_to at (length rs) ≡ rs
  list_read at s base h rs rest e fit =
      up_to_all at rs (at 0)
      (λ i l. h i ∙ placed K s (base + size * i) (get_or rs i (at 0)) (rw (← drop-drop (size * i) base s, e) (joined_at size slots rs rest i (at 0) l)) (fit_at slots rs i (at 0) fit l))

  -- the bytes of the records read from byte `base` on
  pub list_written : (at : ℕ → A) (s : List ℕ) (base : ℕ) → ((k : ℕ) → get_or s k 0 < 256) → ((i : ℕ) → at i ≡ from s (8 * (base + size * i)))
      → (n : ℕ) → base + size * n ≤ length s → joined (λ r. packed size (slots r)) (up_to at n) ≡ take (size * n) (drop base s)
  unfolding joined up_to
  list_written at s base small h zero l = rw (mul-zero size)
  list_written at s base small h (suc n) l =
      let m : base + size * n + size ≤ length s = rw (mul-suc size n, ← add_assoc base (size * n) size) at l in
      joined-append (λ r. packed size (slots r)) (up_to at n) (at n ∷ [])
      ∙ rw (list_written at s base small h n (omega arith), append-nil (packed size (slots (at n))), h n, rewritten K s (base + size * n) small m, ← drop-drop (size * n) base s, mul-suc size n)
      (sym (take-add (size * n) size (drop base s)))

-- ---- a whole log

-- what the bytes say, by a header
abbrev decode_by : Header → List ℕ → Log
decode_by h s =
    record {
      period = h.period;
      modules = h.modules;
      states = up_to (state_at s) h.states;
      standards = up_to (standard_at s h) h.standards;
      units = up_to (unit_at s h) h.units;
    }

state-place : (s : List ℕ) (i : ℕ) → state_at s i ≡ state_from s (8 * (10 + 6 * i))
state-place s i = ap (state_from s) (omega arith)

standard-place : (s : List ℕ) (h : Header) (i : ℕ) → standard_at s h i ≡ standard_from s (8 * (10 + 6 * h.states + 10 * i))
standard-place s h i = ap (standard_from s) (omega arith)

unit-place : (s : List ℕ) (h : Header) (i : ℕ) → unit_at s h i ≡ unit_from s (8 * (10 + 6 * h.states + 10 * h.standards + 11 * i))
unit-place s h i = ap (unit_from s) (omega arith)

-- the length of a log
pub length-encode : (l : Log) → length (encode l) ≡ 10 + 6 * length l.states + 10 * length l.standards + 11 * length l.units
unfolding encode
length-encode l =
    simp (length-append, length-packed, length_joined 6 state_slots l.states, length_joined 10 standard_slots l.standards, length_joined 11 unit_slots l.units) (omega arith)

-- the header of what is written counts the log's records
pub header-encode : (l : Log) → Fit (header_slots (header_for l)) → header_of (encode l) ≡ header_for l
unfolding encode
header-encode l fit = placed header-kind (encode l) 0 (header_for l) (take_at (header_bytes (header_for l)) _ 10 (length-packed 10 (header_slots (header_for l)))) fit

-- what a log is written as says that log, where its numbers fit their fields
pub decode-encode : (l : Log) → LogFits l → decode (encode l) ≡ l
unfolding decode encode
decode-encode l fit =
    let s = encode l in
    let head = header_bytes (header_for l) in
    let states = joined state_bytes l.states in
    let standards = joined standard_bytes l.standards in
    let units = joined unit_bytes l.units in
    let behind : drop 10 s ≡ states ++ (standards ++ units) = drop_at head _ 10 (length-packed 10 (header_slots (header_for l))) in
    let after : drop (10 + 6 * length l.states) s ≡ standards ++ units
    = sym (drop-drop (6 * length l.states) 10 s) ∙ rw behind (drop_at states _ (6 * length l.states) (length_joined 6 state_slots l.states)) in
    let last : drop (10 + 6 * length l.states + 10 * length l.standards) s ≡ units ++ []
    = sym (drop-drop (10 * length l.standards) (10 + 6 * length l.states) s)
    ∙ rw (after, append-nil units) (drop_at standards _ (10 * length l.standards) (length_joined 10 standard_slots l.standards)) in
    ap (λ (x : Header). decode_by x s) (header-encode l fit.header)
    ∙ rw (
      list_read state-kind (state_at s) s 10 (state-place s) l.states (standards ++ units) behind fit.states,
      list_read standard-kind (standard_at s (header_for l)) s (10 + 6 * length l.states) (standard-place s (header_for l)) l.standards units after fit.standards,
      list_read unit-kind (unit_at s (header_for l)) s (10 + 6 * length l.states + 10 * length l.standards) (unit-place s (header_for l)) l.units [] last fit.units,
    )

-- s in four parts
parts : (s : List ℕ) (a b c : ℕ) → length s ≡ 10 + a + b + c → take 10 s ++ (take a (drop 10 s) ++ (take b (drop (10 + a) s) ++ take c (drop (10 + a + b) s))) ≡ s
parts s a b c e =
    rw (
      take_all c (drop (10 + a + b) s) (omega (arith, length-drop (10 + a + b) s)),
      ← drop-drop b (10 + a) s,
      take-append-drop b (drop (10 + a) s),
      ← drop-drop a 10 s,
      take-append-drop a (drop 10 s),
      take-append-drop 10 s,
    )

-- bytes of the length that their header gives are written again as they are; spare bits too
pub encode-decode : (s : List ℕ) → ((k : ℕ) → get_or s k 0 < 256) → length s ≡ 10 + 6 * (header_of s).states + 10 * (header_of s).standards + 11 * (header_of s).units → encode (decode s) ≡ s
unfolding decode encode
encode-decode s small e =
    let h = header_of s in
    ap (λ (x : Header). header_bytes x ++ (joined state_bytes (up_to (state_at s) h.states) ++ (joined standard_bytes (up_to (standard_at s h) h.standards) ++ joined unit_bytes (up_to (unit_at s h) h.units)))) (header-counts s)
    ∙ rw (
      rewritten header-kind s 0 small (omega arith),
      list_written state-kind (state_at s) s 10 small (state-place s) h.states (omega arith),
      list_written standard-kind (standard_at s h) s (10 + 6 * h.states) small (standard-place s h) h.standards (omega arith),
      list_written unit-kind (unit_at s h) s (10 + 6 * h.states + 10 * h.standards) small (unit-place s h) h.units (omega arith),
    )
    (parts s (6 * h.states) (10 * h.standards) (11 * h.units) e)
