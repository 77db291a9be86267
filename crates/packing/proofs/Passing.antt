-- One pass over a list closes it up: what is read next is as it was, the code of a module's last record is its current one, and of a standard that repeats the time in
-- force the standard just before has its module, its recipe and its time.
-- Assumes nothing.
use mathlib.Core.Path.{◌≡◌, refl, sym, ap, ◌∙◌, subst}
use mathlib.Core.Bool.{Bool, true, false, cond}
use mathlib.Core.List.{List, [], ◌∷◌, ◌++◌, foldl-append, append-nil}
use Prim.Native.Nat.{ℕ, zero, suc, ◌+◌, ◌*◌, ◌≤◌, ◌<◌}
use native.Mathlib.Nat.{le_refl}
use native.Mathlib.Decide.{ℕ_discrete}
use native.Mathlib.Omega.{arith}
use lib.Dec.{eqb}
use lib.ListN.{length, get_or, set, drop, replicate, length-replicate, get_or-replicate, length-set}
use lib.Seq.{get_or-set_same, get_or-set_other}
use borrow.Author.Tests.{eqb-true, eqb-false, eq-eqb, ne_eqb}
use Rattle.std.specs.Prelude.{None, Some}
use Rattle.std.specs.declared.option.Option.{Option}
use Rattle.std.proofs.Math.Option.{Option as Found, none, some}
use Rattle.bits.specs.Put.{Slot, packed}
use Rattle.bits.proofs.Fields.{field_lt}
use Rattle.records.specs.declared.Header.{Header}
use Rattle.records.specs.declared.StateRecord.{StateRecord}
use Rattle.records.specs.declared.Standard.{Standard}
use Rattle.records.specs.Encode.{state_bytes, standard_bytes, joined}
use Rattle.records.specs.Fields.{state_from, standard_from, unit_from}
use Rattle.records.specs.Log.{state_at, standard_at, unit_at, up_to}
use Rattle.records.proofs.RecordKinds.{Kind, rewritten, state-kind, standard-kind, unit-kind}
use Rattle.records.proofs.RoundTrip.{joined-append, list_written}
use Rattle.rules.specs.SameRecords.{Bytes}
use Rattle.rules.specs.Sequence.{just_before, is_after, is_rising, state_key, standard_key}
use Rattle.rules.proofs.Booleans.{both}
use Rattle.rules.proofs.Sequence.{rising_more}
use Rattle.packed.specs.OnePass.{last_code}
use Rattle.packed.specs.Packed.{is_held, without, packed_states, packed_standards}
use Rattle.packed.proofs.Changes.{same-truth}
use Rattle.packed.proofs.OnePass.{states_more, standards_first, standards_more}
use Rattle.packing.specs.Closing.{Moved, Closed}
use Rattle.packing.specs.Passes.{word_of, Current, IsLast, repeats_last, states_left, standards_left, all_units}
use Rattle.packing.proofs.ClosingUp.{closed-none, closed-more}

-- ---- what is still to be read is as it was

module _ {A : Type 0} {size : ℕ} {from : List ℕ → ℕ → A} {slots : A → List Slot} (kind : Kind size from slots) where
  pub record-kept : (b d : List ℕ) (q : ℕ) → drop q d ≡ drop q b → from d (8 * q) ≡ from b (8 * q)
  record-kept b d q e = sym (kind.moved d q) ∙ ap (λ (x : List ℕ). from x 0) e ∙ kind.moved b q

  -- one more record, which is left or not
  record-closed : {b d : List ℕ} {to p r : ℕ} {xs : List ℕ} → Bytes b → Closed b to xs p r d → p + size ≤ length b → (drops : Bool) (q : ℕ) (e : List ℕ) → Moved drops d p size r q e
      → Closed b to (xs ++ cond drops [] (packed size (slots (from b (8 * p))))) (p + size) q e
  record-closed {b} {d} {to} {p} {r} {xs} small c h drops q e moved =
      subst (λ (x : List ℕ). Closed b to (xs ++ cond drops [] x) (p + size) q e) (sym (rewritten kind b p small h)) (closed-more c size drops q e h moved)

-- one more record's bytes, where it is kept
joined-more : {A : Type 0} (bytes : A → List ℕ) (rs : List A) (r : A) (drops : Bool) → joined bytes (rs ++ cond drops [] (r ∷ [])) ≡ joined bytes rs ++ cond drops [] (bytes r)
unfolding joined
joined-more bytes rs r true = rw (append-nil rs, append-nil (joined bytes rs))
joined-more bytes rs r false = joined-append bytes rs (r ∷ []) ∙ rw (append-nil (bytes r))

-- ---- each module's current code

pub current-none : Current [] (replicate 64 0)
unfolding last_code
current-none = record { size = length-replicate {A = ℕ} 64 0; each = λ m h. get_or-replicate 64 m 0 0 h }

pub current-more : (rs : List StateRecord) (r : StateRecord) (words : List ℕ) → Current rs words → r.«module» < 64 → Current (rs ++ (r ∷ [])) (set words r.«module» (suc r.code))
unfolding last_code
current-more rs r words c h =
    record {
      size = length-set words r.«module» (suc r.code) ∙ c.size;
      each = λ m l. step m l (eqb r.«module» m) refl ∙ ap word_of (sym (foldl-append (λ found q. cond (eqb q.«module» m) (some q.code) found) none rs (r ∷ [])));
    }
  where
    step : (m : ℕ) → m < 64 → (b : Bool) → eqb r.«module» m ≡ b → get_or (set words r.«module» (suc r.code)) m 0 ≡ word_of (cond b (some r.code) (last_code rs m))
    step m l true e = rw (← eqb-true r.«module» m e) (get_or-set_same words r.«module» (suc r.code) 0 (omega (arith, c.size)))
    step m l false e = get_or-set_other words r.«module» m (suc r.code) 0 (λ q. eqb-false r.«module» m e (sym q)) ∙ c.each m l

-- the code that is compared, as a word
held-word : (o : Found ℕ) (c : ℕ) → is_held o c ≡ eqb (word_of o) (suc c)
held-word none c = sym (ne_eqb 0 (suc c) (λ e. omega arith))
held-word (some w) c = same-truth (eqb w c) (eqb (suc w) (suc c)) (λ e. eq-eqb (suc w) (suc c) (ap suc (eqb-true w c e))) (λ e. eq-eqb w c (omega (arith, eqb-true (suc w) (suc c) e)))

-- ---- the state records

-- the front of a rising list rises
rising_front : {A : Type 0} (key : A → List ℕ) (at : ℕ → A) (n i : ℕ) → i ≤ n → is_rising key (up_to at n) ≡ true → is_rising key (up_to at i) ≡ true
unfolding up_to
rising_front key at zero i h e = let z : i ≡ 0 = omega arith in rw z e
rising_front key at (suc n) i h e =
    elim (ℕ_discrete i (suc n)) [
      | yes q ↦ rw q e
      | no q ↦ rising_front key at n i (omega (arith, q)) (both (is_rising key (up_to at n)) (is_after key (just_before (up_to at n)) (at n)) (sym (rising_more key (up_to at n) (at n)) ∙ e)).0
    ]

-- a state record that was read has a module below 64 and a code below 32
pub state-low : (b : List ℕ) (i : ℕ) → ((state_at b i).«module» < 64) × ((state_at b i).code < 32)
unfolding state_from
state-low b i = (field_lt b (80 + 48 * i) 6, field_lt b (80 + 48 * i + 6) 5)

-- after i state records
pub record StatesSoFar (b : List ℕ) (i to : ℕ) (words d : List ℕ) : Type 0 where
  pub closed : Closed b 10 (states_left b i) (10 + 6 * i) to d
  pub current : Current (up_to (state_at b) i) words

module _ (b : List ℕ) (small : Bytes b) (n : ℕ) (rises : is_rising state_key (up_to (state_at b) n) ≡ true) (there : 10 + 6 * n ≤ length b) where
  pub states_none : StatesSoFar b 0 10 (replicate 64 0) b
  unfolding states_left joined packed_states without up_to
  states_none = record { closed = closed-none b 10 10 (le_refl 10); current = current-none }

  module _ (i : ℕ) (h : i < n) {to : ℕ} {words d : List ℕ} (so_far : StatesSoFar b i to words d) where
    pub state_kept : state_at d i ≡ state_at b i
    state_kept =
        let place : 80 + 48 * i ≡ 8 * (10 + 6 * i) = omega arith in
        rw place (record-kept state-kind b d (10 + 6 * i) so_far.closed.behind)

    -- one more
    pub states_more_closed : (r : StateRecord) → r ≡ state_at d i → (drops : Bool) → drops ≡ eqb (get_or words r.«module» 0) (suc r.code) → (q : ℕ) (e : List ℕ) → Moved drops d (10 + 6 * i) 6 to q e
        → StatesSoFar b (i + 1) q (set words r.«module» (suc r.code)) e
    unfolding states_left up_to
    states_more_closed r own drops told q e moved =
        let at = state_at b in
        let own : r ≡ at i = own ∙ state_kept in
        let low : r.«module» < 64 = rw own (state-low b i).0 in
        let grows : is_rising state_key (up_to at i ++ (at i ∷ [])) ≡ true = rising_front state_key at n (suc i) (omega arith) rises in
        let known : drops ≡ is_held (last_code (up_to at i) (at i).«module») (at i).code
        = told ∙ ap (λ (w : ℕ). eqb w (suc r.code)) (so_far.current.each r.«module» low) ∙ sym (held-word (last_code (up_to at i) r.«module») r.code) ∙ ap (λ (x : StateRecord). is_held (last_code (up_to at i) x.«module») x.code) own in
        let left : states_left b (suc i) ≡ states_left b i ++ cond drops [] (state_bytes (at i))
        = ap (joined state_bytes) (states_more (up_to at i) (at i) grows ∙ ap (λ (x : Bool). packed_states (up_to at i) ++ cond x [] (at i ∷ [])) (sym known)) ∙ joined-more state_bytes (packed_states (up_to at i)) (at i) drops in
        let step : Closed b 10 (states_left b i ++ cond drops [] (state_bytes (state_from b (8 * (10 + 6 * i))))) (10 + 6 * i + 6) q e = record-closed state-kind small so_far.closed (omega arith) drops q e moved in
        let place : 8 * (10 + 6 * i) ≡ 80 + 48 * i = omega arith in
        let next : suc i ≡ i + 1 = omega arith in
        let end : 10 + 6 * i + 6 ≡ 10 + 6 * suc i = omega arith in
        subst (λ (k : ℕ). StatesSoFar b k q (set words r.«module» (suc r.code)) e) next
        record {
          closed = rw (left, ← end, ← place) step;
          current = subst (λ (x : StateRecord). Current (up_to at i ++ (x ∷ [])) (set words r.«module» (suc r.code))) own (current-more (up_to at i) r words so_far.current low);
        }

-- ---- the standards

-- after i standards
pub record StandardsSoFar (b : List ℕ) (h : Header) (to i r : ℕ) (last : Option Standard) (d : List ℕ) : Type 0 where
  pub closed : Closed b to (standards_left b h i) (10 + 6 * h.states + 10 * i) r d
  pub last_one : IsLast (standard_at b h) i last

module _ (b : List ℕ) (small : Bytes b) (h : Header) (rises : is_rising standard_key (up_to (standard_at b h) h.standards) ≡ true) (there : 10 + 6 * h.states + 10 * h.standards ≤ length b) where
  pub standards_none : (to : ℕ) → to ≤ 10 + 6 * h.states → StandardsSoFar b h to 0 to None b
  unfolding standards_left joined packed_standards without up_to
  standards_none to l = record { closed = closed-none b to (10 + 6 * h.states + 10 * 0) (omega (arith, l)); last_one = refl }

  abbrev at : ℕ → Standard
  at = standard_at b h

  -- whether standard i is left depends on the one before it
  packed_more : (i : ℕ) (last : Option Standard) → i < h.standards → IsLast at i last → packed_standards (up_to at (suc i)) ≡ packed_standards (up_to at i) ++ cond (repeats_last last (at i)) [] (at i ∷ [])
  unfolding up_to packed_standards without
  packed_more zero last l e = rw e (standards_first (at 0))
  packed_more (suc i) last l e = rw e (standards_more (up_to at i) (at i) (at (suc i)) (rising_front standard_key at h.standards (suc (suc i)) (omega arith) rises))

  module _ {to i : ℕ} (l : i < h.standards) {r : ℕ} {last : Option Standard} {d : List ℕ} (so_far : StandardsSoFar b h to i r last d) where
    pub standard_kept : standard_at d h i ≡ at i
    standard_kept =
        let place : 80 + 48 * h.states + 80 * i ≡ 8 * (10 + 6 * h.states + 10 * i) = omega arith in
        rw place (record-kept standard-kind b d (10 + 6 * h.states + 10 * i) so_far.closed.behind)

    -- one more
    pub standards_more_closed : (s : Standard) → s ≡ standard_at d h i → (drops : Bool) → drops ≡ repeats_last last s → (q : ℕ) (e : List ℕ) → Moved drops d (10 + 6 * h.states + 10 * i) 10 r q e
        → StandardsSoFar b h to (i + 1) q (Some s) e
    unfolding standards_left up_to
    standards_more_closed s own drops told q e moved =
        let own : s ≡ at i = own ∙ standard_kept in
        let known : drops ≡ repeats_last last (at i) = told ∙ ap (repeats_last last) own in
        let left : standards_left b h (suc i) ≡ standards_left b h i ++ cond drops [] (standard_bytes (at i))
        = ap (joined standard_bytes) (packed_more i last l so_far.last_one ∙ ap (λ (x : Bool). packed_standards (up_to at i) ++ cond x [] (at i ∷ [])) (sym known)) ∙ joined-more standard_bytes (packed_standards (up_to at i)) (at i) drops in
        let p = 10 + 6 * h.states + 10 * i in
        let step : Closed b to (standards_left b h i ++ cond drops [] (standard_bytes (standard_from b (8 * p)))) (p + 10) q e = record-closed standard-kind small so_far.closed (omega arith) drops q e moved in
        let place : 8 * p ≡ 80 + 48 * h.states + 80 * i = omega arith in
        let next : suc i ≡ i + 1 = omega arith in
        let end : p + 10 ≡ 10 + 6 * h.states + 10 * suc i = omega arith in
        subst (λ (k : ℕ). StandardsSoFar b h to k q (Some s) e) next record { closed = rw (left, ← end, ← place) step; last_one = ap Some own }

-- ---- the unit records

-- all of them stay, as they stand
pub units_closed : (b : List ℕ) (h : Header) → Bytes b → 10 + 6 * h.states + 10 * h.standards + 11 * h.units ≤ length b → (to : ℕ) → to ≤ 10 + 6 * h.states + 10 * h.standards → (q : ℕ) (e : List ℕ)
    → Moved false b (10 + 6 * h.states + 10 * h.standards) (11 * h.units) to q e → Closed b to (all_units b h) (10 + 6 * h.states + 10 * h.standards + 11 * h.units) q e
unfolding all_units
units_closed b h small there to l q e moved =
    let p = 10 + 6 * h.states + 10 * h.standards in
    let at : (i : ℕ) → unit_at b h i ≡ unit_from b (8 * (p + 11 * i)) = λ i. ap (unit_from b) (omega arith) in
    rw (list_written unit-kind (unit_at b h) b p small at h.units there) (closed-more (closed-none b to p l) (11 * h.units) false q e there moved)
