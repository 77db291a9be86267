-- What a finished log says is what was given to the calls: the bytes of the records added, one after the other, are the bytes of the log.
-- Assumes nothing.
use mathlib.Core.Path.{◌≡◌, refl, sym, ap, ap₂, ◌∙◌, subst}
use mathlib.Core.List.{List, [], ◌∷◌, ◌++◌, append_assoc, append-nil, map}
use Prim.Native.Nat.{ℕ}
use native.Mathlib.Omega.{arith}
use lib.ListN.{length}
use borrow.Author.Tests.{le-ltb}
use Rattle.bits.specs.Put.{Slot, packed, Fit}
use Rattle.records.specs.declared.StateRecord.{StateRecord}
use Rattle.records.specs.declared.Standard.{Standard}
use Rattle.records.specs.declared.UnitRecord.{UnitRecord}
use Rattle.records.specs.Log.{Log, decode}
use Rattle.records.specs.Encode.{state_slots, standard_slots, unit_slots, unit_bytes, encode, joined, AllFit, LogFits}
use Rattle.records.proofs.RoundTrip.{decode-encode}
use Rattle.rules.specs.Verdict.{verdict}
use Rattle.writing.specs.Writing.{Entry, entry_bytes, finish_verdict}
use Rattle.rules.specs.Lists.{Each}
use Rattle.writing.specs.Runs.{Run, run, finished, finishing, of_state, of_standard, of_unit, entries_of, NoSpare, Kept, FinishedSays}
use Rattle.writing.proofs.Kept.{run-kept}

-- ---- the records of one list

pub each : {A : Type 0} {P Q : A → Type 0} → ((r : A) → P r → Q r) → (rs : List A) → Each P rs → Each Q rs
each f [] p = tt
each f (r ∷ rs) p = (f r p.0, each f rs p.1)

module _ {A : Type 0} (of : A → Entry) (size : ℕ) (slots : A → List Slot) where
  -- r is added as the bytes of a log have it
  pub record Faithful (r : A) : Type 0 where
    pub same : (of r).slots ≡ slots r
    pub sized : (of r).size ≡ size

  list-bytes : (rs : List A) (rest : List Entry) → Each Faithful rs → joined entry_bytes (map of rs ++ rest) ≡ joined (λ r. packed size (slots r)) rs ++ joined entry_bytes rest
  unfolding joined
  list-bytes [] rest f = refl
  list-bytes (r ∷ rs) rest f =
      ap₂ ◌++◌ (ap₂ packed f.0.sized f.0.same) (list-bytes rs rest f.1)
      ∙ sym (append_assoc (packed size (slots r)) (joined (λ r. packed size (slots r)) rs) (joined entry_bytes rest))

  list-fits : (rs : List A) (rest : List Entry) → Each Faithful rs → AllFit (λ e. e.slots) (map of rs ++ rest) → AllFit slots rs × AllFit (λ e. e.slots) rest
  list-fits [] rest f fit = (tt, fit)
  list-fits (r ∷ rs) rest f fit =
      let more = list-fits rs rest f.1 fit.1 in
      ((subst Fit f.0.same fit.0, more.0), more.1)

  list-fitting : (rs : List A) (rest : List Entry) → Each Faithful rs → AllFit slots rs → AllFit (λ e. e.slots) rest → AllFit (λ e. e.slots) (map of rs ++ rest)
  list-fitting [] rest f fit more = more
  list-fitting (r ∷ rs) rest f fit more = (subst Fit (sym f.0.same) fit.0, list-fitting rs rest f.1 fit.1 more)

state-faithful : (r : StateRecord) → r.spare ≡ 0 → Faithful of_state 6 state_slots r
state-faithful r e = record { same = rw e; sized = refl }

standard-faithful : (s : Standard) → s.spare ≡ 0 → Faithful of_standard 10 standard_slots s
standard-faithful s e = record { same = rw e; sized = refl }

unit-faithful : (u : UnitRecord) → u.spare ≡ 0 → Faithful of_unit 11 unit_slots u
unit-faithful u e = record { same = rw e; sized = refl }

-- ---- a log

module _ (l : Log) (plain : NoSpare l) where
  states : Each (Faithful of_state 6 state_slots) l.states
  states = each state-faithful l.states plain.states

  standards : Each (Faithful of_standard 10 standard_slots) l.standards
  standards = each standard-faithful l.standards plain.standards

  units : Each (Faithful of_unit 11 unit_slots) l.units
  units = each unit-faithful l.units plain.units

  -- the bytes of a log are those of its records as calls add them
  pub entries_bytes : joined entry_bytes (entries_of l) ≡ encode l
  unfolding joined encode
  entries_bytes =
      let us = map of_unit l.units in
      let ss = map of_standard l.standards in
      let last : joined entry_bytes us ≡ joined unit_bytes l.units = ap (joined entry_bytes) (sym (append-nil us)) ∙ list-bytes of_unit 11 unit_slots l.units [] units ∙ append-nil (joined unit_bytes l.units) in
      rw (list-bytes of_state 6 state_slots l.states (ss ++ us) states, list-bytes of_standard 10 standard_slots l.standards us standards, last)

  -- a log fits its fields where its entries do, and the other way round
  pub entries_fit : AllFit (λ e. e.slots) (entries_of l) → LogFits l
  entries_fit fit =
      let us = map of_unit l.units in
      let a = list-fits of_state 6 state_slots l.states (map of_standard l.standards ++ us) states fit.1 in
      let b = list-fits of_standard 10 standard_slots l.standards us standards a.1 in
      let c = list-fits of_unit 11 unit_slots l.units [] units (rw (append-nil us) b.1) in
      record { header = fit.0; states = a.0; standards = b.0; units = c.0 }

  pub fit_entries : LogFits l → AllFit (λ e. e.slots) (entries_of l)
  fit_entries fit =
      let us = map of_unit l.units in
      let c : AllFit (λ e. e.slots) (us ++ []) = list-fitting of_unit 11 unit_slots l.units [] units fit.units tt in
      let d : AllFit (λ e. e.slots) us = rw (append-nil us) at c in
      let b = list-fitting of_standard 10 standard_slots l.standards us standards fit.standards d in
      (fit.header, list-fitting of_state 6 state_slots l.states (map of_standard l.standards ++ us) states fit.states b)

-- the finishing call at the position of a run answers the verdict on the bytes before it
finishing-verdict : (buf : List ℕ) (w : Run) → Kept buf w → finishing w ≡ verdict (finished w)
unfolding finish_verdict
finishing-verdict buf w k = rw (le-ltb (length w.buffer) w.position (omega (arith, k.within, k.size)))

pub finished-says : FinishedSays
finished-says buf es l plain given =
    let w = run buf es in
    let k = run-kept buf es in
    let bytes : finished w ≡ encode l = k.bytes ∙ ap (joined entry_bytes) given ∙ entries_bytes l plain in
    let fits : LogFits l = entries_fit l plain (subst (AllFit (λ e. e.slots)) given k.fit) in
    record {
      bytes = bytes;
      says = ap decode bytes ∙ decode-encode l fits;
      answer = finishing-verdict buf w k ∙ ap verdict bytes;
    }
