-- An adding call from its parts: refused for a value, refused for room, or the record's bytes put; and the finishing call.
-- Assumes nothing.
use mathlib.Core.Path.{◌≡◌, refl, sym, ap, ◌∙◌, subst}
use mathlib.Core.Bool.{Bool, true, false}
use mathlib.Core.List.{List}
use Prim.Native.Nat.{ℕ, ◌+◌, ◌-◌, ◌≤◌, ◌<◌}
use native.Mathlib.Omega.{arith}
use native.Mathlib.Decide.{dec_lt}
use lib.Dec.{T, ltb}
use lib.ListN.{length, take}
use borrow.Author.Tests.{lt-ltb, le-ltb, ltb-true, ltb-false}
use Rattle.bits.specs.Put.{Fit}
use Rattle.bits.proofs.Puts.{length-packed}
use Rattle.filling.specs.Buffer.{Put}
use Rattle.rules.specs.declared.Refusal.{Refusal}
use Rattle.rules.specs.declared.Ground.TheVariants.{ShortBuffer, TooWide}
use Rattle.rules.specs.declared.LogList.TheVariants.{NoList}
use Rattle.rules.specs.Grounds.{Verdict}
use Rattle.std.specs.declared.result.Result.TheVariants.{Ok, Err}
use Rattle.rules.specs.Grounds.{ground, ◌then◌}
use Rattle.rules.proofs.FirstGround.{refused-not, not-met}
use Rattle.rules.proofs.Given.{given_refused, given_answered}
use Rattle.rules.specs.Names.{list_number}
use Rattle.rules.specs.Verdict.{verdict}
use Rattle.rules.specs.Refusals.{is_row, Known, call_refusals}
use Rattle.rules.proofs.KnownRefusals.{log-refusal}
use Rattle.writing.specs.Writing.{Entry, entry_bytes, any_too_wide, add_verdict, add_buffer, OfAdding, Added, finish_verdict, OfFinishing, Finished}
use Rattle.writing.proofs.Fitting.{fits, none-too_wide}

-- ---- the call

module _ (e : Entry) (before : List ℕ) (at : ℕ) where
  adding-refusal : (x : Refusal) → add_verdict e (length before) at ≡ Err x → OfAdding e (length before) at x
  unfolding add_verdict
  adding-refusal x h = go (any_too_wide e.slots) refl (ltb (length before) (at + e.size)) refl h
    where
      go : (w : Bool) → any_too_wide e.slots ≡ w → (b : Bool) → ltb (length before) (at + e.size) ≡ b → ground TooWide e.list 0 w then ground ShortBuffer NoList 0 b ≡ Err x → OfAdding e (length before) at x
      go true p b q m = OfAdding.too_wide p (cc)
      go false p true q m = OfAdding.no_room (fits e.slots p) (ltb-true (length before) (at + e.size) q) (cc)
      go false p false q m = absurd (refused-not (sym m))

  -- each has a number and a list of the table, as the four kinds of record do
  pub adding_known : T (is_row call_refusals 22 (list_number e.list)) → (x : Refusal) → OfAdding e (length before) at x → Known call_refusals x
  adding_known h x (OfAdding.too_wide w q) = subst (Known call_refusals) (sym q) h
  adding_known h x (OfAdding.no_room f l q) = subst (Known call_refusals) (sym q) tt

  -- a value does not fit
  pub not_added : (x : Refusal) (t : Bool) → (t ≡ true → any_too_wide e.slots ≡ true) → ground TooWide e.list 0 t ≡ Err x → Added e before at (Err x) before
  unfolding add_verdict add_buffer
  not_added x false h r = absurd (refused-not (sym r))
  not_added x true h r =
      let refused : add_verdict e (length before) at ≡ Err x = rw (h refl) r in
      record { given = given_refused _ _ _ _ x refused (adding-refusal x refused); bytes = rw (h refl) }

  -- each does; there is less room from the position on than is wanted just where the end is past the buffer
  short : 0 < e.size → ltb (length before - at) e.size ≡ ltb (length before) (at + e.size)
  short h =
      elim (dec_lt (length before) (at + e.size)) [
        | yes l ↦ rw (lt-ltb (length before - at) e.size (omega arith), lt-ltb (length before) (at + e.size) l)
        | no l ↦ rw (le-ltb (length before - at) e.size (omega arith), le-ltb (length before) (at + e.size) (omega arith))
      ]

  pub no_place : (x : Refusal) → 0 < e.size → Fit e.slots → ground ShortBuffer NoList 0 (ltb (length before - at) e.size) ≡ Err x → Added e before at (Err x) before
  unfolding add_verdict add_buffer
  no_place x some fit r =
      let none = none-too_wide e.slots fit in
      let past : ground ShortBuffer NoList 0 (ltb (length before) (at + e.size)) ≡ Err x = rw (← short some) r in
      let refused : add_verdict e (length before) at ≡ Err x = rw none past in
      record { given = given_refused _ _ _ _ x refused (adding-refusal x refused); bytes = rw (none, past) }

  pub enough : 0 < e.size → ground ShortBuffer NoList 0 (ltb (length before - at) e.size) ≡ Ok tt → at + e.size ≤ length before
  enough some a = ltb-false (length before) (at + e.size) (sym (short some) ∙ not-met ShortBuffer NoList 0 (ltb (length before - at) e.size) a)

  -- there is, and the record's bytes are put
  pub added : (bytes : List ℕ) (next : ℕ) (after : List ℕ) → Fit e.slots → at + e.size ≤ length before → entry_bytes e ≡ bytes → Put bytes before at next after → Added e before at (Ok next) after
  unfolding add_verdict add_buffer
  added bytes next after fit room same p =
      let enough = le-ltb (length before) (at + e.size) room in
      let size : length bytes ≡ e.size = ap length (sym same) ∙ length-packed e.size e.slots in
      let accepted : add_verdict e (length before) at ≡ Ok tt = rw (none-too_wide e.slots fit, enough) in
      record {
        given = given_answered _ _ _ _ next accepted (p.next ∙ rw size) room;
        bytes = p.bytes ∙ rw (none-too_wide e.slots fit, enough, same);
      }

-- ---- the finishing call

module _ (buf : List ℕ) (at : ℕ) where
  -- its first ground
  abbrev pub past : Verdict
  past = ground ShortBuffer NoList 0 (ltb (length buf) at)

  pub past_buffer : (x : Refusal) → past ≡ Err x → Finished buf at (Err x)
  unfolding finish_verdict
  past_buffer x e = go (ltb (length buf) at) refl e
    where
      go : (b : Bool) → ltb (length buf) at ≡ b → ground ShortBuffer NoList 0 b ≡ Err x → Finished buf at (Err x)
      go true p q = record { answer = rw e; refusal = λ y m. OfFinishing.past (ltb-true (length buf) at p) (cc) }
      go false p q = absurd (refused-not (sym q))

  pub judged_before : (r : Verdict) → past ≡ Ok tt → r ≡ verdict (take at buf) → Finished buf at r
  unfolding finish_verdict
  judged_before r h e = record { answer = rw h e; refusal = λ x m. OfFinishing.of_log (log-refusal (take at buf) x (sym e ∙ m)) }
