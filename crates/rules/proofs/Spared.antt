-- What the rising sequence spares a pass over a list: where the records so far rise and one is after the last of them, it is later than its own module's last,
-- and its module, recipe and start are no earlier standard's. So one comparison decides, and only a record that breaks the sequence needs a search for 13.
-- Assumes nothing.
use mathlib.Core.Path.{◌≡◌, refl}
use mathlib.Core.Bool.{Bool, true, false, ◌&&◌, ◌||◌, cond}
use mathlib.Core.Option.{Option, none, some}
use mathlib.Core.List.{List, [], ◌∷◌, foldl}
use Prim.Native.Nat.{ℕ}
use native.Mathlib.Omega.{arith}
use lib.Dec.{eqb}
use borrow.Author.Tests.{eqb-true, lt-leb}
use Rattle.records.specs.declared.StateRecord.{StateRecord}
use Rattle.records.specs.declared.Standard.{Standard}
use Rattle.rules.specs.Sequence.{just_before, is_after, is_rising, state_key, standard_key}
use Rattle.rules.specs.Theoretical.{is_for}
use Rattle.rules.specs.RecordGrounds.{own_time, is_not_after, is_among}
use Rattle.rules.proofs.Booleans.{both}
use Rattle.rules.proofs.InForce.{for_true}
use Rattle.rules.proofs.Sequence.{AllBelow, rising_below, time-above, start-above}

pub own-later : (r : StateRecord) (found : Option ℕ) (rs : List StateRecord) → is_not_after r.time found ≡ false → AllBelow state_key (state_key r) rs
    → is_not_after r.time (foldl (λ t q. cond (eqb q.«module» r.«module») (some q.time) t) found rs) ≡ false
own-later r found [] h b = h
own-later r found (q ∷ rs) h b = step (eqb q.«module» r.«module») refl (λ next k. own-later r next rs k b.1)
  where
    step : (c : Bool) → eqb q.«module» r.«module» ≡ c
        → ((next : Option ℕ) → is_not_after r.time next ≡ false → is_not_after r.time (foldl (λ t q. cond (eqb q.«module» r.«module») (some q.time) t) next rs) ≡ false)
        → is_not_after r.time (foldl (λ t q. cond (eqb q.«module» r.«module») (some q.time) t) (cond c (some q.time) found) rs) ≡ false
    step true e rest = rest (some q.time) (lt-leb r.time q.time (time-above q r (eqb-true q.«module» r.«module» e) b.0))
    step false e rest = rest found h

pub later-than-own : (earlier : List StateRecord) (r : StateRecord) → is_rising state_key earlier ≡ true → is_after state_key (just_before earlier) r ≡ true
    → is_not_after r.time (own_time r.«module» earlier) ≡ false
unfolding own_time
later-than-own earlier r e h = own-later r none earlier refl (rising_below state_key earlier r e h)

pub none-among : (s : Standard) (es : List Standard) → AllBelow standard_key (standard_key s) es → is_among s es ≡ false
none-among s [] b = refl
none-among s (e ∷ es) b = step (is_for s.«module» s.recipe e && eqb e.start s.start) refl (none-among s es b.1)
  where
    step : (c : Bool) → is_for s.«module» s.recipe e && eqb e.start s.start ≡ c → is_among s es ≡ false → c || is_among s es ≡ false
    step true q rest =
        let p = both (is_for s.«module» s.recipe e) (eqb e.start s.start) q in
        absurd (omega (arith, start-above e s (for_true s.«module» s.recipe e p.0) b.0, eqb-true e.start s.start p.1))
    step false q rest = rest

pub not-among : (earlier : List Standard) (s : Standard) → is_rising standard_key earlier ≡ true → is_after standard_key (just_before earlier) s ≡ true → is_among s earlier ≡ false
not-among earlier s e h = none-among s earlier (rising_below standard_key earlier s e h)
