-- One pass over a rising list packs it: a module's current code is that of its last record, and the standard in force for a standard's module and recipe just before
-- it is its neighbour in the list, or none, since no other module or recipe comes between two standards of one.
-- Assumes nothing.
use mathlib.Core.Path.{◌≡◌, refl, sym, ◌∙◌}
use mathlib.Core.Bool.{Bool, true, false, ◌&&◌, cond}
use mathlib.Core.Logic.{inl, inr}
use mathlib.Core.Option.{Option, none, some}
use mathlib.Core.List.{List, [], ◌∷◌, ◌++◌, foldl, foldl-append}
use Prim.Native.Nat.{ℕ, ◌≤◌}
use native.Mathlib.Omega.{arith}
use lib.Dec.{leb, eqb}
use lib.ListN.{length}
use borrow.Author.Tests.{eqb-true, le-leb}
use Rattle.records.specs.declared.StateRecord.{StateRecord}
use Rattle.records.specs.declared.Standard.{Standard}
use Rattle.rules.specs.Sequence.{just_before, is_below, is_after, is_rising_after, is_rising, state_key, standard_key}
use Rattle.rules.specs.Theoretical.{For, is_for}
use Rattle.rules.specs.Time.{keep, code_at}
use Rattle.rules.proofs.Booleans.{both, false-true}
use Rattle.rules.proofs.Each.{rises}
use Rattle.rules.proofs.InForce.{is_for_lem, for_true, not_for, begun}
use Rattle.rules.proofs.Sequence.{Lower, lower, AllBelow, rising_below, rising_more, last_more, time-above, start-above}
use Rattle.packed.specs.OnePass.{last_code, same_time}
use Rattle.packed.specs.Packed.{is_held, without, repeats_code, repeats_time, packed_states, packed_standards}
use Rattle.packed.proofs.Changes.{put, value_at, ascends, left-more}
use Rattle.packed.proofs.Codes.{codes}
use Rattle.packed.proofs.Times.{times, standards-left}
use Rattle.packed.proofs.Without.{length-without}

-- ---- the last of a list that rises

module _ {A : Type 0} (key : A → List ℕ) (rs : List A) (r : A) (e : is_rising key (rs ++ (r ∷ [])) ≡ true) where
  last-after : (is_rising key rs ≡ true) × (is_after key (just_before rs) r ≡ true)
  last-after = both (is_rising key rs) (is_after key (just_before rs) r) (sym (rising_more key rs r) ∙ e)

  others-below : AllBelow key (key r) rs
  others-below = rising_below key rs r last-after.0 last-after.1

-- ---- the state records

module _ (r : StateRecord) where
  last-fold : (found : Option ℕ) (rs : List StateRecord) → AllBelow state_key (state_key r) rs
      → foldl (keep r.«module» r.time) found rs ≡ foldl (λ found q. cond (eqb q.«module» r.«module») (some q.code) found) found rs
  last-fold found [] h = refl
  last-fold found (q ∷ rs) h = step (eqb q.«module» r.«module») refl (λ next. last-fold next rs h.1)
    where
      step : (b : Bool) → eqb q.«module» r.«module» ≡ b
          → ((next : Option ℕ) → foldl (keep r.«module» r.time) next rs ≡ foldl (λ found q. cond (eqb q.«module» r.«module») (some q.code) found) next rs)
          → foldl (keep r.«module» r.time) (cond (b && leb q.time r.time) (some q.code) found) rs
          ≡ foldl (λ found q. cond (eqb q.«module» r.«module») (some q.code) found) (cond b (some q.code) found) rs
      step true e rest = rw (le-leb q.time r.time (omega (arith, time-above q r (eqb-true q.«module» r.«module» e) h.0))) (rest (some q.code))
      step false e rest = rest found

-- the records ahead of r give its module at r's time the code of its last record
current-code : (rs : List StateRecord) (r : StateRecord) → is_rising state_key (rs ++ (r ∷ [])) ≡ true → code_at rs r.«module» r.time ≡ last_code rs r.«module»
unfolding code_at last_code
current-code rs r e = last-fold r none rs (others-below state_key rs r e)

-- a state record is left unless its code is that of its module's last record
pub states_more : (rs : List StateRecord) (r : StateRecord) → is_rising state_key (rs ++ (r ∷ [])) ≡ true → packed_states (rs ++ (r ∷ [])) ≡ packed_states rs ++ cond (is_held (last_code rs r.«module») r.code) [] (r ∷ [])
unfolding code_at packed_states repeats_code
states_more rs r e = rw (← current-code rs r e) (left-more codes rs r (ascends codes (rs ++ (r ∷ [])) (rises state_key (rs ++ (r ∷ [])) e)))

-- ---- the standards

module _ (s : Standard) where
  -- a standard between two of a module and a recipe is of them too
  between : (q b : Standard) → is_below (standard_key q) (standard_key b) ≡ true → is_below (standard_key b) (standard_key s) ≡ true → For s.«module» s.recipe q → For s.«module» s.recipe b
  between q b x y f =
      go (lower q.«module» b.«module» (q.recipe ∷ q.start ∷ []) (b.recipe ∷ b.start ∷ []) x) (lower b.«module» s.«module» (b.recipe ∷ b.start ∷ []) (s.recipe ∷ s.start ∷ []) y)
    where
      next : q.«module» ≡ b.«module» → Lower q.recipe b.recipe (q.start ∷ []) (b.start ∷ []) → Lower b.recipe s.recipe (b.start ∷ []) (s.start ∷ []) → For s.«module» s.recipe b
      next m (inl u) (inl v) = absurd (omega (arith, f.1))
      next m (inl u) (inr v) = absurd (omega (arith, f.1, v.0))
      next m (inr u) (inl v) = absurd (omega (arith, f.1, u.0))
      next m (inr u) (inr v) = (omega (arith, m, f.0), v.0)

      go : Lower q.«module» b.«module» (q.recipe ∷ q.start ∷ []) (b.recipe ∷ b.start ∷ []) → Lower b.«module» s.«module» (b.recipe ∷ b.start ∷ []) (s.recipe ∷ s.start ∷ []) → For s.«module» s.recipe b
      go (inl u) (inl v) = absurd (omega (arith, f.0))
      go (inl u) (inr v) = absurd (omega (arith, f.0, v.0))
      go (inr u) (inl v) = absurd (omega (arith, f.0, u.0))
      go (inr u) (inr v) = next u.0 (lower q.recipe b.recipe (q.start ∷ []) (b.start ∷ []) u.1) (lower b.recipe s.recipe (b.start ∷ []) (s.start ∷ []) v.1)

  -- ahead of a neighbour of another module or recipe there is none of s's
  no-own : (b : Standard) (ss : List Standard) → AllBelow standard_key (standard_key b) ss → is_below (standard_key b) (standard_key s) ≡ true → (For s.«module» s.recipe b → ⊥)
      → value_at times ss (s.«module», s.recipe) s.start ≡ none
  no-own b [] h e f = refl
  no-own b (q ∷ ss) h e f = rw (not_for s.«module» s.recipe q s.start (λ o. f (between q b h.0 e o))) (no-own b ss h.1 e f)

  -- the time in force for s's module and recipe by the standards ahead of it is its neighbour's, where that is of them, and else there is none
  neighbour : (ss : List Standard) (b : Standard) → is_rising standard_key ((ss ++ (b ∷ [])) ++ (s ∷ [])) ≡ true
      → value_at times (ss ++ (b ∷ [])) (s.«module», s.recipe) s.start ≡ cond (is_for s.«module» s.recipe b) (some b.theoretical) none
  neighbour ss b e =
      let p = last-after standard_key (ss ++ (b ∷ [])) s e in
      let below : is_below (standard_key b) (standard_key s) ≡ true = rw (last_more ss b) at p.1 in
      foldl-append (put times (s.«module», s.recipe) s.start) none ss (b ∷ []) ∙ step below (others-below standard_key ss b p.0) (is_for s.«module» s.recipe b) refl
    where
      step : is_below (standard_key b) (standard_key s) ≡ true → AllBelow standard_key (standard_key b) ss → (c : Bool) → is_for s.«module» s.recipe b ≡ c
          → put times (s.«module», s.recipe) s.start (value_at times ss (s.«module», s.recipe) s.start) b ≡ cond c (some b.theoretical) none
      step below h true w =
          let f = for_true s.«module» s.recipe b w in
          rw (begun s.«module» s.recipe b s.start f (omega (arith, start-above b s f below)))
      step below h false w =
          let f : For s.«module» s.recipe b → ⊥ = λ f. false-true (sym w ∙ is_for_lem s.«module» s.recipe b f) in
          rw (no-own b ss h below f, not_for s.«module» s.recipe b s.start f)

  -- so a standard says nothing new just where its neighbour has its module, its recipe and its time
  repeats-neighbour : (ss : List Standard) (b : Standard) → is_rising standard_key ((ss ++ (b ∷ [])) ++ (s ∷ [])) ≡ true
      → is_held (value_at times (ss ++ (b ∷ [])) (s.«module», s.recipe) s.start) s.theoretical ≡ same_time b s
  repeats-neighbour ss b e = rw (neighbour ss b e) (go (eqb b.«module» s.«module») (eqb b.recipe s.recipe))
    where
      go : (x y : Bool) → is_held (cond (x && y) (some b.theoretical) none) s.theoretical ≡ x && (y && eqb b.theoretical s.theoretical)
      go true true = refl
      go true false = refl
      go false y = refl

module _ (ss : List Standard) (s : Standard) (e : is_rising standard_key (ss ++ (s ∷ [])) ≡ true) where
  standard-left : packed_standards (ss ++ (s ∷ [])) ≡ packed_standards ss ++ cond (is_held (value_at times ss (s.«module», s.recipe) s.start) s.theoretical) [] (s ∷ [])
  standard-left =
      standards-left (ss ++ (s ∷ [])) e
      ∙ left-more times ss s (ascends times (ss ++ (s ∷ [])) (rises standard_key (ss ++ (s ∷ [])) e))
      ∙ rw (standards-left ss (last-after standard_key ss s e).0)

-- the first standard is left
pub standards_first : (s : Standard) → packed_standards (s ∷ []) ≡ s ∷ []
unfolding packed_standards without is_rising_after
standards_first s = standard-left [] s refl

-- and each further one unless its neighbour has its module, its recipe and its time
pub standards_more : (ss : List Standard) (b s : Standard) → is_rising standard_key ((ss ++ (b ∷ [])) ++ (s ∷ [])) ≡ true → packed_standards ((ss ++ (b ∷ [])) ++ (s ∷ [])) ≡ packed_standards (ss ++ (b ∷ [])) ++ cond (same_time b s) [] (s ∷ [])
standards_more ss b s e = rw (← repeats-neighbour s ss b e) (standard-left (ss ++ (b ∷ [])) s e)

-- ---- how many are left

pub states_fewer : (rs : List StateRecord) → length (packed_states rs) ≤ length rs
unfolding packed_states
states_fewer rs = length-without (repeats_code rs) rs

pub standards_fewer : (ss : List Standard) → length (packed_standards ss) ≤ length ss
unfolding packed_standards
standards_fewer ss = length-without (repeats_time ss) ss
