-- The code at a millisecond in a list made of parts, and counts over a period made of parts.
-- Assumes nothing.
use mathlib.Core.Path.{◌≡◌, refl, sym, ap, ◌∙◌}
use mathlib.Core.Bool.{Bool, true, false, ◌&&◌, cond}
use mathlib.Core.Option.{Option, none, some}
use mathlib.Core.List.{List, [], ◌∷◌, ◌++◌, foldl, foldl-append}
use Prim.Native.Nat.{ℕ, zero, suc, ◌+◌, ◌<◌}
use native.Mathlib.Nat.{add-zero, add-suc}
use native.Mathlib.Omega.{arith}
use lib.Dec.{leb, eqb}
use borrow.Author.Tests.{eqb-true, lt-leb, leb-false}
use Rattle.records.specs.declared.StateRecord.{StateRecord}
use Rattle.rules.specs.Time.{keep, code_at, count}
use Rattle.rules.specs.RecordGrounds.{first_time, is_opening}
use Rattle.rules.proofs.Booleans.{false-true}
use Rattle.rules.specs.Lists.{Each}

-- ---- counts

-- over a period and another behind it
pub count-add : (f : ℕ → Bool) (p q : ℕ) → count f (p + q) ≡ count f p + count (λ t. f (p + t)) q
unfolding count
count-add f p zero = ap (count f) (add-zero p) ∙ omega arith
count-add f p (suc q) = rw add-suc (omega (arith, count-add f p q))

-- ---- the code found

-- the second where the first finds none
abbrev pub or_else : Option ℕ → Option ℕ → Option ℕ
or_else none o = o
or_else (some c) o = some c

abbrev pub is_found : Option ℕ → Bool
is_found none = false
is_found (some c) = true

pub found-first : (o u : Option ℕ) → is_found o ≡ true → or_else o u ≡ o
found-first none u e = absurd (false-true e)
found-first (some c) u e = refl

module _ (m t : ℕ) where
  kept : (found : Option ℕ) (r : StateRecord) → keep m t found r ≡ or_else (keep m t none r) found
  kept found r = go (eqb r.«module» m && leb r.time t)
    where
      go : (b : Bool) → cond b (some r.code) found ≡ or_else (cond b (some r.code) none) found
      go true = refl
      go false = refl

  or-assoc : (a b c : Option ℕ) → or_else a (or_else b c) ≡ or_else (or_else a b) c
  or-assoc none b c = refl
  or-assoc (some x) b c = refl

  from : (found : Option ℕ) (rs : List StateRecord) → foldl (keep m t) found rs ≡ or_else (foldl (keep m t) none rs) found
  from found [] = refl
  from found (r ∷ rs) =
      from (keep m t found r) rs
      ∙ ap (or_else (foldl (keep m t) none rs)) (kept found r)
      ∙ or-assoc (foldl (keep m t) none rs) (keep m t none r) found
      ∙ ap (λ (o : Option ℕ). or_else o found) (sym (from (keep m t none r) rs))

  -- in a list behind another, and where it has none, in the one ahead
  pub code-append : (rs qs : List StateRecord) → code_at (rs ++ qs) m t ≡ or_else (code_at qs m t) (code_at rs m t)
  unfolding code_at
  code-append rs qs = foldl-append (keep m t) none rs qs ∙ from (foldl (keep m t) none rs) qs

  -- none among later records
  pub code-later : (rs : List StateRecord) → Each (λ r. t < r.time) rs → code_at rs m t ≡ none
  unfolding code_at
  code-later [] e = refl
  code-later (r ∷ rs) e = rw (lt-leb r.time t e.0) (go (eqb r.«module» m) (code-later rs e.1))
    where
      go : (b : Bool) → foldl (keep m t) none rs ≡ none → foldl (keep m t) (cond (b && false) (some r.code) none) rs ≡ none
      go true h = h
      go false h = h

  still-found : (found : Option ℕ) (rs : List StateRecord) → is_found found ≡ true → is_found (foldl (keep m t) found rs) ≡ true
  still-found found [] h = h
  still-found found (r ∷ rs) h = still-found (keep m t found r) rs (go (eqb r.«module» m && leb r.time t))
    where
      go : (b : Bool) → is_found (cond b (some r.code) found) ≡ true
      go true = refl
      go false = h

  -- a module that is opened has a code at every millisecond
  pub opened-found : (rs : List StateRecord) → is_opening (first_time m rs) ≡ true → is_found (code_at rs m t) ≡ true
  unfolding code_at first_time
  opened-found [] e = absurd (false-true e)
  opened-found (r ∷ rs) e = go (eqb r.«module» m) (leb r.time t) refl e (opened-found rs)
    where
      go : (b c : Bool) → leb r.time t ≡ c → is_opening (cond b (some r.time) (first_time m rs)) ≡ true → (is_opening (first_time m rs) ≡ true → is_found (foldl (keep m t) none rs) ≡ true) → is_found (foldl (keep m t) (cond (b && c) (some r.code) none) rs) ≡ true
      go true true l h rest = still-found (some r.code) rs refl
      go true false l h rest = absurd (omega (arith, eqb-true r.time 0 h, leb-false r.time t l))
      go false c l h rest = rest h
