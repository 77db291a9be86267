-- What one more record changes: its own module's code from its time on, and its module's first and latest time; nothing of any other module.
-- Assumes nothing.
use mathlib.Core.Path.{◌≡◌, refl, ap, ◌∙◌}
use mathlib.Core.Bool.{Bool, true, false, cond, and-false}
use mathlib.Core.Option.{Option, none, some, IsSome}
use mathlib.Core.List.{List, [], ◌∷◌, ◌++◌, foldl-append}
use Prim.Native.Nat.{ℕ, ◌≤◌, ◌<◌}
use lib.Dec.{eqb}
use borrow.Author.Tests.{eq-eqb, ne_eqb, le-leb, lt-leb}
use Rattle.records.specs.declared.StateRecord.{StateRecord}
use Rattle.rules.specs.Time.{keep, code_at, is_state, state_time}
use Rattle.rules.specs.RecordGrounds.{own_time, first_time}
use Rattle.states.proofs.Count.{count-agree}

-- a first time stays, and where there is none the next list's counts
abbrev otherwise : Option ℕ → Option ℕ → Option ℕ
otherwise none p = p
otherwise (some t) p = some t

first-append : (m : ℕ) (rs qs : List StateRecord) → first_time m (rs ++ qs) ≡ otherwise (first_time m rs) (first_time m qs)
unfolding first_time
first-append m [] qs = refl
first-append m (r ∷ rs) qs = go (eqb r.«module» m) (first-append m rs qs)
  where
    go : (b : Bool) → first_time m (rs ++ qs) ≡ otherwise (first_time m rs) (first_time m qs)
        → cond b (some r.time) (first_time m (rs ++ qs)) ≡ otherwise (cond b (some r.time) (first_time m rs)) (first_time m qs)
    go true e = refl
    go false e = e

module _ (rs : List StateRecord) (r : StateRecord) where
  code-more : (m t : ℕ) → code_at (rs ++ (r ∷ [])) m t ≡ keep m t (code_at rs m t) r
  unfolding code_at
  code-more m t = foldl-append (keep m t) none rs (r ∷ [])

  own-more : (m : ℕ) → own_time m (rs ++ (r ∷ [])) ≡ cond (eqb r.«module» m) (some r.time) (own_time m rs)
  unfolding own_time
  own-more m = foldl-append (λ t r. cond (eqb r.«module» m) (some r.time) t) none rs (r ∷ [])

  first_more : (m : ℕ) → first_time m (rs ++ (r ∷ [])) ≡ otherwise (first_time m rs) (cond (eqb r.«module» m) (some r.time) none)
  unfolding first_time
  first_more m = first-append m rs (r ∷ [])

  -- before the record's time every module's code is as it was
  pub code_before : (m t : ℕ) → t < r.time → code_at (rs ++ (r ∷ [])) m t ≡ code_at rs m t
  code_before m t h = code-more m t ∙ simp (lt-leb r.time t h, and-false)

  pub time_before : (m k : ℕ) → state_time (rs ++ (r ∷ [])) r.time m k ≡ state_time rs r.time m k
  unfolding state_time
  time_before m k = count-agree _ _ r.time (λ t h. ap (is_state k) (code_before m t h))

  -- the record's own module
  pub code_from : (t : ℕ) → r.time ≤ t → code_at (rs ++ (r ∷ [])) r.«module» t ≡ some r.code
  code_from t h = code-more r.«module» t ∙ simp (eq-eqb r.«module» r.«module» refl, le-leb r.time t h)

  pub own_time_lem : own_time r.«module» (rs ++ (r ∷ [])) ≡ some r.time
  own_time_lem = own-more r.«module» ∙ simp (eq-eqb r.«module» r.«module» refl)

  pub first_new : first_time r.«module» rs ≡ none → first_time r.«module» (rs ++ (r ∷ [])) ≡ some r.time
  first_new e = first_more r.«module» ∙ simp (e, eq-eqb r.«module» r.«module» refl)

  pub first_stays : (m : ℕ) → IsSome (first_time m rs) → first_time m (rs ++ (r ∷ [])) ≡ first_time m rs
  first_stays m h = first_more m ∙ go (first_time m rs) h
    where
      go : (o : Option ℕ) → IsSome o → otherwise o (cond (eqb r.«module» m) (some r.time) none) ≡ o
      go none h = absurd h
      go (some t) h = refl

  -- every other module
  module _ (m : ℕ) (ne : r.«module» ≡ m → ⊥) where
    pub code_other : (t : ℕ) → code_at (rs ++ (r ∷ [])) m t ≡ code_at rs m t
    code_other t = code-more m t ∙ simp (ne_eqb r.«module» m ne)

    pub time_other : (u k : ℕ) → state_time (rs ++ (r ∷ [])) u m k ≡ state_time rs u m k
    unfolding state_time
    time_other u k = count-agree _ _ u (λ t h. ap (is_state k) (code_other t))

    pub own_other : own_time m (rs ++ (r ∷ [])) ≡ own_time m rs
    own_other = own-more m ∙ simp (ne_eqb r.«module» m ne)

    pub first_other : first_time m (rs ++ (r ∷ [])) ≡ first_time m rs
    first_other = first_more m ∙ rw (ne_eqb r.«module» m ne) (go (first_time m rs))
      where
        go : (o : Option ℕ) → otherwise o none ≡ o
        go none = refl
        go (some t) = refl
