-- A state time is the sum of its stretches, from a record of the module up to its next. The sum computes at once, where the count takes a step for each millisecond.
-- Assumes nothing.
use mathlib.Core.Path.{◌≡◌, refl, ap}
use mathlib.Core.Bool.{Bool, true, false, cond, ◌&&◌}
use mathlib.Core.Option.{Option, none, some}
use mathlib.Core.List.{List, [], ◌∷◌, ◌++◌, foldl}
use Prim.Native.Nat.{ℕ, suc, ◌+◌, ◌-◌, ◌≤◌, ◌<◌}
use native.Mathlib.Omega.{arith}
use native.Mathlib.Decide.{ℕ_discrete}
use lib.Dec.{T, eqb, leb, leb→le, le→leb}
use borrow.Author.Tests.{eq-eqb, ne_eqb, le-leb, lt-leb}
use Rattle.records.specs.declared.StateRecord.{StateRecord}
use Rattle.std.specs.declared.result.Result.TheVariants.{Ok}
use Rattle.rules.specs.Grounds.{first_of, in_turn, each_of}
use Rattle.rules.specs.RecordGrounds.{own_time, state_ground, opening_ground, state_grounds}
use Rattle.rules.proofs.FirstGround.{then-left, then-right}
use Rattle.rules.specs.Time.{keep, code_at, is_state, count, state_time}
use Rattle.states.proofs.OneMore.{own_time_lem, own_other}
use Rattle.states.proofs.Sound.{from_of, Sound, sound, from_next}
use Rattle.states.proofs.Count.{count-stretch, count-alike}

both_left : (a b : Bool) → T (a && b) → T a
both_left true b t = tt
both_left false b t = t

both_right : (a b : Bool) → T (a && b) → T b
both_right true b t = t
both_right false b t = absurd t

both : (a b : Bool) → T a → T b → T (a && b)
both true b s t = t
both false b s t = s

-- the stretches of module m in state k, from u on, where its code is c at u
abbrev pub stretches : List StateRecord → ℕ → ℕ → ℕ → Option ℕ → ℕ → ℕ
stretches [] period m k c u = cond (is_state k c) (period - u) 0
stretches (r ∷ rs) period m k c u =
    cond (eqb r.«module» m) (cond (is_state k c) (r.time - u) 0) 0
    + stretches rs period m k (cond (eqb r.«module» m) (some r.code) c) (cond (eqb r.«module» m) r.time u)

-- module m's times do not fall, from u on, nor pass the period
abbrev pub rises : List StateRecord → ℕ → ℕ → ℕ → Bool
rises [] period m u = leb u period
rises (r ∷ rs) period m u = cond (eqb r.«module» m) (leb u r.time) true && rises rs period m (cond (eqb r.«module» m) r.time u)

module _ (period m : ℕ) where
  starts : (rs : List StateRecord) (u v : ℕ) → T (leb u v && rises rs period m v) → u ≤ v
  starts rs u v h = leb→le u v (both_left (leb u v) (rises rs period m v) h)

  goes_on : (rs : List StateRecord) (u v : ℕ) → T (leb u v && rises rs period m v) → T (rises rs period m v)
  goes_on rs u v h = both_right (leb u v) (rises rs period m v) h

  within : (rs : List StateRecord) (u : ℕ) → T (rises rs period m u) → u ≤ period
  within [] u h = leb→le u period h
  within (r ∷ rs) u h = go (eqb r.«module» m) h (within rs)
    where
      go : (b : Bool) → T (cond b (leb u r.time) true && rises rs period m (cond b r.time u)) → ((u : ℕ) → T (rises rs period m u) → u ≤ period) → u ≤ period
      go true h ih = omega (arith, starts rs u r.time h, ih r.time (goes_on rs u r.time h))
      go false h ih = ih u h

  -- before u no record of m has been
  before : (rs : List StateRecord) (c : Option ℕ) (u t : ℕ) → T (rises rs period m u) → t < u → foldl (keep m t) c rs ≡ c
  before [] c u t h l = refl
  before (r ∷ rs) c u t h l = go (eqb r.«module» m) h (before rs c)
    where
      go : (b : Bool) → T (cond b (leb u r.time) true && rises rs period m (cond b r.time u))
          → ((u t : ℕ) → T (rises rs period m u) → t < u → foldl (keep m t) c rs ≡ c)
          → foldl (keep m t) (cond (b && leb r.time t) (some r.code) c) rs ≡ c
      go true h ih =
          let a : u ≤ r.time = starts rs u r.time h in
          rw (lt-leb r.time t (omega arith)) (ih r.time t (goes_on rs u r.time h) (omega arith))
      go false h ih = ih u t h l

  -- whether module m is in state k at t, in the records rs that follow the code c
  abbrev test : ℕ → List StateRecord → Option ℕ → ℕ → Bool
  test k rs c t = is_state k (foldl (keep m t) c rs)

  -- the count up to the period is the count up to u and the stretches from there
  from : (k : ℕ) (rs : List StateRecord) (c : Option ℕ) (u : ℕ) → T (rises rs period m u)
      → count (test k rs c) period ≡ count (test k rs c) u + stretches rs period m k c u
  from k [] c u h = count-stretch (λ t. is_state k c) (is_state k c) u period (leb→le u period h) (λ t a b. refl)
  from k (r ∷ rs) c u h = go (eqb r.«module» m) h (from k rs)
    where
      next : Bool → ℕ → Bool
      next b t = is_state k (foldl (keep m t) (cond (b && leb r.time t) (some r.code) c) rs)

      go : (b : Bool) → T (cond b (leb u r.time) true && rises rs period m (cond b r.time u))
          → ((c : Option ℕ) (u : ℕ) → T (rises rs period m u) → count (test k rs c) period ≡ count (test k rs c) u + stretches rs period m k c u)
          → count (next b) period ≡ count (next b) u + (cond b (cond (is_state k c) (r.time - u) 0) 0 + stretches rs period m k (cond b (some r.code) c) (cond b r.time u))
      go true h ih =
          let v = r.time in
          let g : T (rises rs period m v) = goes_on rs u v h in
          let first : count (next true) v ≡ count (next true) u + cond (is_state k c) (v - u) 0
          = count-stretch (next true) (is_state k c) u v (starts rs u v h)
          (λ t x y. rw (lt-leb v t y) (ap (is_state k) (before rs c v t g y))) in
          let rest : count (next true) period + count (test k rs (some r.code)) v ≡ count (test k rs (some r.code)) period + count (next true) v
          = count-alike (next true) (test k rs (some r.code)) v period (within rs v g) (λ t x. rw (le-leb v t x)) in
          omega (arith, first, rest, ih (some r.code) v g)
      go false h ih = omega (arith, ih c u h)

  pub by_stretches : (rs : List StateRecord) → T (rises rs period m 0) → (k : ℕ) → state_time rs period m k ≡ stretches rs period m k none 0
  unfolding state_time code_at count
  by_stretches rs h k = omega (arith, from k rs none 0 h)

-- the records of an accepted log rise
module _ (period modules m : ℕ) where
  rises-on : (earlier : List StateRecord) (i : ℕ) (rs : List StateRecord) → in_turn (state_ground period modules) earlier i rs ≡ Ok tt → from_of (own_time m earlier) ≤ period
      → T (rises rs period m (from_of (own_time m earlier)))
  unfolding in_turn
  rises-on earlier i [] a l = le→leb (from_of (own_time m earlier)) period l
  rises-on earlier i (r ∷ rs) a l = pick (ℕ_discrete r.«module» m) (rises-on (earlier ++ (r ∷ [])) (suc i) rs (then-right (state_ground period modules earlier i r) _ a))
    where
      ok : Sound period modules earlier r
      ok = sound period modules earlier i r (then-left (state_ground period modules earlier i r) (in_turn (state_ground period modules) (earlier ++ (r ∷ [])) (suc i) rs) a)

      pick : Dec (r.«module» ≡ m) → (from_of (own_time m (earlier ++ (r ∷ []))) ≤ period → T (rises rs period m (from_of (own_time m (earlier ++ (r ∷ []))))))
          → T (rises (r ∷ rs) period m (from_of (own_time m earlier)))
      pick (yes e) rest =
          let own : own_time m (earlier ++ (r ∷ [])) ≡ some r.time = rw (← e) (own_time_lem earlier r) in
          let u : from_of (own_time m earlier) ≤ r.time = from_next (own_time m earlier) r.time (rw e at ok.later) in
          rw (eq-eqb r.«module» m e)
          (both (leb (from_of (own_time m earlier)) r.time) _ (le→leb (from_of (own_time m earlier)) r.time u) (rw own at rest (omega (arith, ok.inside))))
      pick (no ne) rest = rw (ne_eqb r.«module» m ne) (rw (own_other earlier r m ne) at rest l)

  pub accepted_by_stretches : (rs : List StateRecord) → state_grounds period modules rs ≡ Ok tt → (k : ℕ) → state_time rs period m k ≡ stretches rs period m k none 0
  unfolding state_grounds own_time
  accepted_by_stretches rs a =
      by_stretches period m rs (rises-on [] 0 rs (then-left (each_of (state_ground period modules) rs) (first_of (opening_ground rs) modules) a) (omega arith))
