-- A module that is opened at time 0 has a code at every millisecond, and each code one of the six states: so its six state times add up to the period.
-- Assumes nothing.
use mathlib.Core.Path.{◌≡◌, refl, ap, ◌∙◌}
use mathlib.Core.Bool.{Bool, true, false, cond, not, ◌&&◌}
use mathlib.Core.Option.{Option, none, some}
use mathlib.Core.List.{List, [], ◌∷◌, ◌++◌, foldl}
use Prim.Native.Nat.{ℕ, zero, suc, ◌+◌, ◌≤◌, ◌<◌, zero-le}
use native.Mathlib.Omega.{arith}
use native.Mathlib.Decide.{ℕ_discrete, dec_lt}
use lib.Dec.{eqb, leb, ltb}
use borrow.Author.Tests.{eq-eqb, ne_eqb, le-leb, lt-ltb, le-ltb, eqb-true, not-false}
use Rattle.records.specs.declared.StateRecord.{StateRecord}
use Rattle.rules.specs.declared.Ground.TheVariants.{NoOpening}
use Rattle.rules.specs.declared.LogList.TheVariants.{NoList}
use Rattle.rules.specs.Grounds.{Verdict}
use Rattle.std.specs.declared.result.Result.TheVariants.{Ok}
use Rattle.rules.specs.Grounds.{first_of, in_turn, each_of}
use Rattle.rules.specs.Time.{state_of, keep, code_at, is_state, count, state_time}
use Rattle.rules.specs.RecordGrounds.{state_ground, first_time, is_opening, opening_ground, state_grounds}
use Rattle.rules.proofs.FirstGround.{then-left, then-right, first_all, not-met}
use Rattle.states.proofs.Table.{state-low}
use Rattle.states.proofs.Count.{count-le, count-stretch}
use Rattle.states.proofs.Sound.{sound}

-- ---- at most one of the six at a millisecond

abbrev in_six : Option ℕ → Bool
in_six none = false
in_six (some code) = ltb (state_of code) 6

-- of the states below n, s is one where it is below n, and none otherwise
abbrev pub among : ℕ → ℕ → ℕ → ℕ
among s zero d = 0
among s (suc n) d = among s n d + cond (eqb s n) d 0

pub one_of : (s n d : ℕ) → among s n d ≡ cond (ltb s n) d 0
one_of s zero d = simp (le-ltb s 0 zero-le)
one_of s (suc n) d = rw (one_of s n d) (go (ℕ_discrete s n) (dec_lt s n))
  where
    go : Dec (s ≡ n) → Dec (s < n) → cond (ltb s n) d 0 + cond (eqb s n) d 0 ≡ cond (ltb s (suc n)) d 0
    go (yes e) l = simp (le-ltb s n (omega arith), eq-eqb s n e, lt-ltb s (suc n) (omega arith)) (omega arith)
    go (no ne) (yes l) = simp (lt-ltb s n l, ne_eqb s n ne, lt-ltb s (suc n) (omega arith)) (omega arith)
    go (no ne) (no l) = simp (le-ltb s n (omega arith), ne_eqb s n ne, le-ltb s (suc n) (omega (arith, ne))) (omega arith)

one_state : (o : Option ℕ)
    → cond (is_state 0 o) 1 0 + cond (is_state 1 o) 1 0 + cond (is_state 2 o) 1 0 + cond (is_state 3 o) 1 0 + cond (is_state 4 o) 1 0 + cond (is_state 5 o) 1 0 ≡ cond (in_six o) 1 0
unfolding is_state
one_state none = refl
one_state (some code) = omega (arith, one_of (state_of code) 6 1)

abbrev pub six_times : List StateRecord → ℕ → ℕ → ℕ
six_times rs period m = state_time rs period m 0 + state_time rs period m 1 + state_time rs period m 2 + state_time rs period m 3 + state_time rs period m 4 + state_time rs period m 5

six-count : (rs : List StateRecord) (m n : ℕ) → six_times rs n m ≡ count (λ t. in_six (code_at rs m t)) n
unfolding state_time count
six-count rs m zero = refl
six-count rs m (suc n) = omega (arith, one_state (code_at rs m n), six-count rs m n)

-- a state time is at most the period, and so are the sum of the six and the uptime
pub state_time-le : (rs : List StateRecord) (period m k : ℕ) → state_time rs period m k ≤ period
unfolding state_time
state_time-le rs period m k = count-le (λ t. is_state k (code_at rs m t)) period

pub six_times-le : (rs : List StateRecord) (period m : ℕ) → six_times rs period m ≤ period
six_times-le rs period m = rw (six-count rs m period) (count-le (λ t. in_six (code_at rs m t)) period)

pub uptime-le : (rs : List StateRecord) (period m : ℕ) → state_time rs period m 0 + state_time rs period m 1 + state_time rs period m 2 ≤ period
uptime-le rs period m = omega (arith, six_times-le rs period m)

-- ---- one of them at each millisecond

pub opening-zero : (o : Option ℕ) → is_opening o ≡ true → o ≡ some 0
opening-zero none e = let z : ◌≡◌ {A = ℕ} 0 1 = cc in absurd (omega arith)
opening-zero (some t) e = ap {B = Option ℕ} some (eqb-true t 0 e)

module _ (period modules m t : ℕ) where
  abbrev turn : List StateRecord → ℕ → List StateRecord → Verdict
  turn earlier i rs = in_turn (state_ground period modules) earlier i rs

  low : (earlier : List StateRecord) (i : ℕ) (r : StateRecord) (rs : List StateRecord) → turn earlier i (r ∷ rs) ≡ Ok tt → r.code < 24
  unfolding in_turn
  low earlier i r rs a = (sound period modules earlier i r (then-left (state_ground period modules earlier i r) _ a)).low

  later : (earlier : List StateRecord) (i : ℕ) (r : StateRecord) (rs : List StateRecord) → turn earlier i (r ∷ rs) ≡ Ok tt → turn (earlier ++ (r ∷ [])) (suc i) rs ≡ Ok tt
  unfolding in_turn
  later earlier i r rs a = then-right (state_ground period modules earlier i r) _ a

  six-stays : (earlier : List StateRecord) (i : ℕ) (rs : List StateRecord) (found : Option ℕ) → turn earlier i rs ≡ Ok tt → in_six found ≡ true → in_six (foldl (keep m t) found rs) ≡ true
  six-stays earlier i [] found a e = e
  six-stays earlier i (r ∷ rs) found a e =
      six-stays (earlier ++ (r ∷ [])) (suc i) rs (keep m t found r) (later earlier i r rs a) (go (eqb r.«module» m && leb r.time t))
    where
      go : (b : Bool) → in_six (cond b (some r.code) found) ≡ true
      go true = lt-ltb (state_of r.code) 6 (state-low r.code (low earlier i r rs a))
      go false = e

  six-from : (earlier : List StateRecord) (i : ℕ) (rs : List StateRecord) (found : Option ℕ) → turn earlier i rs ≡ Ok tt → first_time m rs ≡ some 0 → in_six (foldl (keep m t) found rs) ≡ true
  unfolding first_time
  six-from earlier i [] found a e = let z : ◌≡◌ {A = ℕ} 0 1 = cc in absurd (omega arith)
  six-from earlier i (r ∷ rs) found a e =
      go (eqb r.«module» m) e (six-from (earlier ++ (r ∷ [])) (suc i) rs found (later earlier i r rs a))
    where
      go : (b : Bool) → cond b (some r.time) (first_time m rs) ≡ some 0 → (first_time m rs ≡ some 0 → in_six (foldl (keep m t) found rs) ≡ true)
          → in_six (foldl (keep m t) (cond (b && leb r.time t) (some r.code) found) rs) ≡ true
      go true e rest =
          let z : r.time ≡ 0 = cc in
          let l : r.time ≤ t = omega arith in
          rw (le-leb r.time t l) (six-stays (earlier ++ (r ∷ [])) (suc i) rs (some r.code) (later earlier i r rs a) (lt-ltb (state_of r.code) 6 (state-low r.code (low earlier i r rs a))))
      go false e rest = rest e

-- the six state times of each module of accepted records add up to the period
pub six_times_lem : (rs : List StateRecord) (period modules m : ℕ) → state_grounds period modules rs ≡ Ok tt → m < modules → six_times rs period m ≡ period
unfolding state_grounds opening_ground code_at count
six_times_lem rs period modules m a h =
    let each : each_of (state_ground period modules) rs ≡ Ok tt = then-left (each_of (state_ground period modules) rs) (first_of (opening_ground rs) modules) a in
    let opened = first_all (opening_ground rs) modules (then-right (each_of (state_ground period modules) rs) (first_of (opening_ground rs) modules) a) m h in
    let first : first_time m rs ≡ some 0 = opening-zero (first_time m rs) (not-false (is_opening (first_time m rs)) (not-met NoOpening NoList m (not (is_opening (first_time m rs))) opened)) in
    six-count rs m period
    ∙ count-stretch (λ t. in_six (code_at rs m t)) true 0 period zero-le (λ t l u. six-from period modules m t [] 0 rs none each first)
    ∙ omega arith
