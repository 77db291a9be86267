-- A module's totals run up to a time: what they hold is bounded by it, a stretch in a state has room in them, and with it added they run up to its end.
-- Assumes nothing.
use mathlib.Core.Path.{◌≡◌, refl, sym, ap, ◌∙◌}
use mathlib.Core.Bool.{Bool, true, false, cond}
use mathlib.Core.Option.{Option, some}
use mathlib.Core.List.{List}
use Prim.Native.Nat.{ℕ, ◌+◌, ◌-◌, ◌*◌, ◌^◌, ◌≤◌, ◌<◌}
use native.Mathlib.Omega.{arith}
use lib.Dec.{eqb}
use lib.ListN.{get_or, length, length-set}
use lib.Seq.{get_or-set_same, get_or-set_other}
use borrow.Author.Tests.{eqb-true, eqb-false}
use Rattle.records.specs.declared.StateRecord.{StateRecord}
use Rattle.rules.specs.Time.{state_of, code_at, is_state, state_time}
use Rattle.states.specs.Held.{totals_with, uptime_in, Sums}
use Rattle.states.proofs.Count.{count-stretch}
use Rattle.states.proofs.SixTimes.{state_time-le, uptime-le}

-- from u to t module m's code is o
pub record Runs (rs : List StateRecord) (m : ℕ) (o : Option ℕ) (u t : ℕ) : Type 0 where
  pub from : u ≤ t
  pub same : (x : ℕ) → u ≤ x → x < t → code_at rs m x ≡ o

-- so the time of its state grows by t - u, and no other
pub grows : {rs : List StateRecord} {m u t : ℕ} {o : Option ℕ} → Runs rs m o u t → (k : ℕ) → state_time rs t m k ≡ state_time rs u m k + cond (is_state k o) (t - u) 0
unfolding state_time
grows {rs} {m} {u} {t} {o} r k = count-stretch (λ x. is_state k (code_at rs m x)) (is_state k o) u t r.from (λ x l h. ap (is_state k) (r.same x l h))

-- the same sums, of other records or up to another time
pub sums-as : {rs qs : List StateRecord} {T : List ℕ} {m u v : ℕ} → ((k : ℕ) → state_time qs v m k ≡ state_time rs u m k) → Sums rs T m u → Sums qs T m v
sums-as e s = record { totals = λ k h. s.totals k h ∙ sym (e k) }

-- what they hold is at most the time up to which they run
pub room : {rs : List StateRecord} {T : List ℕ} {m u : ℕ} → Sums rs T m u → (k : ℕ) → k < 6 → (d : ℕ) → u + d < 2 ^ 64 → get_or T (6 * m + k) 0 + d < 2 ^ 64
room {rs} {m = m} {u} s k l d fits = omega (arith, s.totals k l, state_time-le rs u m k)

-- the uptime of the totals is that of the state times, and at most the time up to which they run
pub uptime-sum : {rs : List StateRecord} {T : List ℕ} {m u : ℕ} → Sums rs T m u → uptime_in T m ≡ state_time rs u m 0 + state_time rs u m 1 + state_time rs u m 2
uptime-sum s = rw (s.totals 0 (omega arith), s.totals 1 (omega arith), s.totals 2 (omega arith))

pub uptime-room : {rs : List StateRecord} {T : List ℕ} {m u : ℕ} → Sums rs T m u → u < 2 ^ 64 → uptime_in T m < 2 ^ 64
uptime-room {rs} {m = m} {u} s fits = omega (arith, uptime-sum s, uptime-le rs u m)

-- the totals after a stretch of module m
module _ (T : List ℕ) (long : length T ≡ 384) (m s d : ℕ) (h : m < 64) (low : s < 6) where
  total-own : (k : ℕ) → k < 6 → get_or (totals_with T m s d) (6 * m + k) 0 ≡ get_or T (6 * m + k) 0 + cond (eqb s k) d 0
  total-own k l = go (eqb s k) refl
    where
      go : (b : Bool) → eqb s k ≡ b → get_or (totals_with T m s d) (6 * m + k) 0 ≡ get_or T (6 * m + k) 0 + cond b d 0
      go true q = rw (eqb-true s k q) (get_or-set_same T (6 * m + k) _ 0 (omega arith))
      go false q = get_or-set_other T (6 * m + s) (6 * m + k) _ 0 (λ z. eqb-false s k q (omega arith)) ∙ omega arith

  -- its own sums run up to the stretch's end
  pub sums_own : {rs : List StateRecord} {u t code : ℕ} → s ≡ state_of code → d ≡ t - u → Runs rs m (some code) u t → Sums rs T m u → Sums rs (totals_with T m s d) m t
  unfolding is_state
  sums_own {rs} {u} {t} {code} q e r o = record { totals = λ k l. rw (grows r k, ← e, ← q) (total-own k l ∙ rw (o.totals k l)) }

  -- every other module's are as they were
  pub sums_other : {rs : List StateRecord} {x v : ℕ} → (m ≡ x → ⊥) → Sums rs T x v → Sums rs (totals_with T m s d) x v
  sums_other {rs} {x} {v} ne o = record { totals = λ k l. get_or-set_other T (6 * m + s) (6 * x + k) _ 0 (λ z. ne (omega arith)) ∙ o.totals k l }

  pub total_length : length (totals_with T m s d) ≡ 384
  total_length = length-set T _ _ ∙ long
