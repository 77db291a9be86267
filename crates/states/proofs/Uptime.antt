-- The states that the table's entries mark as uptime are productive, standby and engineering, so a module's time in the states that are marked is its uptime.
-- Assumes nothing.
use mathlib.Core.Path.{◌≡◌, refl}
use mathlib.Core.Bool.{true, false, cond}
use mathlib.Core.List.{List}
use Prim.Native.Nat.{ℕ, zero, suc, ◌+◌, ◌-◌, ◌*◌, ◌≤◌, ◌<◌}
use native.Mathlib.Nat.{le_refl, zero-add, suc-add}
use native.Mathlib.Omega.{arith}
use native.Mathlib.Numerals.{add-one}
use lib.ListN.{get_or, set, replicate}
use Rattle.rules.specs.Time.{state_of}
use Rattle.states.specs.Held.{is_uptime, uptime_marks, uptime_in}

pub marks-none : uptime_marks 0 ≡ replicate 6 false
unfolding uptime_marks
marks-none = refl

pub marks-more : (n : ℕ) → uptime_marks (n + 1) ≡ set (uptime_marks n) (state_of n) (is_uptime (state_of n))
unfolding uptime_marks
marks-more n = rw (add-one n)

pub mark-at : (k : ℕ) → k < 6 → get_or (uptime_marks 24) k false ≡ is_uptime k
unfolding uptime_marks state_of
mark-at zero h = refl
mark-at (suc zero) h = refl
mark-at (suc (suc zero)) h = refl
mark-at (suc (suc (suc zero))) h = refl
mark-at (suc (suc (suc (suc zero)))) h = refl
mark-at (suc (suc (suc (suc (suc zero))))) h = refl
mark-at (suc (suc (suc (suc (suc (suc k)))))) h = absurd (omega arith)

-- module m's time in those of the states below n that count
unfoldable pub uptime_up_to : List ℕ → ℕ → ℕ → ℕ
uptime_up_to T m zero = 0
uptime_up_to T m (suc n) = uptime_up_to T m n + cond (is_uptime n) (get_or T (6 * m + n) 0) 0

module _ (T : List ℕ) (m : ℕ) where
  pub up_none : uptime_up_to T m 0 ≡ 0
  unfolding uptime_up_to
  up_none = refl

  pub up_marked : (n : ℕ) → is_uptime n ≡ true → uptime_up_to T m (n + 1) ≡ uptime_up_to T m n + get_or T (6 * m + n) 0
  unfolding uptime_up_to
  up_marked n e = rw (add-one n, e)

  pub up_unmarked : (n : ℕ) → is_uptime n ≡ false → uptime_up_to T m (n + 1) ≡ uptime_up_to T m n
  unfolding uptime_up_to
  up_unmarked n e = rw (add-one n, e) (omega arith)

  up-grows : (d n : ℕ) → uptime_up_to T m n ≤ uptime_up_to T m (d + n)
  unfolding uptime_up_to
  up-grows zero n = rw (zero-add n) (le_refl (uptime_up_to T m n))
  up-grows (suc d) n = rw (suc-add d n) (omega (arith, up-grows d n))

  pub up_all : uptime_up_to T m 6 ≡ uptime_in T m
  unfolding uptime_up_to
  up_all = omega arith

  pub up_within : (n : ℕ) → n ≤ 6 → uptime_up_to T m n ≤ uptime_in T m
  up_within n h =
      let e : 6 - n + n ≡ 6 = omega arith in
      rw (← up_all) (rw e at (up-grows (6 - n) n))
