-- What the working arrays hold, summed over the modules, is the tool's.
-- Assumes nothing.
use mathlib.Core.Path.{◌≡◌, sym}
use mathlib.Core.List.{List}
use Prim.Native.Nat.{ℕ, ◌+◌, ◌*◌, ◌≤◌, ◌<◌}
use native.Mathlib.Nat.{mul-le-mul}
use native.Mathlib.Omega.{arith}
use lib.ListN.{get_or}
use Rattle.records.specs.Log.{Log}
use Rattle.rules.specs.Quantities.{sum_below, time_in, uptime, actual_time, effective_time}
use Rattle.judging.specs.Working.{WorkingTotals, Consistent}
use Rattle.rules.proofs.SumLaws.{sum_same, sum-each}

module _ (l : Log) (s : Consistent l) (n : ℕ) (en : n ≡ l.modules) where
  -- an array that holds f of each module, none above the period
  module _ (at : ℕ → ℕ) (f : ℕ → ℕ) (holds : (m : ℕ) → m < l.modules → at m ≡ f m) where
    pub room : ((m : ℕ) → m < l.modules → f m ≤ l.period) → (n ≤ 64) × ((m : ℕ) → m < n → at m ≤ 31622400000)
    room low = (omega (arith, s.few), λ m h. let g : m < l.modules = omega arith in rw (holds m g) (omega (arith, low m g, s.short)))

    pub summed : sum_below at n ≡ sum_below f l.modules
    summed = rw en (sum_same at f l.modules holds)

  pub total_fits : l.period * n ≤ 2023833600000
  total_fits = mul-le-mul {n₁ = l.period} {m₁ = n} {n₂ = 31622400000} {m₂ = 64} s.short (omega (arith, s.few))

  pub total_is : l.period * n ≡ sum_below (λ m. l.period) l.modules
  total_is = rw en (sym (sum-each l.period l.modules))

  module _ (T U A E : List ℕ) (held : WorkingTotals l T U A E) where
    pub state_room : (k : ℕ) → k < 6 → (n ≤ 64) × (k < 6) × ((m : ℕ) → m < n → get_or T (6 * m + k) 0 ≤ 31622400000)
    state_room k low =
        let r = room (λ m. get_or T (6 * m + k) 0) (time_in l k) (λ m h. held.times m k h low) (λ m h. s.times k m h) in
        (r.0, low, r.1)

    pub state_sum : (k : ℕ) → k < 6 → sum_below (λ m. get_or T (6 * m + k) 0) n ≡ sum_below (time_in l k) l.modules
    state_sum k low = summed (λ m. get_or T (6 * m + k) 0) (time_in l k) (λ m h. held.times m k h low)

    pub uptime-room : (n ≤ 64) × ((m : ℕ) → m < n → get_or U m 0 ≤ 31622400000)
    uptime-room = room (λ m. get_or U m 0) (uptime l) held.uptimes (λ m h. (s.each m h).uptime_total)

    pub actual_room : (n ≤ 64) × ((m : ℕ) → m < n → get_or A m 0 ≤ 31622400000)
    actual_room = room (λ m. get_or A m 0) (actual_time l) held.actuals (λ m h. let o = s.each m h in omega (arith, o.actual_production, o.production_uptime, o.uptime_total))

    pub effective_room : (n ≤ 64) × ((m : ℕ) → m < n → get_or E m 0 ≤ 31622400000)
    effective_room = room (λ m. get_or E m 0) (effective_time l) held.effectives (λ m h. let o = s.each m h in omega (arith, o.effective_actual, o.actual_production, o.production_uptime, o.uptime_total))
