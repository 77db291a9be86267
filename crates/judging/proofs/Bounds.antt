-- What an accepted header tells: its numbers are within their bounds.
-- Assumes nothing.
use mathlib.Core.Path.{◌≡◌}
use mathlib.Core.List.{List}
use mathlib.Core.Bool.{true, false, ◌||◌}
use Prim.Native.Nat.{ℕ, ◌≤◌, ◌<◌}
use native.Mathlib.Omega.{arith}
use borrow.Author.Tests.{lt-ltb, le-ltb, ltb-false, eqb-false}
use lib.Dec.{ltb, eqb}
use lib.ListN.{length}
use Rattle.records.specs.declared.Header.{Header}
use Rattle.records.specs.Log.{header_of}
use Rattle.std.specs.declared.result.Result.TheVariants.{Ok, Err}
use Rattle.rules.specs.declared.Ground.TheVariants.{NoHeader, Period, Modules, Counts, Length}
use Rattle.rules.specs.declared.LogList.TheVariants.{NoList}
use Rattle.rules.specs.Verdict.{bad_period, bad_modules, bad_counts, bad_length, header_grounds}
use Rattle.rules.proofs.Booleans.{or_left, or_right}

pub good-period : (p : ℕ) → bad_period p ≡ false → (0 < p) × (p ≤ 31622400000)
good-period p e = (omega (arith, eqb-false p 0 (or_left (eqb p 0) (ltb 31622400000 p) e)), ltb-false 31622400000 p (or_right (eqb p 0) (ltb 31622400000 p) e))

pub good-modules : (n : ℕ) → bad_modules n ≡ false → (0 < n) × (n ≤ 64)
good-modules n e = (omega (arith, eqb-false n 0 (or_left (eqb n 0) (ltb 64 n) e)), ltb-false 64 n (or_right (eqb n 0) (ltb 64 n) e))

pub good-counts : (h : Header) → bad_counts h ≡ false → (h.states ≤ 6000) × (h.standards ≤ 512) × (h.units ≤ 2000)
good-counts h e =
    let r = or_right (ltb 6000 h.states) (ltb 512 h.standards || ltb 2000 h.units) e in (
      ltb-false 6000 h.states (or_left (ltb 6000 h.states) (ltb 512 h.standards || ltb 2000 h.units) e),
      ltb-false 512 h.standards (or_left (ltb 512 h.standards) (ltb 2000 h.units) r),
      ltb-false 2000 h.units (or_right (ltb 512 h.standards) (ltb 2000 h.units) r),
    )

-- ---- the header's grounds, one by one

module _ (s : List ℕ) (h : Header) (eh : h ≡ header_of s) where
  pub no_header : length s < 10 → Err (record { ground = NoHeader; list = NoList; place = 0 }) ≡ header_grounds s
  unfolding header_grounds
  no_header l = rw (lt-ltb (length s) 10 l)

  module _ (l : 10 ≤ length s) where
    pub at_period : bad_period h.period ≡ true → Err (record { ground = Period; list = NoList; place = 0 }) ≡ header_grounds s
    unfolding header_grounds
    at_period p = rw (← eh, le-ltb (length s) 10 l, p)

    module _ (p : bad_period h.period ≡ false) where
      pub at_modules : bad_modules h.modules ≡ true → Err (record { ground = Modules; list = NoList; place = 0 }) ≡ header_grounds s
      unfolding header_grounds
      at_modules m = rw (← eh, le-ltb (length s) 10 l, p, m)

      module _ (m : bad_modules h.modules ≡ false) where
        pub at_counts : bad_counts h ≡ true → Err (record { ground = Counts; list = NoList; place = 0 }) ≡ header_grounds s
        unfolding header_grounds
        at_counts c = rw (← eh, le-ltb (length s) 10 l, p, m, c)

        pub at_length : bad_counts h ≡ false → bad_length (length s) h ≡ true → Err (record { ground = Length; list = NoList; place = 0 }) ≡ header_grounds s
        unfolding header_grounds
        at_length c n = rw (← eh, le-ltb (length s) 10 l, p, m, c, n)

        pub all_good : bad_counts h ≡ false → bad_length (length s) h ≡ false → Ok tt ≡ header_grounds s
        unfolding header_grounds
        all_good c n = rw (← eh, le-ltb (length s) 10 l, p, m, c, n)
