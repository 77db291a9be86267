-- The walk from the end of the standards: in their rising sequence the last for the module and recipe that has begun is the one in force, since each
-- later one of the two starts later.
-- Assumes nothing.
use mathlib.Core.Path.{◌≡◌, refl, sym, ◌∙◌}
use mathlib.Core.Bool.{Bool, true, false, cond}
use mathlib.Core.Option.{Option, none, some}
use mathlib.Core.List.{List, [], ◌∷◌, foldl, foldl-append}
use Prim.Native.Nat.{ℕ, suc}
use lib.Dec.{leb}
use borrow.Author.Tests.{lt-leb}
use Rattle.records.specs.declared.Standard.{Standard}
use Rattle.records.specs.Log.{up_to, header_of, standard_at, decode}
use Rattle.rules.specs.declared.Placed.{Placed}
use Rattle.std.specs.declared.result.Result.TheVariants.{Ok}
use Rattle.rules.specs.Sequence.{is_rising_after, is_rising, standard_key}
use Rattle.rules.specs.Theoretical.{placed, placed_from, later, is_for, has_begun, consider, in_force, For, Answers, last_where, last_in_force}
use Rattle.rules.specs.Verdict.{verdict}
use Rattle.rules.proofs.Booleans.{both}
use Rattle.rules.proofs.InForce.{placed-up_to, for_true, in_force_lem}
use Rattle.rules.proofs.Risen.{risen}
use Rattle.rules.proofs.Sequence.{AllAbove, rising_above, rising_tail, start-above}

-- ---- on every list

-- one more element: it is the last that passes, or the last is where it was
last_where-more : {A : Type 0} (test : A → Bool) (at : ℕ → A) (n : ℕ) → last_where test (up_to at (suc n)) ≡ cond (test (at n)) (some (at n)) (last_where test (up_to at n))
unfolding last_where up_to
last_where-more test at n = foldl-append (λ found x. cond (test x) (some x) found) none (up_to at n) (at n ∷ [])

-- one more standard
pub last-force-more : (m recipe time : ℕ) (at : ℕ → Standard) (n : ℕ) → last_in_force (up_to at (suc n)) m recipe time ≡ cond (has_begun m recipe time (at n)) (some (placed n (at n))) (last_in_force (up_to at n) m recipe time)
last-force-more m recipe time at n = rw (placed-up_to at (suc n), placed-up_to at n) (last_where-more (λ p. has_begun m recipe time p.standard) (λ i. placed i (at i)) n)

-- ---- on a list that rises

module _ (m recipe time : ℕ) where
  -- the standard found so far is for the module and recipe, and those that follow are above it
  abbrev Ahead : Option Placed → List Standard → Type 0
  Ahead none ss = Unit {0}
  Ahead (some b) ss = For m recipe b.standard × AllAbove standard_key (standard_key b.standard) ss

  ahead-tail : (found : Option Placed) (s : Standard) (ss : List Standard) → Ahead found (s ∷ ss) → Ahead found ss
  ahead-tail none s ss a = tt
  ahead-tail (some b) s ss a = (a.0, a.1.1)

  -- so the next one for them starts later
  starts-later : (found : Option Placed) (i : ℕ) (s : Standard) (ss : List Standard) → Ahead found (s ∷ ss) → For m recipe s → some (placed i s) ≡ later found (placed i s)
  starts-later none i s ss a e = refl
  starts-later (some b) i s ss a e = rw (lt-leb s.start b.standard.start (start-above b.standard s (a.0.0 ∙ sym e.0, a.0.1 ∙ sym e.1) a.1.0))

  -- the last that has begun, from one found before on
  abbrev walked : Option Placed → List Placed → Option Placed
  walked = foldl (λ found p. cond (has_begun m recipe time p.standard) (some p) found)

  same : (found : Option Placed) (before : Option Standard) (i : ℕ) (ss : List Standard) → Ahead found ss → is_rising_after standard_key before ss ≡ true
      → walked found (placed_from i ss) ≡ foldl (consider m recipe time) found (placed_from i ss)
  unfolding placed_from
  same found before i [] a r = refl
  same found before i (s ∷ ss) a r = step (has_begun m recipe time s) refl (λ next h. same next (some s) (suc i) ss h (rising_tail standard_key before s ss r))
    where
      Same : Option Placed → Option Placed → Type 0
      Same x y = walked x (placed_from (suc i) ss) ≡ foldl (consider m recipe time) y (placed_from (suc i) ss)

      step : (b : Bool) → has_begun m recipe time s ≡ b → ((next : Option Placed) → Ahead next ss → Same next next) → Same (cond b (some (placed i s)) found) (cond b (later found (placed i s)) found)
      step true e rest =
          let own : For m recipe s = for_true m recipe s (both (is_for m recipe s) (leb s.start time) e).0 in
          rw (← starts-later found i s ss a own) (rest (some (placed i s)) (own, rising_above standard_key s ss (rising_tail standard_key before s ss r)))
      step false e rest = rest found (ahead-tail found s ss a)

pub last_in_force_lem : (ss : List Standard) (m recipe time : ℕ) → is_rising standard_key ss ≡ true → last_in_force ss m recipe time ≡ in_force ss m recipe time
unfolding last_where in_force
last_in_force_lem ss m recipe time r = same m recipe time none none 0 ss tt r

-- ---- on an accepted log

-- in every accepted log what the walk answers is in force, in the papers' own words
pub accepted-in_force : (s : List ℕ) → verdict s ≡ Ok tt → (m recipe time : ℕ)
    → Answers (standard_at s (header_of s)) (header_of s).standards m recipe time (last_in_force (decode s).standards m recipe time)
unfolding decode
accepted-in_force s a m recipe time =
    rw (last_in_force_lem (decode s).standards m recipe time (risen s a).standards) (in_force_lem (standard_at s (header_of s)) m recipe time (header_of s).standards)

-- ---- on a list that does not rise

-- three standards of module 2 for recipe 5, the last two with one start
abbrev unsorted : List Standard
unsorted = record { «module» = 2; recipe = 5; start = 100; theoretical = 7; spare = 0 } ∷ record { «module» = 2; recipe = 5; start = 0; theoretical = 8; spare = 0 } ∷ record { «module» = 2; recipe = 5; start = 0; theoretical = 9; spare = 0 } ∷ []

-- at 200 the one with the latest start is the first, and the last is another
pub unsorted-differs : (in_force unsorted 2 5 200 ≡ some (placed 0 (record { «module» = 2; recipe = 5; start = 100; theoretical = 7; spare = 0 }))) × (last_in_force unsorted 2 5 200 ≡ some (placed 2 (record { «module» = 2; recipe = 5; start = 0; theoretical = 9; spare = 0 })))
unfolding in_force last_where placed_from
unsorted-differs = (refl, refl)

-- at 50 two have the latest start: the first of them is in force, and the walk answers the last
pub equal-starts-differ : (in_force unsorted 2 5 50 ≡ some (placed 1 (record { «module» = 2; recipe = 5; start = 0; theoretical = 8; spare = 0 }))) × (last_in_force unsorted 2 5 50 ≡ some (placed 2 (record { «module» = 2; recipe = 5; start = 0; theoretical = 9; spare = 0 })))
unfolding in_force last_where placed_from
equal-starts-differ = (refl, refl)
