-- The standard in force, in the papers' own words.
-- Assumes nothing.
use mathlib.Core.Path.{◌≡◌, refl, sym, ◌∙◌}
use mathlib.Core.Bool.{Bool, true, false, ◌&&◌, cond}
use mathlib.Core.Option.{Option, none, some}
use mathlib.Core.List.{List, [], ◌∷◌, ◌++◌, foldl-append}
use Prim.Native.Nat.{ℕ, zero, suc, ◌+◌, ◌≤◌, ◌<◌}
use native.Mathlib.Nat.{le_refl, add-zero, zero-add, suc-add, add-suc}
use native.Mathlib.Decide.{dec_lt}
use native.Mathlib.Omega.{arith}
use lib.Dec.{leb, eqb}
use borrow.Author.Tests.{eq-eqb, eqb-true, le-leb, lt-leb, leb-true, leb-false}
use lib.ListN.{length}
use Rattle.records.specs.declared.Standard.{Standard}
use Rattle.records.specs.Log.{up_to}
use Rattle.records.proofs.UpTo.{length_up_to}
use Rattle.rules.specs.declared.Placed.{Placed}
use Rattle.rules.proofs.Booleans.{both_true, right-false, false-true, both}
use Rattle.rules.proofs.FirstGround.{below_suc}
use Rattle.rules.specs.Theoretical.{placed, placed_from, later, is_for, has_begun, consider, in_force, For, Force, Answers}

-- ---- one more standard

placed-more : (i : ℕ) (ss : List Standard) (s : Standard) → placed_from i (ss ++ (s ∷ [])) ≡ placed_from i ss ++ (placed (i + length ss) s ∷ [])
unfolding placed_from
placed-more i [] s = rw (add-zero i)
placed-more i (t ∷ ss) s = rw (placed-more (suc i) ss s, suc-add i (length ss), add-suc i (length ss))

-- the standards at 0, at 1, .. , with their indexes
pub placed-up_to : (at : ℕ → Standard) (n : ℕ) → placed_from 0 (up_to at n) ≡ up_to (λ i. placed i (at i)) n
unfolding placed_from up_to
placed-up_to at zero = refl
placed-up_to at (suc n) = rw (placed-more 0 (up_to at n) (at n), length_up_to at n, placed-up_to at n, zero-add n)

force-more : (at : ℕ → Standard) (n m recipe time : ℕ) → in_force (up_to at (suc n)) m recipe time ≡ consider m recipe time (in_force (up_to at n) m recipe time) (placed n (at n))
unfolding in_force up_to
force-more at n m recipe time = rw (placed-up_to at (suc n), placed-up_to at n) (foldl-append (consider m recipe time) none (up_to (λ i. placed i (at i)) n) (placed n (at n) ∷ []))

-- ---- which standards count

module _ (m recipe : ℕ) (s : Standard) where
  pub is_for_lem : For m recipe s → is_for m recipe s ≡ true
  is_for_lem f = both_true (eqb s.«module» m) (eqb s.recipe recipe) (eq-eqb s.«module» m f.0) (eq-eqb s.recipe recipe f.1)

  pub for_true : is_for m recipe s ≡ true → For m recipe s
  for_true e = let p = both (eqb s.«module» m) (eqb s.recipe recipe) e in (eqb-true s.«module» m p.0, eqb-true s.recipe recipe p.1)

  pub decide_for : Dec (For m recipe s)
  decide_for = go (is_for m recipe s) refl
    where
      go : (b : Bool) → is_for m recipe s ≡ b → Dec (For m recipe s)
      go true e = yes (for_true e)
      go false e = no (λ f. false-true (sym e ∙ is_for_lem f))

  -- a standard of another module or recipe, or one that starts after the time, does not count
  pub not_for : (time : ℕ) → (For m recipe s → ⊥) → has_begun m recipe time s ≡ false
  not_for time ne = go (is_for m recipe s) refl
    where
      go : (b : Bool) → is_for m recipe s ≡ b → b && leb s.start time ≡ false
      go true e = absurd (ne (for_true e))
      go false e = refl

  pub not_begun : (time : ℕ) → time < s.start → has_begun m recipe time s ≡ false
  not_begun time h = right-false (is_for m recipe s) (leb s.start time) (lt-leb s.start time h)

  pub begun : (time : ℕ) → For m recipe s → s.start ≤ time → has_begun m recipe time s ≡ true
  begun time f h = both_true (is_for m recipe s) (leb s.start time) (is_for_lem f) (le-leb s.start time h)

-- ---- what is in force, in the papers' words

module _ (at : ℕ → Standard) (m recipe time : ℕ) where
  -- standard n does not count: what was answered still stands
  keeps : (n : ℕ) (o : Option Placed) → Answers at n m recipe time o → (For m recipe (at n) → (at n).start ≤ time → ⊥) → Answers at (suc n) m recipe time o
  keeps n none a not = below_suc n a not
  keeps n (some p) f not =
      record {
        listed = omega (arith, f.listed);
        same = f.same;
        own = f.own;
        begun = f.begun;
        latest = below_suc n f.latest (λ e l. absurd (not e l));
      }

  takes : (n : ℕ) (o : Option Placed) → Answers at n m recipe time o → For m recipe (at n) → (at n).start ≤ time → Answers at (suc n) m recipe time (later o (placed n (at n)))
  takes n none a own begun =
      record {
        listed = le_refl (suc n);
        same = refl;
        own = own;
        begun = begun;
        latest = below_suc n (λ i h e l. absurd (a i h e l)) (λ e l. le_refl (at n).start);
      }
  takes n (some p) f own begun = pick (leb (at n).start p.standard.start) refl
    where
      pick : (b : Bool) → leb (at n).start p.standard.start ≡ b → Answers at (suc n) m recipe time (cond b (some p) (some (placed n (at n))))
      pick true q =
          record {
            listed = omega (arith, f.listed);
            same = f.same;
            own = f.own;
            begun = f.begun;
            latest = below_suc n f.latest (λ e l. leb-true (at n).start p.standard.start q);
          }
      pick false q =
          record {
            listed = le_refl (suc n);
            same = refl;
            own = own;
            begun = begun;
            latest = below_suc n (λ i h e l. omega (arith, f.latest i h e l, leb-false (at n).start p.standard.start q)) (λ e l. le_refl (at n).start);
          }

  pub in_force_lem : (n : ℕ) → Answers at n m recipe time (in_force (up_to at n) m recipe time)
  unfolding in_force up_to
  in_force_lem zero = λ i h e l. omega arith
  in_force_lem (suc n) = rw (force-more at n m recipe time) (step (in_force (up_to at n) m recipe time) (in_force_lem n) (decide_for m recipe (at n)) (dec_lt time (at n).start))
    where
      step : (o : Option Placed) → Answers at n m recipe time o → Dec (For m recipe (at n)) → Dec (time < (at n).start) → Answers at (suc n) m recipe time (consider m recipe time o (placed n (at n)))
      step o a (no ne) d = rw (not_for m recipe (at n) time ne) (keeps n o a (λ e l. ne e))
      step o a (yes e) (yes l) = rw (not_begun m recipe (at n) time l) (keeps n o a (λ e' l'. omega arith))
      step o a (yes e) (no l) = rw (begun m recipe (at n) time e (omega arith)) (takes n o a e (omega arith))

  pub the_one : (n : ℕ) (p : Placed) → in_force (up_to at n) m recipe time ≡ some p → Force at n m recipe time p
  the_one n p e = rw e at (in_force_lem n)
