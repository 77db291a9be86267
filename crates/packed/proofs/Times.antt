-- Standards as records that set a value: the theoretical time of a module and a recipe, from their start on. In a rising list the time in force is the one last set.
-- Assumes nothing.
use mathlib.Core.Path.{◌≡◌, refl, sym, ap, ap₂, ◌∙◌}
use mathlib.Core.Bool.{Bool, true, false, cond}
use mathlib.Core.Option.{Option, none, some}
use mathlib.Core.List.{List, [], ◌∷◌, foldl}
use Prim.Native.Nat.{ℕ, zero, suc, ◌≤◌}
use lib.Dec.{leb}
use borrow.Author.Tests.{leb-true}
use Rattle.records.specs.declared.Standard.{Standard}
use Rattle.rules.specs.declared.Placed.{Placed}
use Rattle.rules.specs.Sequence.{is_rising, standard_key}
use Rattle.rules.specs.Theoretical.{placed, placed_from, is_for, has_begun, last_where}
use Rattle.rules.proofs.Booleans.{both}
use Rattle.rules.proofs.InForce.{for_true, begun}
use Rattle.rules.proofs.LastInForce.{last_in_force_lem}
use Rattle.rules.proofs.Sequence.{start-above}
use Rattle.sound.proofs.Force.{members-each}
use Rattle.packed.specs.Packed.{held_before, is_held, theoretical_of, time_in_force, without, repeats_time, packed_standards}
use Rattle.packed.proofs.Changes.{Setting, put, value_at, repeats}
use Rattle.packed.proofs.Without.{without-same}

-- the module and the recipe of a standard
abbrev pub own : Standard → ℕ × ℕ
own s = (s.«module», s.recipe)

abbrev pub meets : ℕ × ℕ → ℕ → Standard → Bool
meets k t s = has_begun k.0 k.1 t s

pub met : (k : ℕ × ℕ) (t : ℕ) (s : Standard) → meets k t s ≡ true → (own s ≡ k) × (s.start ≤ t)
met k t s e =
    let p = both (is_for k.0 k.1 s) (leb s.start t) e in
    let q = for_true k.0 k.1 s p.0 in
    (ap₂ (λ (a b : ℕ). (a, b)) q.0 q.1, leb-true s.start t p.1)

pub meet : (k : ℕ × ℕ) (t : ℕ) (s : Standard) → own s ≡ k → s.start ≤ t → meets k t s ≡ true
meet k t s e l = begun k.0 k.1 s t (ap (λ (x : ℕ × ℕ). x.0) e, ap (λ (x : ℕ × ℕ). x.1) e) l

abbrev pub times : Setting Standard (ℕ × ℕ)
times =
    record {
      subject = own;
      time = λ s. s.start;
      value = λ s. s.theoretical;
      meets = meets;
      met = met;
      meet = meet;
      key = standard_key;
      above = λ s q h e. start-above s q (ap (λ (x : ℕ × ℕ). x.0) e, ap (λ (x : ℕ × ℕ). x.1) e) h;
    }

-- ---- the time in force is the one last set

module _ (m recipe t : ℕ) where
  last-set : (found : Option Placed) (i : ℕ) (ss : List Standard)
      → theoretical_of (foldl (λ found p. cond (has_begun m recipe t p.standard) (some p) found) found (placed_from i ss)) ≡ foldl (put times (m, recipe) t) (theoretical_of found) ss
  unfolding placed_from
  last-set found i [] = refl
  last-set found i (s ∷ ss) = last-set (cond (has_begun m recipe t s) (some (placed i s)) found) (suc i) ss ∙ ap (λ (o : Option ℕ). foldl (put times (m, recipe) t) o ss) (step (has_begun m recipe t s))
    where
      step : (b : Bool) → theoretical_of (cond b (some (placed i s)) found) ≡ cond b (some s.theoretical) (theoretical_of found)
      step true = refl
      step false = refl

  pub last-time : (ss : List Standard) → is_rising standard_key ss ≡ true → time_in_force ss m recipe t ≡ value_at times ss (m, recipe) t
  unfolding time_in_force last_where
  last-time ss e = ap theoretical_of (sym (last_in_force_lem ss m recipe t e)) ∙ last-set none 0 ss

repeats-time : (ss : List Standard) (s : Standard) → is_rising standard_key ss ≡ true → repeats_time ss s ≡ repeats times ss s
unfolding repeats_time
repeats-time ss s e = ap (λ (o : Option ℕ). is_held o s.theoretical) (go s.start)
  where
    go : (n : ℕ) → held_before (time_in_force ss s.«module» s.recipe) n ≡ held_before (value_at times ss (own s)) n
    go zero = refl
    go (suc n) = last-time s.«module» s.recipe n ss e

-- what is left, by the value last set
pub standards-left : (ss : List Standard) → is_rising standard_key ss ≡ true → packed_standards ss ≡ without (repeats times ss) ss
unfolding packed_standards
standards-left ss e = without-same (repeats_time ss) (repeats times ss) ss (members-each _ ss (λ s m. repeats-time ss s e))
