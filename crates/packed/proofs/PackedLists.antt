-- The packed state records and standards: they rise, say what the lists say, and are the one shortest way to say it.
-- Assumes nothing.
use mathlib.Core.Path.{◌≡◌, sym, ap, ◌∙◌}
use mathlib.Core.Option.{Option, none}
use mathlib.Core.List.{List, [], ◌∷◌}
use Prim.Native.Nat.{ℕ, suc, ◌≤◌, ◌<◌}
use lib.ListN.{length}
use Rattle.records.specs.declared.StateRecord.{StateRecord}
use Rattle.records.specs.declared.Standard.{Standard}
use Rattle.rules.specs.Lists.{Each, Before, Rises}
use Rattle.rules.specs.Sequence.{state_key, standard_key}
use Rattle.rules.specs.Sound.{StateSound, StandardSound}
use Rattle.rules.specs.Theoretical.{placed_from, later, has_begun, in_force}
use Rattle.rules.specs.Time.{code_at}
use Rattle.rules.proofs.Each.{rising}
use Rattle.packed.specs.Packed.{theoretical_of, time_in_force, repeats_code, repeats_time, packed_states, packed_standards}
use Rattle.packed.proofs.Changes.{ascends, value-kept}
use Rattle.packed.proofs.Codes.{codes}
use Rattle.packed.proofs.Fewest.{passed-same, passed-none, Depends, value-depends, fewest, same-left}
use Rattle.packed.proofs.Times.{times, last-time, standards-left}
use Rattle.packed.proofs.Without.{ordered-without}

-- ---- the state records

pub states_rise : (rs : List StateRecord) → Rises state_key rs → Rises state_key (packed_states rs)
unfolding packed_states
states_rise rs e = ordered-without (repeats_code rs) (Before state_key) rs e

pub codes_kept : (rs : List StateRecord) → Rises state_key rs → (m t : ℕ) → code_at (packed_states rs) m t ≡ code_at rs m t
unfolding code_at packed_states repeats_code
codes_kept rs e m t = value-kept codes rs (ascends codes rs e) m t

module _ (period modules : ℕ) (rs qs : List StateRecord) (up : Rises state_key rs) (good : Each (StateSound period modules) rs)
    (same : (m t : ℕ) → m < modules → t < period → code_at rs m t ≡ code_at qs m t) where
  -- no list that gives the same codes has fewer records
  pub fewest_states : length (packed_states rs) ≤ length qs
  unfolding code_at packed_states repeats_code
  fewest_states = fewest codes period (StateSound period modules) (λ r g. g.inside) code_at (value-depends codes) rs qs up good (λ r g t l. sym (same r.«module» t g.own l))

  -- and a rising one is packed to the same
  pub one_states : Rises state_key qs → Each (StateSound period modules) qs → packed_states rs ≡ packed_states qs
  unfolding code_at packed_states repeats_code
  one_states uq other =
      same-left codes period (StateSound period modules) (λ r g. g.inside)
      (λ q r g h a b c. λ i. record { «module» = a i; code = c i; time = b i; spare = (g.unspared ∙ sym h.unspared) i })
      rs qs up uq good other (λ r g t l. same r.«module» t g.own l)

-- ---- the standards

pub standards_rise : (ss : List Standard) → Rises standard_key ss → Rises standard_key (packed_standards ss)
unfolding packed_standards
standards_rise ss e = ordered-without (repeats_time ss) (Before standard_key) ss e

pub times_kept : (ss : List Standard) → Rises standard_key ss → (m recipe t : ℕ) → time_in_force (packed_standards ss) m recipe t ≡ time_in_force ss m recipe t
times_kept ss e m recipe t =
    let up = rising standard_key ss e in
    last-time m recipe t (packed_standards ss) (rising standard_key (packed_standards ss) (standards_rise ss e))
    ∙ rw (standards-left ss up) (value-kept times ss (ascends times ss e) (m, recipe) t)
    ∙ sym (last-time m recipe t ss up)

placed-each : (P : Standard → Type 0) (i : ℕ) (ss : List Standard) → Each P ss → Each (λ p. P p.standard) (placed_from i ss)
unfolding placed_from
placed-each P i [] e = tt
placed-each P i (s ∷ ss) e = (e.0, placed-each P (suc i) ss e.1)

abbrev in-force : List Standard → ℕ × ℕ → ℕ → Option ℕ
in-force ss k t = time_in_force ss k.0 k.1 t

time-depends : Depends times in-force
unfolding time_in_force in_force
time-depends =
    record {
      same = λ ss k t u e. ap theoretical_of (passed-same later (λ p. has_begun k.0 k.1 t p.standard) (λ p. has_begun k.0 k.1 u p.standard) none (placed_from 0 ss) (placed-each _ 0 ss e));
      empty = λ ss k t e. ap theoretical_of (passed-none later (λ p. has_begun k.0 k.1 t p.standard) none (placed_from 0 ss) (placed-each _ 0 ss e));
    }

module _ (period modules : ℕ) (ss ts : List Standard) (up : Rises standard_key ss) (good : Each (StandardSound period modules) ss)
    (same : (m recipe t : ℕ) → m < modules → t < period → time_in_force ss m recipe t ≡ time_in_force ts m recipe t) where
  -- no list that gives the same times in force has fewer standards
  pub fewest_standards : length (packed_standards ss) ≤ length ts
  fewest_standards =
      rw (standards-left ss (rising standard_key ss up))
      (fewest times period (StandardSound period modules) (λ s g. g.inside) in-force time-depends ss ts up good
      (λ s g t l. sym (same s.«module» s.recipe t g.own l) ∙ last-time s.«module» s.recipe t ss (rising standard_key ss up)))

  -- and a rising one is packed to the same
  pub one_standards : Rises standard_key ts → Each (StandardSound period modules) ts → packed_standards ss ≡ packed_standards ts
  one_standards ut other =
      rw (standards-left ss (rising standard_key ss up), standards-left ts (rising standard_key ts ut))
      (same-left times period (StandardSound period modules) (λ s g. g.inside)
      (λ q s g h a b c. λ i. record { «module» = (a i).0; recipe = (a i).1; start = b i; theoretical = c i; spare = (g.unspared ∙ sym h.unspared) i })
      ss ts up ut good other
      (λ s g t l. sym (last-time s.«module» s.recipe t ss (rising standard_key ss up)) ∙ same s.«module» s.recipe t g.own l ∙ last-time s.«module» s.recipe t ts (rising standard_key ts ut)))
