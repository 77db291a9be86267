-- The packed log of a log that can be written can be written: a record that is left passes by its own numbers as before, what is left of a rising list rises, a
-- module's opening record is left, and units and sums are tested by codes and times in force, which are the same.
-- Assumes nothing.
use mathlib.Core.Path.{◌≡◌, refl, sym, ap, ◌∙◌}
use mathlib.Core.Bool.{Bool, true, false, cond}
use mathlib.Core.Option.{some}
use mathlib.Core.List.{List, [], ◌∷◌}
use Prim.Native.Nat.{ℕ}
use native.Mathlib.Omega.{arith}
use lib.Dec.{eqb}
use borrow.Author.Tests.{eqb-true}
use Rattle.records.specs.declared.StateRecord.{StateRecord}
use Rattle.records.specs.Log.{Log}
use Rattle.rules.specs.RecordGrounds.{first_time, is_opening}
use Rattle.rules.specs.Sound.{StateSound, StandardSound, UnitSound, Sound}
use Rattle.rules.specs.Time.{code_at}
use Rattle.rules.proofs.Booleans.{false-true}
use Rattle.rules.proofs.Each.{each-so}
use Rattle.sound.specs.Bounds.{StandardNarrow, Writable}
use Rattle.packed.specs.Packed.{held_before, is_held, without, repeats_code, repeats_time, packed_states, packed_standards, packed_log}
use Rattle.packed.proofs.OnePass.{states_fewer, standards_fewer}
use Rattle.packed.proofs.PackedLists.{states_rise, standards_rise, times_kept}
use Rattle.packed.proofs.SameSums.{none-same, same_times, same_actual}
use Rattle.packed.proofs.Without.{each-without}

-- ---- a module's opening record

-- a record at time 0 repeats nothing
opening-left : (rs : List StateRecord) (r : StateRecord) → r.time ≡ 0 → repeats_code rs r ≡ false
unfolding repeats_code
opening-left rs r e = ap (λ (n : ℕ). is_held (held_before (code_at rs r.«module») n) r.code) e

still-opened : (test : StateRecord → Bool) → ((r : StateRecord) → r.time ≡ 0 → test r ≡ false) → (rs : List StateRecord) (m : ℕ) → is_opening (first_time m rs) ≡ true → is_opening (first_time m (without test rs)) ≡ true
unfolding first_time without
still-opened test h [] m e = e
still-opened test h (r ∷ rs) m e = step (eqb r.«module» m) refl e (test r) refl (still-opened test h rs m)
  where
    step : (b : Bool) → eqb r.«module» m ≡ b → is_opening (cond b (some r.time) (first_time m rs)) ≡ true → (c : Bool) → test r ≡ c → (is_opening (first_time m rs) ≡ true → is_opening (first_time m (without test rs)) ≡ true)
        → is_opening (first_time m (cond c (without test rs) (r ∷ without test rs))) ≡ true
    step true q w true t rest = absurd (false-true (sym (h r (eqb-true r.time 0 w)) ∙ t))
    step true q w false t rest = rw q w
    step false q w true t rest = rest w
    step false q w false t rest = rw q (rest w)

-- ---- the log

module _ (l : Log) where
  packed-sound : Sound l → Sound (packed_log l)
  unfolding packed_log packed_states packed_standards
  packed-sound s =
      record {
        states = each-without (repeats_code l.states) (StateSound l.period l.modules) l.states s.states;
        states_rise = states_rise l.states s.states_rise;
        opened = λ m h. still-opened (repeats_code l.states) (opening-left l.states) l.states m (s.opened m h);
        standards = each-without (repeats_time l.standards) (StandardSound l.period l.modules) l.standards s.standards;
        standards_rise = standards_rise l.standards s.standards_rise;
        units = each-so (UnitSound l.period l.modules l.standards) (UnitSound l.period l.modules (packed_standards l.standards)) (λ u g.
            record {
              unspared = g.unspared;
              own = g.own;
              inside = g.inside;
              within = g.within;
              judged = none-same (packed_standards l.standards) l.standards (times_kept l.standards s.standards_rise) u.«module» u.recipe u.time ∙ g.judged;
            }) l.units s.units;
        units_rise = s.units_rise;
        slow = λ m h. rw (same_actual l s, same_times l s) (s.slow m h);
      }

  pub writable : Writable l → Writable (packed_log l)
  unfolding packed_log packed_standards
  writable w =
      let b = w.bounded in
      record {
        sound = packed-sound w.sound;
        bounded = record {
          some_time = b.some_time;
          short = b.short;
          some_module = b.some_module;
          few = b.few;
          states = omega (arith, b.states, states_fewer l.states);
          standards = omega (arith, b.standards, standards_fewer l.standards);
          units = b.units;
        };
        standards = each-without (repeats_time l.standards) StandardNarrow l.standards w.standards;
        units = w.units;
      }
