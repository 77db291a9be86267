-- A sound log within the bounds, written as bytes, is accepted and says what the log has.
-- Assumes nothing.
use mathlib.Core.Path.{◌≡◌, refl, ap, ◌∙◌}
use mathlib.Core.Bool.{◌||◌}
use mathlib.Core.List.{List, [], ◌∷◌}
use Prim.Native.Nat.{ℕ, zero, suc, ◌+◌, ◌*◌}
use native.Mathlib.Omega.{arith}
use lib.ListN.{length}
use borrow.Author.Tests.{eq-eqb, ne_eqb, le-ltb}
use Rattle.bits.specs.Put.{Slot, Fit}
use Rattle.records.specs.Log.{Log, header_of, state_at, standard_at, unit_at, up_to, decode}
use Rattle.records.specs.Encode.{state_slots, standard_slots, unit_slots, encode, AllFit, LogFits}
use Rattle.records.proofs.UpTo.{length_up_to}
use Rattle.records.proofs.Widths.{standard-fits, unit-fits}
use Rattle.records.proofs.RoundTrip.{length-encode, header-encode, decode-encode}
use Rattle.std.specs.declared.result.Result.TheVariants.{Ok}
use Rattle.rules.specs.declared.Ground.TheVariants.{TooGreat}
use Rattle.rules.specs.declared.LogList.TheVariants.{NoList}
use Rattle.rules.specs.Grounds.{first_of, each_of}
use Rattle.rules.specs.Names.{productive}
use Rattle.rules.specs.Quantities.{time_in, actual_time, of_tool, tool_times}
use Rattle.rules.specs.RecordGrounds.{state_ground, opening_ground, state_grounds, standard_ground, standard_grounds, unit_ground, unit_grounds}
use Rattle.rules.specs.Sequence.{state_key, standard_key, unit_key}
use Rattle.rules.specs.Verdict.{any_over, any_time_over, fast_ground, sum_grounds, header_grounds, record_grounds, verdict}
use Rattle.rules.proofs.FirstGround.{then-right}
use Rattle.rules.specs.Lists.{Each}
use Rattle.rules.proofs.Each.{each-both, each-append}
use Rattle.rules.specs.Sound.{StateSound, StandardSound, UnitSound, Sound}
use Rattle.rules.proofs.Sound.{no-ground, then-both, first-of, list-passes, state-tests, standard-tests, unit-tests, sound}
use Rattle.sound.specs.Bounds.{Bounded, StandardNarrow, UnitNarrow, Writable, Read}
use Rattle.judging.specs.Working.{Grounded}
use Rattle.judging.proofs.Accepted.{consistent, none_over}
use Rattle.judging.proofs.Judging.{accepted_counts}

-- ---- what is read

each-up_to : {A : Type 0} (P : A → Type 0) (at : ℕ → A) (n : ℕ) → ((i : ℕ) → P (at i)) → Each P (up_to at n)
unfolding up_to
each-up_to P at zero h = tt
each-up_to P at (suc n) h = each-append P (up_to at n) (at n ∷ []) (each-up_to P at n h) (h n, tt)

pub read : (s : List ℕ) → verdict s ≡ Ok tt → Read s
unfolding verdict decode
read s e =
    let h = header_of s in
    let c = accepted_counts s e in
    let a = length_up_to (state_at s) h.states in
    let b = length_up_to (standard_at s h) h.standards in
    let d = length_up_to (unit_at s h) h.units in
    record {
      writable = record {
        sound = sound (decode s) (then-right (header_grounds s) (record_grounds (decode s)) e);
        bounded = record { some_time = c.period.0; short = c.period.1; some_module = c.modules.0; few = c.modules.1; states = rw a c.counts.0; standards = rw b c.counts.1; units = rw d c.counts.2 };
        standards = each-up_to StandardNarrow (standard_at s h) h.standards (λ i. let f = standard-fits s (80 + 48 * h.states + 80 * i) in record { recipe = f.1.0; theoretical = f.1.1.1.0 });
        units = each-up_to UnitNarrow (unit_at s h) h.units (λ i. let f = unit-fits s (80 + 48 * h.states + 80 * h.standards + 88 * i) in record { recipe = f.1.0; actual = f.1.1.1.0; effective = f.1.1.1.1.0 });
      };
      size = rw (a, b, d) c.whole;
    }

-- ---- a sound log as bytes

module _ (l : Log) (w : Writable l) where
  abbrev s : Sound l
  s = w.sound

  abbrev b : Bounded l
  b = w.bounded

  all-fit : {A : Type 0} (slots : A → List Slot) (P : A → Type 0) → ((r : A) → P r → Fit (slots r)) → (rs : List A) → Each P rs → AllFit slots rs
  all-fit slots P f [] e = tt
  all-fit slots P f (r ∷ rs) e = (f r e.0, all-fit slots P f rs e.1)

  pub fits : LogFits l
  fits =
      record {
        header = (omega (arith, b.short), (omega (arith, b.few), (omega (arith, b.states), (omega (arith, b.standards), (omega (arith, b.units), tt)))));
        states = all-fit state_slots (StateSound l.period l.modules) (λ r h. (omega (arith, h.own, b.few), (omega (arith, h.known), (omega (arith, h.inside, b.short), (omega (arith, h.unspared), tt))))) l.states s.states;
        standards = all-fit standard_slots (λ r. StandardSound l.period l.modules r × StandardNarrow r) (λ r h. (omega (arith, h.0.own, b.few), (h.1.recipe, (omega (arith, h.0.inside, b.short), (h.1.theoretical, (omega (arith, h.0.unspared), tt)))))) l.standards (each-both _ _ _ (λ r x y. (x, y)) l.standards s.standards w.standards);
        units = all-fit unit_slots (λ r. UnitSound l.period l.modules l.standards r × UnitNarrow r) (λ r h. (omega (arith, h.0.own, b.few), (h.1.recipe, (omega (arith, h.0.inside, b.short), (h.1.actual, (h.1.effective, (omega (arith, h.0.unspared), tt))))))) l.units (each-both _ _ _ (λ r x y. (x, y)) l.units s.units w.units);
      }

  pub encoded-says : decode (encode l) ≡ l
  encoded-says = decode-encode l fits

  -- its records are accepted
  state_records : state_grounds l.period l.modules l.states ≡ Ok tt
  unfolding state_grounds opening_ground
  state_records =
      then-both (each_of (state_ground l.period l.modules) l.states) (first_of (opening_ground l.states) l.modules)
      (list-passes state_key (state_ground l.period l.modules) (StateSound l.period l.modules) (state-tests l.period l.modules) l.states s.states s.states_rise)
      (first-of (opening_ground l.states) l.modules (λ m h. rw (s.opened m h)))

  standards_pass : standard_grounds l.period l.modules l.standards ≡ Ok tt
  unfolding standard_grounds
  standards_pass = list-passes standard_key (standard_ground l.period l.modules) (StandardSound l.period l.modules) (standard-tests l.period l.modules) l.standards s.standards s.standards_rise

  unit_records : unit_grounds l.period l.modules l.standards l.units ≡ Ok tt
  unfolding unit_grounds
  unit_records =
      list-passes unit_key (unit_ground l.period l.modules l.standards) (UnitSound l.period l.modules l.standards) (unit-tests l.period l.modules l.standards) l.units s.units s.units_rise

  grounded : Grounded l
  grounded = record { one_module = b.some_module; few = b.few; begun = b.some_time; short = b.short; states = state_records; units = unit_records }

  slow : first_of (fast_ground l) l.modules ≡ Ok tt
  unfolding fast_ground
  slow = first-of (fast_ground l) l.modules (λ m h. rw (le-ltb (time_in l productive m) (actual_time l m) (s.slow m h)))

  records_accepted : record_grounds l ≡ Ok tt
  unfolding record_grounds sum_grounds
  records_accepted =
      then-both (state_grounds l.period l.modules l.states) _ state_records
      (then-both (standard_grounds l.period l.modules l.standards) _ standards_pass
      (then-both (unit_grounds l.period l.modules l.standards l.units) _ unit_records
      (then-both (first_of (fast_ground l) l.modules) _ slow
      (no-ground TooGreat NoList 0 (any_over (of_tool l) || any_time_over (tool_times l)) (none_over l (consistent l grounded slow))))))

  within : header_grounds (encode l) ≡ Ok tt
  unfolding header_grounds
  within =
      rw (
        header-encode l fits.header,
        length-encode l,
        le-ltb (10 + 6 * length l.states + 10 * length l.standards + 11 * length l.units) 10 (omega arith),
        ne_eqb l.period 0 (λ e. omega (arith, e, b.some_time)),
        le-ltb 31622400000 l.period b.short,
        ne_eqb l.modules 0 (λ e. omega (arith, e, b.some_module)),
        le-ltb 64 l.modules b.few,
        le-ltb 6000 (length l.states) b.states,
        le-ltb 512 (length l.standards) b.standards,
        le-ltb 2000 (length l.units) b.units,
        eq-eqb (10 + 6 * length l.states + 10 * length l.standards + 11 * length l.units) _ refl,
      )

  pub encoded-accepted : verdict (encode l) ≡ Ok tt
  unfolding verdict
  encoded-accepted = then-both (header_grounds (encode l)) (record_grounds (decode (encode l))) within (ap record_grounds encoded-says ∙ records_accepted)
