-- The joined log of two accepted logs: its sums are theirs added, each standard keeps its credited units, and its records are accepted.
-- Assumes nothing.
use mathlib.Core.Path.{◌≡◌, refl, sym, ap, ◌∙◌}
use mathlib.Core.Logic.{◌⊎◌, inl, inr}
use mathlib.Core.Bool.{Bool, true, false, cond}
use mathlib.Core.Option.{some}
use mathlib.Core.List.{List, [], ◌∷◌, ◌++◌, map}
use Prim.Native.Nat.{ℕ, ◌+◌, ◌<◌}
use native.Mathlib.Omega.{arith}
use lib.Dec.{eqb}
use lib.ListN.{length}
use Rattle.records.specs.declared.StateRecord.{StateRecord}
use Rattle.records.specs.declared.UnitRecord.{UnitRecord}
use Rattle.records.specs.Log.{Log}
use Rattle.rules.specs.Sequence.{state_key, standard_key, unit_key}
use Rattle.rules.specs.Theoretical.{theoretical_time}
use Rattle.rules.specs.RecordGrounds.{first_time, is_opening}
use Rattle.e79.specs.declared.Quantities.{Quantities}
use Rattle.rules.specs.declared.StateTimes.{StateTimes}
use Rattle.rules.specs.Names.{productive, standby, engineering, scheduled_down, unscheduled_down, nonscheduled}
use Rattle.rules.specs.Quantities.{sum_below, time_in, uptime, actual_time, effective_time, of_tool, tool_times}
use Rattle.rules.proofs.SumLaws.{sum_same, sum-add}
use Rattle.rules.specs.Credited.{no_standard, nth, credited_to}
use Rattle.rules.proofs.Booleans.{false-true}
use Rattle.rules.specs.Lists.{Each, Before, Rises}
use Rattle.rules.proofs.Each.{each-so, each-append, each-map, each-image, rises-append, rises-map}
use Rattle.rules.specs.Sound.{StateSound, StandardSound, UnitSound, Sound}
use Rattle.sound.proofs.Force.{at-member, member-at, not-none}
use Rattle.joined.specs.Joined.{state_up, standard_up, unit_up, joined_log, added, times_added, SumsAdded, IsOfFirst, IsOfSecond, CreditsKept}
use Rattle.joined.proofs.Merging.{merged-each, merged-first, merged-second}
use Rattle.joined.proofs.Up.{state-up, unit-up, state-before, unit-before}
use Rattle.joined.proofs.JoinedTimes.{times-added, states-added}
use Rattle.joined.proofs.JoinedStandards.{origin, both-rise, map-member}
use Rattle.joined.proofs.Counted.{standards-counted}
use Rattle.joined.proofs.JoinedUnits.{first-judged, second-judged, theoretical-added, first-kept, second-kept}

-- a module that a list opens is opened by it with more behind
pub first-append : (m : ℕ) (rs qs : List StateRecord) → is_opening (first_time m rs) ≡ true → is_opening (first_time m (rs ++ qs)) ≡ true
unfolding first_time
first-append m [] qs e = absurd (false-true e)
first-append m (r ∷ rs) qs e = go (eqb r.«module» m) e (first-append m rs qs)
  where
    go : (b : Bool) → is_opening (cond b (some r.time) (first_time m rs)) ≡ true → (is_opening (first_time m rs) ≡ true → is_opening (first_time m (rs ++ qs)) ≡ true) → is_opening (cond b (some r.time) (first_time m (rs ++ qs))) ≡ true
    go true h rest = h
    go false h rest = rest h

module _ (a b : Log) (sa : Sound a) (sb : Sound b) (alike : b.modules ≡ a.modules) where
  early : Each (λ s. s.start < a.period) a.standards
  early = each-so (StandardSound a.period a.modules) (λ s. s.start < a.period) (λ s h. h.inside) a.standards sa.standards

  opens : (m : ℕ) → m < a.modules → is_opening (first_time m b.states) ≡ true
  opens m h = sb.opened m (rw alike h)

  -- ---- sums

  module _ (units : UnitRecord → ℕ) (kept : (w : UnitRecord) → units (unit_up a.period w) ≡ units w) where
    theoretical : (m : ℕ) → theoretical_time units (joined_log a b).standards (joined_log a b).units m ≡ theoretical_time units a.standards a.units m + theoretical_time units b.standards b.units m
    unfolding joined_log
    theoretical m = theoretical-added a.period b.period a.modules b.modules a.standards b.standards early (sa.standards_rise) (sb.standards_rise) a.units b.units sa.units sb.units units kept m

  actual-added : (m : ℕ) → actual_time (joined_log a b) m ≡ actual_time a m + actual_time b m
  unfolding actual_time
  actual-added m = theoretical (λ u. u.actual) (λ w. refl) m

  effective-added : (m : ℕ) → effective_time (joined_log a b) m ≡ effective_time a m + effective_time b m
  unfolding effective_time
  effective-added m = theoretical (λ u. u.effective) (λ w. refl) m

  uptime-added : (m : ℕ) → m < a.modules → uptime (joined_log a b) m ≡ uptime a m + uptime b m
  unfolding uptime
  uptime-added m h = omega (arith, states-added a b m (opens m h) 0, states-added a b m (opens m h) 1, states-added a b m (opens m h) 2)

  period-added : (joined_log a b).period ≡ a.period + b.period
  unfolding joined_log
  period-added = refl

  pub sums-added : (m : ℕ) → m < a.modules → SumsAdded a b m
  sums-added m h =
      record {
        times = times-added a b m (opens m h);
        states = states-added a b m (opens m h);
        quantities = rw (uptime-added m h, states-added a b m (opens m h) 0, actual-added m, effective-added m, period-added);
      }

  -- the tool's sums, over the modules of both
  sum-added : (f g h : ℕ → ℕ) → ((m : ℕ) → m < a.modules → f m ≡ g m + h m) → sum_below f a.modules ≡ sum_below g a.modules + sum_below h b.modules
  sum-added f g h e = sum_same f (λ m. g m + h m) a.modules e ∙ sym (sum-add g h a.modules) ∙ ap (λ (n : ℕ). sum_below g a.modules + sum_below h n) (sym alike)

  tool-time : (k : ℕ) → sum_below (time_in (joined_log a b) k) a.modules ≡ sum_below (time_in a k) a.modules + sum_below (time_in b k) b.modules
  tool-time k = sum-added (time_in (joined_log a b) k) (time_in a k) (time_in b k) (λ m h. states-added a b m (opens m h) k)

  pub tool-times-added : tool_times (joined_log a b) ≡ times_added (tool_times a) (tool_times b)
  unfolding joined_log
  tool-times-added =
      let six : (x y : StateTimes) → x.productive ≡ y.productive → x.standby ≡ y.standby → x.engineering ≡ y.engineering → x.scheduled ≡ y.scheduled → x.unscheduled ≡ y.unscheduled → x.nonscheduled ≡ y.nonscheduled → x ≡ y
      = λ x y p s e d u n. λ i. record { productive = p i; standby = s i; engineering = e i; scheduled = d i; unscheduled = u i; nonscheduled = n i } in
      six _ _ (tool-time productive) (tool-time standby) (tool-time engineering) (tool-time scheduled_down) (tool-time unscheduled_down) (tool-time nonscheduled)

  pub tool-added : of_tool (joined_log a b) ≡ added (of_tool a) (of_tool b)
  unfolding joined_log
  tool-added =
      let five : (x y : Quantities) → x.total ≡ y.total → x.uptime ≡ y.uptime → x.production ≡ y.production → x.actual ≡ y.actual → x.effective ≡ y.effective → x ≡ y
      = λ x y t u p c f. λ i. record { total = t i; uptime = u i; production = p i; actual = c i; effective = f i } in
      five _ _
      (sum-added (λ m. (joined_log a b).period) (λ m. a.period) (λ m. b.period) (λ m h. period-added))
      (sum-added (uptime (joined_log a b)) (uptime a) (uptime b) uptime-added)
      (tool-time productive)
      (sum-added (actual_time (joined_log a b)) (actual_time a) (actual_time b) (λ m h. actual-added m))
      (sum-added (effective_time (joined_log a b)) (effective_time a) (effective_time b) (λ m h. effective-added m))

  -- ---- credits

  no_other : (i : ℕ) → i < length (joined_log a b).standards → ((j : ℕ) × IsOfFirst a b i j) ⊎ ((j : ℕ) × IsOfSecond a b i j)
  unfolding joined_log
  no_other i l =
      elim (origin a.period a.standards b.standards (nth (joined_log a b).standards i) (at-member (joined_log a b).standards i no_standard l)) [
        | inl m ↦ let w = member-at no_standard m in inl (w.0, record { inside = l; listed = w.1; same = sym w.2 })
        | inr m ↦ let w = member-at no_standard m.listed in inr (w.0, record { inside = l; listed = w.1; same = m.same ∙ ap (standard_up a.period) (sym w.2) })
      ]

  pub credits-kept : CreditsKept a b
  unfolding joined_log credited_to
  credits-kept =
      record {
        counted = standards-counted a b;
        first = λ j l.
            let w = member-at no_standard (merged-first standard_key (map (standard_up a.period) b.standards) (at-member a.standards j no_standard l)) in
            (w.0, record { inside = w.1; listed = l; same = w.2 });
        second = λ j l.
            let w = member-at no_standard (merged-second standard_key a.standards (map-member (standard_up a.period) (at-member b.standards j no_standard l))) in
            (w.0, record { inside = w.1; listed = l; same = w.2 });
        no_other = no_other;
        first_kept = λ i j o. first-kept a.period b.period a.modules b.modules a.standards b.standards early (sa.standards_rise) (sb.standards_rise) a.units b.units sa.units sb.units (λ u. u.actual) (λ w. refl) i j o.inside o.listed o.same;
        second_kept = λ i j o. second-kept a.period b.period a.modules b.modules a.standards b.standards early (sa.standards_rise) (sb.standards_rise) a.units b.units sa.units sb.units (λ u. u.actual) (λ w. refl) i j o.inside o.listed o.same;
      }

  -- ---- the joined log is sound

  states-sound : Each (StateSound (a.period + b.period) a.modules) (a.states ++ map (state_up a.period) b.states)
  states-sound =
      each-append _ a.states (map (state_up a.period) b.states)
      (each-so (StateSound a.period a.modules) _ (λ r h. record { unspared = h.unspared; own = h.own; known = h.known; inside = omega (arith, h.inside) }) a.states sa.states)
      (each-map (state_up a.period) (StateSound b.period b.modules) _ (λ r h. record { unspared = h.unspared; own = omega (arith, h.own, alike); known = h.known; inside = omega (arith, h.inside) }) b.states sb.states)

  states_rise : Rises state_key (a.states ++ map (state_up a.period) b.states)
  states_rise =
      rises-append state_key a.states (map (state_up a.period) b.states) (sa.states_rise)
      (rises-map state_key (state_up a.period) (Before state_key) (state-up a.period) b.states (sb.states_rise))
      (each-so (StateSound a.period a.modules) _ (λ r h. each-image (state_up a.period) (Before state_key r) (λ q. state-before r (state_up a.period q) (omega (arith, h.inside))) b.states) a.states sa.states)

  standards-sound : Each (StandardSound (a.period + b.period) a.modules) (joined_log a b).standards
  unfolding joined_log
  standards-sound =
      merged-each standard_key _ a.standards (map (standard_up a.period) b.standards)
      (each-so (StandardSound a.period a.modules) _ (λ s h. record { unspared = h.unspared; own = h.own; inside = omega (arith, h.inside); timed = h.timed }) a.standards sa.standards)
      (each-map (standard_up a.period) (StandardSound b.period b.modules) _ (λ s h. record { unspared = h.unspared; own = omega (arith, h.own, alike); inside = omega (arith, h.inside); timed = h.timed }) b.standards sb.standards)

  units-sound : Each (UnitSound (a.period + b.period) a.modules (joined_log a b).standards) (a.units ++ map (unit_up a.period) b.units)
  unfolding joined_log
  units-sound =
      each-append _ a.units (map (unit_up a.period) b.units)
      (each-so (UnitSound a.period a.modules a.standards) _ first a.units sa.units)
      (each-map (unit_up a.period) (UnitSound b.period b.modules b.standards) _ second b.units sb.units)
    where
      first : (w : UnitRecord) → UnitSound a.period a.modules a.standards w → UnitSound (a.period + b.period) a.modules (joined_log a b).standards w
      first w h =
          let k = first-judged a.period b.period a.modules b.modules a.standards b.standards early (sa.standards_rise) (sb.standards_rise) w h in
          record { unspared = h.unspared; own = h.own; inside = omega (arith, h.inside); within = h.within; judged = not-none _ k.ours.place k.ours.answer }

      second : (w : UnitRecord) → UnitSound b.period b.modules b.standards w → UnitSound (a.period + b.period) a.modules (joined_log a b).standards (unit_up a.period w)
      second w h =
          let k = second-judged a.period b.period a.modules b.modules a.standards b.standards early (sa.standards_rise) (sb.standards_rise) w h in
          record { unspared = h.unspared; own = omega (arith, h.own, alike); inside = omega (arith, h.inside); within = h.within; judged = not-none _ k.ours.place k.ours.answer }

  units_rise : Rises unit_key (a.units ++ map (unit_up a.period) b.units)
  units_rise =
      rises-append unit_key a.units (map (unit_up a.period) b.units) (sa.units_rise)
      (rises-map unit_key (unit_up a.period) (Before unit_key) (unit-up a.period) b.units (sb.units_rise))
      (each-so (UnitSound a.period a.modules a.standards) _ (λ r h. each-image (unit_up a.period) (Before unit_key r) (λ q. unit-before r (unit_up a.period q) (omega (arith, h.inside))) b.units) a.units sa.units)

  pub joined-sound : Sound (joined_log a b)
  unfolding joined_log
  joined-sound =
      record {
        states = states-sound;
        states_rise = states_rise;
        opened = λ m h. first-append m a.states (map (state_up a.period) b.states) (sa.opened m h);
        standards = standards-sound;
        standards_rise = both-rise a.period a.standards b.standards early (sa.standards_rise) (sb.standards_rise);
        units = units-sound;
        units_rise = units_rise;
        slow = λ m h. omega (arith, actual-added m, states-added a b m (opens m h) 0, sa.slow m h, sb.slow m (rw alike h));
      }
