-- The log judged, ground by ground: each part's answer decides, and an accepted log's arrays hold its sums.
-- Assumes nothing.
use mathlib.Core.Path.{◌≡◌, refl, sym, ap, ◌∙◌}
use mathlib.Core.Bool.{Bool, true, false, ◌||◌}
use mathlib.Core.List.{List}
use Prim.Native.Nat.{ℕ, ◌+◌, ◌*◌, ◌≤◌, ◌<◌}
use native.Mathlib.Omega.{arith}
use lib.ListN.{length}
use lib.Dec.{ltb}
use borrow.Author.Tests.{eqb-true, not-false}
use Rattle.std.specs.declared.result.Result.TheVariants.{Ok, Err}
use Rattle.records.specs.declared.Header.{Header}
use Rattle.records.specs.Log.{header_of, state_at, standard_at, unit_at, up_to, decode}
use Rattle.rules.specs.declared.Refusal.{Refusal}
use Rattle.rules.specs.declared.Ground.TheVariants.{NoHeader, Period, Modules, Counts, Length, TooGreat}
use Rattle.rules.specs.declared.LogList.TheVariants.{NoList}
use Rattle.rules.specs.Grounds.{Verdict, ground, ◌then◌, first_of}
use Rattle.rules.specs.RecordGrounds.{state_grounds, standard_grounds, unit_grounds}
use Rattle.rules.specs.Credited.{credited_to, credits_of}
use Rattle.rules.specs.Quantities.{time_in, uptime, actual_time, effective_time, of_tool, tool_times}
use Rattle.rules.specs.Verdict.{bad_period, bad_modules, bad_counts, bad_length, header_grounds, fast_ground, any_over, any_time_over, sum_grounds, record_grounds, verdict}
use Rattle.rules.proofs.FirstGround.{then-left, then-right, then-assoc, not-met}
use Rattle.states.specs.Tally.{Tallied}
use Rattle.theoretical.specs.Credits.{UnitsCredited}
use Rattle.judging.specs.Working.{WorkingTotals, Grounded, Consistent}
use Rattle.judging.proofs.Bounds.{good-period, good-modules, good-counts}
use Rattle.judging.proofs.Accepted.{consistent, none_over, sums_never}

-- a log's state records meet no ground, and its standards and unit records meet none
abbrev pub StatesPass : List ℕ → Type 0
StatesPass s = state_grounds (header_of s).period (header_of s).modules (up_to (state_at s) (header_of s).states) ≡ Ok tt

abbrev pub UnitsPass : List ℕ → Type 0
UnitsPass s =
    (standard_grounds (header_of s).period (header_of s).modules (up_to (standard_at s (header_of s)) (header_of s).standards)
    then unit_grounds (header_of s).period (header_of s).modules (up_to (standard_at s (header_of s)) (header_of s).standards) (up_to (unit_at s (header_of s)) (header_of s).units)) ≡ Ok tt

-- what an accepted header tells, of a log of n bytes
pub record Counted (n : ℕ) (h : Header) : Type 0 where
  pub period : (0 < h.period) × (h.period ≤ 31622400000)
  pub modules : (0 < h.modules) × (h.modules ≤ 64)
  pub counts : (h.states ≤ 6000) × (h.standards ≤ 512) × (h.units ≤ 2000)
  pub whole : n ≡ 10 + 6 * h.states + 10 * h.standards + 11 * h.units

pub counted : (s : List ℕ) (h : Header) → h ≡ header_of s → header_grounds s ≡ Ok tt → Counted (length s) h
unfolding header_grounds
counted s h eh e = rw eh told
  where
    told : Counted (length s) (header_of s)
    told =
        let h = header_of s in
        let a = then-right (ground NoHeader NoList 0 (ltb (length s) 10)) _ e in
        let b = then-right (ground Period NoList 0 (bad_period h.period)) _ a in
        let c = then-right (ground Modules NoList 0 (bad_modules h.modules)) _ b in
        let length = ground Length NoList 0 (bad_length (length s) h) in
        let counts = ground Counts NoList 0 (bad_counts h) then length in
        record {
          period = good-period h.period (not-met Period NoList 0 (bad_period h.period) (then-left (ground Period NoList 0 (bad_period h.period)) (ground Modules NoList 0 (bad_modules h.modules) then counts) a));
          modules = good-modules h.modules (not-met Modules NoList 0 (bad_modules h.modules) (then-left (ground Modules NoList 0 (bad_modules h.modules)) counts b));
          counts = good-counts h (not-met Counts NoList 0 (bad_counts h) (then-left (ground Counts NoList 0 (bad_counts h)) length c));
          whole = eqb-true _ _ (not-false _ (not-met Length NoList 0 (bad_length _ h) (then-right (ground Counts NoList 0 (bad_counts h)) length c)));
        }

module _ (s : List ℕ) where
  -- a refusal is the whole log's once all before it accepted
  pub judged_header : (x : Refusal) → header_grounds s ≡ Err x → verdict s ≡ Err x
  unfolding verdict
  judged_header x e = ap (λ (w : Verdict). w then record_grounds (decode s)) e

  module _ (header : header_grounds s ≡ Ok tt) where
    by-records : verdict s ≡ record_grounds (decode s)
    unfolding verdict
    by-records = ap (λ (w : Verdict). w then record_grounds (decode s)) header

    abbrev states : Verdict
    states = state_grounds (header_of s).period (header_of s).modules (up_to (state_at s) (header_of s).states)

    abbrev units : Verdict
    units =
        let h = header_of s in
        standard_grounds h.period h.modules (up_to (standard_at s h) h.standards) then unit_grounds h.period h.modules (up_to (standard_at s h) h.standards) (up_to (unit_at s h) h.units)

    in_parts : verdict s ≡ states then (units then sum_grounds (decode s))
    unfolding record_grounds decode
    in_parts =
        let h = header_of s in
        by-records
        ∙ ap (λ (w : Verdict). states then w)
        (sym (then-assoc (standard_grounds h.period h.modules (up_to (standard_at s h) h.standards)) (unit_grounds h.period h.modules (up_to (standard_at s h) h.standards) (up_to (unit_at s h) h.units)) (sum_grounds (decode s))))

    -- the state records
    pub judged_states : (x : Refusal) → states ≡ Err x → verdict s ≡ Err x
    judged_states x e = in_parts ∙ ap (λ (w : Verdict). w then (units then sum_grounds (decode s))) e

    module _ (fine : states ≡ Ok tt) where
      by_units : verdict s ≡ units then sum_grounds (decode s)
      by_units = in_parts ∙ ap (λ (w : Verdict). w then (units then sum_grounds (decode s))) fine

      -- the standards and the unit records
      pub judged_units : (x : Refusal) → units ≡ Err x → verdict s ≡ Err x
      judged_units x e = by_units ∙ ap (λ (w : Verdict). w then sum_grounds (decode s)) e

      module _ (good : units ≡ Ok tt) where
        by_sums : verdict s ≡ sum_grounds (decode s)
        by_sums = by_units ∙ ap (λ (w : Verdict). w then sum_grounds (decode s)) good

        few : (header_of s).modules ≤ 64
        few = (counted s (header_of s) refl header).modules.1

        -- what the passes over the lists left behind
        pub held : (T U A E C : List ℕ) (v u : Verdict)
            → Tallied (up_to (state_at s) (header_of s).states) (header_of s).period (header_of s).modules v T U → v ≡ Ok tt
            → UnitsCredited (header_of s).period (header_of s).modules (up_to (standard_at s (header_of s)) (header_of s).standards) (up_to (unit_at s (header_of s)) (header_of s).units) u A E C → u ≡ Ok tt
            → WorkingTotals (decode s) T U A E
        unfolding decode time_in uptime actual_time effective_time
        held T U A E C v u t e c d =
            record {
              times = λ m k l q. t.totals e m k l q;
              uptimes = λ m l. t.uptime e m l;
              actuals = λ m l. (c.credited d).actual m (omega (arith, few));
              effectives = λ m l. (c.credited d).effective m (omega (arith, few));
            }

        pub all_credited : (A E C : List ℕ) (u : Verdict)
            → UnitsCredited (header_of s).period (header_of s).modules (up_to (standard_at s (header_of s)) (header_of s).standards) (up_to (unit_at s (header_of s)) (header_of s).units) u A E C → u ≡ Ok tt
            → C ≡ credits_of (decode s)
        unfolding decode credited_to credits_of
        all_credited A E C u c d = c.judged d

        pub grounded : Grounded (decode s)
        unfolding decode
        grounded =
            let n = counted s (header_of s) refl header in
            record {
              one_module = n.modules.0;
              few = n.modules.1;
              begun = n.period.0;
              short = n.period.1;
              states = fine;
              units = then-right (standard_grounds (header_of s).period (header_of s).modules (up_to (standard_at s (header_of s)) (header_of s).standards)) _ good;
            }

        -- the sums
        pub judged_speeds : (x : Refusal) → first_of (fast_ground (decode s)) (decode s).modules ≡ Err x → verdict s ≡ Err x
        unfolding sum_grounds
        judged_speeds x e = by_sums ∙ ap (λ (w : Verdict). w then ground TooGreat NoList 0 (any_over (of_tool (decode s)) || any_time_over (tool_times (decode s)))) e

        module _ (fast : first_of (fast_ground (decode s)) (decode s).modules ≡ Ok tt) where
          by_greats : verdict s ≡ ground TooGreat NoList 0 (any_over (of_tool (decode s)) || any_time_over (tool_times (decode s)))
          unfolding sum_grounds
          by_greats = by_sums ∙ ap (λ (w : Verdict). w then ground TooGreat NoList 0 (any_over (of_tool (decode s)) || any_time_over (tool_times (decode s)))) fast

          pub judged_greats : (x : Refusal) (b : Bool) → b ≡ (any_over (of_tool (decode s)) || any_time_over (tool_times (decode s))) → ground TooGreat NoList 0 b ≡ Err x → verdict s ≡ Err x
          judged_greats x true q e = by_sums ∙ sym (sums_never (decode s) grounded fast true refl (λ t. sym q) (Err x) (sym e)).0
          judged_greats x false q e = let z : ◌≡◌ {A = ℕ} 0 1 = cc in absurd (omega arith)

          pub all_consistent : Consistent (decode s)
          all_consistent = consistent (decode s) grounded fast

          pub all_accepted : verdict s ≡ Ok tt
          all_accepted = by_greats ∙ ap (ground TooGreat NoList 0) (none_over (decode s) all_consistent)

-- what that of an accepted log tells
pub accepted_counts : (s : List ℕ) → verdict s ≡ Ok tt → Counted (length s) (header_of s)
unfolding verdict
accepted_counts s e = counted s (header_of s) refl (then-left (header_grounds s) (record_grounds (decode s)) e)

-- what the header read first tells of the log
module _ (s : List ℕ) (h : Header) (eh : h ≡ header_of s) where
  pub header_period : h.period ≡ (decode s).period
  unfolding decode
  header_period = ap (λ (k : Header). k.period) eh

  pub header_modules : h.modules ≡ (decode s).modules
  unfolding decode
  header_modules = ap (λ (k : Header). k.modules) eh
