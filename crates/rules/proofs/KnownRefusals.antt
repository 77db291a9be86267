-- Every refusal of a log has a number and a list of the table: each ground's two are in it, and putting grounds in sequence brings no others.
-- Assumes nothing.
use mathlib.Core.Path.{◌≡◌, subst}
use mathlib.Core.Bool.{Bool, true, false, ◌||◌, not}
use mathlib.Core.List.{List, [], ◌∷◌, ◌++◌}
use Prim.Native.Nat.{ℕ, zero, suc}
use native.Mathlib.Omega.{arith}
use lib.Dec.{T, leb, ltb, eqb}
use lib.ListN.{length}
use Rattle.records.specs.declared.StateRecord.{StateRecord}
use Rattle.records.specs.declared.Standard.{Standard}
use Rattle.records.specs.declared.UnitRecord.{UnitRecord}
use Rattle.records.specs.Log.{Log, header_of, decode}
use Rattle.rules.specs.declared.Ground.{Ground}
use Rattle.rules.specs.declared.LogList.{LogList}
use Rattle.rules.specs.declared.Refusal.{Refusal}
use Rattle.rules.specs.declared.Ground.TheVariants.{NoHeader, Period, Modules, Counts, Length, Spare, StrayModule, StrayCode, Outside, Sequence, NoOpening, NoTime, Twice, OverGood, NoStandard, TooFast, TooGreat, Unsorted}
use Rattle.rules.specs.declared.LogList.TheVariants.{NoList, States, Standards, Units}
use Rattle.rules.specs.Grounds.{Verdict}
use Rattle.std.specs.declared.result.Result.TheVariants.{Ok, Err}
use Rattle.rules.specs.Names.{number_of, list_number}
use Rattle.rules.specs.Grounds.{ground, ◌then◌, first_of, in_turn}
use Rattle.rules.specs.RecordGrounds.{own_time, is_not_after, state_ground, first_time, is_opening, opening_ground, state_grounds, is_among, is_none, standard_ground, standard_grounds, unit_ground, unit_grounds}
use Rattle.rules.specs.Sequence.{just_before, is_after, state_key, standard_key, unit_key}
use Rattle.rules.specs.Theoretical.{in_force}
use Rattle.rules.specs.Quantities.{time_in, actual_time, of_tool, tool_times}
use Rattle.rules.specs.Verdict.{bad_period, bad_modules, bad_counts, bad_length, header_grounds, fast_ground, any_over, any_time_over, sum_grounds, record_grounds, verdict}
use Rattle.rules.specs.Refusals.{Row, is_row, Known, log_refusals, OfLog}

-- what is refused, if it is, is known
pub record AllKnown (rows : List Row) (v : Verdict) : Type 0 where
  pub known : (x : Refusal) → v ≡ Err x → Known rows x

module _ (rows : List Row) where
  pub known_ground : (n : Ground) (l : LogList) (p : ℕ) (t : Bool) → T (is_row rows (number_of n) (list_number l)) → AllKnown rows (ground n l p t)
  known_ground n l p true h = record { known = λ x e. let q : record { ground = n; list = l; place = p } ≡ x = cc in subst (λ (y : Refusal). Known rows y) q h }
  known_ground n l p false h = record { known = λ x e. let z : ◌≡◌ {A = ℕ} 0 1 = cc in absurd (omega arith) }

  pub known_accepted : AllKnown rows (Ok tt)
  known_accepted = record { known = λ x e. let z : ◌≡◌ {A = ℕ} 0 1 = cc in absurd (omega arith) }

  pub known_then : (u v : Verdict) → AllKnown rows u → AllKnown rows v → AllKnown rows (u then v)
  known_then (Ok tt) v a b = b
  known_then (Err x) v a b = a

  pub known_first : (g : ℕ → Verdict) (n : ℕ) → ((i : ℕ) → AllKnown rows (g i)) → AllKnown rows (first_of g n)
  unfolding first_of
  known_first g zero h = known_accepted
  known_first g (suc n) h = known_then (first_of g n) (g n) (known_first g n h) (h n)

  pub known_turn : {A : Type 0} (g : List A → ℕ → A → Verdict) (earlier : List A) (i : ℕ) (rs : List A) → ((e : List A) (i : ℕ) (r : A) → AllKnown rows (g e i r)) → AllKnown rows (in_turn g earlier i rs)
  unfolding in_turn
  known_turn g earlier i [] h = known_accepted
  known_turn g earlier i (r ∷ rs) h = known_then (g earlier i r) (in_turn g (earlier ++ (r ∷ [])) (suc i) rs) (h earlier i r) (known_turn g (earlier ++ (r ∷ [])) (suc i) rs h)

-- ---- the grounds of a log

abbrev ruled : (n : Ground) (l : LogList) (p : ℕ) (t : Bool) → T (is_row log_refusals (number_of n) (list_number l)) → AllKnown log_refusals (ground n l p t)
ruled = known_ground log_refusals

infixr 40 ◌and◌
◌and◌ : {u v : Verdict} → AllKnown log_refusals u → AllKnown log_refusals v → AllKnown log_refusals (u then v)
◌and◌ {u} {v} a b = known_then log_refusals u v a b

known-header : (s : List ℕ) → AllKnown log_refusals (header_grounds s)
unfolding header_grounds
known-header s =
    let h = header_of s in
    ruled NoHeader NoList 0 (ltb (length s) 10) tt
    and ruled Period NoList 0 (bad_period h.period) tt
    and ruled Modules NoList 0 (bad_modules h.modules) tt
    and ruled Counts NoList 0 (bad_counts h) tt
    and ruled Length NoList 0 (bad_length (length s) h) tt

known-state : (period modules : ℕ) (earlier : List StateRecord) (i : ℕ) (r : StateRecord) → AllKnown log_refusals (state_ground period modules earlier i r)
unfolding state_ground
known-state period modules earlier i r =
    ruled Spare States i (not (eqb r.spare 0)) tt
    and ruled StrayModule States i (leb modules r.«module») tt
    and ruled StrayCode States i (ltb 23 r.code) tt
    and ruled Outside States i (leb period r.time) tt
    and ruled Sequence States i (not (is_after state_key (just_before earlier) r) || is_not_after r.time (own_time r.«module» earlier)) tt

known-states : (period modules : ℕ) (rs : List StateRecord) → AllKnown log_refusals (state_grounds period modules rs)
unfolding state_grounds opening_ground
known-states period modules rs =
    known_turn log_refusals (state_ground period modules) [] 0 rs (known-state period modules)
    and known_first log_refusals (opening_ground rs) modules (λ m. ruled NoOpening NoList m (not (is_opening (first_time m rs))) tt)

known-standard : (period modules : ℕ) (earlier : List Standard) (i : ℕ) (s : Standard) → AllKnown log_refusals (standard_ground period modules earlier i s)
unfolding standard_ground
known-standard period modules earlier i s =
    ruled Spare Standards i (not (eqb s.spare 0)) tt
    and ruled StrayModule Standards i (leb modules s.«module») tt
    and ruled Outside Standards i (leb period s.start) tt
    and ruled NoTime Standards i (eqb s.theoretical 0) tt
    and ruled Twice Standards i (is_among s earlier) tt
    and ruled Unsorted Standards i (not (is_after standard_key (just_before earlier) s)) tt

known-unit : (period modules : ℕ) (ss : List Standard) (earlier : List UnitRecord) (i : ℕ) (u : UnitRecord) → AllKnown log_refusals (unit_ground period modules ss earlier i u)
unfolding unit_ground
known-unit period modules ss earlier i u =
    ruled Spare Units i (not (eqb u.spare 0)) tt
    and ruled StrayModule Units i (leb modules u.«module») tt
    and ruled Outside Units i (leb period u.time) tt
    and ruled OverGood Units i (ltb u.actual u.effective) tt
    and ruled NoStandard Units i (is_none (in_force ss u.«module» u.recipe u.time)) tt
    and ruled Unsorted Units i (not (is_after unit_key (just_before earlier) u)) tt

known-records : (l : Log) → AllKnown log_refusals (record_grounds l)
unfolding record_grounds standard_grounds unit_grounds sum_grounds fast_ground
known-records l =
    known-states l.period l.modules l.states
    and known_turn log_refusals (standard_ground l.period l.modules) [] 0 l.standards (known-standard l.period l.modules)
    and known_turn log_refusals (unit_ground l.period l.modules l.standards) [] 0 l.units (known-unit l.period l.modules l.standards)
    and known_first log_refusals (fast_ground l) l.modules (λ m. ruled TooFast NoList m (ltb (time_in l 0 m) (actual_time l m)) tt)
    and ruled TooGreat NoList 0 (any_over (of_tool l) || any_time_over (tool_times l)) tt

pub verdict-known : (s : List ℕ) (x : Refusal) → verdict s ≡ Err x → Known log_refusals x
unfolding verdict
verdict-known s x e = (known-header s and known-records (decode s)).known x e

pub log-refusal : (s : List ℕ) (x : Refusal) → verdict s ≡ Err x → OfLog s x
log-refusal s x e = record { met = e; known = verdict-known s x e }
