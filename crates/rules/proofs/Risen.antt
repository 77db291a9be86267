-- What an accepted log has: its length is that of its header, and each of its lists is in its rising sequence.
-- Assumes nothing.
use mathlib.Core.Path.{◌≡◌}
use mathlib.Core.Bool.{true}
use mathlib.Core.List.{List}
use Prim.Native.Nat.{ℕ, ◌+◌, ◌*◌}
use lib.ListN.{length}
use lib.Dec.{ltb, eqb}
use borrow.Author.Tests.{eqb-true, not-false}
use Rattle.records.specs.Log.{Log, header_of, decode}
use Rattle.records.specs.declared.StateRecord.{StateRecord}
use Rattle.records.specs.declared.Standard.{Standard}
use Rattle.records.specs.declared.UnitRecord.{UnitRecord}
use Rattle.rules.specs.declared.Ground.TheVariants.{NoHeader, Period, Modules, Counts, Length}
use Rattle.rules.specs.declared.LogList.TheVariants.{NoList}
use Rattle.std.specs.declared.result.Result.TheVariants.{Ok}
use Rattle.rules.specs.Grounds.{ground, ◌then◌, first_of, each_of}
use Rattle.rules.specs.Sequence.{just_before, is_after, is_rising, state_key, standard_key, unit_key, Risen}
use Rattle.rules.specs.RecordGrounds.{state_ground, opening_ground, state_grounds, standard_ground, standard_grounds, unit_ground, unit_grounds}
use Rattle.rules.specs.Sound.{StateSound, StandardSound, UnitSound}
use Rattle.rules.specs.Verdict.{bad_period, bad_modules, bad_counts, bad_length, header_grounds, sum_grounds, record_grounds, verdict}
use Rattle.rules.proofs.FirstGround.{then-left, then-right, not-met}
use Rattle.rules.proofs.Sound.{list-rising, state-tests, standard-tests, unit-tests}

-- ---- one record, and a list

pub state-after : (period modules : ℕ) (earlier : List StateRecord) (i : ℕ) (r : StateRecord) → state_ground period modules earlier i r ≡ Ok tt → is_after state_key (just_before earlier) r ≡ true
state-after period modules = (state-tests period modules).after

pub standard-after : (period modules : ℕ) (earlier : List Standard) (i : ℕ) (s : Standard) → standard_ground period modules earlier i s ≡ Ok tt → is_after standard_key (just_before earlier) s ≡ true
standard-after period modules = (standard-tests period modules).after

pub states-rise : (period modules : ℕ) (rs : List StateRecord) → state_grounds period modules rs ≡ Ok tt → is_rising state_key rs ≡ true
unfolding state_grounds
states-rise period modules rs e =
    list-rising state_key (state_ground period modules) (StateSound period modules) (state-tests period modules) rs
    (then-left (each_of (state_ground period modules) rs) (first_of (opening_ground rs) modules) e)

pub standards-rise : (period modules : ℕ) (ss : List Standard) → standard_grounds period modules ss ≡ Ok tt → is_rising standard_key ss ≡ true
unfolding standard_grounds
standards-rise period modules ss e = list-rising standard_key (standard_ground period modules) (StandardSound period modules) (standard-tests period modules) ss e

pub units-rise : (period modules : ℕ) (ss : List Standard) (us : List UnitRecord) → unit_grounds period modules ss us ≡ Ok tt → is_rising unit_key us ≡ true
unfolding unit_grounds
units-rise period modules ss us e = list-rising unit_key (unit_ground period modules ss) (UnitSound period modules ss) (unit-tests period modules ss) us e

-- ---- a log

-- each list of an accepted log is accepted
pub record ListsAccepted (l : Log) : Type 0 where
  pub states : state_grounds l.period l.modules l.states ≡ Ok tt
  pub standards : standard_grounds l.period l.modules l.standards ≡ Ok tt
  pub units : unit_grounds l.period l.modules l.standards l.units ≡ Ok tt

pub lists-accepted : (s : List ℕ) → verdict s ≡ Ok tt → ListsAccepted (decode s)
unfolding verdict record_grounds
lists-accepted s e =
    let l = decode s in
    let states = state_grounds l.period l.modules l.states in
    let standards = standard_grounds l.period l.modules l.standards in
    let units = unit_grounds l.period l.modules l.standards l.units in
    let a : record_grounds l ≡ Ok tt = then-right (header_grounds s) _ e in
    let b : standards then units then sum_grounds l ≡ Ok tt = then-right states _ a in
    record { states = then-left states _ a; standards = then-left standards _ b; units = then-left units _ (then-right standards _ b) }

pub risen : (s : List ℕ) → verdict s ≡ Ok tt → Risen (decode s)
risen s e =
    let l = decode s in
    let a = lists-accepted s e in
    record {
      states = states-rise l.period l.modules l.states a.states;
      standards = standards-rise l.period l.modules l.standards a.standards;
      units = units-rise l.period l.modules l.standards l.units a.units;
    }

pub whole_length : (s : List ℕ) → verdict s ≡ Ok tt → length s ≡ 10 + 6 * (header_of s).states + 10 * (header_of s).standards + 11 * (header_of s).units
unfolding verdict header_grounds
whole_length s e =
    let h = header_of s in
    let a : header_grounds s ≡ Ok tt = then-left (header_grounds s) (record_grounds (decode s)) e in
    let b = then-right (ground NoHeader NoList 0 (ltb (length s) 10)) _ a in
    let c = then-right (ground Period NoList 0 (bad_period h.period)) _ b in
    let d = then-right (ground Modules NoList 0 (bad_modules h.modules)) _ c in
    let f = then-right (ground Counts NoList 0 (bad_counts h)) _ d in
    let n = 10 + 6 * h.states + 10 * h.standards + 11 * h.units in
    eqb-true (length s) n (not-false (eqb (length s) n) (not-met Length NoList 0 (bad_length (length s) h) f))
