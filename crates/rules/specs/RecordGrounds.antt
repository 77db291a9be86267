-- When a log is turned back for its records: grounds 6 to 15 and 19, in their sequence.
-- Definitions only.
use Rattle.std.specs.Prelude.{ℕ, Bool, true, false, ◌&&◌, ◌||◌, not, cond, leb, ltb, eqb}
use mathlib.Core.List.{List, [], ◌∷◌, foldl}
use Rattle.std.proofs.Math.Option.{Option, none, some}
use Rattle.records.specs.declared.StateRecord.{StateRecord}
use Rattle.records.specs.declared.Standard.{Standard}
use Rattle.records.specs.declared.UnitRecord.{UnitRecord}
use Rattle.rules.specs.declared.Placed.{Placed}
use Rattle.rules.specs.declared.Ground.TheVariants.{Spare, StrayModule, StrayCode, Outside, Sequence, NoOpening, NoTime, Twice, OverGood, NoStandard, Unsorted}
use Rattle.rules.specs.declared.LogList.TheVariants.{NoList, States, Standards, Units}
use Rattle.rules.specs.Grounds.{Verdict}
use Rattle.rules.specs.Grounds.{ground, ◌then◌, first_of, each_of, in_turn}
use Rattle.rules.specs.Sequence.{just_before, is_below, is_after, state_key, standard_key, unit_key}
use Rattle.rules.specs.Theoretical.{is_for, in_force}

-- ---- the state records

-- the time of module m's last record
unfoldable pub own_time : ℕ → List StateRecord → Option ℕ
own_time m rs = foldl (λ t r. cond (eqb r.«module» m) (some r.time) t) none rs

-- t is at a time or before it, where there is one
abbrev pub is_not_after : ℕ → Option ℕ → Bool
is_not_after t none = false
is_not_after t (some u) = leb t u

unfoldable pub state_ground : ℕ → ℕ → List StateRecord → ℕ → StateRecord → Verdict
unfolding just_before is_below own_time
state_ground period modules earlier i r =
    ground Spare States i (not (eqb r.spare 0))
    then ground StrayModule States i (leb modules r.«module»)
    then ground StrayCode States i (ltb 23 r.code)
    then ground Outside States i (leb period r.time)
    then ground Sequence States i (not (is_after state_key (just_before earlier) r) || is_not_after r.time (own_time r.«module» earlier))

-- the time of module m's first record
unfoldable pub first_time : ℕ → List StateRecord → Option ℕ
first_time m [] = none
first_time m (r ∷ rs) = cond (eqb r.«module» m) (some r.time) (first_time m rs)

abbrev pub is_opening : Option ℕ → Bool
is_opening none = false
is_opening (some t) = eqb t 0

-- no opening: module m's first record is not at time 0, or it has none
unfoldable pub opening_ground : List StateRecord → ℕ → Verdict
unfolding first_time
opening_ground rs m = ground NoOpening NoList m (not (is_opening (first_time m rs)))

-- the state records one by one, then the modules, the lowest first
unfoldable pub state_grounds : ℕ → ℕ → List StateRecord → Verdict
unfolding state_ground opening_ground first_of in_turn
state_grounds period modules rs = each_of (state_ground period modules) rs then first_of (opening_ground rs) modules

-- ---- the standards

-- a standard of the list has this module, this recipe and this start
abbrev pub is_among : Standard → List Standard → Bool
is_among s [] = false
is_among s (e ∷ es) = (is_for s.«module» s.recipe e && eqb e.start s.start) || is_among s es

unfoldable pub standard_ground : ℕ → ℕ → List Standard → ℕ → Standard → Verdict
unfolding just_before is_below
standard_ground period modules earlier i s =
    ground Spare Standards i (not (eqb s.spare 0))
    then ground StrayModule Standards i (leb modules s.«module»)
    then ground Outside Standards i (leb period s.start)
    then ground NoTime Standards i (eqb s.theoretical 0)
    then ground Twice Standards i (is_among s earlier)
    then ground Unsorted Standards i (not (is_after standard_key (just_before earlier) s))

unfoldable pub standard_grounds : ℕ → ℕ → List Standard → Verdict
unfolding standard_ground in_turn
standard_grounds period modules ss = each_of (standard_ground period modules) ss

-- ---- the unit records

abbrev pub is_none : Option Placed → Bool
is_none none = true
is_none (some p) = false

unfoldable pub unit_ground : ℕ → ℕ → List Standard → List UnitRecord → ℕ → UnitRecord → Verdict
unfolding in_force just_before is_below
unit_ground period modules ss earlier i u =
    ground Spare Units i (not (eqb u.spare 0))
    then ground StrayModule Units i (leb modules u.«module»)
    then ground Outside Units i (leb period u.time)
    then ground OverGood Units i (ltb u.actual u.effective)
    then ground NoStandard Units i (is_none (in_force ss u.«module» u.recipe u.time))
    then ground Unsorted Units i (not (is_after unit_key (just_before earlier) u))

unfoldable pub unit_grounds : ℕ → ℕ → List Standard → List UnitRecord → Verdict
unfolding unit_ground in_turn
unit_grounds period modules ss us = each_of (unit_ground period modules ss) us
