-- Accepted records are sound: each by itself, each list rises, each module is opened, and none is too fast. And a list whose records are sound and rise is accepted.
-- Assumes nothing.
use mathlib.Core.Path.{◌≡◌, refl}
use mathlib.Core.Bool.{Bool, true, false, ◌||◌, not}
use mathlib.Core.Option.{none}
use mathlib.Core.List.{List, [], ◌∷◌, ◌++◌}
use Prim.Native.Nat.{ℕ, zero, suc, ◌<◌}
use native.Mathlib.Omega.{arith}
use lib.Dec.{leb, ltb, eqb}
use borrow.Author.Tests.{eqb-true, eqb-false, eq-eqb, ne_eqb, ltb-false, le-ltb, leb-false, lt-leb, not-false}
use Rattle.records.specs.Log.{Log}
use Rattle.records.specs.declared.StateRecord.{StateRecord}
use Rattle.records.specs.declared.Standard.{Standard}
use Rattle.records.specs.declared.UnitRecord.{UnitRecord}
use Rattle.rules.specs.declared.Ground.{Ground}
use Rattle.rules.specs.declared.Ground.TheVariants.{Spare, StrayModule, StrayCode, Outside, Sequence, NoOpening, NoTime, Twice, OverGood, NoStandard, TooFast, Unsorted}
use Rattle.rules.specs.declared.LogList.{LogList}
use Rattle.rules.specs.declared.LogList.TheVariants.{NoList, States, Standards, Units}
use Rattle.rules.specs.Grounds.{Verdict}
use Rattle.std.specs.declared.result.Result.TheVariants.{Ok}
use Rattle.rules.specs.Grounds.{ground, ◌then◌, first_of, in_turn, each_of}
use Rattle.rules.specs.Sequence.{just_before, is_after, is_rising_after, is_rising, state_key, standard_key, unit_key}
use Rattle.rules.specs.Theoretical.{in_force}
use Rattle.rules.specs.RecordGrounds.{own_time, is_not_after, state_ground, first_time, is_opening, opening_ground, state_grounds, is_among, is_none, standard_ground, standard_grounds, unit_ground, unit_grounds}
use Rattle.rules.specs.Names.{productive}
use Rattle.rules.specs.Quantities.{time_in, actual_time}
use Rattle.rules.specs.Verdict.{fast_ground, sum_grounds, record_grounds}
use Rattle.rules.proofs.FirstGround.{then-left, then-right, not-met, first_all}
use Rattle.rules.proofs.Booleans.{or_left}
use Rattle.rules.proofs.Sequence.{last_more}
use Rattle.rules.specs.Lists.{Each, Before, Rises}
use Rattle.rules.specs.Sound.{StateSound, StandardSound, UnitSound, Sound}
use Rattle.rules.proofs.Spared.{own-later, none-among}
use Rattle.rules.proofs.Each.{each-both, each-append, rises, after-all}

-- ---- truth values and grounds

pub is-false : (b : Bool) → (b ≡ true → ⊥) → b ≡ false
is-false true h = absurd (h refl)
is-false false h = refl

pub no-ground : (n : Ground) (l : LogList) (p : ℕ) (t : Bool) → t ≡ false → ground n l p t ≡ Ok tt
no-ground n l p t e = rw e

pub then-both : (u v : Verdict) → u ≡ Ok tt → v ≡ Ok tt → u then v ≡ Ok tt
then-both u v e f = rw (e, f)

pub first-of : (g : ℕ → Verdict) (n : ℕ) → ((i : ℕ) → i < n → g i ≡ Ok tt) → first_of g n ≡ Ok tt
unfolding first_of
first-of g zero h = refl
first-of g (suc n) h = then-both (first_of g n) (g n) (first-of g n (λ i l. h i (omega arith))) (h n (omega arith))

-- a ground that accepts is not met, and what comes behind it accepts
past : (g : Ground) (l : LogList) (p : ℕ) (t : Bool) {v : Verdict} → ground g l p t then v ≡ Ok tt → (t ≡ false) × (v ≡ Ok tt)
past g l p t {v} e = (not-met g l p t (then-left (ground g l p t) v e), then-right (ground g l p t) v e)

-- ---- a list tested record by record

module _ {A : Type 0} (key : A → List ℕ) (g : List A → ℕ → A → Verdict) (Local : A → Type 0) where
  -- what the tests of one record come down to
  pub record Tests : Type 0 where
    pub local : (earlier : List A) (i : ℕ) (r : A) → g earlier i r ≡ Ok tt → Local r
    pub after : (earlier : List A) (i : ℕ) (r : A) → g earlier i r ≡ Ok tt → is_after key (just_before earlier) r ≡ true
    pub passes : (earlier : List A) (i : ℕ) (r : A) → Local r → Each (λ q. Before key q r) earlier → g earlier i r ≡ Ok tt

  module _ (t : Tests) where
    turn-local : (earlier : List A) (i : ℕ) (rs : List A) → in_turn g earlier i rs ≡ Ok tt → Each Local rs
    unfolding in_turn
    turn-local earlier i [] e = tt
    turn-local earlier i (r ∷ rs) e = (t.local earlier i r (then-left (g earlier i r) _ e), turn-local (earlier ++ (r ∷ [])) (suc i) rs (then-right (g earlier i r) _ e))

    turn-rising : (earlier : List A) (i : ℕ) (rs : List A) → in_turn g earlier i rs ≡ Ok tt → is_rising_after key (just_before earlier) rs ≡ true
    unfolding in_turn is_rising_after
    turn-rising earlier i [] e = refl
    turn-rising earlier i (r ∷ rs) e =
        let rest : is_rising_after key (just_before (earlier ++ (r ∷ []))) rs ≡ true = turn-rising (earlier ++ (r ∷ [])) (suc i) rs (then-right (g earlier i r) _ e) in
        rw (t.after earlier i r (then-left (g earlier i r) _ e)) (rw (last_more earlier r) at rest)

    pub list-local : (rs : List A) → each_of g rs ≡ Ok tt → Each Local rs
    list-local rs e = turn-local [] 0 rs e

    pub list-rising : (rs : List A) → each_of g rs ≡ Ok tt → is_rising key rs ≡ true
    unfolding just_before
    list-rising rs e = turn-rising [] 0 rs e

    pub list-rises : (rs : List A) → each_of g rs ≡ Ok tt → Rises key rs
    list-rises rs e = rises key rs (list-rising rs e)

    turn-passes : (earlier : List A) (i : ℕ) (rs : List A) → Each Local rs → Rises key rs → Each (λ r. Each (λ q. Before key q r) earlier) rs → in_turn g earlier i rs ≡ Ok tt
    unfolding in_turn
    turn-passes earlier i [] l u x = refl
    turn-passes earlier i (r ∷ rs) l u x =
        then-both (g earlier i r) (in_turn g (earlier ++ (r ∷ [])) (suc i) rs) (t.passes earlier i r l.0 x.0) (turn-passes (earlier ++ (r ∷ [])) (suc i) rs l.1 u.1 more)
      where
        more : Each (λ q. Each (λ p. Before key p q) (earlier ++ (r ∷ []))) rs
        more = each-both (λ q. Each (λ p. Before key p q) earlier) (Before key r) _ (λ q a b. each-append (λ p. Before key p q) earlier (r ∷ []) a (b, tt)) rs x.1 u.0

    none-earlier : (rs : List A) → Each (λ r. Each (λ q. Before key q r) []) rs
    none-earlier [] = tt
    none-earlier (r ∷ rs) = (tt, none-earlier rs)

    pub list-passes : (rs : List A) → Each Local rs → Rises key rs → each_of g rs ≡ Ok tt
    list-passes rs l u = turn-passes [] 0 rs l u (none-earlier rs)

-- ---- the state records

module _ (period modules : ℕ) where
  state-local : (earlier : List StateRecord) (i : ℕ) (r : StateRecord) → state_ground period modules earlier i r ≡ Ok tt → StateSound period modules r × (is_after state_key (just_before earlier) r ≡ true)
  unfolding state_ground
  state-local earlier i r e =
      let a = past Spare States i (not (eqb r.spare 0)) e in
      let b = past StrayModule States i (leb modules r.«module») a.1 in
      let c = past StrayCode States i (ltb 23 r.code) b.1 in
      let d = past Outside States i (leb period r.time) c.1 in
      let after = is_after state_key (just_before earlier) r in
      let own = is_not_after r.time (own_time r.«module» earlier) in (
        record {
          unspared = eqb-true r.spare 0 (not-false (eqb r.spare 0) a.0);
          own = leb-false modules r.«module» b.0;
          known = ltb-false 23 r.code c.0;
          inside = leb-false period r.time d.0;
        },
        not-false after (or_left (not after) own (not-met Sequence States i (not after || own) d.1)),
      )

  state-passes : (earlier : List StateRecord) (i : ℕ) (r : StateRecord) → StateSound period modules r → Each (λ q. Before state_key q r) earlier → state_ground period modules earlier i r ≡ Ok tt
  unfolding state_ground own_time
  state-passes earlier i r s e =
      rw (eq-eqb r.spare 0 s.unspared, lt-leb modules r.«module» s.own, le-ltb 23 r.code s.known, lt-leb period r.time s.inside, after-all state_key earlier r e, own-later r none earlier refl e)

  pub state-tests : Tests state_key (state_ground period modules) (StateSound period modules)
  state-tests = record { local = λ earlier i r e. (state-local earlier i r e).0; after = λ earlier i r e. (state-local earlier i r e).1; passes = state-passes }

-- ---- the standards

some-time : (t : ℕ) → eqb t 0 ≡ false → 0 < t
some-time t e = let d : t ≡ 0 → ⊥ = eqb-false t 0 e in omega (arith, d)

module _ (period modules : ℕ) where
  standard-local : (earlier : List Standard) (i : ℕ) (s : Standard) → standard_ground period modules earlier i s ≡ Ok tt → StandardSound period modules s × (is_after standard_key (just_before earlier) s ≡ true)
  unfolding standard_ground
  standard-local earlier i s e =
      let a = past Spare Standards i (not (eqb s.spare 0)) e in
      let b = past StrayModule Standards i (leb modules s.«module») a.1 in
      let c = past Outside Standards i (leb period s.start) b.1 in
      let d = past NoTime Standards i (eqb s.theoretical 0) c.1 in
      let f = past Twice Standards i (is_among s earlier) d.1 in
      let after = is_after standard_key (just_before earlier) s in (
        record {
          unspared = eqb-true s.spare 0 (not-false (eqb s.spare 0) a.0);
          own = leb-false modules s.«module» b.0;
          inside = leb-false period s.start c.0;
          timed = some-time s.theoretical d.0;
        },
        not-false after (not-met Unsorted Standards i (not after) f.1),
      )

  standard-passes : (earlier : List Standard) (i : ℕ) (s : Standard) → StandardSound period modules s → Each (λ q. Before standard_key q s) earlier → standard_ground period modules earlier i s ≡ Ok tt
  unfolding standard_ground
  standard-passes earlier i s h e =
      rw (eq-eqb s.spare 0 h.unspared, lt-leb modules s.«module» h.own, lt-leb period s.start h.inside, ne_eqb s.theoretical 0 (λ e. omega (arith, e, h.timed)), none-among s earlier e, after-all standard_key earlier s e)

  pub standard-tests : Tests standard_key (standard_ground period modules) (StandardSound period modules)
  standard-tests = record { local = λ earlier i r e. (standard-local earlier i r e).0; after = λ earlier i r e. (standard-local earlier i r e).1; passes = standard-passes }

-- ---- the unit records

module _ (period modules : ℕ) (ss : List Standard) where
  unit-local : (earlier : List UnitRecord) (i : ℕ) (u : UnitRecord) → unit_ground period modules ss earlier i u ≡ Ok tt → UnitSound period modules ss u × (is_after unit_key (just_before earlier) u ≡ true)
  unfolding unit_ground
  unit-local earlier i u e =
      let a = past Spare Units i (not (eqb u.spare 0)) e in
      let b = past StrayModule Units i (leb modules u.«module») a.1 in
      let c = past Outside Units i (leb period u.time) b.1 in
      let d = past OverGood Units i (ltb u.actual u.effective) c.1 in
      let f = past NoStandard Units i (is_none (in_force ss u.«module» u.recipe u.time)) d.1 in
      let after = is_after unit_key (just_before earlier) u in (
        record {
          unspared = eqb-true u.spare 0 (not-false (eqb u.spare 0) a.0);
          own = leb-false modules u.«module» b.0;
          inside = leb-false period u.time c.0;
          within = ltb-false u.actual u.effective d.0;
          judged = f.0;
        },
        not-false after (not-met Unsorted Units i (not after) f.1),
      )

  unit-passes : (earlier : List UnitRecord) (i : ℕ) (u : UnitRecord) → UnitSound period modules ss u → Each (λ q. Before unit_key q u) earlier → unit_ground period modules ss earlier i u ≡ Ok tt
  unfolding unit_ground
  unit-passes earlier i u h e =
      rw (eq-eqb u.spare 0 h.unspared, lt-leb modules u.«module» h.own, lt-leb period u.time h.inside, le-ltb u.actual u.effective h.within, h.judged, after-all unit_key earlier u e)

  pub unit-tests : Tests unit_key (unit_ground period modules ss) (UnitSound period modules ss)
  unit-tests = record { local = λ earlier i r e. (unit-local earlier i r e).0; after = λ earlier i r e. (unit-local earlier i r e).1; passes = unit-passes }

-- ---- a log

pub sound : (l : Log) → record_grounds l ≡ Ok tt → Sound l
unfolding record_grounds state_grounds standard_grounds unit_grounds sum_grounds opening_ground fast_ground
sound l e =
    let p = l.period in
    let n = l.modules in
    let ss = l.standards in
    let of_states = state_grounds p n l.states in
    let of_standards = standard_grounds p n ss in
    let of_units = unit_grounds p n ss l.units in
    let e1 = then-left of_states _ e in
    let one = each_of (state_ground p n) l.states in
    let e2 = then-right of_states _ e in
    let e3 = then-right of_standards _ e2 in
    let fast = then-left (first_of (fast_ground l) n) _ (then-right of_units _ e3) in
    record {
      states = list-local state_key (state_ground p n) (StateSound p n) (state-tests p n) l.states (then-left one _ e1);
      states_rise = list-rises state_key (state_ground p n) (StateSound p n) (state-tests p n) l.states (then-left one _ e1);
      opened = λ m h. not-false (is_opening (first_time m l.states)) (not-met NoOpening NoList m _ (first_all (opening_ground l.states) n (then-right one _ e1) m h));
      standards = list-local standard_key (standard_ground p n) (StandardSound p n) (standard-tests p n) ss (then-left of_standards _ e2);
      standards_rise = list-rises standard_key (standard_ground p n) (StandardSound p n) (standard-tests p n) ss (then-left of_standards _ e2);
      units = list-local unit_key (unit_ground p n ss) (UnitSound p n ss) (unit-tests p n ss) l.units (then-left of_units _ e3);
      units_rise = list-rises unit_key (unit_ground p n ss) (UnitSound p n ss) (unit-tests p n ss) l.units (then-left of_units _ e3);
      slow = λ m h. ltb-false (time_in l productive m) (actual_time l m) (not-met TooFast NoList m _ (first_all (fast_ground l) n fast m h));
    }
