-- What is known of a record that passes its tests.
-- Assumes nothing.
use mathlib.Core.Path.{◌≡◌, sym, ◌∙◌}
use mathlib.Core.Bool.{not}
use mathlib.Core.Option.{Option, none, some}
use mathlib.Core.List.{List}
use Prim.Native.Nat.{ℕ, suc, ◌≤◌, ◌<◌, zero-le}
use native.Mathlib.Omega.{arith}
use lib.Dec.{eqb, leb, ltb, leb-suc-suc}
use borrow.Author.Tests.{le-ltb, leb-false, ltb-false}
use Rattle.records.specs.declared.StateRecord.{StateRecord}
use Rattle.std.specs.declared.result.Result.TheVariants.{Ok}
use Rattle.rules.specs.declared.Ground.TheVariants.{Spare, StrayModule, StrayCode, Outside, Sequence}
use Rattle.rules.specs.declared.LogList.TheVariants.{States}
use Rattle.rules.specs.Grounds.{ground}
use Rattle.rules.specs.RecordGrounds.{own_time, is_not_after, state_ground}
use Rattle.rules.specs.Sequence.{just_before, is_after, state_key}
use Rattle.rules.proofs.Booleans.{or_right}
use Rattle.rules.proofs.FirstGround.{then-left, then-right, not-met}

-- the time of a module's last record, and the least time that its next one may have; 0 where it has none
abbrev pub from_of : Option ℕ → ℕ
from_of none = 0
from_of (some t) = t

abbrev pub next_of : Option ℕ → ℕ
next_of none = 0
next_of (some t) = suc t

is_not_after_lem : (t : ℕ) (o : Option ℕ) → is_not_after t o ≡ ltb t (next_of o)
is_not_after_lem t none = sym (le-ltb t 0 zero-le)
is_not_after_lem t (some u) = sym (leb-suc-suc t u)

pub from_next : (o : Option ℕ) (t : ℕ) → next_of o ≤ t → from_of o ≤ t
from_next none t h = zero-le
from_next (some u) t h = omega arith

-- a record that passes after the records `earlier`
pub record Sound (period modules : ℕ) (earlier : List StateRecord) (r : StateRecord) : Type 0 where
  pub known : r.«module» < modules
  pub low : r.code < 24
  pub inside : r.time < period
  pub later : next_of (own_time r.«module» earlier) ≤ r.time

module _ (period modules : ℕ) (earlier : List StateRecord) (i : ℕ) (r : StateRecord) where
  pub sound : state_ground period modules earlier i r ≡ Ok tt → Sound period modules earlier r
  unfolding state_ground
  sound a =
      let a7 = then-right (ground Spare States i (not (eqb r.spare 0))) _ a in
      let a8 = then-right (ground StrayModule States i (leb modules r.«module»)) _ a7 in
      let a9 = then-right (ground StrayCode States i (ltb 23 r.code)) _ a8 in
      let a10 = then-right (ground Outside States i (leb period r.time)) _ a9 in
      let own = or_right (not (is_after state_key (just_before earlier) r)) (is_not_after r.time (own_time r.«module» earlier)) (not-met Sequence States i _ a10) in
      record {
        known = leb-false modules r.«module» (not-met StrayModule States i _ (then-left (ground StrayModule States i (leb modules r.«module»)) _ a7));
        low = omega (arith, ltb-false 23 r.code (not-met StrayCode States i _ (then-left (ground StrayCode States i (ltb 23 r.code)) _ a8)));
        inside = leb-false period r.time (not-met Outside States i _ (then-left (ground Outside States i (leb period r.time)) _ a9));
        later = ltb-false r.time (next_of (own_time r.«module» earlier)) (sym (is_not_after_lem r.time (own_time r.«module» earlier)) ∙ own);
      }
