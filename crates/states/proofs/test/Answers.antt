-- `states::test` meets its contract: each test is the definition's, and after records that rise the last is one comparison.
-- Assumes nothing.
use mathlib.Core.Path.{◌≡◌, refl, ◌∙◌}
use mathlib.Core.Bool.{Bool, true, false, ◌||◌, not}
use mathlib.Core.List.{List}
use Prim.Native.Nat.{ℕ}
use native.Mathlib.Omega.{arith}
use lib.Dec.{leb, ltb}
use Rattle.std.proofs.lemmas.Bool.Decides.{nat_tests}
use Rattle.records.specs.declared.StateRecord.{StateRecord}
use Rattle.rules.specs.Sequence.{just_before, is_after, state_key}
use Rattle.rules.specs.Keys.{state_number, StateFits, StatesSequenced}
use Rattle.rules.specs.RecordGrounds.{own_time, is_not_after, state_ground}
use Rattle.rules.proofs.Spared.{later-than-own}
use Rattle.states.proofs.test.Goals as goal

not-ltb : (a b : ℕ) → not (ltb a b) ≡ leb b a
not-ltb a b = grind (arith, nat_tests)

-- after records that rise, the sequence's test is whether the record's number is above that of the last
by_number : (earlier : List StateRecord) (r : StateRecord) (before : ℕ) → StateFits r → StatesSequenced earlier before
    → not (is_after state_key (just_before earlier) r) || is_not_after r.time (own_time r.«module» earlier) ≡ leb (state_number r) before
by_number earlier r before fits q = go (is_after state_key (just_before earlier) r) refl ∙ not-ltb before (state_number r)
  where
    go : (b : Bool) → is_after state_key (just_before earlier) r ≡ b → not b || is_not_after r.time (own_time r.«module» earlier) ≡ not (ltb before (state_number r))
    go true e = rw (later-than-own earlier r q.rises e, ← q.next r fits, e) refl
    go false e = rw (← q.next r fits, e) refl

pub returns : goal.returns
unfolding state_ground
returns c = λ earlier q.
    rw (← c.refuses.ensures, c.in_ok-refuses.was, ← c.refuses-2.ensures, c.in_ok-refuses-2.was, ← c.refuses-3.ensures, c.in_ok-refuses-3.was, ← c.refuses-4.ensures, c.in_ok-refuses-4.was, by_number earlier c.args.r c.args.before c.requires q, c.refuses-5.ensures, c.number_of.ensures) refl
