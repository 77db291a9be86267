-- One more unit record counted: for the standard in force, and for no other.
-- Assumes nothing.
use mathlib.Core.Path.{◌≡◌, sym, ap, ◌∙◌}
use mathlib.Core.Bool.{Bool, true, false, cond}
use mathlib.Core.Option.{none, some}
use mathlib.Core.List.{List, [], ◌∷◌, ◌++◌}
use Prim.Native.Nat.{ℕ, zero, suc, ◌+◌, ◌*◌, ◌≤◌, ◌<◌}
use native.Mathlib.Nat.{add_assoc}
use native.Mathlib.Decide.{ℕ_discrete}
use native.Mathlib.Omega.{arith}
use lib.ListN.{get_or, set, replicate, length-set, length-replicate, get_or-replicate}
use lib.Seq.{get_or-set_same, get_or-set_other}
use borrow.Author.Tests.{eq-eqb, ne_eqb}
use Rattle.records.specs.declared.Standard.{Standard}
use Rattle.records.specs.declared.UnitRecord.{UnitRecord}
use Rattle.records.specs.Log.{up_to}
use Rattle.records.proofs.UpTo.{up_to_more, up_to_all}
use Rattle.rules.specs.declared.Placed.{Placed}
use Rattle.rules.specs.Theoretical.{in_force, judged_by, units_judged}
use Rattle.theoretical.specs.Credits.{JudgedSoFar}

module _ (units : UnitRecord → ℕ) (ss : List Standard) where
  judged-more : (us : List UnitRecord) (u : UnitRecord) (k : ℕ) → units_judged units ss (us ++ (u ∷ [])) k ≡ units_judged units ss us k + cond (judged_by ss u k) (units u) 0
  unfolding units_judged
  judged-more [] u k = omega arith
  judged-more (v ∷ us) u k = rw (judged-more us u k) (sym (add_assoc (cond (judged_by ss v k) (units v) 0) (units_judged units ss us k) (cond (judged_by ss u k) (units u) 0)))

  module _ (at : ℕ → UnitRecord) where
    module _ (i : ℕ) (u : UnitRecord) (eu : u ≡ at i) (C : List ℕ) (so_far : JudgedSoFar units ss (up_to at i) i C) where
      -- no standard is in force
      pub counted_none : in_force ss u.«module» u.recipe u.time ≡ none → JudgedSoFar units ss (up_to at (i + 1)) (i + 1) C
      unfolding judged_by
      counted_none e =
          record {
            sized = so_far.sized;
            low = λ k l. omega (arith, so_far.low k l);
            judged = λ k l. rw (up_to_more at i, ← eu, judged-more (up_to at i) u k, e) (so_far.judged k l ∙ omega arith);
          }

      module _ (p : Placed) (e : in_force ss u.«module» u.recipe u.time ≡ some p) (low : p.index < 512) (few : units u < 65536) where
        abbrev counted : List ℕ
        counted = set C p.index (get_or C p.index 0 + units u)

        counter : (k : ℕ) → k < 512 → get_or counted k 0 ≡ get_or C k 0 + cond (judged_by ss u k) (units u) 0
        unfolding judged_by
        counter k l =
            rw e
            (elim (ℕ_discrete p.index k) [
              | yes q ↦ rw (eq-eqb p.index k q, ← q) (get_or-set_same C p.index _ 0 (omega (arith, so_far.sized)))
              | no q ↦ rw (ne_eqb p.index k q) (get_or-set_other C p.index k _ 0 (λ r. q (sym r)) ∙ omega arith)
            ])

        pub counted_more : JudgedSoFar units ss (up_to at (i + 1)) (i + 1) counted
        counted_more =
            record {
              sized = length-set C _ _ ∙ so_far.sized;
              low = λ k l. elim (ℕ_discrete p.index k) [
                | yes q ↦ rw (← q, get_or-set_same C p.index (get_or C p.index 0 + units u) 0 (omega (arith, so_far.sized))) (omega (arith, so_far.low p.index low))
                | no q ↦ rw (get_or-set_other C p.index k (get_or C p.index 0 + units u) 0 (λ r. q (sym r))) (omega (arith, so_far.low k l))
              ];
              judged = λ k l. rw (up_to_more at i, ← eu, judged-more (up_to at i) u k) (counter k l ∙ ap (λ (x : ℕ). x + cond (judged_by ss u k) (units u) 0) (so_far.judged k l));
            }

    -- none is above the number of records times the units that one holds
    pub judged_low : ((i : ℕ) → units (at i) < 65536) → (n k : ℕ) → units_judged units ss (up_to at n) k ≤ n * 65535
    unfolding up_to units_judged
    judged_low few zero k = omega arith
    judged_low few (suc n) k = rw (judged-more (up_to at n) (at n) k) (omega (arith, judged_low few n k, part (judged_by ss (at n) k)))
      where
        part : (b : Bool) → cond b (units (at n)) 0 ≤ 65535
        part true = omega (arith, few n)
        part false = omega arith

    -- counters of all unit records
    pub all_counted : (n : ℕ) (C : List ℕ) → JudgedSoFar units ss (up_to at n) n C → C ≡ up_to (units_judged units ss (up_to at n)) 512
    all_counted n C so_far = sym (rw so_far.sized at (up_to_all (units_judged units ss (up_to at n)) C 0 (λ i low. sym (so_far.judged i (omega (arith, so_far.sized))))))

    -- counters that start at zero
    pub counted-from_zero : (C : List ℕ) → C ≡ replicate 512 0 → JudgedSoFar units ss (up_to at 0) 0 C
    unfolding up_to units_judged
    counted-from_zero C e =
        rw e
        (record {
          sized = length-replicate {A = ℕ} 512 0;
          low = λ k l. rw (get_or-replicate {A = ℕ} 512 k 0 0 l) (omega arith);
          judged = λ k l. get_or-replicate {A = ℕ} 512 k 0 0 l;
        })
