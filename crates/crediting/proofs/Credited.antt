-- What is promised of the credited units, and of a standard in force.
-- Assumes nothing.
use mathlib.Core.Path.{◌≡◌, ap, ◌∙◌}
use mathlib.Core.Option.{Option, none, some}
use mathlib.Core.List.{List}
use Prim.Native.Nat.{ℕ, ◌≤◌, ◌<◌}
use native.Mathlib.Omega.{arith}
use lib.ListN.{length, get_or}
use Rattle.std.specs.declared.result.Result.TheVariants.{Ok}
use Rattle.records.specs.declared.Standard.{Standard}
use Rattle.records.specs.Log.{Log, header_of, standard_at, up_to, decode}
use Rattle.records.proofs.UpTo.{length_up_to, up_to_at}
use Rattle.rules.specs.declared.Placed.{Placed}
use Rattle.rules.specs.Theoretical.{Answers, in_force, last_in_force}
use Rattle.rules.specs.Credited.{credited_to, credits_of, units_of}
use Rattle.rules.specs.Quantities.{sum_below}
use Rattle.rules.specs.Verdict.{verdict}
use Rattle.rules.proofs.InForce.{in_force_lem}
use Rattle.rules.proofs.Judged.{passed, none_judged, all_judged}
use Rattle.rules.proofs.LastInForce.{last_in_force_lem}
use Rattle.rules.proofs.Risen.{lists-accepted, risen}
use Rattle.rules.proofs.SumLaws.{sum_same}
use Rattle.judging.proofs.Judging.{accepted_counts}
use Rattle.crediting.specs.Calls.{AllCredited, in_force_of, Uses}

-- ---- the credited units

credit_at : (l : Log) (i : ℕ) → i < 512 → get_or (credits_of l) i 0 ≡ credited_to l i
unfolding credits_of
credit_at l i h = up_to_at (credited_to l) 512 i 0 h

module _ (s : List ℕ) (e : verdict s ≡ Ok tt) where
  listed : length (decode s).standards ≡ (header_of s).standards
  unfolding decode
  listed = length_up_to (standard_at s (header_of s)) (header_of s).standards

  few : (header_of s).standards ≤ 512
  few = (accepted_counts s e).counts.1

  in_all : sum_below (credited_to (decode s)) (header_of s).standards ≡ units_of (λ u. u.actual) (decode s).units
  unfolding decode credited_to
  in_all =
      let h = header_of s in
      all_judged (standard_at s h) h.standards h.modules (λ u. u.actual) (decode s).units (passed h.modules (decode s).standards h.period (decode s).units (lists-accepted s e).units)

  past : (i : ℕ) → (header_of s).standards ≤ i → credited_to (decode s) i ≡ 0
  unfolding decode credited_to
  past i h = none_judged (standard_at s (header_of s)) (header_of s).standards (λ u. u.actual) (decode s).units i h

  pub all_credited_lem : AllCredited (decode s) (credits_of (decode s))
  all_credited_lem =
      record {
        all_credited = rw listed (sum_same _ _ (header_of s).standards (λ i low. credit_at (decode s) i (omega (arith, few))) ∙ in_all);
        rest = λ i h low. credit_at (decode s) i low ∙ past i (omega (arith, listed));
      }

-- ---- the standard in force

in_words : (at : ℕ → Standard) (n m recipe time : ℕ) (o : Option Placed) → Answers at n m recipe time o → Uses at n m recipe time (in_force_of o)
in_words at n m recipe time none a = a
in_words at n m recipe time (some p) f =
    let same = f.same in
    record {
      listed = f.listed;
      theoretical = ap (λ (s : Standard). s.theoretical) same;
      own = rw same at f.own;
      begun = rw same at f.begun;
      latest = rw same at f.latest;
    }

pub uses_lem : (s : List ℕ) (m recipe time : ℕ) → Uses (standard_at s (header_of s)) (header_of s).standards m recipe time (in_force_of (in_force (decode s).standards m recipe time))
unfolding decode
uses_lem s m recipe time = in_words (standard_at s (header_of s)) (header_of s).standards m recipe time _ (in_force_lem (standard_at s (header_of s)) m recipe time (header_of s).standards)

-- the standards of an accepted log rise, so the last of them that has begun is in force
pub last_used : (s : List ℕ) → verdict s ≡ Ok tt → (m recipe time : ℕ)
    → in_force_of (last_in_force (up_to (standard_at s (header_of s)) (header_of s).standards) m recipe time) ≡ in_force_of (in_force (decode s).standards m recipe time)
unfolding decode
last_used s e m recipe time = ap in_force_of (last_in_force_lem (decode s).standards m recipe time (risen s e).standards)
