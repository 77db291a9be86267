-- What each call answers: its value for an accepted log, or the refusal; and what is promised of either.
-- Definitions only.
use Rattle.std.specs.Prelude.{◌≡◌, List, ℕ, ◌≤◌, ◌<◌, length, get_or, Option, Some, None}
use Rattle.std.proofs.Math.Option as math
use Rattle.std.proofs.Math.Option.{none, some}
use Rattle.std.specs.declared.result.Result.{Result}
use Rattle.records.specs.declared.Standard.{Standard}
use Rattle.records.specs.Log.{Log, header_of, standard_at, decode}
use Rattle.rules.specs.declared.Placed.{Placed}
use Rattle.rules.specs.declared.Refusal.{Refusal}
use Rattle.rules.specs.Theoretical.{in_force, For}
use Rattle.rules.specs.Credited.{credits_of, units_of}
use Rattle.rules.specs.Quantities.{sum_below}
use Rattle.rules.specs.Verdict.{verdict, verdict_on}
use Rattle.rules.specs.Refusals.{OfLog}
use Rattle.rules.specs.Answers.{Given}
use Rattle.answering.specs.Calls.{OnModule}
use Rattle.crediting.specs.declared.InForce.{InForce}

-- ---- the credited units

-- of the credited units c of a log: those of all its standards add up to its actual units, and where it has no standard they are 0
pub record AllCredited (l : Log) (c : List ℕ) : Type 0 where
  pub all_credited : sum_below (λ i. get_or c i 0) (length l.standards) ≡ units_of (λ u. u.actual) l.units
  pub rest : (i : ℕ) → length l.standards ≤ i → i < 512 → get_or c i 0 ≡ 0

abbrev pub CreditedUnits : List ℕ → Result (List ℕ) Refusal → Type 0
CreditedUnits s r = Given (verdict s) (credits_of (decode s)) (AllCredited (decode s)) (OfLog s) r

-- ---- the standard in force

-- what is answered of it: its index and its time
abbrev pub in_force_of : math.Option Placed → Option InForce
in_force_of none = None
in_force_of (some p) = Some (record { index = p.index; time = p.standard.theoretical })

-- the same in the papers' own words, of the standards at 0, at 1, .. , n of them: f is one of them, is for that module and recipe, starts at or before the time, and
-- no other such standard starts later
pub record Used (at : ℕ → Standard) (n m recipe time : ℕ) (f : InForce) : Type 0 where
  pub listed : f.index < n
  pub theoretical : f.time ≡ (at f.index).theoretical
  pub own : For m recipe (at f.index)
  pub begun : (at f.index).start ≤ time
  pub latest : (i : ℕ) → i < n → For m recipe (at i) → (at i).start ≤ time → (at i).start ≤ (at f.index).start

-- one in force, or none, where no standard for that module and recipe starts at or before the time
abbrev pub Uses : (ℕ → Standard) → ℕ → ℕ → ℕ → ℕ → Option InForce → Type 0
Uses at n m recipe time None = (i : ℕ) → i < n → For m recipe (at i) → (at i).start ≤ time → ⊥
Uses at n m recipe time (Some f) = Used at n m recipe time f

abbrev pub StandardInForce : List ℕ → ℕ → ℕ → ℕ → Result (Option InForce) Refusal → Type 0
StandardInForce s m recipe time r =
    Given (verdict_on s m) (in_force_of (in_force (decode s).standards m recipe time)) (Uses (standard_at s (header_of s)) (header_of s).standards m recipe time) (OnModule s m) r
