-- A module's code at a millisecond, in document 01's own words: that of its latest state record at or before it. `code_at` takes the last such record in the list; in
-- accepted records the times do not fall, so that the last is the latest.
-- Assumes nothing.
use mathlib.Core.Path.{◌≡◌, refl}
use mathlib.Core.Option.{Option, none, some}
use mathlib.Core.List.{List, [], ◌∷◌, foldl-append}
use Prim.Native.Nat.{ℕ, zero, suc, ◌≤◌, ◌<◌}
use native.Mathlib.Nat.{le_refl}
use native.Mathlib.Decide.{ℕ_discrete, dec_lt}
use native.Mathlib.Omega.{arith}
use lib.Dec.{leb, eqb}
use borrow.Author.Tests.{eq-eqb, ne_eqb, le-leb, lt-leb}
use Rattle.records.specs.declared.StateRecord.{StateRecord}
use Rattle.records.specs.Log.{header_of, state_at, up_to, decode}
use Rattle.std.specs.declared.result.Result.TheVariants.{Ok}
use Rattle.rules.specs.Sequence.{state_key}
use Rattle.rules.specs.Time.{keep, code_at, CodeIs}
use Rattle.rules.specs.Verdict.{verdict}
use Rattle.rules.proofs.Booleans.{right-false}
use Rattle.rules.proofs.Sequence.{time-not-below, rising_pair}
use Rattle.rules.proofs.Risen.{risen}
use Rattle.rules.proofs.FirstGround.{below_suc}

-- ---- in records whose times do not fall

code-more : (at : ℕ → StateRecord) (n m t : ℕ) → code_at (up_to at (suc n)) m t ≡ keep m t (code_at (up_to at n) m t) (at n)
unfolding code_at up_to
code-more at n m t = foldl-append (keep m t) none (up_to at n) (at n ∷ [])

module _ (at : ℕ → StateRecord) (m t : ℕ) where
  -- record n is not the module's, or after t: what was answered still stands
  passes_over : (n : ℕ) (o : Option ℕ) → CodeIs at n m t o → ((at n).«module» ≡ m → (at n).time ≤ t → ⊥) → CodeIs at (suc n) m t o
  passes_over n none a not = below_suc n a not
  passes_over n (some c) f not =
      record {
        index = f.index;
        listed = omega (arith, f.listed);
        own = f.own;
        begun = f.begun;
        same = f.same;
        latest = below_suc n f.latest (λ e l. absurd (not e l));
      }

  pub latest_code : (n : ℕ) → ((i j : ℕ) → i < j → j < n → (at i).time ≤ (at j).time) → CodeIs at n m t (code_at (up_to at n) m t)
  unfolding code_at up_to
  latest_code zero up = λ i h e l. omega arith
  latest_code (suc n) up =
      rw (code-more at n m t) (step (code_at (up_to at n) m t) (latest_code n (λ i j a b. up i j a (omega arith))) (ℕ_discrete (at n).«module» m) (dec_lt t (at n).time))
    where
      step : (o : Option ℕ) → CodeIs at n m t o → Dec ((at n).«module» ≡ m) → Dec (t < (at n).time) → CodeIs at (suc n) m t (keep m t o (at n))
      step o a (no ne) d = rw (ne_eqb (at n).«module» m ne) (passes_over n o a (λ e l. ne e))
      step o a (yes e) (yes l) = rw (right-false (eqb (at n).«module» m) (leb (at n).time t) (lt-leb (at n).time t l)) (passes_over n o a (λ e' l'. omega arith))
      step o a (yes e) (no l) =
          rw (eq-eqb (at n).«module» m e, le-leb (at n).time t (omega arith))
          record {
            index = n;
            listed = le_refl (suc n);
            own = e;
            begun = omega arith;
            same = refl;
            latest = below_suc n (λ i h e' l'. up i n h (le_refl (suc n))) (λ e' l'. le_refl (at n).time);
          }

-- ---- in accepted records

-- in every accepted log a module's code at t is that of its latest record at or before t
pub accepted-latest : (s : List ℕ) → verdict s ≡ Ok tt → (m t : ℕ) → CodeIs (state_at s) (header_of s).states m t (code_at (decode s).states m t)
unfolding decode
accepted-latest s a m t =
    let n = (header_of s).states in
    latest_code (state_at s) m t n (λ i j l h. time-not-below (state_at s i) (state_at s j) (rising_pair state_key (state_at s) n (risen s a).states i j l h))
