-- What the merging loop asks and answers at each turn, of the standards a and b of two logs, n and k of them, the second's moved up by p.
-- Definitions only.
use Rattle.std.specs.Prelude.{◌≡◌, ◌+◌, ◌^◌, ◌≤◌, ◌<◌, ℕ, Bool, true, false, List}
use mathlib.Core.List.{map}
use Rattle.records.specs.declared.Header.{Header}
use Rattle.records.specs.declared.Standard.{Standard}
use Rattle.records.specs.Log.{standard_at, up_to}
use Rattle.rules.specs.Lists.{Before}
use Rattle.rules.specs.Sequence.{is_rising, standard_key}
use Rattle.joined.specs.Joined.{standard_up}
use Rattle.joined.specs.Merged.{merged}

-- both lists rise, each of the first starts before p, and each start of the second still fits its field
pub record Mergeable (a : ℕ → Standard) (n : ℕ) (b : ℕ → Standard) (k p : ℕ) : Type 0 where
  pub first_rises : is_rising standard_key (up_to a n) ≡ true
  pub second_rises : is_rising standard_key (up_to b k) ≡ true
  pub early : (i : ℕ) → i < n → (a i).start < p
  pub fits : (j : ℕ) → j < k → p + (b j).start < 2 ^ 35

-- i and j are written, and something is left
pub record Left (n k i j : ℕ) : Type 0 where
  pub first : i ≤ n
  pub second : j ≤ k
  pub more : i + j < n + k

-- which list's is next: the other one is over, or its next comes behind
pub record Next (a : ℕ → Standard) (n : ℕ) (b : ℕ → Standard) (k p i j : ℕ) (first_is_next : Bool) : Type 0 where
  pub first : first_is_next ≡ true → (i < n) × (j < k → Before standard_key (a i) (standard_up p (b j)))
  pub second : first_is_next ≡ false → (j < k) × (i < n → Before standard_key (standard_up p (b j)) (a i))

-- the same of the standards that two headers count in two logs
abbrev pub MergeableLogs : List ℕ → Header → List ℕ → Header → ℕ → Type 0
MergeableLogs s h t g p = Mergeable (standard_at s h) h.standards (standard_at t g) g.standards p

abbrev pub NextOfLogs : List ℕ → Header → List ℕ → Header → ℕ → ℕ → ℕ → Bool → Type 0
NextOfLogs s h t g p i j r = Next (standard_at s h) h.standards (standard_at t g) g.standards p i j r

abbrev pub merged_standards : List ℕ → Header → List ℕ → Header → ℕ → List Standard
merged_standards s h t g p = merged standard_key (up_to (standard_at s h) h.standards) (map (standard_up p) (up_to (standard_at t g) g.standards))
