-- What every call hands over for a verdict: a flag, the refusal's array, and in each other array the answer or its old content.
-- Definitions only.
use Rattle.std.specs.Prelude.{◌≡◌, List, ℕ, Option, Some, None}
use Rattle.rules.specs.Grounds.{Verdict}
use Rattle.std.specs.declared.result.Result.TheVariants.{Ok, Err}
use Rattle.telling.specs.Arrays.{refusal_of}

-- 1 where the verdict accepts, else 0
abbrev pub flag_of : Verdict → ℕ
flag_of (Ok tt) = 1
flag_of (Err x) = 0

-- what an array holds in the end: the answer where the verdict accepts, else what it held before
abbrev pub answer_or : {X : Type 0} → Verdict → List X → List X → List X
answer_or (Ok tt) answer before = answer
answer_or (Err x) answer before = before

-- 1 where the verdict accepts and something was found, 2 where nothing was, 0 where it refuses
abbrev pub found_flag : {X : Type 0} → Verdict → Option X → ℕ
found_flag (Ok tt) (Some a) = 1
found_flag (Ok tt) None = 2
found_flag (Err x) o = 0

-- what an array holds in the end: what was found, as numbers, else what it held before
abbrev pub found_or : {X : Type 0} → (X → List ℕ) → Verdict → Option X → List ℕ → List ℕ
found_or numbers (Ok tt) (Some a) before = numbers a
found_or numbers (Ok tt) None before = before
found_or numbers (Err x) o before = before

pub record Told (v : Verdict) (r : ℕ) (refusal : List ℕ) : Type 0 where
  pub flag : r ≡ flag_of v
  pub why : refusal ≡ refusal_of v
