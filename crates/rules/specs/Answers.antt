-- What a call answers: its value where its verdict accepts, or the refusal; and what is promised of either.
-- Definitions only.
use Rattle.std.specs.Prelude.{◌≡◌, List, [], ◌++◌, ℕ, length, drop}
use Rattle.std.specs.declared.result.Result.{Result}
use Rattle.std.specs.declared.result.Result.TheVariants.{Ok, Err}
use Rattle.rules.specs.declared.Refusal.{Refusal}
use Rattle.rules.specs.Grounds.{Verdict}

-- the value where the verdict accepts, else its refusal
abbrev pub answer_of : {A : Type 0} → Verdict → A → Result A Refusal
answer_of (Ok tt) a = Ok a
answer_of (Err x) a = Err x

-- the verdict that an answer gives
abbrev pub verdict_of : {A : Type 0} → Result A Refusal → Verdict
verdict_of (Ok a) = Ok tt
verdict_of (Err x) = Err x

-- r answers a verdict v and a value a; what is promised of a value handed out, and what a refusal may be
pub record Given {A : Type 0} (v : Verdict) (a : A) (Promise : A → Type 0) (Allowed : Refusal → Type 0) (r : Result A Refusal) : Type 0 where
  pub answer : r ≡ answer_of v a
  pub promise : (b : A) → r ≡ Ok b → Promise b
  pub refusal : (x : Refusal) → r ≡ Err x → Allowed x

-- what is written: the bytes where the verdict accepts, and nothing where it refuses
abbrev pub written_by : Verdict → List ℕ → List ℕ
written_by (Ok tt) bytes = bytes
written_by (Err x) bytes = []

-- a call that writes to the front of a lent buffer: the length of what is written is answered, or the refusal, since 0 bytes may be a text; the bytes behind it, or
-- all, are as they were
pub record FrontWritten (v : Verdict) (content : List ℕ) (Promise : ℕ → Type 0) (Allowed : Refusal → Type 0) (before : List ℕ) (r : Result ℕ Refusal) (after : List ℕ) : Type 0 where
  pub given : Given v (length content) Promise Allowed r
  pub bytes : after ≡ written_by v content ++ drop (length (written_by v content)) before
  pub unchanged : (x : Refusal) → r ≡ Err x → after ≡ before
