-- What the packing call answers, and what it leaves in the buffer.
-- Definitions only.
use Rattle.std.specs.Prelude.{◌≡◌, ◌≤◌, ◌-◌, ℕ, List, ◌++◌, length, take}
use lib.ListN.{replicate}
use Rattle.std.specs.declared.result.Result.{Result}
use Rattle.std.specs.declared.result.Result.TheVariants.{Ok, Err}
use Rattle.rules.specs.declared.Refusal.{Refusal}
use Rattle.rules.specs.Answers.{answer_of, Given}
use Rattle.rules.specs.Grounds.{Verdict}
use Rattle.rules.specs.Refusals.{OfLog}
use Rattle.rules.specs.Verdict.{verdict}
use Rattle.packed.specs.Packed.{packed_bytes}
use Rattle.packed.specs.Claims.{Packed}

-- what is left in a buffer that the log s fills: the packed log's bytes and then zeros, and a refused log as it was
abbrev pub left_by : Verdict → List ℕ → List ℕ → List ℕ
left_by (Ok tt) s packed = packed ++ replicate (length s - length packed) 0
left_by (Err x) s packed = s

unfoldable pub packed_buffer : List ℕ → List ℕ
unfolding verdict packed_bytes
packed_buffer s = left_by (verdict s) s (packed_bytes s)

-- the packed log's length, or the refusal
unfoldable pub packed_answer : List ℕ → Result ℕ Refusal
unfolding verdict packed_bytes
packed_answer s = answer_of (verdict s) (length (packed_bytes s))

-- the buffer's bytes up to the length that is answered: packing them again changes none of them and answers that length
pub record Again (s : List ℕ) (n : ℕ) : Type 0 where
  pub part : take n (packed_buffer s) ≡ packed_bytes s
  pub bytes : packed_buffer (take n (packed_buffer s)) ≡ take n (packed_buffer s)
  pub answer : packed_answer (take n (packed_buffer s)) ≡ Ok n

-- what is promised of an answer n
pub record OfPacking (s : List ℕ) (n : ℕ) : Type 0 where
  pub within : n ≤ length s
  pub packed : Packed s
  pub again : Again s n

-- the contract of the call on a buffer that held the bytes `before`
pub record Packs (before : List ℕ) (r : Result ℕ Refusal) (after : List ℕ) : Type 0 where
  pub given : Given (verdict before) (length (packed_bytes before)) (OfPacking before) (OfLog before) r
  pub bytes : after ≡ packed_buffer before
  pub unchanged : (x : Refusal) → r ≡ Err x → after ≡ before
