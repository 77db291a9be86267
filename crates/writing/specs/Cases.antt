-- Calls with their answers, to be checked by hand.
-- Definitions only.
use Rattle.std.specs.Prelude.{◌≡◌, List, [], ◌∷◌, ℕ, replicate}
use Rattle.writing.specs.Writing.{Entry, header_entry, state_entry, standard_entry, unit_entry, add_answer, add_buffer}
use Rattle.std.specs.declared.result.Result.{Result}
use Rattle.std.specs.declared.result.Result.TheVariants.{Ok, Err}
use Rattle.rules.specs.declared.Ground.{Ground}
use Rattle.rules.specs.declared.Ground.TheVariants.{ShortBuffer, TooWide}
use Rattle.rules.specs.declared.LogList.{LogList}
use Rattle.rules.specs.declared.LogList.TheVariants.{NoList, States, Standards, Units}
use Rattle.rules.specs.declared.Refusal.{Refusal}
use Rattle.rules.specs.Grounds.{refusal}

-- a record to add at a position of a buffer of `room` bytes, each of them 255, what is answered, and all of the buffer's bytes in the end
pub record Case : Type 0 where
  pub entry : Entry
  pub room : ℕ
  pub at : ℕ
  pub answer : Result ℕ Refusal
  pub left : List ℕ

abbrev refused : Ground → LogList → Result ℕ Refusal
refused g list = Err (refusal g list 0)

abbrev pub cases : List Case
cases =
    -- the greatest module, code and time that a state record holds: 46 ones and two spare zeros
    record { entry = state_entry 63 31 34359738367; room = 7; at = 1; answer = Ok 7; left = 255 ∷ 255 ∷ 255 ∷ 255 ∷ 255 ∷ 255 ∷ 252 ∷ [] }
    -- module 1, code 2, time 3: 000001 00010 and 35 bits that end in 11, then the spare bits
    ∷ record { entry = state_entry 1 2 3; room = 8; at = 1; answer = Ok 7; left = 255 ∷ 4 ∷ 64 ∷ 0 ∷ 0 ∷ 0 ∷ 12 ∷ 255 ∷ [] }
    -- module 2, recipe 1, start 1, 1 ms: 000010 0000000001, 35 bits and 27 bits that end in 1, then the spare bits
    ∷ record { entry = standard_entry 2 1 1 1; room = 10; at = 0; answer = Ok 10; left = 8 ∷ 1 ∷ 0 ∷ 0 ∷ 0 ∷ 0 ∷ 32 ∷ 0 ∷ 0 ∷ 4 ∷ [] }
    -- 32 is one past the greatest code
    ∷ record { entry = state_entry 0 32 0; room = 6; at = 0; answer = refused TooWide States; left = replicate 6 255 }
    -- and 64 one past the greatest module
    ∷ record { entry = standard_entry 64 0 0 1; room = 10; at = 0; answer = refused TooWide Standards; left = replicate 10 255 }
    -- a buffer of ten bytes has no place for a unit record of eleven
    ∷ record { entry = unit_entry 0 0 0 0 0; room = 10; at = 0; answer = refused ShortBuffer NoList; left = replicate 10 255 }
    -- both: the value is tested first
    ∷ record { entry = unit_entry 0 1024 0 0 0; room = 10; at = 0; answer = refused TooWide Units; left = replicate 10 255 }
    -- the greatest position there is
    ∷ record { entry = header_entry 1 1 1 0 0; room = 10; at = 18446744073709551615; answer = refused ShortBuffer NoList; left = replicate 10 255 }
    ∷ record { entry = header_entry 34359738368 1 1 0 0; room = 10; at = 18446744073709551615; answer = refused TooWide NoList; left = replicate 10 255 }
    ∷ []

pub record Right (c : Case) : Type 0 where
  pub answer : add_answer c.entry (replicate c.room 255) c.at ≡ c.answer
  pub left : add_buffer c.entry (replicate c.room 255) c.at ≡ c.left

abbrev pub AllRight : List Case → Type 0
AllRight [] = Unit {0}
AllRight (c ∷ cs) = Right c × AllRight cs
