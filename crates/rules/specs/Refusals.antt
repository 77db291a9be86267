-- The tables of refusals, document 01's with R-1's 19, R-2's 22, those of R-4 and of R-8: which list comes with which number.
-- Definitions only.
use Rattle.std.specs.Prelude.{ℕ, ◌+◌, Bool, false, ◌&&◌, ◌||◌, List, [], ◌∷◌, ◌++◌, T, eqb, ◌≡◌}
use Rattle.rules.specs.declared.Ground.{Ground}
use Rattle.rules.specs.declared.LogList.{LogList}
use Rattle.rules.specs.declared.Refusal.{Refusal}
use Rattle.std.specs.declared.result.Result.TheVariants.{Err}
use Rattle.rules.specs.declared.Ground.TheVariants.{NoHeader, Period, Modules, Counts, Length, Spare, StrayModule, StrayCode, Outside, Sequence, NoOpening, NoTime, Twice, OverGood, NoStandard, TooFast, TooGreat, ShortBuffer, Unsorted, AboveStandard, OverCounted, TooWide, UnlikeTools}
use Rattle.rules.specs.declared.LogList.TheVariants.{NoList, States, Standards, Units, Benchmarks}
use Rattle.rules.specs.Names.{number_of, list_number}
use Rattle.rules.specs.Verdict.{verdict}

pub record Row : Type 0 where
  pub number : ℕ
  pub list : ℕ

abbrev pub row : Ground → LogList → Row
row g l = record { number = number_of g; list = list_number l }

-- the numbers 1 to 17 and 19, each with its lists
abbrev pub log_refusals : List Row
log_refusals =
    row NoHeader NoList ∷ row Period NoList ∷ row Modules NoList ∷ row Counts NoList ∷ row Length NoList
    ∷ row Spare States ∷ row StrayModule States ∷ row StrayCode States ∷ row Outside States ∷ row Sequence States ∷ row NoOpening NoList
    ∷ row Spare Standards ∷ row StrayModule Standards ∷ row Outside Standards ∷ row NoTime Standards ∷ row Twice Standards ∷ row Unsorted Standards
    ∷ row Spare Units ∷ row StrayModule Units ∷ row Outside Units ∷ row OverGood Units ∷ row NoStandard Units ∷ row Unsorted Units
    ∷ row TooFast NoList ∷ row TooGreat NoList ∷ []

-- those of the calls themselves: a module that an accepted log does not have, what does not fit its buffer, and a value that does not fit its field
abbrev pub call_refusals : List Row
call_refusals = row StrayModule NoList ∷ row ShortBuffer NoList ∷ row TooWide NoList ∷ row TooWide States ∷ row TooWide Standards ∷ row TooWide Units ∷ []

-- those of benchmarks
abbrev pub benchmark_refusals : List Row
benchmark_refusals = row Length Benchmarks ∷ row Spare Benchmarks ∷ row NoTime Benchmarks ∷ row AboveStandard Benchmarks ∷ row OverCounted Benchmarks ∷ []

-- those of the second of two logs: the same numbers, each list plus 10
abbrev pub rows_of_second : List Row → List Row
rows_of_second [] = []
rows_of_second (r ∷ rs) = record { number = r.number; list = r.list + 10 } ∷ rows_of_second rs

-- those of a join: the first log's, the second's, and its own
abbrev pub join_refusals : List Row
join_refusals = log_refusals ++ (rows_of_second log_refusals ++ (row UnlikeTools NoList ∷ row ShortBuffer NoList ∷ []))

abbrev pub is_row : List Row → ℕ → ℕ → Bool
is_row [] n l = false
is_row (r ∷ rs) n l = (eqb n r.number && eqb l r.list) || is_row rs n l

-- number, list and place, as they are handed out and printed
abbrev pub three_of : Refusal → List ℕ
three_of x = number_of x.ground ∷ list_number x.list ∷ x.place ∷ []

-- a refusal has a number and a list of the table
abbrev pub Known : List Row → Refusal → Type 0
Known rows x = T (is_row rows (number_of x.ground) (list_number x.list))

-- a refusal of the log of these bytes, with a number and a list of the table
pub record OfLog (s : List ℕ) (x : Refusal) : Type 0 where
  pub met : verdict s ≡ Err x
  pub known : Known log_refusals x
