-- The six states of E10, the grounds of refusals and the lists of a log by their numbers.
-- Definitions only.
use Rattle.std.specs.Prelude.{ℕ}
use Rattle.rules.specs.declared.Ground.{Ground}
use Rattle.rules.specs.declared.Ground.TheVariants.{NoHeader, Period, Modules, Counts, Length, Spare, StrayModule, StrayCode, Outside, Sequence, NoOpening, NoTime, Twice, OverGood, NoStandard, TooFast, TooGreat, ShortBuffer, Unsorted, AboveStandard, OverCounted, TooWide, UnlikeTools}
use Rattle.rules.specs.declared.LogList.{LogList}
use Rattle.rules.specs.declared.LogList.TheVariants.{NoList, States, Standards, Units, Benchmarks, Second, SecondStates, SecondStandards, SecondUnits}

-- the states: a module's six totals stand in this sequence
abbrev pub productive : ℕ
productive = 0

abbrev pub standby : ℕ
standby = 1

abbrev pub engineering : ℕ
engineering = 2

abbrev pub scheduled_down : ℕ
scheduled_down = 3

abbrev pub unscheduled_down : ℕ
unscheduled_down = 4

abbrev pub nonscheduled : ℕ
nonscheduled = 5

-- the number of a ground, by the tables of refusals
abbrev pub number_of : Ground → ℕ
number_of NoHeader = 1
number_of Period = 2
number_of Modules = 3
number_of Counts = 4
number_of Length = 5
number_of Spare = 6
number_of StrayModule = 7
number_of StrayCode = 8
number_of Outside = 9
number_of Sequence = 10
number_of NoOpening = 11
number_of NoTime = 12
number_of Twice = 13
number_of OverGood = 14
number_of NoStandard = 15
number_of TooFast = 16
number_of TooGreat = 17
number_of ShortBuffer = 18
number_of Unsorted = 19
number_of AboveStandard = 20
number_of OverCounted = 21
number_of TooWide = 22
number_of UnlikeTools = 23

-- the number of a list, as a refusal tells it; 4 is not of a log, but lent beside it, and 10 to 13 are of the second of two logs
abbrev pub list_number : LogList → ℕ
list_number NoList = 0
list_number States = 1
list_number Standards = 2
list_number Units = 3
list_number Benchmarks = 4
list_number Second = 10
list_number SecondStates = 11
list_number SecondStandards = 12
list_number SecondUnits = 13

-- the same list of the second of two logs: for none and for the three lists of a log, the one with the number plus 10
abbrev pub list_of_second : LogList → LogList
list_of_second NoList = Second
list_of_second States = SecondStates
list_of_second Standards = SecondStandards
list_of_second Units = SecondUnits
list_of_second l = l
