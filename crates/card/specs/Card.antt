-- The refusal card, and the words for a refusal. Definitions only.
use Rattle.std.specs.Prelude.{◌≡◌, Bool, true, false, ◌&&◌, ◌||◌, cond, List, [], ◌∷◌, ◌++◌, ℕ, ◌+◌, ◌*◌, ◌≤◌, eqb, leb, length, get_or}
use Prim.Native.String.{String}
use Rattle.rules.specs.declared.Ground.{Ground}
use Rattle.rules.specs.declared.Ground.TheVariants.{Length, StrayModule, NoOpening, TooFast, TooWide}
use Rattle.rules.specs.declared.LogList.{LogList}
use Rattle.rules.specs.declared.LogList.TheVariants.{NoList, States, Standards, Units, Benchmarks, Second, SecondStates, SecondStandards, SecondUnits}
use Rattle.rules.specs.declared.Refusal.{Refusal}
use Rattle.rules.specs.Names.{number_of, list_number}
use Rattle.report.specs.Text.{ascii}
use Rattle.report.specs.Lines.{ends}
use Rattle.report.specs.Report.{decimal}

-- a row: the trade word, what it means, and what to look for
abbrev pub row : String → String → String → List (List ℕ)
row word meaning look = ascii word ∷ ascii meaning ∷ ascii look ∷ []

-- the rows by number, from 0 on; no refusal has the number 0
unfoldable pub card : List (List ℕ)
card =
    row "" "" ""
    ++ row "no header" "under 10 bytes" "an empty or broken transfer"
    ++ row "period" "0 or over 366 days (31,622,400,000 ms)" "the start and end of the export; two logs to join that span more"
    ++ row "modules" "0 or over 64" "the tool's configuration"
    ++ row "counts" "over 6,000 state records, 512 standards or 2,000 unit records" "an export over too long a time: cut it"
    ++ row "length" "bytes other than 10 + 6 states + 10 standards + 11 units; benchmarks: 14 for each standard" "a transfer cut off, or bytes behind the log; benchmarks of another log"
    ++ row "spare" "a spare bit set" "another version of the format, or bytes out of step"
    ++ row "stray module" "module at or above the module count" "a module added after the header was set"
    ++ row "stray code" "sub-state code above 23" "codes of the controller's own that are not mapped"
    ++ row "outside" "time or start at or past the period" "a clock set during the period, or records of the next one"
    ++ row "sequence" "time, then module, not above the record before, or not later than its own module's last" "a clock set back; a change logged twice; modules of one time out of sequence"
    ++ row "no opening" "a module whose first record is not at time 0, or that has none" "the module's state at the start of the period"
    ++ row "no time" "theoretical time 0, or a time of a benchmark 0" "a recipe that was entered without its time"
    ++ row "twice" "module, recipe and start all equal to an earlier standard's" "a revision entered twice"
    ++ row "over-good" "effective units above actual units" "good and made units exchanged; rework counted twice"
    ++ row "no standard" "none in force for a unit record" "a recipe that ran ahead of its first standard, or at a module that has none for it"
    ++ row "too fast" "a module's actual theoretical time above its production time" "a standard that is too long, or productive time logged as something else"
    ++ row "too great" "a tool sum above 9,007,199,254,740,991 ms" "no log can reach it"
    ++ row "short buffer" "report, listing or log longer than the buffer, or a record that does not fit at its position" "lend 2,494 bytes, which hold every report; 7,168 hold every listing, 63,130 every log"
    ++ row "unsorted" "out of rising sequence: standards by module, recipe and start, units by time, module and recipe" "sort the list by these fields, ascending; merge unit records that agree in all three"
    ++ row "above standard" "a time of a benchmark above its standard's theoretical time" "benchmarks out of the standards' sequence, or those of another revision"
    ++ row "over-counted" "total effective units of a benchmark above the effective units judged by its standard" "units of another period or revision; scrap or rework of this tool counted as good"
    ++ row "too wide" "a value does not fit its field" "a value in another unit than ms, a number of the controller's own, or a count that ran on"
    ++ row "unlike tools" "two logs to join whose module counts differ" "logs of two tools, or of one whose modules were changed in between"

-- field j of number n: 0 the word, 1 the meaning, 2 what to look for; empty where the card does not have the number
unfoldable pub field : ℕ → ℕ → List ℕ
unfolding card
field n j = get_or card (3 * n + j) []

abbrev pub word : ℕ → List ℕ
word n = field n 0

abbrev pub meaning : ℕ → List ℕ
meaning n = field n 1

abbrev pub look_for : ℕ → List ℕ
look_for n = field n 2

-- the three fields of a number, each of at most 96 bytes, and no byte 10 among them
pub record OnCard (n : ℕ) (w m l : List ℕ) : Type 0 where
  pub its_word : w ≡ word n
  pub its_meaning : m ≡ meaning n
  pub its_look_for : l ≡ look_for n
  pub short_word : length w ≤ 96
  pub short_meaning : length m ≤ 96
  pub short_look_for : length l ≤ 96
  pub one_line_word : ends w ≡ 0
  pub one_line_meaning : ends m ≡ 0
  pub one_line_look_for : ends l ≡ 0

-- ---- the row of a number

-- 1 to 23
abbrev pub on_card : ℕ → Bool
on_card n = leb 1 n && leb n 23

-- three lines: number and word, meaning, what to look for
unfoldable pub row_text : ℕ → List ℕ
unfolding field decimal
row_text n =
    (ascii "refusal " ++ decimal n) ++ (ascii ": " ++ word n) ++ (ascii "\nmeaning: " ++ meaning n) ++ (ascii "\nlook for: " ++ look_for n) ++ ascii "\n"

-- what is said of a number: its row, and nothing where the card does not have it
unfoldable pub explained : ℕ → List ℕ
unfolding row_text
explained n = cond (on_card n) (row_text n) []

-- ---- a refusal in words

-- a number between two texts
abbrev pub around : String → ℕ → String → List ℕ
around before n behind = (ascii before ++ decimal n) ++ ascii behind

-- the kind of record that has a value too wide
abbrev pub kind : LogList → List ℕ
kind States = ascii " (a state record)"
kind Standards = ascii " (a standard)"
kind Units = ascii " (a unit record)"
kind l = ascii " (a header)"

-- the benchmark, or in 5 all of them
abbrev pub which_benchmark : Ground → ℕ → List ℕ
which_benchmark Length place = ascii " (the benchmarks)"
which_benchmark g place = around " (benchmark " place ")"

-- a place of no list is a module in 11, 16, and 7 for a module that was asked for
abbrev pub is_module : Ground → Bool
is_module StrayModule = true
is_module NoOpening = true
is_module TooFast = true
is_module g = false

-- where: the kind of record in 22, the record and its list, the benchmark, the module, or the second of two logs
abbrev pub place_of : Ground → LogList → ℕ → List ℕ
place_of TooWide list place = kind list
place_of g States place = around " (record " place " of the states)"
place_of g Standards place = around " (record " place " of the standards)"
place_of g Units place = around " (record " place " of the units)"
place_of g Benchmarks place = which_benchmark g place
place_of g SecondStates place = around " (record " place " of the second log's states)"
place_of g SecondStandards place = around " (record " place " of the second log's standards)"
place_of g SecondUnits place = around " (record " place " of the second log's units)"
place_of g NoList place = cond (is_module g) (around " (module " place ")") []
place_of g Second place = cond (is_module g) (around " (module " place " of the second log)") (ascii " (the second log)")

abbrev pub whereabouts : Refusal → List ℕ
whereabouts x = place_of x.ground x.list x.place

-- one line: the trade word, the ground and where
unfoldable pub words_of : Refusal → List ℕ
unfolding field
words_of x = word (number_of x.ground) ++ (ascii ": " ++ meaning (number_of x.ground)) ++ whereabouts x ++ ascii "\n"

-- ---- any three numbers in words

-- 0 to 4 and 10 to 13
abbrev pub is_list : ℕ → Bool
is_list l = leb l 4 || (leb 10 l && leb l 13)

-- the kind of record by the number of its list, a header by any other
abbrev pub kind_at : ℕ → List ℕ
kind_at list =
    cond (eqb list (list_number States)) (ascii " (a state record)")
    (cond (eqb list (list_number Standards)) (ascii " (a standard)")
    (cond (eqb list (list_number Units)) (ascii " (a unit record)") (ascii " (a header)")))

abbrev pub is_module_at : ℕ → Bool
is_module_at number = eqb number (number_of StrayModule) || (eqb number (number_of NoOpening) || eqb number (number_of TooFast))

-- where, by the numbers: a list that is none points nowhere, but in 22, where it is a header's
unfoldable pub whereabouts_at : ℕ → ℕ → ℕ → List ℕ
unfolding decimal
whereabouts_at number list place =
    cond (eqb number (number_of TooWide)) (kind_at list)
    (cond (eqb list (list_number States)) (around " (record " place " of the states)")
    (cond (eqb list (list_number Standards)) (around " (record " place " of the standards)")
    (cond (eqb list (list_number Units)) (around " (record " place " of the units)")
    (cond (eqb list (list_number Benchmarks)) (cond (eqb number (number_of Length)) (ascii " (the benchmarks)") (around " (benchmark " place ")"))
    (cond (eqb list (list_number SecondStates)) (around " (record " place " of the second log's states)")
    (cond (eqb list (list_number SecondStandards)) (around " (record " place " of the second log's standards)")
    (cond (eqb list (list_number SecondUnits)) (around " (record " place " of the second log's units)")
    (cond (eqb list (list_number NoList)) (cond (is_module_at number) (around " (module " place ")") [])
    (cond (eqb list (list_number Second)) (cond (is_module_at number) (around " (module " place " of the second log)") (ascii " (the second log)"))
    [])))))))))

-- a line: a word, a meaning and where
abbrev pub line_of : List ℕ → List ℕ → List ℕ → List ℕ
line_of word meaning place = word ++ (ascii ": " ++ meaning) ++ place ++ ascii "\n"

-- word and meaning are empty where the card does not have the number; of a refusal's numbers it is what `words_of` says (`words-numbered`)
unfoldable pub words_at : ℕ → ℕ → ℕ → List ℕ
unfolding field whereabouts_at
words_at number list place = line_of (word number) (meaning number) (whereabouts_at number list place)
