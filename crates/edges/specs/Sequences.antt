-- The rising sequence of document 02's R-1: one shift as several controllers list it, and what each listing is answered. Definitions only.
use Rattle.std.specs.Prelude.{ℕ, List, [], ◌∷◌}
use Rattle.records.specs.declared.StateRecord.{StateRecord}
use Rattle.records.specs.declared.Standard.{Standard}
use Rattle.records.specs.declared.UnitRecord.{UnitRecord}
use Rattle.records.specs.Log.{Log}
use Rattle.records.specs.Encode.{encode}
use Rattle.rules.specs.declared.Ground.TheVariants.{Sequence, Twice, NoStandard, Unsorted}
use Rattle.rules.specs.declared.LogList.TheVariants.{States, Standards, Units}
use Rattle.std.specs.declared.result.Result.TheVariants.{Ok}
use Rattle.edges.specs.Cases.{Claim, answers, state, standard_of, log, refused}

-- a standard of module m that takes 1 ms, and one unit that it made
abbrev pub from : ℕ → ℕ → ℕ → Standard
from m recipe start = standard_of m recipe start 1

abbrev pub unit_of : ℕ → ℕ → ℕ → UnitRecord
unit_of time m recipe = record { «module» = m; recipe = recipe; time = time; actual = 1; effective = 1; spare = 0 }

-- ten milliseconds of two modules
abbrev pub listed : List StateRecord → List Standard → List UnitRecord → Log
listed ss ts us = log 10 2 ss ts us

-- the shift's lists in their rising sequence
abbrev pub states : List StateRecord
states = state 0 0 0 ∷ state 1 0 0 ∷ []

abbrev pub standards : List Standard
standards = from 0 1 0 ∷ from 0 1 4 ∷ from 0 2 0 ∷ from 1 1 0 ∷ []

abbrev pub units : List UnitRecord
units = unit_of 5 0 1 ∷ unit_of 5 0 2 ∷ unit_of 5 1 1 ∷ unit_of 6 0 1 ∷ []

abbrev pub sequences : List Claim
sequences =
    -- one log of the shift is accepted
    answers (encode (listed states standards units)) (Ok tt)
    -- the same records: openings by falling module
    ∷ answers (encode (listed (state 1 0 0 ∷ state 0 0 0 ∷ []) standards units)) (refused Sequence States 1)
    -- standards by start; by recipe and start over all modules; by falling module
    ∷ answers (encode (listed states (from 0 1 0 ∷ from 0 2 0 ∷ from 0 1 4 ∷ from 1 1 0 ∷ []) units)) (refused Unsorted Standards 2)
    ∷ answers (encode (listed states (from 0 1 0 ∷ from 1 1 0 ∷ from 0 1 4 ∷ from 0 2 0 ∷ []) units)) (refused Unsorted Standards 2)
    ∷ answers (encode (listed states (from 1 1 0 ∷ from 0 1 0 ∷ from 0 1 4 ∷ from 0 2 0 ∷ []) units)) (refused Unsorted Standards 1)
    -- units by module; of one time by falling module; of one time and module by falling recipe
    ∷ answers (encode (listed states standards (unit_of 5 0 1 ∷ unit_of 5 0 2 ∷ unit_of 6 0 1 ∷ unit_of 5 1 1 ∷ []))) (refused Unsorted Units 3)
    ∷ answers (encode (listed states standards (unit_of 5 0 1 ∷ unit_of 5 1 1 ∷ unit_of 5 0 2 ∷ unit_of 6 0 1 ∷ []))) (refused Unsorted Units 2)
    ∷ answers (encode (listed states standards (unit_of 5 0 2 ∷ unit_of 5 0 1 ∷ unit_of 5 1 1 ∷ unit_of 6 0 1 ∷ []))) (refused Unsorted Units 1)
    -- two units alike in time, module and recipe
    ∷ answers (encode (listed states standards (unit_of 5 0 1 ∷ unit_of 5 0 1 ∷ []))) (refused Unsorted Units 1)
    -- a state record that is earlier, though later than its own module's last
    ∷ answers (encode (listed (state 0 0 0 ∷ state 1 0 0 ∷ state 0 7 5 ∷ state 1 7 4 ∷ []) [] [])) (refused Sequence States 3)
    -- a standard equal to the one before, and to one further up, stays 13
    ∷ answers (encode (listed states (from 0 1 0 ∷ from 0 1 0 ∷ []) [])) (refused Twice Standards 1)
    ∷ answers (encode (listed states (from 0 1 0 ∷ from 0 2 0 ∷ from 0 1 0 ∷ []) [])) (refused Twice Standards 2)
    -- a unit that has no standard either
    ∷ answers (encode (listed states standards (unit_of 5 0 1 ∷ unit_of 4 0 3 ∷ []))) (refused NoStandard Units 1)
    -- 19 is a record's own: it comes ahead of a fault in the next
    ∷ answers (encode (listed states standards (unit_of 5 0 1 ∷ unit_of 4 0 1 ∷ unit_of 10 0 1 ∷ []))) (refused Unsorted Units 1)
    ∷ []
