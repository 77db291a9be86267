-- R-5 of document 02: each module has its own times. A tool of two modules, what its standards credit, and what each fault of a standard is answered.
-- Definitions only.
use Rattle.std.specs.Prelude.{ℕ, List, [], ◌∷◌}
use Rattle.records.specs.declared.Standard.{Standard}
use Rattle.records.specs.declared.UnitRecord.{UnitRecord}
use Rattle.records.specs.Log.{Log}
use Rattle.records.specs.Encode.{encode}
use Rattle.rules.specs.declared.Ground.TheVariants.{Spare, StrayModule, Outside, NoTime, Twice, NoStandard, Unsorted}
use Rattle.rules.specs.declared.LogList.TheVariants.{Standards, Units}
use Rattle.std.specs.declared.result.Result.TheVariants.{Ok}
use Rattle.edges.specs.Cases.{Claim, answers, credits, state, standard_of, log, refused}

-- two units that module m made by recipe 7, at 5
abbrev pub two_units : ℕ → UnitRecord
two_units m = record { «module» = m; recipe = 7; time = 5; actual = 2; effective = 2; spare = 0 }

-- ten productive milliseconds of both modules
abbrev pub tool : List Standard → List UnitRecord → Log
tool ts us = log 10 2 (state 0 0 0 ∷ state 1 0 0 ∷ []) ts us

-- recipe 7 takes 3 ms at module 0; module 1 is the faster chamber
abbrev pub chambers : List Standard
chambers = standard_of 0 7 0 3 ∷ standard_of 1 7 0 1 ∷ []

-- a standard that ends in these spare bits
abbrev pub spare_in : ℕ → Standard → Standard
spare_in bits s = record { «module» = s.«module»; recipe = s.recipe; start = s.start; theoretical = s.theoretical; spare = bits }

abbrev pub by_module : List Claim
by_module =
    -- the same units, credited by each module's own time
    answers (encode (tool chambers (two_units 0 ∷ two_units 1 ∷ []))) (Ok tt)
    ∷ credits (encode (tool chambers (two_units 0 ∷ two_units 1 ∷ []))) 0 6
    ∷ credits (encode (tool chambers (two_units 0 ∷ two_units 1 ∷ []))) 1 2
    -- a recipe that only the other module has a standard for, ahead of the module's own and behind them
    ∷ answers (encode (tool (standard_of 0 7 0 3 ∷ standard_of 1 8 0 1 ∷ []) (two_units 0 ∷ two_units 1 ∷ []))) (refused NoStandard Units 1)
    ∷ answers (encode (tool (standard_of 0 8 0 3 ∷ standard_of 1 7 0 1 ∷ []) (two_units 0 ∷ two_units 1 ∷ []))) (refused NoStandard Units 0)
    -- a module's standard that has not begun: the other module's has, and is none of its
    ∷ answers (encode (tool (standard_of 0 7 0 3 ∷ standard_of 1 7 6 1 ∷ []) (two_units 1 ∷ []))) (refused NoStandard Units 0)
    -- modules rise, and with them recipe and start may fall, or be equal
    ∷ answers (encode (tool (standard_of 0 7 6 3 ∷ standard_of 1 3 2 1 ∷ []) [])) (Ok tt)
    -- the tests of a standard, in their sequence: each has the faults behind its own too
    ∷ answers (encode (tool (standard_of 0 7 0 3 ∷ spare_in 1 (standard_of 2 7 10 0) ∷ []) [])) (refused Spare Standards 1)
    ∷ answers (encode (tool (standard_of 0 7 0 3 ∷ spare_in 2 (standard_of 1 7 0 1) ∷ []) [])) (refused Spare Standards 1)
    ∷ answers (encode (tool (standard_of 0 7 0 3 ∷ standard_of 2 7 10 0 ∷ []) [])) (refused StrayModule Standards 1)
    ∷ answers (encode (tool (standard_of 1 7 0 3 ∷ standard_of 0 7 10 0 ∷ []) [])) (refused Outside Standards 1)
    ∷ answers (encode (tool (standard_of 1 7 0 3 ∷ standard_of 1 7 0 0 ∷ []) [])) (refused NoTime Standards 1)
    ∷ answers (encode (tool (standard_of 1 7 0 3 ∷ standard_of 1 7 0 1 ∷ []) [])) (refused Twice Standards 1)
    ∷ answers (encode (tool (standard_of 1 7 0 3 ∷ standard_of 0 7 0 1 ∷ []) [])) (refused Unsorted Standards 1)
    ∷ []
