-- The thirteen starred cases of document 01, 'At the edges': each input, and what it must give. Definitions only.
use Rattle.std.specs.Prelude.{ℕ, ◌≡◌, List, [], ◌∷◌, replicate, Float}
use Rattle.records.specs.declared.StateRecord.{StateRecord}
use Rattle.records.specs.declared.Standard.{Standard}
use Rattle.records.specs.declared.UnitRecord.{UnitRecord}
use Rattle.records.specs.Log.{Log, up_to, decode}
use Rattle.records.specs.Encode.{encode}
use Rattle.e79.specs.declared.Quantities.{Quantities}
use Rattle.e79.specs.Doubles.{figures_of, nothing}
use Rattle.rules.specs.declared.Ground.{Ground}
use Rattle.rules.specs.declared.LogList.{LogList}
use Rattle.rules.specs.declared.Ground.TheVariants.{NoHeader, Period, Modules, StrayCode, Outside, Sequence, OverGood, NoStandard, TooFast}
use Rattle.rules.specs.declared.LogList.TheVariants.{NoList, States, Units}
use Rattle.rules.specs.Grounds.{Verdict, refusal}
use Rattle.std.specs.declared.result.Result.TheVariants.{Ok, Err}
use Rattle.rules.specs.Quantities.{actual_time, of_module}
use Rattle.rules.specs.Verdict.{verdict}
use Rattle.report.specs.Text.{ascii}
use Rattle.report.specs.Report.{figure, tool_line}
use Rattle.reporting.specs.Reports.{report_text}

-- what is claimed of an input
pub data Claim : Type 0 where
  -- the verdict on these bytes
  answers : List ℕ → Verdict → Claim
  -- the theoretical time for the actual units of module m, of these bytes
  credits : List ℕ → ℕ → ℕ → Claim
  -- the report on these bytes
  reports : List ℕ → List ℕ → Claim
  -- the product of module m's efficiencies, of these bytes
  multiplies : List ℕ → ℕ → Float → Claim
  -- the figure of a numerator over a denominator, printed behind a space
  prints : ℕ → ℕ → List ℕ → Claim
  -- the tool's line of five sums
  lines : Quantities → List ℕ → Claim

abbrev pub Holds : Claim → Type 0
Holds (answers s v) = verdict s ≡ v
Holds (credits s m t) = actual_time (decode s) m ≡ t
Holds (reports s text) = report_text (decode s) ≡ text
Holds (multiplies s m x) = (figures_of (of_module (decode s) m)).product ≡ x
Holds (prints n d text) = figure n d ≡ text
Holds (lines q text) = tool_line q ≡ text

-- ---- inputs

abbrev pub state : ℕ → ℕ → ℕ → StateRecord
state m code time = record { «module» = m; code = code; time = time; spare = 0 }

-- a theoretical time of module m for a recipe, and of module 0 for recipe 0
abbrev pub standard_of : ℕ → ℕ → ℕ → ℕ → Standard
standard_of m recipe start theoretical = record { «module» = m; recipe = recipe; start = start; theoretical = theoretical; spare = 0 }

abbrev pub standard : ℕ → ℕ → Standard
standard start theoretical = standard_of 0 0 start theoretical

-- units of recipe 0, made by module 0
abbrev pub units : ℕ → ℕ → ℕ → UnitRecord
units time actual effective = record { «module» = 0; recipe = 0; time = time; actual = actual; effective = effective; spare = 0 }

abbrev pub log : ℕ → ℕ → List StateRecord → List Standard → List UnitRecord → Log
log period modules ss ts us = record { period = period; modules = modules; states = ss; standards = ts; units = us }

abbrev pub refused : Ground → LogList → ℕ → Verdict
refused g l p = Err (refusal g l p)

-- one module that is productive from 0 on
abbrev pub all_productive : ℕ → Log
all_productive period = log period 1 (state 0 0 0 ∷ []) [] []

-- so many modules, each productive from 0 on
abbrev pub cluster : ℕ → ℕ → Log
cluster modules records = log 1 modules (up_to (λ m. state m 0 0) records) [] []

-- a module that changes to a code at a time of ten
abbrev pub changed : ℕ → ℕ → Log
changed code time = log 10 1 (state 0 0 0 ∷ state 0 code time ∷ []) [] []

-- ten productive milliseconds, a standard from 4 on that takes 3 ms and perhaps one from 0 on that takes 2, and units
abbrev pub made : List Standard → List UnitRecord → Log
made ts us = log 10 1 (state 0 0 0 ∷ []) ts us

-- ---- the cases, in document 01's numbers

abbrev pub cases : List Claim
cases =
    -- 1. Empty input: 1. Nine bytes: 1.
    answers [] (refused NoHeader NoList 0)
    ∷ answers (replicate 9 0) (refused NoHeader NoList 0)
    -- 2. Period 31,622,400,000 passes; 31,622,400,001: 2.
    ∷ answers (encode (all_productive 31622400000)) (Ok tt)
    ∷ answers (encode (all_productive 31622400001)) (refused Period NoList 0)
    -- 3. 64 modules pass; 65: 3.
    ∷ answers (encode (cluster 64 64)) (Ok tt)
    ∷ answers (encode (cluster 65 64)) (refused Modules NoList 0)
    -- 5. Time equal to the period less 1 passes; equal to it: 9.
    ∷ answers (encode (changed 0 9)) (Ok tt)
    ∷ answers (encode (changed 0 10)) (refused Outside States 1)
    -- 6. Code 23 passes; 24: 8.
    ∷ answers (encode (changed 23 5)) (Ok tt)
    ∷ answers (encode (changed 24 5)) (refused StrayCode States 1)
    -- 7. Two records of one module at one time: 10. Of two modules, the lower first: passes.
    ∷ answers (encode (log 10 1 (state 0 0 0 ∷ state 0 7 0 ∷ []) [] [])) (refused Sequence States 1)
    ∷ answers (encode (log 10 2 (state 0 0 0 ∷ state 1 0 0 ∷ []) [] [])) (Ok tt)
    -- 8. A unit at a standard's start takes that standard; 1 ms earlier, the former one, or 15 if there is none.
    ∷ answers (encode (made (standard 0 2 ∷ standard 4 3 ∷ []) (units 4 1 1 ∷ []))) (Ok tt)
    ∷ credits (encode (made (standard 0 2 ∷ standard 4 3 ∷ []) (units 4 1 1 ∷ []))) 0 3
    ∷ answers (encode (made (standard 0 2 ∷ standard 4 3 ∷ []) (units 3 1 1 ∷ []))) (Ok tt)
    ∷ credits (encode (made (standard 0 2 ∷ standard 4 3 ∷ []) (units 3 1 1 ∷ []))) 0 2
    ∷ answers (encode (made (standard 4 3 ∷ []) (units 3 1 1 ∷ []))) (refused NoStandard Units 0)
    -- 9. Effective equal to actual passes; one more: 14.
    ∷ answers (encode (made (standard 0 2 ∷ []) (units 0 3 3 ∷ []))) (Ok tt)
    ∷ answers (encode (made (standard 0 2 ∷ []) (units 0 3 4 ∷ []))) (refused OverGood Units 0)
    -- 10. Actual theoretical time equal to a production time above 0 gives rate 1.0000; 1 ms more: 16.
    ∷ answers (encode (made (standard 0 2 ∷ []) (units 0 5 5 ∷ []))) (Ok tt)
    ∷ reports (encode (made (standard 0 2 ∷ []) (units 0 5 5 ∷ [])))
    (ascii "module avail oper rate qual oee\n0 1.0000 1.0000 1.0000 1.0000 1.0000\ntool 1.0000 1.0000 1.0000 1.0000 1.0000\n")
    ∷ answers (encode (made (standard 0 11 ∷ []) (units 0 1 1 ∷ []))) (refused TooFast NoList 0)
    -- 11. No uptime: operational, rate and quality `-`, OEE 0.0000, product 0.
    ∷ answers (encode (log 10 1 (state 0 22 0 ∷ []) [] [])) (Ok tt)
    ∷ reports (encode (log 10 1 (state 0 22 0 ∷ []) [] [])) (ascii "module avail oper rate qual oee\n0 0.0000 - - - 0.0000\ntool 0.0000 - - - 0.0000\n")
    ∷ multiplies (encode (log 10 1 (state 0 22 0 ∷ []) [] [])) 0 nothing
    -- 12. Numerator 1 over 20,000 prints 0.0001; 1 over 20,001 prints 0.0000.
    ∷ prints 1 20000 (ascii " 0.0001")
    ∷ prints 1 20001 (ascii " 0.0000")
    -- 13. Case W's tool line, from its five sums.
    ∷ lines (record { total = 1814400000; uptime = 1760400000; production = 1360800000; actual = 1296000000; effective = 1240200000 }) (ascii "tool 0.9702 0.7730 0.9524 0.9569 0.6835\n")
    -- 14. 99,996 over 100,000 prints 1.0000.
    ∷ prints 99996 100000 (ascii " 1.0000")
    ∷ []
