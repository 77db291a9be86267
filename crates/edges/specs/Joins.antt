-- R-8 of document 02: one log from two consecutive ones, by hand. Definitions only.
use Rattle.std.specs.Prelude.{◌≡◌, ◌+◌, ℕ, [], ◌∷◌, length}
use Rattle.std.specs.declared.result.Result.TheVariants.{Ok, Err}
use Rattle.records.specs.declared.UnitRecord.{UnitRecord}
use Rattle.records.specs.Log.{Log}
use Rattle.records.specs.Encode.{encode}
use Rattle.rules.specs.declared.Ground.TheVariants.{Period, UnlikeTools}
use Rattle.rules.specs.declared.LogList.TheVariants.{NoList}
use Rattle.rules.specs.Grounds.{refusal}
use Rattle.rules.specs.Verdict.{verdict}
use Rattle.joined.specs.Joined.{joined_log}
use Rattle.joined.specs.Joins.{join_grounds}
use Rattle.edges.specs.Cases.{state, standard_of, log}

-- units of a recipe that module 0 made
abbrev pub of_recipe : ℕ → ℕ → ℕ → ℕ → UnitRecord
of_recipe recipe time actual effective = record { «module» = 0; recipe = recipe; time = time; actual = actual; effective = effective; spare = 0 }

-- ten milliseconds of one module, at the end in code 6; recipe 1 from the start on, recipe 3 from 4 on
abbrev pub earlier : Log
earlier = log 10 1 (state 0 0 0 ∷ state 0 6 9 ∷ []) (standard_of 0 1 0 5 ∷ standard_of 0 3 4 2 ∷ []) (of_recipe 1 2 1 1 ∷ of_recipe 3 9 1 0 ∷ [])

-- six more, that open in code 6; recipe 1 once more, as it was, and recipe 2
abbrev pub later : Log
later = log 6 1 (state 0 6 0 ∷ state 0 0 1 ∷ []) (standard_of 0 1 0 5 ∷ standard_of 0 2 3 1 ∷ []) (of_recipe 1 0 0 0 ∷ of_recipe 2 3 2 1 ∷ [])

-- the opening is kept though the code goes on, recipe 1 has its time twice, and recipes 2 and 3 change places
abbrev pub together : Log
together =
    log 16 1 (state 0 0 0 ∷ state 0 6 9 ∷ state 0 6 10 ∷ state 0 0 11 ∷ [])
    (standard_of 0 1 0 5 ∷ standard_of 0 1 10 5 ∷ standard_of 0 2 13 1 ∷ standard_of 0 3 4 2 ∷ [])
    (of_recipe 1 2 1 1 ∷ of_recipe 3 9 1 0 ∷ of_recipe 1 10 0 0 ∷ of_recipe 2 13 2 1 ∷ [])

-- a tool without records
abbrev pub bare : ℕ → ℕ → Log
bare period modules = log period modules [] [] []

pub record Joins : Type 0 where
  pub first_accepted : verdict (encode earlier) ≡ Ok tt
  pub second_accepted : verdict (encode later) ≡ Ok tt
  pub joined : joined_log earlier later ≡ together
  pub joined_accepted : verdict (encode together) ≡ Ok tt
  -- 10 bytes of header are counted once
  pub size : length (encode earlier) + length (encode later) ≡ length (encode together) + 10
  -- the module counts come first, and a period at the bound is joined with none
  pub unlike_first : join_grounds (bare 31622400000 1) (bare 1 2) ≡ Err (refusal UnlikeTools NoList 0)
  pub too_long : join_grounds (bare 31622400000 1) (bare 1 1) ≡ Err (refusal Period NoList 0)
  pub at_the_bound : join_grounds (bare 31622399999 1) (bare 1 1) ≡ Ok tt
