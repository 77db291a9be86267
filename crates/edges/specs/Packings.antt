-- R-9 of document 02: a log packed, by hand. Definitions only.
use Rattle.std.specs.Prelude.{◌≡◌, [], ◌∷◌, length}
use Rattle.std.specs.declared.result.Result.TheVariants.{Ok, Err}
use Rattle.records.specs.Log.{Log}
use Rattle.records.specs.Encode.{encode}
use Rattle.rules.specs.declared.Ground.TheVariants.{NoHeader}
use Rattle.rules.specs.declared.LogList.TheVariants.{NoList}
use Rattle.rules.specs.Grounds.{refusal}
use Rattle.rules.specs.Verdict.{verdict}
use Rattle.packed.specs.Packed.{packed_log}
use Rattle.packed.specs.Packs.{packed_buffer, packed_answer}
use Rattle.edges.specs.Cases.{state, standard_of, log}
use Rattle.edges.specs.Joins.{of_recipe}

-- twenty milliseconds of two modules, both of which open in code 0. Module 0 repeats it at 3, goes to 6 at 5, repeats that at 7, and is back at 8. Module 1 goes to 1 at 3, which is
-- productive too, and repeats it at 6. Module 0's recipe 1 has its time again at 4, another at 6 and the first once more at 9; from 9 on its recipe 2 has that time, and module 1's recipe 1
abbrev pub repeated : Log
repeated =
    log 20 2 (state 0 0 0 ∷ state 1 0 0 ∷ state 0 0 3 ∷ state 1 1 3 ∷ state 0 6 5 ∷ state 1 1 6 ∷ state 0 6 7 ∷ state 0 0 8 ∷ [])
    (standard_of 0 1 0 5 ∷ standard_of 0 1 4 5 ∷ standard_of 0 1 6 4 ∷ standard_of 0 1 9 5 ∷ standard_of 0 2 9 5 ∷ standard_of 1 1 9 5 ∷ [])
    (of_recipe 1 4 1 1 ∷ [])

-- three state records and a standard less
abbrev pub closed_up : Log
closed_up =
    log 20 2 (state 0 0 0 ∷ state 1 0 0 ∷ state 1 1 3 ∷ state 0 6 5 ∷ state 0 0 8 ∷ [])
    (standard_of 0 1 0 5 ∷ standard_of 0 1 6 4 ∷ standard_of 0 1 9 5 ∷ standard_of 0 2 9 5 ∷ standard_of 1 1 9 5 ∷ [])
    (of_recipe 1 4 1 1 ∷ [])

-- a module that repeats its opening code and no other
abbrev pub unchanging : Log
unchanging = log 20 1 (state 0 23 0 ∷ state 0 23 1 ∷ state 0 23 19 ∷ []) [] []

pub record Packings : Type 0 where
  pub accepted : verdict (encode repeated) ≡ Ok tt
  pub packed : packed_log repeated ≡ closed_up
  pub packed_accepted : verdict (encode closed_up) ≡ Ok tt
  pub before : length (encode repeated) ≡ 129
  pub after : length (encode closed_up) ≡ 101
  pub again : packed_log closed_up ≡ closed_up
  pub opening_left : packed_log unchanging ≡ log 20 1 (state 0 23 0 ∷ []) [] []
  -- nine bytes are no log, and stay
  pub refused : packed_answer (7 ∷ 7 ∷ 7 ∷ 7 ∷ 7 ∷ 7 ∷ 7 ∷ 7 ∷ 7 ∷ []) ≡ Err (refusal NoHeader NoList 0)
  pub unchanged : packed_buffer (7 ∷ 7 ∷ 7 ∷ 7 ∷ 7 ∷ 7 ∷ 7 ∷ 7 ∷ 7 ∷ []) ≡ 7 ∷ 7 ∷ 7 ∷ 7 ∷ 7 ∷ 7 ∷ 7 ∷ 7 ∷ 7 ∷ []
