-- R-7 of document 02: which revision a unit was judged by. A log by hand, its listing, and what is in force; and case W's listing. Definitions only.
use Rattle.std.specs.Prelude.{ℕ, ◌≡◌, List, [], ◌∷◌, Option, Some, None}
use Rattle.std.specs.declared.result.Result.TheVariants.{Ok}
use Rattle.records.specs.declared.UnitRecord.{UnitRecord}
use Rattle.records.specs.Log.{decode}
use Rattle.records.specs.Encode.{encode}
use Rattle.rules.specs.Theoretical.{in_force}
use Rattle.rules.specs.Verdict.{verdict}
use Rattle.report.specs.Text.{ascii}
use Rattle.crediting.specs.declared.InForce.{InForce}
use Rattle.crediting.specs.Calls.{in_force_of}
use Rattle.listing.specs.Listings.{credit_listing}
use Rattle.edges.specs.Cases.{state, standard_of, log}
use Rattle.edges.specs.CaseW.{case_w}

-- units of recipe 7 that module m made
abbrev pub made : ℕ → ℕ → ℕ → ℕ → UnitRecord
made m time actual effective = record { «module» = m; recipe = 7; time = time; actual = actual; effective = effective; spare = 0 }

-- a hundred productive milliseconds of two modules. Module 0's recipe 7 has three revisions, from 0, 10 and 99 on; module 1's has one, from 20 on.
-- One unit before the second revision, two at its start, one of them good, and four later; the third judges none. Module 1's judges five, at its start
abbrev pub revised : List ℕ
revised =
    encode
    (log 100 2 (state 0 0 0 ∷ state 1 0 0 ∷ []) (standard_of 0 7 0 9 ∷ standard_of 0 7 10 8 ∷ standard_of 0 7 99 7 ∷ standard_of 1 7 20 6 ∷ [])
    (made 0 9 1 1 ∷ made 0 10 2 1 ∷ made 1 20 5 0 ∷ made 0 98 4 4 ∷ []))

-- the same tool without standards and units
abbrev pub idle : List ℕ
idle = encode (log 100 2 (state 0 0 0 ∷ state 1 0 0 ∷ []) [] [])

-- what is in force in that log
abbrev pub force_on : ℕ → ℕ → ℕ → Option InForce
force_on m recipe time = in_force_of (in_force (decode revised).standards m recipe time)

pub record Revisions : Type 0 where
  pub accepted : verdict revised ≡ Ok tt
  pub listed : credit_listing (decode revised) ≡ ascii "0 1\n1 6\n2 0\n3 5\n"
  -- one before a start, and at it
  pub before_second : force_on 0 7 9 ≡ Some (record { index = 0; time = 9 })
  pub at_second : force_on 0 7 10 ≡ Some (record { index = 1; time = 8 })
  pub at_third : force_on 0 7 99 ≡ Some (record { index = 2; time = 7 })
  -- past the period
  pub past_the_period : force_on 0 7 100 ≡ Some (record { index = 2; time = 7 })
  -- ahead of the first, and for a recipe that no standard is for
  pub ahead_of_the_first : force_on 1 7 19 ≡ None
  pub other_recipe : force_on 0 6 50 ≡ None
  -- a log without standards
  pub idle_accepted : verdict idle ≡ Ok tt
  pub nothing_listed : credit_listing (decode idle) ≡ []
  -- one revision for each module
  pub case_w_listed : credit_listing (decode case_w) ≡ ascii "0 280\n1 290\n2 150\n"
