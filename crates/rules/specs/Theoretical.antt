-- The standard in force with its index, what a walk from the end of the list answers, the theoretical time of the units that a module made, and the units
-- that a standard judges.
-- Definitions only.
use Rattle.std.specs.Prelude.{◌≡◌, ℕ, suc, ◌+◌, ◌*◌, ◌≤◌, ◌<◌, Bool, false, ◌&&◌, cond, leb, eqb}
use mathlib.Core.List.{List, [], ◌∷◌, foldl}
use Rattle.std.proofs.Math.Option.{Option, none, some}
use Rattle.records.specs.declared.Standard.{Standard}
use Rattle.records.specs.declared.UnitRecord.{UnitRecord}
use Rattle.rules.specs.declared.Placed.{Placed}

-- a standard with its index
abbrev pub placed : ℕ → Standard → Placed
placed i s = record { index = i; standard = s }

-- the standards of a list with their indexes, from i on
unfoldable pub placed_from : ℕ → List Standard → List Placed
placed_from i [] = []
placed_from i (s ∷ ss) = placed i s ∷ placed_from (suc i) ss

-- of the standard found so far and another, the one with the later start
abbrev pub later : Option Placed → Placed → Option Placed
later none p = some p
later (some b) p = cond (leb p.standard.start b.standard.start) (some b) (some p)

-- a standard is module m's for a recipe
abbrev pub is_for : ℕ → ℕ → Standard → Bool
is_for m recipe s = eqb s.«module» m && eqb s.recipe recipe

-- and starts at or before the time
abbrev pub has_begun : ℕ → ℕ → ℕ → Standard → Bool
has_begun m recipe time s = is_for m recipe s && leb s.start time

-- after one more standard: it counts where it has begun
abbrev pub consider : ℕ → ℕ → ℕ → Option Placed → Placed → Option Placed
consider m recipe time found p = cond (has_begun m recipe time p.standard) (later found p) found

-- the standard in force: module m's for the recipe with the latest start at or before the time
unfoldable pub in_force : List Standard → ℕ → ℕ → ℕ → Option Placed
unfolding placed_from
in_force ss m recipe time = foldl (consider m recipe time) none (placed_from 0 ss)

-- the same in the papers' own words, of the first n standards: p is one of them, is for that module and recipe and starts at or before the time, and no other
-- such standard starts later
abbrev pub For : ℕ → ℕ → Standard → Type 0
For m recipe s = (s.«module» ≡ m) × (s.recipe ≡ recipe)

pub record Force (at : ℕ → Standard) (n m recipe time : ℕ) (p : Placed) : Type 0 where
  pub listed : p.index < n
  pub same : p.standard ≡ at p.index
  pub own : For m recipe p.standard
  pub begun : p.standard.start ≤ time
  pub latest : (i : ℕ) → i < n → For m recipe (at i) → (at i).start ≤ time → (at i).start ≤ p.standard.start

-- a standard in force, or none, where none is
abbrev pub Answers : (ℕ → Standard) → ℕ → ℕ → ℕ → ℕ → Option Placed → Type 0
Answers at n m recipe time none = (i : ℕ) → i < n → For m recipe (at i) → (at i).start ≤ time → ⊥
Answers at n m recipe time (some p) = Force at n m recipe time p

-- the last of a list that passes a test, or none
unfoldable pub last_where : {A : Type 0} → (A → Bool) → List A → Option A
last_where test xs = foldl (λ found x. cond (test x) (some x) found) none xs

-- document 02's walk from the end: the last standard for the module and recipe with a start at or before the time, or none
abbrev pub last_in_force : List Standard → ℕ → ℕ → ℕ → Option Placed
last_in_force ss m recipe time = last_where (λ p. has_begun m recipe time p.standard) (placed_from 0 ss)

abbrev pub time_of : Option Placed → ℕ
time_of none = 0
time_of (some p) = p.standard.theoretical

-- units times the theoretical time in force for the record's module and recipe at its time, where the record is module m's
unfoldable pub credit : (UnitRecord → ℕ) → List Standard → ℕ → UnitRecord → ℕ
unfolding in_force
credit units ss m u = cond (eqb u.«module» m) (units u * time_of (in_force ss u.«module» u.recipe u.time)) 0

-- the theoretical time for the units that module m made: its credits, summed over its unit records
unfoldable pub theoretical_time : (UnitRecord → ℕ) → List Standard → List UnitRecord → ℕ → ℕ
unfolding credit
theoretical_time units ss [] m = 0
theoretical_time units ss (u ∷ us) m = credit units ss m u + theoretical_time units ss us m

-- ---- which standard judges a unit record

abbrev pub is_at : ℕ → Option Placed → Bool
is_at i none = false
is_at i (some p) = eqb p.index i

-- a unit record is judged by standard i where that is the one in force for its module and recipe at its time
unfoldable pub judged_by : List Standard → UnitRecord → ℕ → Bool
unfolding in_force
judged_by ss u i = is_at i (in_force ss u.«module» u.recipe u.time)

-- the units that standard i judges, summed over the unit records
unfoldable pub units_judged : (UnitRecord → ℕ) → List Standard → List UnitRecord → ℕ → ℕ
unfolding judged_by
units_judged units ss [] i = 0
units_judged units ss (u ∷ us) i = cond (judged_by ss u i) (units u) 0 + units_judged units ss us i
