-- What a listing holds: the standards in their sequence, and where the last one of each bin is.
-- Definitions only.
use Rattle.std.specs.Prelude.{◌≡◌, Bool, List, ℕ, ◌+◌, ◌*◌, ◌/◌, ◌%◌, ◌≤◌, ◌<◌, eqb, get_or, set, Option, Some, None}
use Rattle.std.proofs.Math.Option as math
use Rattle.std.proofs.Math.Option.{none, some}
use Rattle.records.specs.declared.Standard.{Standard}
use Rattle.records.specs.Log.{up_to}
use Rattle.rules.specs.declared.Placed.{Placed}
use Rattle.rules.specs.Theoretical.{placed_from, last_where}
use Rattle.theoretical.specs.declared.listing.Entry.{Entry}
use Rattle.theoretical.specs.declared.listing.Entries.{Entries}

-- a module and a recipe in one number
abbrev pub pair_of : ℕ → ℕ → ℕ
pair_of m recipe = m * 1024 + recipe

-- the bin of a module and a recipe, one of 1,024. Some share one, and what is looked up does not depend on which: by these factors hardly any do, where each of
-- some modules has the recipes 0, 1, .. , whichever of the two are many
unfoldable pub bin_of : ℕ → ℕ
bin_of pair = pair * 83 / 64 % 1024

abbrev pub is_in : ℕ → Standard → Bool
is_in bin s = eqb (bin_of (pair_of s.«module» s.recipe)) bin

-- the last standard of a list that passes a test, or none
abbrev pub last_placed : (Standard → Bool) → List Standard → math.Option Placed
last_placed test ss = last_where (λ p. test p.standard) (placed_from 0 ss)

-- as it is answered
abbrev pub found : math.Option Placed → Option Placed
found none = None
found (some p) = Some p

-- where it is: one more than its index, and 0 for none
abbrev pub link_to : math.Option Placed → ℕ
link_to none = 0
link_to (some p) = p.index + 1

-- the standard of an entry
abbrev pub standard_of : Entry → Standard
standard_of e = record { «module» = e.pair / 1024; recipe = e.pair % 1024; start = e.start; theoretical = e.theoretical; spare = 0 }

-- entry i
abbrev pub entry_of : Entries → ℕ → Entry
entry_of E i = record { start = get_or E.starts i 0; theoretical = get_or E.times i 0; pair = get_or E.pairs i 0 }

-- the entries once i is this one
abbrev pub with_entry : Entries → ℕ → Entry → Entries
with_entry E i e = record { starts = set E.starts i e.start; times = set E.times i e.theoretical; pairs = set E.pairs i e.pair }

-- the standards of the first n entries
abbrev pub listed : Entries → ℕ → List Standard
listed E n = up_to (λ i. standard_of (entry_of E i)) n

-- by L each bin's last standard is found, and by A from each standard the last one ahead of it in its bin
pub record Chained (E : Entries) (A : List ℕ) (n : ℕ) (L : List ℕ) : Type 0 where
  pub few : n ≤ 512
  pub aheads : (i : ℕ) → i < n → get_or A i 0 ≡ link_to (last_placed (is_in (bin_of (get_or E.pairs i 0))) (listed E i))
  pub lasts : (bin : ℕ) → bin < 1024 → get_or L bin 0 ≡ link_to (last_placed (is_in bin) (listed E n))
