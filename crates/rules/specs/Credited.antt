-- Which time was used: the actual units credited to each standard.
-- Definitions only.
use Rattle.std.specs.Prelude.{List, [], ◌∷◌, ℕ, ◌+◌, get_or}
use Rattle.records.specs.declared.Standard.{Standard}
use Rattle.records.specs.declared.UnitRecord.{UnitRecord}
use Rattle.records.specs.Log.{Log, up_to}
use Rattle.rules.specs.Theoretical.{units_judged}

-- the actual units credited to standard i: those of the unit records that it judges
unfoldable pub credited_to : Log → ℕ → ℕ
unfolding units_judged
credited_to l i = units_judged (λ u. u.actual) l.standards l.units i

-- of as many standards as a log may have, by their indexes
unfoldable pub credits_of : Log → List ℕ
unfolding credited_to up_to
credits_of l = up_to (credited_to l) 512

-- the units of all unit records
unfoldable pub units_of : (UnitRecord → ℕ) → List UnitRecord → ℕ
units_of units [] = 0
units_of units (u ∷ us) = units u + units_of units us

-- stands for a standard where an index is past the list
abbrev pub no_standard : Standard
no_standard = record { «module» = 0; recipe = 0; start = 0; theoretical = 0; spare = 0 }

-- standard i of a list
abbrev pub nth : List Standard → ℕ → Standard
nth ss i = get_or ss i no_standard
