-- A record at the front of what is left behind q bytes is the record from bit 8 * q on.
-- Assumes nothing.
use mathlib.Core.Path.{◌≡◌}
use mathlib.Core.List.{List}
use Prim.Native.Nat.{ℕ, ◌*◌}
use native.Mathlib.Nat.{add-zero}
use lib.ListN.{drop}
use Rattle.bits.proofs.Fields.{field-drop}
use Rattle.records.specs.Fields.{header_from, state_from, standard_from, unit_from}

pub header-drop : (s : List ℕ) (q : ℕ) → header_from (drop q s) 0 ≡ header_from s (8 * q)
unfolding header_from
header-drop s q = simp (field-drop, add-zero)

pub state-drop : (s : List ℕ) (q : ℕ) → state_from (drop q s) 0 ≡ state_from s (8 * q)
unfolding state_from
state-drop s q = simp (field-drop, add-zero)

pub standard-drop : (s : List ℕ) (q : ℕ) → standard_from (drop q s) 0 ≡ standard_from s (8 * q)
unfolding standard_from
standard-drop s q = simp (field-drop, add-zero)

pub unit-drop : (s : List ℕ) (q : ℕ) → unit_from (drop q s) 0 ≡ unit_from s (8 * q)
unfolding unit_from
unit-drop s q = simp (field-drop, add-zero)
