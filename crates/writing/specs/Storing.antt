-- The fields of a record as the adding calls hand them on, and how many bits they have.
-- Definitions only.
use Rattle.std.specs.Prelude.{List, [], ◌∷◌, ℕ, ◌+◌}
use Rattle.bits.specs.Put.{Slot}
use Rattle.writing.specs.declared.Field.{Field}

abbrev pub slots_of : List Field → List Slot
slots_of [] = []
slots_of (f ∷ fs) = record { width = f.width; value = f.value } ∷ slots_of fs

abbrev pub bits_of : List Field → ℕ
bits_of [] = 0
bits_of (f ∷ fs) = f.width + bits_of fs
