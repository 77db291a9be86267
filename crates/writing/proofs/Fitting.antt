-- Whether the values of a record fit their fields.
-- Assumes nothing.
use mathlib.Core.Path.{◌≡◌, refl}
use mathlib.Core.Bool.{false}
use mathlib.Core.List.{List, [], ◌∷◌}
use Prim.Native.Nat.{◌^◌}
use lib.Dec.{leb}
use borrow.Author.Tests.{leb-false, lt-leb}
use Rattle.bits.specs.Put.{Slot, Fit}
use Rattle.rules.proofs.Booleans.{or_left, or_right}
use Rattle.writing.specs.Writing.{any_too_wide}

pub fits : (fs : List Slot) → any_too_wide fs ≡ false → Fit fs
fits [] e = tt
fits (f ∷ fs) e =
    let here = leb (2 ^ f.width) f.value in
    (leb-false (2 ^ f.width) f.value (or_left here (any_too_wide fs) e), fits fs (or_right here (any_too_wide fs) e))

pub none-too_wide : (fs : List Slot) → Fit fs → any_too_wide fs ≡ false
none-too_wide [] fit = refl
none-too_wide (f ∷ fs) fit = rw (lt-leb (2 ^ f.width) f.value fit.0) (none-too_wide fs fit.1)
