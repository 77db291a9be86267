-- A name as it is shown, copied byte by byte: it is as long as the name, and no byte of it is 10. Assumes nothing.
use mathlib.Core.Path.{◌≡◌, refl, ◌∙◌}
use mathlib.Core.Bool.{Bool, true, false, ◌||◌, cond}
use mathlib.Core.List.{List, [], ◌∷◌, map}
use Prim.Native.Nat.{ℕ}
use native.Mathlib.Nat.{zero-add}
use native.Mathlib.Omega.{arith}
use borrow.Author.Tests.{ne_eqb, ltb-false}
use lib.Dec.{ltb, eqb}
use lib.ListN.{length, length-map}
use Rattle.report.specs.Lines.{ends}
use Rattle.saying.specs.Names.{shown_byte}

-- no byte as it is shown ends a line
shown-other : (b : ℕ) → eqb (shown_byte b) 10 ≡ false
unfolding shown_byte
shown-other b = go (ltb b 32) (eqb b 127) refl
  where
    go : (c d : Bool) → ltb b 32 ≡ c → eqb (cond (c || d) 63 b) 10 ≡ false
    go true d e = refl
    go false true e = refl
    go false false e = let high = ltb-false b 32 e in ne_eqb b 10 (λ q. absurd (omega (arith, high, q)))

pub one_line : (name : List ℕ) → ends (map shown_byte name) ≡ 0
unfolding ends
one_line [] = refl
one_line (b ∷ name) = rw (shown-other b) (zero-add _ ∙ one_line name)

pub shown-length : (name : List ℕ) → length (map shown_byte name) ≡ length name
shown-length name = length-map name shown_byte
