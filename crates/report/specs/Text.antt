-- A text as its bytes. Definitions only.
use Rattle.std.specs.Prelude.{ℕ, ◌+◌, ◌-◌, ◌*◌, List, [] as []ᴸ, ◌∷◌ as ◌∷ᴸ◌}
use Prim.Native.Char.{code}
use Prim.Native.String.{String, [], ◌∷◌}

-- the bytes of a text in ASCII
abbrev pub ascii : String → List ℕ
ascii [] = []ᴸ
ascii (c ∷ s) = code c ∷ᴸ ascii s

-- what a text of decimal digits reads as, behind digits that read as n
unfoldable pub reading : ℕ → List ℕ → ℕ
reading n []ᴸ = n
reading n (b ∷ᴸ s) = reading (n * 10 + (b - 48)) s
