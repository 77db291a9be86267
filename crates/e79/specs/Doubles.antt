-- Which doubles are computed: `of_int`, `div` and `mul` are IEEE 754's, and `div` and `mul` round once, to the nearest double, a tie to the even one. Definitions only.
use Rattle.std.specs.Prelude.{ℕ, false, pos, Float, Option, Some, None}
use Rattle.std.specs.Float.{fin, binary64}
use Rattle.std.specs.Float.Ieee.{of_int, div, mul}
use Rattle.e79.specs.declared.Quantities.{Quantities}
use Rattle.e79.specs.declared.Figures.{Figures}
use Rattle.e79.specs.Quantities.{based}

-- one division of two whole numbers
unfoldable pub quotient_of : ℕ → ℕ → Float
quotient_of n d = div binary64 (of_int binary64 (pos n)) (of_int binary64 (pos d))

-- an efficiency: the double, or "no base"
unfoldable pub efficiency_of : ℕ → ℕ → Option Float
efficiency_of n d = based d None (Some (quotient_of n d))

-- +0.0
abbrev pub nothing : Float
nothing = fin false 0 (pos 0)

-- what `multiply` makes of the four doubles, and 0 with any "no base" among the four
unfoldable pub combined : (Float → Float → Float → Float → Float) → Option Float → Option Float → Option Float → Option Float → Float
combined multiply None o r q = nothing
combined multiply (Some a) None r q = nothing
combined multiply (Some a) (Some o) None q = nothing
combined multiply (Some a) (Some o) (Some r) None = nothing
combined multiply (Some a) (Some o) (Some r) (Some q) = multiply a o r q

-- availability by operational, then by rate, then by quality
abbrev pub left_to_right : Float → Float → Float → Float → Float
left_to_right a o r q = mul binary64 (mul binary64 (mul binary64 a o) r) q

-- the set of doubles of a module or of the tool
unfoldable pub figures_of : Quantities → Figures
figures_of q =
    let availability = efficiency_of q.uptime q.total in
    let operational = efficiency_of q.production q.uptime in
    let rate = efficiency_of q.actual q.production in
    let quality = efficiency_of q.effective q.actual in
    record {
      availability = availability;
      operational = operational;
      rate = rate;
      quality = quality;
      oee = quotient_of q.effective q.total;
      product = combined left_to_right availability operational rate quality;
    }
