-- The longest line of a listing, and the longest listing.
-- Assumes nothing.
use mathlib.Core.Path.{◌≡◌, ◌∙◌}
use mathlib.Core.List.{◌++◌}
use Prim.Native.Nat.{ℕ, ◌+◌, ◌≤◌, ◌<◌}
use native.Mathlib.Nat.{mul-le-mul_left}
use native.Mathlib.Omega.{arith}
use lib.ListN.{length, length-append}
use Rattle.report.specs.Text.{ascii}
use Rattle.report.specs.Report.{decimal, joined}
use Rattle.report.proofs.Decimals.{decimal-length}
use Rattle.report.proofs.Tables.{joined_longest}
use Rattle.listing.specs.Listings.{credit_line}

pub line_length : (i units : ℕ) → length (credit_line i units) ≡ length (decimal i) + length (decimal units) + 2
unfolding credit_line
line_length i units =
    length-append (decimal i ++ ascii " " ++ decimal units) (ascii "\n")
    ∙ omega (arith, length-append (decimal i ++ ascii " ") (decimal units), length-append (decimal i) (ascii " "))

-- an index of at most three digits and units of at most nine
line-longest : (i units : ℕ) → i < 512 → units < 1000000000 → length (credit_line i units) ≤ 14
line-longest i units h l = omega (arith, line_length i units, decimal-length 2 i (omega arith), decimal-length 8 units (omega arith))

pub listing_longest : (n : ℕ) (units : ℕ → ℕ) → n ≤ 512 → ((i : ℕ) → i < n → units i < 1000000000) → length (joined (λ i. credit_line i (units i)) n) ≤ 7168
listing_longest n units few low =
    omega (arith, joined_longest (λ i. credit_line i (units i)) 14 n (λ i h. line-longest i (units i) (omega (arith, few)) (low i h)), mul-le-mul_left 14 few)
