-- The numbers of a line, and a bar: how many bytes they take. Assumes nothing.
use mathlib.Core.Path.{◌≡◌, refl}
use mathlib.Core.List.{List, [], ◌∷◌}
use Prim.Native.Nat.{ℕ, zero, suc, ◌+◌, ◌*◌, ◌^◌, ◌≤◌, ◌<◌}
use native.Mathlib.Omega.{arith}
use lib.ListN.{length, get_or, length-append}
use Rattle.losses.specs.declared.Losses.{Losses}
use Rattle.report.specs.Text.{ascii}
use Rattle.report.specs.Report.{decimal, places, joined}
use Rattle.report.proofs.Decimals.{decimal-length}
use Rattle.report.proofs.Tables.{joined_longest}
use Rattle.printing.specs.Tables.{number, numbers, fraction, bar}

pub number-length : (v : ℕ) → length (number v) ≡ length (decimal v) + 1
unfolding number
number-length v = omega arith

abbrev pub nth : List ℕ → ℕ → List ℕ
nth vs k = number (get_or vs k 0)

pub numbers-length : (vs : List ℕ) → length (numbers vs) ≡ length (joined (nth vs) (length vs)) + 1
unfolding numbers
numbers-length vs = length-append (joined (nth vs) (length vs)) (ascii "\n")

pub numbers_room : (at n : ℕ) (vs : List ℕ) → at + length (numbers vs) ≤ n → at + length (joined (nth vs) (length vs)) ≤ n
numbers_room at n vs h = omega (arith, numbers-length vs)

-- each number is below a bound
abbrev pub Below : ℕ → List ℕ → Type 0
Below b [] = Unit {0}
Below b (v ∷ vs) = (v < b) × Below b vs

below_at : (b : ℕ) (vs : List ℕ) → Below b vs → (k : ℕ) → k < length vs → get_or vs k 0 < b
below_at b [] h k l = absurd (omega arith)
below_at b (v ∷ vs) h zero l = h.0
below_at b (v ∷ vs) h (suc k) l = below_at b vs h.1 k (omega arith)

-- numbers of at most d + 1 digits
pub numbers-longest : (d : ℕ) (vs : List ℕ) → Below (10 ^ suc d) vs → length (numbers vs) ≤ (d + 2) * length vs + 1
numbers-longest d vs h =
    omega (
      arith,
      numbers-length vs,
      joined_longest (nth vs) (d + 2) (length vs) (λ k l. omega (arith, number-length (get_or vs k 0), decimal-length d (get_or vs k 0) (below_at (10 ^ suc d) vs h k l))),
    )

-- a bar takes as many bytes whatever its parts are
pub bar_length : (s : Losses) → length (bar s) ≡ 36
unfolding bar fraction places
bar_length s = refl
