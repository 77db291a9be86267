-- Losses that add up: the five parts of total time in whole ten-thousandths that make 10,000, and lie as near to the exact shares as such numbers can.
-- Definitions only.
use Rattle.std.specs.Prelude.{◌≡◌, List, [], ◌∷◌, ℕ, ◌+◌, ◌-◌, ◌*◌, ◌/◌, ◌%◌, ◌≤◌, Bool, ◌&&◌, ◌||◌, cond, get_or, ltb, eqb}
use Rattle.e79.specs.declared.Quantities.{Quantities}
use Rattle.e79.specs.Accuracy.{gap}
use Rattle.rules.specs.Quantities.{sum_below}
use Rattle.rules.specs.Time.{count}
use Rattle.losses.specs.declared.Losses.{Losses}

-- ---- the parts 0, 1, .. , n - 1 of a total, in ten-thousandths of it

-- 10,000 times a part over the total: the quotient rounded down, and what is left
abbrev pub quotient : (ℕ → ℕ) → ℕ → ℕ → ℕ
quotient part total i = 10000 * part i / total

abbrev pub remainder : (ℕ → ℕ) → ℕ → ℕ → ℕ
remainder part total i = 10000 * part i % total

-- the ten-thousandths that the quotients leave missing
unfoldable pub missing : (ℕ → ℕ) → ℕ → ℕ → ℕ
unfolding sum_below
missing part total n = 10000 - sum_below (quotient part total) n

-- part j is ahead of part i: its remainder is larger, or they tie and it is the earlier part
unfoldable pub ahead_of : (ℕ → ℕ) → ℕ → ℕ → Bool
ahead_of rest i j = ltb (rest i) (rest j) || (eqb (rest i) (rest j) && ltb j i)

-- of k that go one each to the largest of n remainders, part i gets one where fewer than k parts are ahead of it
unfoldable pub served : (ℕ → ℕ) → ℕ → ℕ → ℕ → Bool
unfolding ahead_of count
served rest n k i = ltb (count (ahead_of rest i) n) k

-- a share: the quotient rounded down, and one of the missing where the part gets one
unfoldable pub share : (ℕ → ℕ) → ℕ → ℕ → ℕ → ℕ
unfolding missing served
share part total n i = quotient part total i + cond (served (remainder part total) n (missing part total n) i) 1 0

-- ---- the five parts of total time

-- what is lost to availability, operation, rate and quality, and what is effective
abbrev pub parts_of : Quantities → List ℕ
parts_of q = (q.total - q.uptime) ∷ (q.uptime - q.production) ∷ (q.production - q.actual) ∷ (q.actual - q.effective) ∷ q.effective ∷ []

-- the i-th of the five, from 0
abbrev pub part_of : Quantities → ℕ → ℕ
part_of q i = get_or (parts_of q) i 0

-- of each of the five its share of total time
unfoldable pub losses_of : Quantities → Losses
unfolding share
losses_of q =
    let share_of = share (part_of q) q.total 5 in
    record {
      availability = share_of 0;
      operational = share_of 1;
      rate = share_of 2;
      quality = share_of 3;
      oee = share_of 4;
    }

-- as a list, in the sequence in which they are handed out and printed
abbrev pub shares_of : Losses → List ℕ
shares_of s = s.availability ∷ s.operational ∷ s.rate ∷ s.quality ∷ s.oee ∷ []

-- ---- what is promised of them

-- the five together
abbrev pub together : Losses → ℕ
together s = s.availability + s.operational + s.rate + s.quality + s.oee

-- the summed distance of five whole numbers from the exact shares, times total time: of each, |number - 10,000 part / total| * total
abbrev pub distance : Quantities → Losses → ℕ
distance q s =
    gap (s.availability * q.total) (10000 * part_of q 0)
    + gap (s.operational * q.total) (10000 * part_of q 1)
    + gap (s.rate * q.total) (10000 * part_of q 2)
    + gap (s.quality * q.total) (10000 * part_of q 3)
    + gap (s.oee * q.total) (10000 * part_of q 4)

-- the five make 10,000, and no other five whole numbers that make 10,000 lie nearer
pub record AddsUp (q : Quantities) (s : Losses) : Type 0 where
  pub whole : together s ≡ 10000
  pub nearest : (other : Losses) → together other ≡ 10000 → distance q s ≤ distance q other
