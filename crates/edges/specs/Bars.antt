-- Bars by hand: who gets the missing ten-thousandths. Definitions only.
use Rattle.std.specs.Prelude.{◌≡◌, ℕ, Some}
use Rattle.e79.specs.declared.Quantities.{Quantities}
use Rattle.e79.specs.Printed.{printed_of}
use Rattle.losses.specs.declared.Losses.{Losses}
use Rattle.losses.specs.Losses.{losses_of}

abbrev pub of_five : ℕ → ℕ → ℕ → ℕ → ℕ → Quantities
of_five total up made actual effective = record { total = total; uptime = up; production = made; actual = actual; effective = effective }

abbrev pub shares : ℕ → ℕ → ℕ → ℕ → ℕ → Losses
shares a o r q e = record { availability = a; operational = o; rate = r; quality = q; oee = e }

pub record Bars : Type 0 where
  -- fifths: none is missing
  pub none_missing : losses_of (of_five 5 4 3 2 1) ≡ shares 2000 2000 2000 2000 2000
  -- thirds tie at a remainder of 1, and one is missing: the earliest gets it, wherever it stands
  pub earliest_of_three : losses_of (of_five 3 2 1 0 0) ≡ shares 3334 3333 3333 0 0
  pub earliest_behind : losses_of (of_five 3 3 3 2 1) ≡ shares 0 0 3334 3333 3333
  -- 4, 4, 4, 2 and 4 of 6 are left, and three are missing: the last of the four that tie goes without
  pub three_of_four : losses_of (of_five 6 5 4 3 1) ≡ shares 1667 1667 1667 3333 1666
  -- 59, 59, 58, 58 and 58 of 73 are left, and four are missing: the last of the three that tie goes without, so OEE is 0.2054 here and 0.2055 in the report
  pub four_missing : losses_of (of_five 73 59 45 30 15) ≡ shares 1918 1918 2055 2055 2054
  pub four_missing_report : printed_of 15 73 ≡ Some 2055
  -- one part is the whole
  pub all_nonscheduled : losses_of (of_five 9 0 0 0 0) ≡ shares 10000 0 0 0 0
  pub all_effective : losses_of (of_five 9 9 9 9 9) ≡ shares 0 0 0 0 10000
