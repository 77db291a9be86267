-- Lines for a refused log, worked out by the definitions. Assumes nothing.
use mathlib.Core.Path.{◌≡◌, refl}
use Prim.Native.Nat.{◌^◌, ◌-◌}
use lib.ListN.{length}
use Rattle.rules.specs.declared.Ground.TheVariants.{Sequence, TooWide}
use Rattle.rules.specs.declared.LogList.TheVariants.{States, Benchmarks}
use Rattle.report.specs.Text.{ascii}
use Rattle.report.specs.Report.{decimal_in, decimal, refused_at, refused_line}

pub refused-place : refused_line (record { ground = Sequence; list = States; place = 5999 }) ≡ ascii "refused 10 list 1 at 5999\n"
unfolding refused_line refused_at decimal decimal_in
refused-place = refl

-- by any three numbers of 64 bits
pub refused-longest : length (refused_at (2 ^ 64 - 1) (2 ^ 64 - 1) (2 ^ 64 - 1)) ≡ 79
unfolding refused_at decimal decimal_in
refused-longest = refl

-- by a ground and a list
pub refusal-longest : length (refused_line (record { ground = TooWide; list = Benchmarks; place = 2 ^ 64 - 1 })) ≡ 42
unfolding refused_line refused_at decimal decimal_in
refusal-longest = refl
