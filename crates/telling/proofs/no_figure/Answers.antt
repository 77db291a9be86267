-- `telling::no_figure` meets its contract: IEEE 754 divides zero by zero to NaN.
-- Assumes nothing.
use mathlib.Core.Path.{refl}
use lib.Ieee.{of_bits, div}
use Rattle.telling.proofs.no_figure.Goals as goal

pub returns : goal.returns
unfolding of_bits div
returns c = refl
