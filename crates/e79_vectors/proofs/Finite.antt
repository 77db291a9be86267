-- A finite double is no NaN, so it has one bit pattern; and an efficiency's double is finite. Assumes nothing.
use mathlib.Core.Bool.{not}
use Prim.Native.Nat.{ℕ}
use lib.Dec.{T}
use lib.Ieee.{Float, nan, inf, fin, is_nan}
use lib.Ieee.Scale.{finite}
use Rattle.std.specs.Prelude.{Option, Some, None, IfSome}
use Rattle.e79.specs.Accuracy.{NearestEfficiency}

pub no_nan : (x : Float) → T (finite x) → T (not (is_nan x))
unfolding is_nan
no_nan nan h = absurd h
no_nan (inf s) h = absurd h
no_nan (fin s m e) h = tt

pub efficiency_finite : (e : Option Float) (n d : ℕ) → NearestEfficiency e n d → IfSome e (λ x. T (finite x))
unfolding NearestEfficiency
efficiency_finite (Some x) n d h = h.1.is_finite
efficiency_finite None n d h = tt
