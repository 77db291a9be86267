-- `toollog::complains`: what the step puts is within the array. Assumes nothing.
use Rattle.std.proofs.Common.{arith}
use Rattle.toollog.proofs.complains.Goals as goal

pub slice_bounds-space-end : goal.slice_bounds-space-end
slice_bounds-space-end g c = omega (arith, c.requires.within _ _ _ c.put-size.ensures, c.put-size.array_long)
