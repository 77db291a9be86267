-- `tool_log_c::tl_credited_units` meets its contract: what `credited_units` answers is told as it stands.
-- Assumes nothing.
use mathlib.Core.List.{List}
use Prim.Native.Nat.{ℕ}
use Rattle.tool_log_c.proofs.Handing.{numbers_told}
use Rattle.tool_log_c.proofs.tl_credited_units.Goals as goal

pub returns : goal.returns
returns c = numbers_told c.credited_units.ensures (λ (units : List ℕ). units) _ _ c.tell_numbers.ensures.told c.tell_numbers.ensures.numbers
