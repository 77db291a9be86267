-- `tool_log_c::tl_supplemental` meets its contract: what `tool_supplemental` answers is told as it stands.
-- Assumes nothing.
use Rattle.supplemental.specs.Supplemental.{supplementals_of}
use Rattle.tool_log_c.proofs.Handing.{numbers_told}
use Rattle.tool_log_c.proofs.tl_supplemental.Goals as goal

pub returns : goal.returns
returns c = numbers_told c.tool_supplemental.ensures supplementals_of _ _ c.tell_numbers.ensures.told c.tell_numbers.ensures.numbers
