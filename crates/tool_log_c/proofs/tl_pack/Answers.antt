-- `tool_log_c::tl_pack` meets its contract. Assumes nothing.
use Rattle.tool_log_c.proofs.Handing.{pack_told}
use Rattle.tool_log_c.proofs.tl_pack.Goals as goal

pub returns : goal.returns
returns c = pack_told c.pack_log.ensures c.args.length.now c.tell_position.new.next c.tell_position.ensures.told c.tell_position.ensures.next
