-- `tool_log_c::tl_join` meets its contract. Assumes nothing.
use Rattle.tool_log_c.proofs.Handing.{front_told}
use Rattle.tool_log_c.proofs.tl_join.Goals as goal

pub returns : goal.returns
returns c = front_told c.join_logs.ensures c.args.length.now c.tell_position.new.next c.tell_position.ensures.told c.tell_position.ensures.next
