use mathlib.Core.List.{map}
use lib.ListN.{take}
use Rattle.filling.specs.Buffer.{Put}
use Rattle.saying.specs.Names.{shown_byte}
use Rattle.saying.proofs.put_shown.Given as goal

abbrev pub invariant-loop-b : goal.invariant-loop-b
invariant-loop-b l = Put (map shown_byte (take l.b-index l.name)) l.fn.buf l.at l.next l.buf
