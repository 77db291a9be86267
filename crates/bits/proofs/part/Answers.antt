-- `bits::part` meets its contract. Assumes nothing.
use Rattle.bits.proofs.Fields.{taken}
use Rattle.bits.proofs.part.Goals as goal

pub returns : goal.returns
returns c = taken c.args.n c.args.a c.args.w c.requires
