-- `saying::put_about` meets its contract: the name stands behind the program's. Assumes nothing.
use native.Mathlib.Omega.{arith}
use Rattle.filling.proofs.Written.{then, at_front}
use Rattle.saying.specs.Names.{about}
use Rattle.saying.proofs.Shown.{shown-length}
use Rattle.saying.proofs.put_about.Goals as goal

pub returns : goal.returns
unfolding about
returns c =
    let program = c.put_text-program.ensures in
    let name = c.put_shown.ensures in
    let both = (then) program name in
    at_front 4200 (omega (arith, both.next, program.next, name.next, shown-length c.args.name.now, c.requires)) both
