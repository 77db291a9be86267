-- `printing::put_fraction` meets its contract: the four places stand behind the space. Assumes nothing.
use native.Mathlib.Omega.{arith}
use Rattle.filling.proofs.Written.{then}
use Rattle.report.specs.Report.{places}
use Rattle.printing.specs.Tables.{fraction}
use Rattle.printing.proofs.put_fraction.Goals as goal

pub returns : goal.returns
unfolding fraction places
returns c = record { put = (then) c.put_text-space.ensures c.put_places.ensures; size = omega (arith, c.put_text-space.ensures.next, c.put_places.ensures.next) }
