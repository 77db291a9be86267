-- `joining::moved::put_unit` meets its contract: the bytes are those of the record's number, moved up. Assumes nothing.
use mathlib.Core.Path.{◌≡◌, sym}
use Prim.Native.Nat.{◌+◌, ◌*◌}
use native.Mathlib.Omega.{arith}
use Rattle.records.specs.Fields.{unit_from}
use Rattle.filling.proofs.Written.{read_as}
use Rattle.joining.proofs.MovedBytes.{unit-moved}
use Rattle.joining.proofs.moved.put_unit.Goals as goal

pub put_moved-requires-clause-fits : goal.put_moved-requires-clause-fits
unfolding unit_from
put_moved-requires-clause-fits c =
    let here : 8 * (c.begin.result + 11 * c.args.i) + 16 ≡ 80 + 48 * c.args.units.header.states + 80 * c.args.units.header.standards + 88 * c.args.i + 16 = omega (arith, c.begin.ensures) in
    rw here c.requires.fits

pub returns : goal.returns
returns c = read_as (sym (unit-moved c.args.units.bytes.now c.args.units.header c.args.i c.args.by c.requires.fits)) (rw c.begin.ensures at c.put_moved.ensures)
