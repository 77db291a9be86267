-- `joining::moved::put_standard` meets its contract: the bytes are those of the record's number, moved up. Assumes nothing.
use mathlib.Core.Path.{◌≡◌, sym}
use Prim.Native.Nat.{◌+◌, ◌*◌}
use native.Mathlib.Omega.{arith}
use Rattle.records.specs.Fields.{standard_from}
use Rattle.filling.proofs.Written.{read_as}
use Rattle.joining.proofs.MovedBytes.{standard-moved}
use Rattle.joining.proofs.moved.put_standard.Goals as goal

pub put_moved-requires-clause-fits : goal.put_moved-requires-clause-fits
unfolding standard_from
put_moved-requires-clause-fits c =
    let here : 8 * (10 + 6 * c.args.standards.header.states + 10 * c.args.i) + 16 ≡ 80 + 48 * c.args.standards.header.states + 80 * c.args.i + 16 = omega (arith) in
    rw here c.requires.fits

pub returns : goal.returns
returns c = read_as (sym (standard-moved c.args.standards.bytes.now c.args.standards.header c.args.i c.args.by c.requires.fits)) c.put_moved.ensures
