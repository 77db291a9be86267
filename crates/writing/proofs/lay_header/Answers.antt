-- `writing::lay_header` meets its contract: the five fields side by side are seven bytes and three. Assumes nothing.
use mathlib.Core.Path.{refl, sym}
use Prim.Native.Nat.{◌+◌, ◌*◌}
use native.Mathlib.Omega.{arith}
use Rattle.filling.proofs.Numbers.{number-length}
use Rattle.filling.proofs.Written.{then, read_as}
use Rattle.records.specs.Encode.{header_slots}
use Rattle.writing.proofs.Bytes.{record-bytes}
use Rattle.writing.proofs.lay_header.Goals as goal

pub put_number-requires : goal.put_number-requires
put_number-requires c = let next = rw number-length at c.put_number-middle.ensures.next in (omega (arith, next), omega arith)

pub returns-clause-put : goal.returns-clause-put
returns-clause-put c =
    let h = c.args.h in
    let f = c.requires.fits in
    let bytes = record-bytes 7 3 (header_slots h) ((h.period * 128 + h.modules) * 16384 + h.states) (h.standards * 8192 + h.units) f refl (omega (arith, f.1.1.1.0, f.1.1.1.1.0)) (omega (arith, f.1.1.1.0, f.1.1.1.1.0)) in
    read_as (sym bytes) ((then) c.put_number-middle.ensures c.put_number.ensures)

pub returns-clause-place : goal.returns-clause-place
returns-clause-place c =
    let first = rw number-length at c.put_number-middle.ensures.next in
    let second = rw number-length at c.put_number.ensures.next in
    omega (arith, first, second)
