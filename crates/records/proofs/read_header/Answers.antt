-- `records::read_header` meets its contract: its first 56 bits and its last 24 are read, and each field is cut out of them.
-- Assumes nothing.
use mathlib.Core.Path.{◌≡◌}
use Rattle.bits.specs.Bits.{field}
use Rattle.bits.proofs.Fields.{cut, tail}
use Rattle.records.specs.Fields.{header_from}
use Rattle.records.proofs.read_header.Goals as goal

pub returns : goal.returns
unfolding header_from
returns c =
    let s = c.args.log.now in
    let first : c.read_pair-first.result.0 ≡ field s 0 56 = c.read_pair-first.ensures.0 in
    let second : c.read_pair-first.result.1 ≡ field s 56 24 = c.read_pair-first.ensures.1 in
    rw (
      first,
      second,
      cut s 0 0 35 21,
      cut s 0 35 7 14,
      tail s 0 42 14,
      cut s 56 0 11 13,
      tail s 56 11 13,
    )
