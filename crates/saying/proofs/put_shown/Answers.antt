-- `saying::put_shown` meets its contract: each byte is put behind those before it. Assumes nothing.
use Rattle.std.proofs.Common.{sym}
use Rattle.std.proofs.lemmas.List.{map_more}
use Rattle.filling.proofs.Written.{then, read_as, put-nothing}
use Rattle.saying.specs.Names.{shown_byte}
use Rattle.saying.proofs.put_shown.Goals as goal

pub loop-b-init : goal.loop-b-init
loop-b-init c = put-nothing _ _

pub loop-b-preserved : goal.loop-b-preserved
loop-b-preserved c =
    let l = c.loop-b in
    let e = c.shown_byte.ensures in
    read_as (rw e (sym (map_more shown_byte c.args.name.now l.b-index 0 c.loop-b-test.true))) ((then) l.invariant c.put_text-next.ensures)
