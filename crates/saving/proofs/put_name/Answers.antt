-- `saving::put_name` meets its contract: the path, as far as it fits, and the ending behind it. Assumes nothing.
use Rattle.std.proofs.Common.{◌≡◌, ◌++◌, length, take, arith, ap, rules, length-append}
use Prim.Native.Nat.{min}
use native.Mathlib.Nat.{min_comm}
use Rattle.std.proofs.lemmas.List.{take_min, length-take}
use Rattle.report.specs.Text.{ascii}
use Rattle.filling.proofs.Written.{then, read_as, at_front}
use Rattle.saving.specs.Names.{new_name}
use Rattle.saving.proofs.put_name.Goals as goal

pub returns : goal.returns
unfolding new_name
returns c =
    let path = c.args.path.now in
    let n : c.min.result ≡ min (length path) 4196 = search rules in
    let cut : take c.min.result path ≡ take 4196 path = rw (n, min_comm (length path) 4196) (take_min 4196 path) in
    let all = (then) c.put_text-n.ensures c.put_text.ensures in
    at_front 4200 (omega (arith, length-append (take 4196 path) (ascii ".new"), length-take 4196 path)) (read_as (ap (λ s. s ++ ascii ".new") cut) all)
