-- `writing::put` meets its contract: the fields passed are laid side by side, and each fits. Assumes nothing.
use mathlib.Core.Path.{◌≡◌, sym, ◌∙◌}
use Prim.Native.Nat.{◌+◌, ◌*◌, ◌/◌, ◌^◌, ◌<◌}
use native.Mathlib.Omega.{arith}
use Rattle.std.specs.declared.result.Result.TheVariants.{Err}
use Rattle.rules.specs.declared.Ground.TheVariants.{TooWide}
use Rattle.filling.proofs.Numbers.{number-length}
use Rattle.filling.proofs.Written.{then, put-length}
use Rattle.writing.specs.Storing.{slots_of}
use Rattle.writing.specs.Writing.{Entry}
use Rattle.writing.proofs.Bytes.{record-bytes}
use Rattle.writing.proofs.Laying.{bits-total, laid-none, laid-next, laid-end, laid-all, all-fit, laid-small, first-small, second-same, wide-field, more-small, kept-whole, at-most, laid-more, too-wide, fits-field}
use Rattle.writing.proofs.Adding.{not_added, no_place, enough, added}
use Rattle.writing.proofs.put.Goals as goal

pub loop-f-init : goal.loop-f-init
loop-f-init c = laid-none _ _ (sym (bits-total c.args.fields.now) ∙ c.requires.3)

pub returns-in_err-refuses : goal.returns-in_err-refuses
returns-in_err-refuses c =
    let next = laid-next _ _ _ c.args.fields.now c.loop-f.f-index c.loop-f-test.true c.loop-f.invariant in
    let err : c.from_residual.result ≡ Err c.in_err-refuses.field-0.0 = grind arith in
    rw err (not_added (record { list = c.args.list; size = c.args.m + c.args.n; slots = slots_of c.args.fields.now }) _ _ _ _ (λ t. wide-field _ _ _ _ _ _ next (sym (too-wide _ _) ∙ t)) (sym c.refuses.ensures ∙ c.in_err-refuses.was))

pub overflow_add-all : goal.overflow_add-all
overflow_add-all c =
    let next = laid-next _ _ _ c.args.fields.now c.loop-f.f-index c.loop-f-test.true c.loop-f.invariant in
    let fit = fits-field TooWide c.args.list _ _ _ c.refuses.ensures c.in_ok-refuses.was in
    let small = more-small _ _ _ _ _ _ next fit in
    rw (kept-whole _ _ _ _ _ _ next fit (omega arith)) (record { fits = at-most _ 128 _ (omega arith) small })

pub loop-f-preserved : goal.loop-f-preserved
loop-f-preserved c =
    let next = laid-next _ _ _ c.args.fields.now c.loop-f.f-index c.loop-f-test.true c.loop-f.invariant in
    let fit = fits-field TooWide c.args.list _ _ _ c.refuses.ensures c.in_ok-refuses.was in
    rw (kept-whole _ _ _ _ _ _ next fit (omega arith)) (laid-more _ _ _ _ _ _ next fit)

pub returns-in_err-refuses-2 : goal.returns-in_err-refuses-2
returns-in_err-refuses-2 c =
    let laid = laid-end _ _ _ c.args.fields.now c.loop-f.f-index c.loop-f-test.false c.loop-f.invariant in
    let err : c.from_residual-in_err-refuses-2.result ≡ Err c.in_err-refuses-2.field-0.0 = grind arith in
    let some : 0 < c.args.m + c.args.n = omega arith in
    let room = rw c.saturating_sub.ensures at c.refuses-2.ensures in
    rw err (no_place (record { list = c.args.list; size = c.args.m + c.args.n; slots = slots_of c.args.fields.now }) _ _ _ some (all-fit _ _ _ laid) (sym room ∙ c.in_err-refuses-2.was))

pub overflow_cast-first-2 : goal.overflow_cast-first-2
overflow_cast-first-2 c =
    let laid = laid-end _ _ _ c.args.fields.now c.loop-f.f-index c.loop-f-test.false c.loop-f.invariant in
    let small = first-small c.loop-f.all c.args.m c.args.n (laid-small _ _ _ laid) in
    record { fits = at-most _ 64 _ (omega arith) small }

pub put_number-requires : goal.put_number-requires
put_number-requires c =
    let some : 0 < c.args.m + c.args.n = omega arith in
    let room = rw c.saturating_sub.ensures at c.refuses-2.ensures in
    let enough = enough (record { list = c.args.list; size = c.args.m + c.args.n; slots = slots_of c.args.fields.now }) c.args.buf.now c.args.at some (sym room ∙ c.in_ok-refuses-2.was) in
    let first = number-length c.args.m (c.loop-f.all / 2 ^ (8 * c.args.n)) in
    let same = put-length c.put_number-middle.ensures (omega (arith, first, enough)) in
    (omega (arith, same, first, c.put_number-middle.ensures.next, enough), omega arith)

pub returns : goal.returns
returns c =
    let laid = laid-end _ _ _ c.args.fields.now c.loop-f.f-index c.loop-f-test.false c.loop-f.invariant in
    let e : Entry = record { list = c.args.list; size = c.args.m + c.args.n; slots = slots_of c.args.fields.now } in
    let fit = all-fit _ _ _ laid in
    let some : 0 < c.args.m + c.args.n = omega arith in
    let room = rw c.saturating_sub.ensures at c.refuses-2.ensures in
    let all = laid-all _ _ _ laid in
    let bytes = record-bytes c.args.m c.args.n e.slots _ _ fit (sym (bits-total c.args.fields.now) ∙ c.requires.3) (rw all) (rw all (second-same c.loop-f.all c.args.n (omega arith))) in
    added e c.args.buf.now c.args.at _ _ _ fit (enough e c.args.buf.now c.args.at some (sym room ∙ c.in_ok-refuses-2.was)) bytes ((then) c.put_number-middle.ensures c.put_number.ensures)
