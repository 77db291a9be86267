-- `packing::closing::copy_down` meets its contract: word by word, and then what is left. Assumes nothing.
use mathlib.Core.Path.{◌≡◌, ap, ◌∙◌}
use Prim.Native.Nat.{ℕ, ◌*◌, ◌%◌, ◌/◌}
use native.Mathlib.Omega.{arith}
use Rattle.packing.proofs.Words.{copied_so_far, copied_none, word_more, rest_more}
use Rattle.packing.proofs.closing.copy_down.Goals as goal

pub loop-k-init : goal.loop-k-init
loop-k-init c = copied_none c.args.buf.now c.args.from c.args.n c.args.to c.requires

pub loop-k-preserved : goal.loop-k-preserved
loop-k-preserved c = word_more c.args.buf.now c.args.from c.args.n c.args.to c.requires c.loop-k.k (omega arith) c.loop-k.buf c.loop-k.invariant _ _ _ c.read_word-word.ensures c.put_number.ensures

pub returns : goal.returns
returns c =
    let all : c.loop-k.k ≡ c.args.n / 8 = omega (arith, c.loop-k.auto.k-end, c.loop-k-test.false) in
    rest_more c.args.buf.now c.args.from c.args.n c.args.to c.requires (c.args.n / 8) (c.args.n % 8) (omega arith) (omega arith) c.loop-k.buf (c.loop-k.invariant ∙ ap (λ (k : ℕ). copied_so_far c.args.buf.now c.args.from c.args.to (8 * k)) all) _ _ _ c.read_word-rest.ensures c.put_number-2.ensures
