-- A double that equals itself is no NaN, and every other one is. Assumes nothing.
use Rattle.std.proofs.Common.{◌≡◌, ◌*◌, true, false, sym, refl, ◌∙◌, true≢false, eq-eqb}
use lib.Ieee.{Float, nan, inf, fin, up, down, binary64, eq, to_bits}
use Rattle.cases.proofs.numbers.of_double.Goals as goal

unequal : (x : Float) → eq x x ≡ false → 9221120237041090560 ≡ to_bits binary64 x
unfolding eq to_bits
unequal nan h = refl
unequal (inf true) h = absurd (true≢false h)
unequal (inf false) h = absurd (true≢false h)
unequal (fin true m e) h = absurd (true≢false (sym (rw (eq-eqb (m * up e * down e) (m * up e * down e) refl)) ∙ h))
unequal (fin false m e) h = absurd (true≢false (sym (rw (eq-eqb (m * up e * down e) (m * up e * down e) refl)) ∙ h))

pub returns-else-x : goal.returns-else-x
returns-else-x c = unequal _ c.if-x.false
