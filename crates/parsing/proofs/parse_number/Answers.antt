-- `parsing::parse_number` meets its contract: a decimal is what std reads and `report` puts again. Assumes nothing.
use Rattle.std.proofs.Common.{◌≡◌, Some, length, take, arith, sym, ap, ◌∙◌}
use Rattle.std.specs.Cmp.Lexicographic.{same_text, other_text}
use Rattle.filling.proofs.Written.{front-text}
use Rattle.report.specs.Report.{decimal}
use Rattle.parsing.proofs.Decimal.{few, front}
use Rattle.parsing.proofs.parse_number.Goals as goal

pub returns-then-text-gt20 : goal.returns-then-text-gt20
returns-then-text-gt20 c m h e = omega (arith, few m h, ap length e)

pub put_decimal-size-requires : goal.put_decimal-size-requires
put_decimal-size-requires c = omega (arith, few c.in_ok-n.n (omega arith))

pub slice_bounds-space-end : goal.slice_bounds-space-end
slice_bounds-space-end c = (front (omega arith) c.put_decimal-size.ensures).within

pub slice_bounds-eq-end : goal.slice_bounds-eq-end
slice_bounds-eq-end c = (front (omega arith) c.put_decimal-size.ensures).part

pub returns-then-eq : goal.returns-then-eq
returns-then-eq c =
    let put = front-text (front (omega arith) c.put_decimal-size.ensures) in
    let same = same_text (take c.put_decimal-size.result c.put_decimal-size.new.buf) _ (sym c.if-eq.true ∙ c.eq.ensures) in
    grind (arith, put, same)

pub returns-else-eq : goal.returns-else-eq
returns-else-eq c m h e =
    let put = front-text (front (omega arith) c.put_decimal-size.ensures) in
    let q : Some m ≡ Some c.in_ok-n.n = grind (arith, c.read.ensures.decimal m h e) in
    let same : m ≡ c.in_ok-n.n = cc in
    let text : c.args.text.now ≡ decimal c.in_ok-n.n = e ∙ ap decimal same in
    let other = other_text (take c.put_decimal-size.result c.put_decimal-size.new.buf) _ (sym c.if-eq.false ∙ c.eq.ensures) in
    grind (arith, put, text, other)
