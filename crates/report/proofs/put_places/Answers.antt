-- `report::put_places` meets its contract: the array holds the digits and the point in their sequence. Assumes nothing.
use mathlib.Core.Path.{◌≡◌}
use mathlib.Core.List.{[], ◌∷◌}
use Prim.Native.Nat.{ℕ, ◌/◌}
use Rattle.report.specs.Report.{digit, places}
use Rattle.filling.proofs.Written.{read_as}
use Rattle.report.proofs.put_places.Goals as goal

-- the text, from what is known of its digits
text-is : (p : ℕ) {a b c d e : ℕ} → a ≡ digit (p / 10000) → b ≡ digit (p / 1000) → c ≡ digit (p / 100) → d ≡ digit (p / 10) → e ≡ digit p → a ∷ 46 ∷ b ∷ c ∷ d ∷ e ∷ [] ≡ places p
unfolding places
text-is p i j k l m = rw (i, j, k, l, m)

pub returns : goal.returns
returns c = read_as
    (text-is c.args.figure c.digit.ensures c.digit-2.ensures c.digit-3.ensures c.digit-4.ensures c.digit-5.ensures)
    c.put_text.ensures
