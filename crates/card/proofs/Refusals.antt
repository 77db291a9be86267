-- Every refusal is on the card, with a word, a meaning and what to look for. Assumes nothing.
use mathlib.Core.Path.{◌≡◌, refl}
use mathlib.Core.Bool.{Bool, true, false, ◌&&◌, ◌||◌}
use mathlib.Core.List.{List, [], ◌∷◌}
use Prim.Native.Nat.{ℕ}
use borrow.Author.Tests.{eqb-true}
use lib.Dec.{T, ltb, eqb}
use lib.ListN.{length}
use Rattle.rules.specs.declared.Refusal.{Refusal}
use Rattle.rules.specs.Refusals.{Row, is_row, Known, log_refusals, call_refusals, benchmark_refusals, join_refusals}
use Rattle.rules.specs.Names.{number_of, list_number}
use Rattle.card.specs.Card.{card, field, word, meaning, look_for, on_card}

-- the card has the number, and says something of it in each field
unfoldable pub worded : ℕ → Bool
unfolding field
worded n = on_card n && (ltb 0 (length (word n)) && (ltb 0 (length (meaning n)) && ltb 0 (length (look_for n))))

both : (b c : Bool) → T (b && c) → T b × T c
both true c h = (tt, h)
both false c h = absurd h

all_worded : List Row → Bool
all_worded [] = true
all_worded (r ∷ rs) = worded r.number && all_worded rs

row-worded : (rows : List Row) (n l : ℕ) → T (all_worded rows) → T (is_row rows n l) → T (worded n)
unfolding all_worded
row-worded [] n l h k = absurd k
row-worded (r ∷ rs) n l h k = go (eqb n r.number) refl k (λ j. row-worded rs n l (both (worded r.number) (all_worded rs) h).1 j)
  where
    go : (b : Bool) → eqb n r.number ≡ b → T ((b && eqb l r.list) || is_row rs n l) → (T (is_row rs n l) → T (worded n)) → T (worded n)
    go true e k more = rw (eqb-true n r.number e) (both (worded r.number) (all_worded rs) h).0
    go false e k more = more k

pub refusals-worded : (x : Refusal) → Known log_refusals x → T (worded (number_of x.ground))
unfolding all_worded worded field card
refusals-worded x k = row-worded log_refusals (number_of x.ground) (list_number x.list) tt k

pub call_refusals-worded : (x : Refusal) → Known call_refusals x → T (worded (number_of x.ground))
unfolding all_worded worded field card
call_refusals-worded x k = row-worded call_refusals (number_of x.ground) (list_number x.list) tt k

pub benchmark_refusals-worded : (x : Refusal) → Known benchmark_refusals x → T (worded (number_of x.ground))
unfolding all_worded worded field card
benchmark_refusals-worded x k = row-worded benchmark_refusals (number_of x.ground) (list_number x.list) tt k

pub join_refusals-worded : (x : Refusal) → Known join_refusals x → T (worded (number_of x.ground))
unfolding all_worded worded field card
join_refusals-worded x k = row-worded join_refusals (number_of x.ground) (list_number x.list) tt k
