-- A number that the card does not have has no fields. Assumes nothing.
use mathlib.Core.Path.{◌≡◌, refl, sym}
use mathlib.Core.Bool.{false}
use mathlib.Core.List.{[]}
use Prim.Native.Nat.{ℕ, zero, suc, ◌+◌, ◌*◌, ◌<◌}
use native.Mathlib.Omega.{arith}
use borrow.Author.Tests.{le-leb, leb-false}
use lib.ListN.{length, get_or-eq_default}
use Rattle.report.specs.Lines.{ends}
use Rattle.card.specs.Card.{card, field, on_card, OnCard}

card-size : length card ≡ 72
unfolding card
card-size = refl

pub past-card : (n j : ℕ) → 23 < n → field n j ≡ []
unfolding field
past-card n j h = get_or-eq_default card [] {n = 3 * n + j} (omega (arith, card-size))

no_number : OnCard 0 [] [] []
unfolding card field ends
no_number =
    record {
      its_word = refl;
      its_meaning = refl;
      its_look_for = refl;
      short_word = omega arith;
      short_meaning = omega arith;
      short_look_for = omega arith;
      one_line_word = refl;
      one_line_meaning = refl;
      one_line_look_for = refl;
    }

pub off-card : (n : ℕ) → on_card n ≡ false → OnCard n [] [] []
unfolding ends
off-card zero h = no_number
off-card (suc n) h =
    let past : 23 < suc n = leb-false (suc n) 23 (rw (le-leb 1 (suc n) (omega arith)) at h) in
    record {
      its_word = sym (past-card (suc n) 0 past);
      its_meaning = sym (past-card (suc n) 1 past);
      its_look_for = sym (past-card (suc n) 2 past);
      short_word = omega arith;
      short_meaning = omega arith;
      short_look_for = omega arith;
      one_line_word = refl;
      one_line_meaning = refl;
      one_line_look_for = refl;
    }
