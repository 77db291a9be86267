-- A refusal's numbers say what it says, and numbers that are no ground or no list say what is left. Assumes nothing.
use mathlib.Core.Path.{◌≡◌, refl, sym, ◌∙◌}
use mathlib.Core.Bool.{Bool, true, false, cond}
use mathlib.Core.List.{[]}
use Prim.Native.Nat.{ℕ}
use borrow.Author.Tests.{ne_eqb}
use Rattle.std.proofs.Common.{true≢false}
use Rattle.std.specs.Prelude.{Option, Some, None, MatchOption}
use Rattle.std.specs.Option.{unwrap_or}
use lib.Dec.{eqb}
use Rattle.rules.specs.declared.Ground.{Ground}
use Rattle.rules.specs.declared.Ground.TheVariants.{NoHeader, StrayModule, NoOpening, TooFast, TooWide}
use Rattle.rules.specs.declared.LogList.{LogList}
use Rattle.rules.specs.declared.LogList.TheVariants.{NoList, States, Standards, Units, Benchmarks, Second, SecondStates, SecondStandards, SecondUnits}
use Rattle.rules.specs.declared.Refusal.{Refusal}
use Rattle.rules.specs.Names.{number_of, list_number}
use Rattle.report.specs.Text.{ascii}
use Rattle.card.specs.Card.{on_card, is_list, is_module, place_of, words_of, whereabouts_at, words_at}

pub place-numbered : (l : LogList) (g : Ground) (p : ℕ) → place_of g l p ≡ whereabouts_at (number_of g) (list_number l) p
unfolding whereabouts_at
place-numbered NoList NoHeader p = refl
place-numbered NoList g p = refl
place-numbered States NoHeader p = refl
place-numbered States g p = refl
place-numbered Standards NoHeader p = refl
place-numbered Standards g p = refl
place-numbered Units NoHeader p = refl
place-numbered Units g p = refl
place-numbered Benchmarks NoHeader p = refl
place-numbered Benchmarks g p = refl
place-numbered Second NoHeader p = refl
place-numbered Second g p = refl
place-numbered SecondStates NoHeader p = refl
place-numbered SecondStates g p = refl
place-numbered SecondStandards NoHeader p = refl
place-numbered SecondStandards g p = refl
place-numbered SecondUnits NoHeader p = refl
place-numbered SecondUnits g p = refl

pub words-numbered : (x : Refusal) → words_of x ≡ words_at (number_of x.ground) (list_number x.list) x.place
unfolding words_of words_at
words-numbered x = rw (place-numbered x.list x.ground x.place)

-- what a test refuses is nothing that it takes
refused : (test : ℕ → Bool) (n k : ℕ) → test n ≡ false → test k ≡ true → eqb n k ≡ false
refused test n k h t = ne_eqb n k (λ e. true≢false (sym t ∙ (rw e at h)))

-- a number that is no ground
no_ground : (n l p : ℕ) → on_card n ≡ false → whereabouts_at 1 l p ≡ whereabouts_at n l p
unfolding whereabouts_at
no_ground n l p h =
    rw (refused on_card n 22 h refl, refused on_card n 5 h refl, refused on_card n 7 h refl, refused on_card n 11 h refl, refused on_card n 16 h refl)

-- the ground of a number, or the first where there is none
pub same-ground : (n : ℕ) (o : Option Ground) (g : Ground) → MatchOption o (on_card n ≡ false) (λ h. number_of h ≡ n) → g ≡ unwrap_or o NoHeader → (l p : ℕ) → whereabouts_at (number_of g) l p ≡ whereabouts_at n l p
same-ground n (Some h) g m e l p = rw (e, m)
same-ground n None g m e l p = rw e (no_ground n l p m)

-- a list that is none
header-alone : (n l p : ℕ) → is_list l ≡ false → whereabouts_at n l p ≡ cond (eqb n 22) (ascii " (a header)") []
unfolding whereabouts_at
header-alone n l p h =
    rw (
      refused is_list l 1 h refl,
      refused is_list l 2 h refl,
      refused is_list l 3 h refl,
      refused is_list l 4 h refl,
      refused is_list l 11 h refl,
      refused is_list l 12 h refl,
      refused is_list l 13 h refl,
      refused is_list l 0 h refl,
      refused is_list l 10 h refl,
    )

left : (g : Ground) (p : ℕ) → is_module g ≡ false → place_of g NoList p ≡ cond (eqb (number_of g) 22) (ascii " (a header)") []
left StrayModule p m = absurd (true≢false m)
left NoOpening p m = absurd (true≢false m)
left TooFast p m = absurd (true≢false m)
left g p m = refl

left-module : (g : Ground) → is_module g ≡ true → [] ≡ cond (eqb (number_of g) 22) (ascii " (a header)") []
left-module TooWide m = absurd (true≢false (sym m))
left-module g m = refl

pub no_list : (g : Ground) (l p : ℕ) → is_list l ≡ false → is_module g ≡ false → place_of g NoList p ≡ whereabouts_at (number_of g) l p
no_list g l p h m = left g p m ∙ sym (header-alone (number_of g) l p h)

pub no_list-module : (g : Ground) (l p : ℕ) → is_list l ≡ false → is_module g ≡ true → place_of NoHeader NoList p ≡ whereabouts_at (number_of g) l p
no_list-module g l p h m = left-module g m ∙ sym (header-alone (number_of g) l p h)
