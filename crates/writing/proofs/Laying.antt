-- Fields put one behind the other into a number: after each, the number is that of the fields so far, and what is left says whether one is too wide.
-- Assumes nothing.
use mathlib.Core.Path.{◌≡◌, refl, sym, ap, ◌∙◌, subst}
use mathlib.Core.Bool.{false, true}
use mathlib.Core.List.{List, [], ◌∷◌}
use Prim.Native.Nat.{ℕ, zero, suc, ◌+◌, ◌-◌, ◌*◌, ◌/◌, ◌%◌, ◌^◌, ◌≤◌, ◌<◌}
use native.Mathlib.Nat.{div-eq_of_lt, lt-mul-div-succ, mod-eq_of_lt}
use native.Mathlib.Decide.{dec_lt}
use native.Mathlib.Omega.{arith}
use lib.Arith.{digits_lt}
use lib.Dec.{leb, ltb}
use lib.ListN.{length, drop, get_or}
use lib.Pow.{pow-add, pow_mono, shr_lt, mod-mod-pow}
use Rattle.std.proofs.Math.ListN.{drop_of_length-le}
use borrow.Author.Tests.{le-leb, lt-leb, lt-ltb, leb-false}
use Rattle.std.proofs.lemmas.List.{at_drop_more}
use Rattle.std.proofs.lemmas.Nat.{pow_pos}
use Rattle.bits.specs.Put.{Slot, Fit}
use Rattle.bits.proofs.Puts.{total}
use Rattle.std.specs.declared.result.Result.TheVariants.{Ok}
use Rattle.rules.specs.declared.Ground.{Ground}
use Rattle.rules.specs.declared.LogList.{LogList}
use Rattle.rules.specs.Grounds.{Verdict, ground}
use Rattle.rules.proofs.FirstGround.{not-met}
use Rattle.writing.specs.declared.Field.{Field}
use Rattle.writing.specs.Storing.{slots_of, bits_of}
use Rattle.writing.specs.Writing.{any_too_wide}
use Rattle.writing.proofs.Bytes.{value_of}
use Rattle.writing.proofs.Fitting.{fits}

-- n bits: `all` is the number of the fields ahead of `rest`
pub record Laid (fs : List Slot) (n all : ℕ) (rest : List Slot) : Type 0 where
  pub before : ℕ
  pub bits : before + total rest ≡ n
  pub small : all < 2 ^ before
  pub value : value_of fs ≡ all * 2 ^ total rest + value_of rest
  pub wide : any_too_wide fs ≡ any_too_wide rest

pub bits-total : (fs : List Field) → bits_of fs ≡ total (slots_of fs)
bits-total [] = refl
bits-total (f ∷ fs) = ap (λ (n : ℕ). f.width + n) (bits-total fs)

-- the first field left
pub laid-next : (slots : List Slot) (n all : ℕ) (fs : List Field) (i : ℕ) → i < length fs → Laid slots n all (slots_of (drop i fs))
    → (let f = get_or fs i (record { value = 0; width = 0 }) in Laid slots n all (record { width = f.width; value = f.value } ∷ slots_of (drop (i + 1) fs)))
laid-next slots n all fs i h l = subst (Laid slots n all) (at_drop_more slots_of fs i (record { value = 0; width = 0 }) h) l

-- none is left
pub laid-end : (slots : List Slot) (n all : ℕ) (fs : List Field) (i : ℕ) → length fs ≤ i → Laid slots n all (slots_of (drop i fs)) → Laid slots n all []
laid-end slots n all fs i h l = subst (λ (gs : List Field). Laid slots n all (slots_of gs)) (drop_of_length-le fs h) l

positive : (v p q : ℕ) → p ≤ v → v < p * (q + 1) → 0 < q
positive v p zero h l = absurd (omega arith)
positive v p (suc q) h l = omega arith

pub too-wide : (v w : ℕ) → ltb 0 (v / 2 ^ w) ≡ leb (2 ^ w) v
too-wide v w =
    elim (dec_lt v (2 ^ w)) [
      | yes h ↦ rw (div-eq_of_lt h, lt-leb (2 ^ w) v h)
      | no h ↦ let l : 2 ^ w ≤ v = omega arith in rw (lt-ltb 0 (v / 2 ^ w) (positive v (2 ^ w) (v / 2 ^ w) l (lt-mul-div-succ v (pow_pos w))), le-leb (2 ^ w) v l)
    ]

regroup : (a p r v x : ℕ) → a * (p * r) + (v * r + x) ≡ (a * p + v) * r + x
regroup a p r v x = omega arith

pub at-most : (n m x : ℕ) → n ≤ m → x < 2 ^ n → x < 2 ^ m
at-most n m x h l = let p : 2 ^ n ≤ 2 ^ m = pow_mono h in omega arith

-- what the test of a field says
pub fits-field : (g : Ground) (list : LogList) (v w : ℕ) (r : Verdict) → r ≡ ground g list 0 (ltb 0 (v / 2 ^ w)) → r ≡ Ok tt → leb (2 ^ w) v ≡ false
fits-field g list v w r e a = sym (too-wide v w) ∙ not-met g list 0 (ltb 0 (v / 2 ^ w)) (sym e ∙ a)

module _ (fs : List Slot) (n : ℕ) where
  pub laid-none : total fs ≡ n → Laid fs n 0 fs
  laid-none e = record { before = 0; bits = omega arith; small = omega arith; value = omega arith; wide = refl }

  module _ (all w v : ℕ) (rest : List Slot) (l : Laid fs n all (record { width = w; value = v } ∷ rest)) where
    pub narrow : w ≤ n
    narrow = omega (arith, l.bits)

    -- the next field is too wide
    pub wide-field : leb (2 ^ w) v ≡ true → any_too_wide fs ≡ true
    wide-field e = l.wide ∙ rw e

    -- it is not
    module _ (fit : leb (2 ^ w) v ≡ false) where
      more-lt : all * 2 ^ w + v < 2 ^ (l.before + w)
      more-lt = rw (pow-add 2 l.before w) (digits_lt l.small (leb-false (2 ^ w) v fit))

      pub more-small : all * 2 ^ w + v < 2 ^ n
      more-small = let h : l.before + w ≤ n = omega (arith, l.bits) in let p : 2 ^ (l.before + w) ≤ 2 ^ n = pow_mono h in omega (arith, more-lt, p)

      -- in 128 bits nothing is lost
      pub kept-whole : n ≤ 128 → all * 2 ^ w % 2 ^ 128 ≡ all * 2 ^ w
      kept-whole h = let p : 2 ^ n ≤ 2 ^ 128 = pow_mono h in mod-eq_of_lt (omega (arith, more-small, p))

      pub laid-more : Laid fs n (all * 2 ^ w + v) rest
      laid-more =
          record {
            before = l.before + w;
            bits = omega (arith, l.bits);
            small = more-lt;
            value = l.value ∙ rw (pow-add 2 w (total rest)) (regroup all (2 ^ w) (2 ^ total rest) v (value_of rest));
            wide = l.wide ∙ rw fit;
          }

  pub laid-all : (all : ℕ) → Laid fs n all [] → value_of fs ≡ all
  laid-all all l = l.value ∙ omega arith

  pub laid-small : (all : ℕ) → Laid fs n all [] → all < 2 ^ n
  laid-small all l = let p : l.before ≡ n = omega (arith, l.bits) in rw p at l.small

  pub all-fit : (all : ℕ) → Laid fs n all [] → Fit fs
  all-fit all l = fits fs l.wide

-- ---- the number in two parts, m bytes and n

pub first-small : (all m n : ℕ) → all < 2 ^ (8 * (m + n)) → all / 2 ^ (8 * n) < 2 ^ (8 * m)
first-small all m n h = let e : 8 * (m + n) ≡ 8 * m + 8 * n = omega arith in shr_lt (8 * m) (8 * n) (rw e at h)

pub second-same : (all n : ℕ) → n ≤ 8 → all % 2 ^ 64 % 2 ^ (8 * n) ≡ all % 2 ^ (8 * n)
second-same all n h =
    let e : 64 ≡ 64 - 8 * n + 8 * n = omega arith in
    ap (λ (x : ℕ). all % 2 ^ x % 2 ^ (8 * n)) e ∙ mod-mod-pow all (64 - 8 * n) (8 * n)
