-- The shares make 10,000, and no other whole numbers that make 10,000 lie nearer to the exact shares in summed distance.
-- Between the remainders of those served and of those not there is a number t. A number w in place of a share v brings that part's distance, times d, down by at
-- most (2 t - d) (w - v), and over all parts that is 0, since both make 10,000.
-- Assumes nothing.
use mathlib.Core.Path.{◌≡◌, refl, sym, ap, ap₂, ◌∙◌}
use mathlib.Core.Logic.{inl, inr}
use mathlib.Core.Bool.{Bool, true, false, cond}
use lib.ListN.{get_or}
use Prim.Native.Nat.{ℕ, zero, suc, ◌+◌, ◌-◌, ◌*◌, ◌≤◌, ◌<◌, zero-le, max}
use native.Mathlib.Nat.{add-zero, mod-lt, div-add-mod', add-mul, suc-mul, mul_comm, mul-le-mul_left, le_of_mul-le-mul_right}
use native.Mathlib.Numerals.{add-one}
use native.Mathlib.Decide.{ℕ_discrete}
use native.Mathlib.Omega.{arith}
use Rattle.std.proofs.lemmas.Bool.{cases_lt}
use Rattle.e79.specs.declared.Quantities.{Quantities}
use Rattle.e79.specs.Quantities.{Ordered}
use Rattle.e79.specs.Accuracy.{gap}
use Rattle.e79.specs.Printed.{rounded_of}
use Rattle.e79.proofs.Printing.{half_not_reached, half_reached}
use Rattle.rules.specs.Quantities.{sum_below}
use Rattle.rules.proofs.SumLaws.{sum_same, sum-le, sum-add, sum-times, sum-each}
use Rattle.losses.specs.declared.Losses.{Losses}
use Rattle.losses.specs.Losses.{quotient, remainder, missing, served, share, part_of, losses_of, shares_of, AddsUp}
use Rattle.losses.proofs.Served.{one, counted, just-as-many, no-larger}

-- ---- a number between

-- the largest of the values of those below n that go without
most : (ℕ → Bool) → (ℕ → ℕ) → ℕ → ℕ
most has rest zero = 0
most has rest (suc n) = max (cond (has n) 0 (rest n)) (most has rest n)

most-above : (has : ℕ → Bool) (rest : ℕ → ℕ) (n i : ℕ) → i < n → has i ≡ false → rest i ≤ most has rest n
unfolding most
most-above has rest zero i l e = absurd (omega arith)
most-above has rest (suc n) i l e = elim (ℕ_discrete i n) [
  | yes q ↦ rw (q, ← ap has q, e) (omega arith)
  | no ne ↦ omega (arith, most-above has rest n i (omega (arith, ne)) e)
]

most-below : (has : ℕ → Bool) (rest : ℕ → ℕ) (n b : ℕ) → ((i : ℕ) → i < n → has i ≡ false → rest i ≤ b) → most has rest n ≤ b
unfolding most
most-below has rest zero b h = zero-le
most-below has rest (suc n) b h = go (has n) (h n (omega arith)) (most-below has rest n b (λ i l. h i (omega arith)))
  where
    go : (t : Bool) → (t ≡ false → rest n ≤ b) → most has rest n ≤ b → max (cond t 0 (rest n)) (most has rest n) ≤ b
    go true f l = omega arith
    go false f l = omega (arith, f refl)

-- ---- one part: f whole ten-thousandths and r / d of one more are x / d, and v is f, or f + 1 where it has one more

module _ (d t f r x : ℕ) (exact : f * d + r ≡ x) (small : r ≤ d) (low : t ≤ d) where
  abbrev Loses : ℕ → ℕ → Type 0
  Loses v w = gap (v * d) x + (w * d + v * t * 2) ≤ gap (w * d) x + (v * d + w * t * 2)

  -- w = f - k
  down : (k w : ℕ) → w + k ≡ f → (r ≤ t → Loses f w) × (t ≤ r → Loses (f + 1) w)
  down k w e =
      let p : w * d + k * d ≡ f * d = sym (add-mul w k d) ∙ ap (λ (z : ℕ). z * d) e in
      let q : w * t + k * t ≡ f * t = sym (add-mul w k t) ∙ ap (λ (z : ℕ). z * t) e in
      let s : k * t ≤ k * d = mul-le-mul_left k low in
      (λ h. omega arith, λ h. rw (add-one, suc-mul f d, suc-mul f t) (omega arith))

  -- w = f + 1 + k
  up : (k w : ℕ) → suc (f + k) ≡ w → (r ≤ t → Loses f w) × (t ≤ r → Loses (f + 1) w)
  up k w e =
      let p : f * d + k * d + d ≡ w * d = one-up d in
      let q : f * t + k * t + t ≡ w * t = one-up t in
      let s : k * t ≤ k * d = mul-le-mul_left k low in
      (λ h. omega arith, λ h. rw (add-one, suc-mul f d, suc-mul f t) (omega arith))
    where
      one-up : (z : ℕ) → f * z + k * z + z ≡ w * z
      one-up z = rw (← e, suc-mul (f + k) z, add-mul f k z)

  loses : (b : Bool) (w : ℕ) → (b ≡ true → t ≤ r) → (b ≡ false → r ≤ t) → Loses (f + one b) w
  loses b w has hasnt = elim (cases_lt f w) [ inl l ↦ pick b has hasnt (up (w - suc f) w (omega arith)) | inr l ↦ pick b has hasnt (down (f - w) w (omega arith)) ]
    where
      pick : (c : Bool) → (c ≡ true → t ≤ r) → (c ≡ false → r ≤ t) → (r ≤ t → Loses f w) × (t ≤ r → Loses (f + 1) w) → Loses (f + one c) w
      pick true h n both = both.1 (h refl)
      pick false h n both = rw add-zero (both.0 (n refl))

-- ---- n parts that make d

-- how far a share is from the exact one, times d
abbrev far : (ℕ → ℕ) → ℕ → (ℕ → ℕ) → ℕ → ℕ
far part d w i = gap (w i * d) (10000 * part i)

module _ (part : ℕ → ℕ) (d n : ℕ) (some : 0 < d) (whole : sum_below part n ≡ d) where
  abbrev quotients : ℕ
  quotients = sum_below (quotient part d) n

  exact : (i : ℕ) → quotient part d i * d + remainder part d i ≡ 10000 * part i
  exact i = div-add-mod' (10000 * part i) d

  short : (i : ℕ) → remainder part d i < d
  short i = mod-lt (10000 * part i) some

  all-exact : quotients * d + sum_below (remainder part d) n ≡ 10000 * d
  all-exact =
      ap (λ (z : ℕ). z + sum_below (remainder part d) n) (sym (sum-times (quotient part d) d n))
      ∙ sum-add (λ i. quotient part d i * d) (remainder part d) n
      ∙ sum_same _ _ n (λ i h. exact i ∙ mul_comm 10000 (part i))
      ∙ sum-times part 10000 n
      ∙ ap (λ (z : ℕ). z * 10000) whole
      ∙ mul_comm d 10000

  not-over : quotients ≤ 10000
  not-over = le_of_mul-le-mul_right (omega (arith, all-exact)) some

  enough : missing part d n ≤ n
  unfolding missing
  enough =
      let e : quotients * d + (10000 - quotients) * d ≡ 10000 * d = sym (add-mul quotients (10000 - quotients) d) ∙ ap (λ (z : ℕ). z * d) (omega (arith, not-over)) in
      let l : sum_below (remainder part d) n ≤ n * d = rw (mul_comm n d, ← sum-each d n) (sum-le _ _ n (λ i h. omega (arith, short i))) in
      le_of_mul-le-mul_right (omega (arith, all-exact)) some

  abbrev has : ℕ → Bool
  has = served (remainder part d) n (missing part d n)

  pub add-up : sum_below (share part d n) n ≡ 10000
  unfolding share missing
  add-up =
      sym (sum-add (quotient part d) (λ i. one (has i)) n)
      ∙ ap (λ (z : ℕ). quotients + z) (sym (counted has n) ∙ just-as-many (remainder part d) n (missing part d n) enough)
      ∙ omega (arith, not-over)

  abbrev between : ℕ
  between = most has (remainder part d) n

  low : between ≤ d
  low = most-below has (remainder part d) n d (λ i l e. omega (arith, short i))

  high : (i : ℕ) → i < n → has i ≡ true → between ≤ remainder part d i
  high i l e = most-below has (remainder part d) n (remainder part d i) (λ j m f. no-larger (remainder part d) n (missing part d n) i j l m e f)

  -- the sums of what each part may lose
  sums : (g v w : ℕ → ℕ) → sum_below (λ i. g i + (w i * d + v i * between * 2)) n ≡ sum_below g n + (sum_below w n * d + sum_below v n * between * 2)
  sums g v w =
      sym (sum-add g _ n)
      ∙ ap (λ (z : ℕ). sum_below g n + z) (sym (sum-add (λ i. w i * d) _ n) ∙ ap₂ ◌+◌ (sum-times w d n) (sum-times (λ i. v i * between) 2 n ∙ ap (λ (z : ℕ). z * 2) (sum-times v between n)))

  pub none-nearer : (w : ℕ → ℕ) → sum_below w n ≡ 10000 → sum_below (far part d (share part d n)) n ≤ sum_below (far part d w) n
  unfolding share
  none-nearer w e =
      let v = share part d n in
      let l = sum-le (λ i. far part d v i + (w i * d + v i * between * 2)) (λ i. far part d w i + (v i * d + w i * between * 2)) n (λ i h. loses d between (quotient part d i) (remainder part d i) (10000 * part i) (exact i) (omega (arith, short i)) low (has i) (w i) (high i h) (most-above has (remainder part d) n i h)) in
      omega (arith, rw (sums (far part d v) v w, sums (far part d w) w v, e, add-up) at l)

-- ---- a share beside the printed figure of its part: both are the quotient rounded down, or one more

beside : (f x : ℕ) (b : Bool) → f ≤ x → x ≤ f + 1 → gap (f + one b) x ≤ 1
beside f x true l h = omega arith
beside f x false l h = omega arith

pub beside-printed : (part : ℕ → ℕ) (d n i : ℕ) → 0 < d → gap (share part d n i) (rounded_of (part i) d) ≤ 1
unfolding share
beside-printed part d n i some =
    let f = quotient part d i in
    let x = rounded_of (part i) d in
    let near : (f ≤ x) × (x ≤ f + 1) =
    elim (cases_lt (remainder part d i * 2) d) [
      | inl l ↦ omega (arith, half_not_reached (part i) d l)
      | inr l ↦ omega (arith, half_reached (part i) d some l)
    ] in
    beside f x (served (remainder part d) n (missing part d n) i) near.0 near.1

-- ---- the five parts of total time

five : (f : ℕ → ℕ) → sum_below f 5 ≡ f 0 + f 1 + f 2 + f 3 + f 4
unfolding sum_below
five f = omega arith

abbrev listed : Losses → ℕ → ℕ
listed s i = get_or (shares_of s) i 0

whole-parts : (q : Quantities) → Ordered q → sum_below (part_of q) 5 ≡ q.total
whole-parts q o = five (part_of q) ∙ omega arith

-- the five quotients are at most 10,000 together
pub five-not-over : (q : Quantities) → Ordered q → let f = quotient (part_of q) q.total in f 0 + f 1 + f 2 + f 3 + f 4 ≤ 10000
five-not-over q o = rw (← five (quotient (part_of q) q.total)) (not-over (part_of q) q.total 5 o.begun (whole-parts q o))

pub five-missing : (q : Quantities) → let f = quotient (part_of q) q.total in 10000 - (f 0 + f 1 + f 2 + f 3 + f 4) ≡ missing (part_of q) q.total 5
unfolding missing
five-missing q = ap (λ (z : ℕ). 10000 - z) (sym (five (quotient (part_of q) q.total)))

pub adds_up : (q : Quantities) → Ordered q → AddsUp q (losses_of q)
unfolding losses_of
adds_up q o =
    let share_of = share (part_of q) q.total 5 in
    let w = whole-parts q o in
    record {
      whole = sym (five share_of) ∙ add-up (part_of q) q.total 5 o.begun w;
      nearest = λ s e. rw (five (far (part_of q) q.total share_of), five (far (part_of q) q.total (listed s))) at (none-nearer (part_of q) q.total 5 o.begun w (listed s) (five (listed s) ∙ e));
    }
