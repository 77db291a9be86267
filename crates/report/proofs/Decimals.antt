-- Numbers in decimal: a number is the digits before its last one, and the last; it is printed with no leading zero, and reads as itself. Assumes nothing.
use mathlib.Core.Path.{◌≡◌, refl, sym, ap, ◌∙◌}
use mathlib.Core.List.{List, [], ◌∷◌, ◌++◌}
use Prim.Native.Nat.{ℕ, zero, suc, ◌+◌, ◌-◌, ◌*◌, ◌/◌, ◌%◌, ◌^◌, ◌≤◌, ◌<◌}
use native.Mathlib.Nat.{le_refl, pow-suc, div-div-eq-div-mul, div-lt_iff_lt-mul}
use native.Mathlib.Decide.{dec_lt}
use native.Mathlib.Omega.{arith}
use borrow.Author.Tests.{lt-ltb, le-ltb}
use lib.Dec.{lit<, lit≤}
use lib.ListN.{length, take, drop, get_or, length-append}
use Rattle.filling.specs.Buffer.{written}
use Rattle.filling.proofs.Written.{written-written}
use Rattle.report.specs.Text.{reading}
use Rattle.report.specs.Report.{digit, short, decimal_in, decimal, places}

-- a number of one digit
one_digit : (k n : ℕ) → n < 10 → decimal_in k n ≡ digit n ∷ []
unfolding decimal_in
one_digit zero n h = refl
one_digit (suc k) n h = rw (lt-ltb n 10 h)

more-digits : (k n : ℕ) → 10 ≤ n → decimal_in (suc k) n ≡ decimal_in k (n / 10) ++ (digit n ∷ [])
unfolding decimal_in
more-digits k n h = rw (le-ltb n 10 h)

-- n + 1 digits are enough for n, and more add none
enough : (k j n : ℕ) → n ≤ k → n ≤ j → decimal_in k n ≡ decimal_in j n
enough zero j n h l = one_digit zero n (omega arith) ∙ sym (one_digit j n (omega arith))
enough (suc k) zero n h l = one_digit (suc k) n (omega arith) ∙ sym (one_digit zero n (omega arith))
enough (suc k) (suc j) n h l =
    elim (dec_lt n 10) [
      | yes b ↦ one_digit (suc k) n b ∙ sym (one_digit (suc j) n b)
      | no b ↦
          more-digits k n (omega arith)
          ∙ ap (λ s. s ++ (digit n ∷ [])) (enough k j (n / 10) (omega arith) (omega arith))
          ∙ sym (more-digits j n (omega arith))
    ]

pub decimal-below : (n : ℕ) → n < 10 → decimal n ≡ digit n ∷ []
unfolding decimal
decimal-below n h = one_digit n n h

pub decimal-more : (n : ℕ) → 10 ≤ n → decimal n ≡ decimal (n / 10) ++ (digit n ∷ [])
unfolding decimal
decimal-more zero h = let no : ⊥ = omega arith in absurd no
decimal-more (suc n) h = more-digits n (suc n) h ∙ ap (λ l. l ++ (digit (suc n) ∷ [])) (enough n (suc n / 10) (suc n / 10) (omega arith) (omega arith))

pub decimal-more-length : (n : ℕ) → 10 ≤ n → length (decimal n) ≡ length (decimal (n / 10)) + 1
decimal-more-length n h = ap length (decimal-more n h) ∙ length-append (decimal (n / 10)) (digit n ∷ [])

-- a number's length, and its bytes in a buffer, as `report::put_decimal` writes them: its only digit, or the digits before the last and the last
pub below_length : (n : ℕ) → n < 10 → length (decimal n) ≡ 1
below_length n h = ap length (decimal-below n h)

pub more_length : (n : ℕ) → (n < 10 → ⊥) → length (decimal n) ≡ length (decimal (n / 10)) + 1
more_length n h = decimal-more-length n (omega arith)

pub below_written : (s : List ℕ) (at n : ℕ) → n < 10 → written s at (decimal n) ≡ written s at (digit n ∷ [])
below_written s at n h = ap (written s at) (decimal-below n h)

pub more_written : (s : List ℕ) (at n : ℕ) → (n < 10 → ⊥) → written s at (decimal n) ≡ written (written s at (decimal (n / 10))) (at + length (decimal (n / 10))) (digit n ∷ [])
more_written s at n h = ap (written s at) (decimal-more n (omega arith)) ∙ sym (written-written s at (decimal (n / 10)) (digit n ∷ []))

-- a number below 100 has one digit or two
pub short-decimal : (n : ℕ) → n < 100 → short n ≡ decimal n
unfolding short
short-decimal n h =
    elim (dec_lt n 10) [
      | yes b ↦ rw (lt-ltb n 10 b) (sym (decimal-below n b))
      | no b ↦
          let m : 10 ≤ n = omega arith in
          rw (le-ltb n 10 m, decimal-more n m, decimal-below (n / 10) (omega arith))
    ]

-- a number below 10 ^ (k + 1) has at most k + 1 digits
pub decimal-length : (k n : ℕ) → n < 10 ^ suc k → length (decimal n) ≤ suc k
decimal-length zero n h = rw (decimal-below n h) (lit≤ tt)
decimal-length (suc k) n h =
    elim (dec_lt n 10) [
      | yes b ↦ rw (decimal-below n b) (omega arith)
      | no b ↦
          let m : 10 ≤ n = omega arith in
          let l : n / 10 < 10 ^ suc k = (div-lt_iff_lt-mul (lit< tt)).1 (rw pow-suc at h) in
          omega (arith, decimal-more-length n m, decimal-length k (n / 10) l)
    ]

-- ---- what is printed reads as the number
reading-last : (m : ℕ) (s : List ℕ) (n : ℕ) → reading m (s ++ (digit n ∷ [])) ≡ reading m s * 10 + n % 10
unfolding reading
reading-last m [] n = omega arith
reading-last m (b ∷ s) n = reading-last (m * 10 + (b - 48)) s n

reads : (k n : ℕ) → n ≤ k → reading 0 (decimal_in k n) ≡ n
unfolding reading decimal_in
reads zero n h = omega arith
reads (suc k) n h =
    elim (dec_lt n 10) [
      | yes b ↦ rw (one_digit (suc k) n b) (omega arith)
      | no b ↦ rw (more-digits k n (omega arith), reading-last, reads k (n / 10) (omega arith)) (omega arith)
    ]

pub decimal-reads : (n : ℕ) → reading 0 (decimal n) ≡ n
unfolding decimal
decimal-reads n = reads n n (le_refl n)

still-leads : (s t : List ℕ) → 48 < get_or s 0 0 → 48 < get_or (s ++ t) 0 0
still-leads [] t h = omega arith
still-leads (b ∷ s) t h = h

-- the first digit of a number above 0 is not 0
leads : (k n : ℕ) → n ≤ k → 0 < n → 48 < get_or (decimal_in k n) 0 0
leads zero n h l = omega arith
leads (suc k) n h l =
    elim (dec_lt n 10) [
      | yes b ↦ rw (one_digit (suc k) n b) (omega arith)
      | no b ↦ rw (more-digits k n (omega arith)) (still-leads (decimal_in k (n / 10)) (digit n ∷ []) (leads k (n / 10) (omega arith) (omega arith)))
    ]

pub decimal-leads : (n : ℕ) → 0 < n → 48 < get_or (decimal n) 0 0
unfolding decimal
decimal-leads n h = leads n n (le_refl n) h

-- four places read as the ten-thousandths, the point left out
pub places-read : (p : ℕ) → p < 100000 → reading 0 (take 1 (places p) ++ drop 2 (places p)) ≡ p
unfolding places reading
places-read p h =
    let whole : p / 10000 % 10 ≡ p / 10000 = omega arith in
    let first : p / 1000 ≡ p / 10000 * 10 + p / 1000 % 10 = omega (arith, div-div-eq-div-mul p 1000 10) in
    let second : p / 100 ≡ p / 1000 * 10 + p / 100 % 10 = omega (arith, div-div-eq-div-mul p 100 10) in
    let third : p / 10 ≡ p / 100 * 10 + p / 10 % 10 = omega (arith, div-div-eq-div-mul p 10 10) in
    omega arith
