-- Bytes copied towards the front word by word: the word at a place has the bytes that stand there, as they were, and a word written behind others is one copy with them.
-- Assumes nothing.
use mathlib.Core.Path.{◌≡◌, refl, sym, ap, ◌∙◌}
use mathlib.Core.List.{List, append_assoc}
use Prim.Native.Nat.{ℕ, zero, suc, ◌+◌, ◌-◌, ◌*◌, ◌/◌, ◌%◌, ◌^◌, ◌≤◌, ◌<◌}
use native.Mathlib.Omega.{arith}
use lib.ListN.{length, get_or, take, drop, length-drop, take-append-drop}
use Rattle.std.proofs.lemmas.List.{get_or-drop}
use lib.Seq.{length-take-le, drop-drop, drop-cons, take-add}
use Rattle.std.specs.List.{copy_within}
use Rattle.bits.specs.Bits.{field}
use Rattle.bits.proofs.Fields.{cut_at, tail_at, byte-field, field-drop}
use Rattle.filling.specs.Buffer.{written, Put, big_endian}
use Rattle.filling.proofs.Numbers.{number-low}
use Rattle.filling.proofs.Written.{written_length, written_behind, written-written, put-nothing}
use Rattle.packing.specs.Closing.{Moveable}

-- ---- the last n bytes of the word at byte p

word-bytes : (s : List ℕ) (p : ℕ) → p + 8 ≤ length s → (n : ℕ) → n ≤ 8 → ((k : ℕ) → p + (8 - n) ≤ k → get_or s k 0 < 256) → big_endian n (field s (8 * p) 64) ≡ take n (drop (p + (8 - n)) s)
unfolding big_endian
word-bytes s p inside zero h small = refl
word-bytes s p inside (suc n) h small =
    let q = p + (7 - n) in
    let there : q < length s = omega arith in
    let first : field s (8 * p) 64 / 2 ^ (8 * n) % 256 ≡ get_or s q 0
    = cut_at s (8 * p) (8 * (7 - n)) 8 (8 * n) 64 (8 * q) (omega arith) (omega arith) ∙ byte-field s q (small q (omega arith)) in
    let next : suc q ≡ p + (8 - n) = omega arith in
    let here : p + (8 - suc n) ≡ q = omega arith in
    rw (here, drop-cons s q 0, next, first, word-bytes s p inside n (omega arith) (λ k l. small k (omega arith)))

-- what is behind a place is behind each later one
pub further : (b d : List ℕ) (p q : ℕ) → p ≤ q → drop p d ≡ drop p b → drop q d ≡ drop q b
further b d p q h e =
    let to : p + (q - p) ≡ q = omega arith in
    ap (λ (k : ℕ). drop k d) (sym to) ∙ sym (drop-drop (q - p) p d) ∙ ap (drop (q - p)) e ∙ drop-drop (q - p) p b ∙ ap (λ (k : ℕ). drop k b) to

-- n bytes copied towards the front
pub copied : (d : List ℕ) (from n to : ℕ) → from + n ≤ length d → copy_within d from (from + n) to ≡ written d to (take n (drop from d))
unfolding written
copied d from n to h =
    let long : length (take n (drop from d)) ≡ n = length-take-le n (drop from d) (omega (arith, length-drop from d)) in
    let few : from + n - from ≡ n = omega arith in
    rw (few, long) (append_assoc (take to d) (take n (drop from d)) (drop (to + n) d))

-- ---- word by word

-- w bits that are still to be read are as they were
field_kept : (b d : List ℕ) (q w : ℕ) → drop q d ≡ drop q b → field d (8 * q) w ≡ field b (8 * q) w
field_kept b d q w e =
    let at : (x : List ℕ) → field x (8 * q) w ≡ field (drop q x) 0 w = λ x. ap (λ (i : ℕ). field x i w) (omega arith) ∙ sym (field-drop x q 0 w) in
    at d ∙ ap (λ (x : List ℕ). field x 0 w) e ∙ sym (at b)

-- i bytes are copied
abbrev pub copied_so_far : List ℕ → ℕ → ℕ → ℕ → List ℕ
copied_so_far b from to i = written b to (take i (drop from b))

module _ (b : List ℕ) (from n to : ℕ) (m : Moveable b from n to) where
  small : (k : ℕ) → from ≤ k → get_or b k 0 < 256
  small k h =
      let at : from + (k - from) ≡ k = omega arith in
      rw (get_or-drop from b (k - from) 0, at) at (m.small (k - from))

  abbrev so_far : ℕ → List ℕ
  so_far i = copied_so_far b from to i

  long : (i : ℕ) → i ≤ n → length (take i (drop from b)) ≡ i
  long i h = length-take-le i (drop from b) (omega (arith, length-drop from b, m.inside))

  pub copied_none : b ≡ so_far 0
  copied_none = (put-nothing b to).bytes

  -- and j more
  more : (i j : ℕ) → i + j ≤ n → written (so_far i) (to + i) (take j (drop (from + i) b)) ≡ so_far (i + j)
  more i j h =
      let e : to + length (take i (drop from b)) ≡ to + i = ap (λ (k : ℕ). to + k) (long i (omega arith)) in
      ap (λ (k : ℕ). written (so_far i) k (take j (drop (from + i) b))) (sym e)
      ∙ ap (λ (x : List ℕ). written (so_far i) (to + length (take i (drop from b))) (take j x)) (sym (drop-drop i from b))
      ∙ written-written b to (take i (drop from b)) (take j (drop i (drop from b)))
      ∙ ap (written b to) (sym (take-add i j (drop from b)))

  -- what is behind them is as it was
  pub copied_kept : (i : ℕ) → i ≤ n → drop (from + i) (so_far i) ≡ drop (from + i) b
  copied_kept i h =
      let l = long i h in
      further b (so_far i) (to + length (take i (drop from b))) (from + i) (omega (arith, l, m.order))
      (written_behind b to (take i (drop from b)) (omega (arith, l, m.order, m.inside)))

  pub copied_length : (i : ℕ) → i ≤ n → length (so_far i) ≡ length b
  copied_length i h = written_length b to (take i (drop from b)) (omega (arith, long i h, m.order, m.inside))

  -- one more word
  pub word_more : (k : ℕ) → 8 * k + 8 ≤ n → (d : List ℕ) → d ≡ so_far (8 * k) → (word r : ℕ) (e : List ℕ) → word ≡ field d (8 * (from + 8 * k)) 64 → Put (big_endian 8 word) d (to + 8 * k) r e → e ≡ so_far (8 * (k + 1))
  word_more k h d own word r e told put =
      let i = 8 * k in
      let same : word ≡ field b (8 * (from + i)) 64 = told ∙ ap (λ (x : List ℕ). field x (8 * (from + i)) 64) own ∙ field_kept b (so_far i) (from + i) 64 (copied_kept i (omega arith)) in
      let bytes : big_endian 8 word ≡ take 8 (drop (from + i) b) = ap (big_endian 8) same ∙ word-bytes b (from + i) (omega (arith, m.inside)) 8 (omega arith) (λ k l. small k (omega arith)) ∙ ap (λ (q : ℕ). take 8 (drop q b)) (let q : from + i + (8 - 8) ≡ from + i = omega arith in q) in
      let next : i + 8 ≡ 8 * (k + 1) = omega arith in
      put.bytes ∙ rw (own, bytes) (more i 8 h) ∙ ap so_far next

  -- and j bytes that are left, the last of the word that ends where they do: what stands ahead of them may be written over by then
  pub rest_more : (k j : ℕ) → 8 * k + j ≡ n → j < 8 → (d : List ℕ) → d ≡ so_far (8 * k) → (word r : ℕ) (e : List ℕ) → word ≡ field d (8 * (from + n - 8)) 64 → Put (big_endian j word) d (to + 8 * k) r e
      → e ≡ copy_within b from (from + n) to
  rest_more k j all few d own word r e told put =
      let i = 8 * k in
      let p = from + n - 8 in
      let last : (x : List ℕ) → field x (8 * p) 64 % 2 ^ (8 * j) ≡ field x (8 * (from + i)) (8 * j) = λ x. tail_at x (8 * p) (64 - 8 * j) (8 * j) 64 (8 * (from + i)) (omega arith) (omega (arith, m.ahead)) in
      let same : word % 2 ^ (8 * j) ≡ field b (8 * p) 64 % 2 ^ (8 * j)
      = ap (λ (x : ℕ). x % 2 ^ (8 * j)) told
      ∙ last d
      ∙ ap (λ (x : List ℕ). field x (8 * (from + i)) (8 * j)) own
      ∙ field_kept b (so_far i) (from + i) (8 * j) (copied_kept i (omega arith))
      ∙ sym (last b) in
      let bytes : big_endian j word ≡ take j (drop (from + i) b)
      = number-low j word (field b (8 * p) 64) same
      ∙ word-bytes b p (omega (arith, m.ahead, m.inside)) j (omega arith) (λ k l. small k (omega (arith, m.ahead)))
      ∙ ap (λ (q : ℕ). take j (drop q b)) (let q : p + (8 - j) ≡ from + i = omega (arith, m.ahead) in q) in
      put.bytes ∙ rw (own, bytes) (more i j (omega arith)) ∙ ap so_far all ∙ sym (copied b from n to m.inside)

-- bytes that are at their place already
pub copied_still : (b : List ℕ) (from n : ℕ) → from + n ≤ length b → copy_within b from (from + n) from ≡ b
unfolding written
copied_still b from n h =
    let long : length (take n (drop from b)) ≡ n = length-take-le n (drop from b) (omega (arith, length-drop from b)) in
    copied b from n from h ∙ rw (long, ← drop-drop n from b, take-append-drop n (drop from b)) (take-append-drop from b)
