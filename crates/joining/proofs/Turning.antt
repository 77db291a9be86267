-- The merging loop: what is written is the front of the merge, and what is left of both lists merges into the rest of it.
-- Assumes nothing.
use mathlib.Core.Path.{◌≡◌, refl, sym, ap, ◌∙◌}
use mathlib.Core.Bool.{true, false}
use mathlib.Core.List.{List, [], ◌∷◌, ◌++◌, map, append_assoc, append-nil}
use Prim.Native.Nat.{ℕ, ◌+◌, ◌*◌, ◌/◌, ◌^◌, ◌≤◌, ◌<◌}
use native.Mathlib.Nat.{zero-add}
use native.Mathlib.Numerals.{add-one}
use native.Mathlib.Omega.{arith}
use lib.Dec.{ltb}
use lib.ListN.{length, get_or, drop, drop_of_length-le, length-append}
use borrow.Author.Tests.{lt-ltb, ltb-true, ltb-false}
use Rattle.std.proofs.lemmas.List.{length-map}
use Rattle.bits.specs.Bits.{field}
use Rattle.bits.proofs.Fields.{field-split, front}
use Rattle.filling.specs.Buffer.{Put}
use Rattle.filling.proofs.Written.{then, read_as, put-nothing}
use Rattle.records.specs.declared.Header.{Header}
use Rattle.records.specs.declared.Standard.{Standard}
use Rattle.records.specs.Encode.{standard_slots, standard_bytes, joined}
use Rattle.records.specs.Fields.{standard_from}
use Rattle.records.specs.Log.{standard_at, up_to}
use Rattle.records.proofs.RoundTrip.{joined-append, length_joined}
use Rattle.records.proofs.UpTo.{length_up_to, up_to_at, map-up_to}
use Rattle.records.proofs.Widths.{standard-fits}
use Rattle.rules.specs.Keys.{standard_number, StandardFits}
use Rattle.rules.specs.Lists.{Before, Rises}
use Rattle.rules.specs.Sequence.{standard_key}
use Rattle.rules.proofs.Booleans.{false-true}
use Rattle.rules.proofs.Each.{rises, rises-map}
use Rattle.rules.proofs.Keys.{standards-below}
use Rattle.joined.specs.Joined.{standard_up}
use Rattle.joined.specs.Merged.{merged}
use Rattle.joining.specs.Turns.{Mergeable, Left, Next}
use Rattle.joined.proofs.MergeLoop.{take-first, take-second}
use Rattle.joined.proofs.Up.{standard-up}

-- ---- a standard's key as a number

module _ (s : List ℕ) (h : Header) (i : ℕ) where
  abbrev place : ℕ
  place = 10 + 6 * h.states + 10 * i

  pub standard-narrow : StandardFits (standard_at s h i)
  standard-narrow = let f = standard-fits s (80 + 48 * h.states + 80 * i) in (f.0, f.1.0, f.1.1.0)

  pub key_read : field s (8 * place) 64 / 2 ^ 13 + 2 ^ 35 ≡ standard_number (standard_at s h i)
  unfolding standard_from
  key_read =
      let q : 8 * place ≡ 80 + 48 * h.states + 80 * i = omega arith in
      let p = 80 + 48 * h.states + 80 * i in
      let a : field s p 51 ≡ field s p 6 * 2 ^ 45 + field s (p + 6) 45 = field-split s p 6 45 in
      let b : field s (p + 6) 45 ≡ field s (p + 6) 10 * 2 ^ 35 + field s (p + 6 + 10) 35 = field-split s (p + 6) 10 35 in
      let c : field s (p + 6 + 10) 35 ≡ field s (p + 16) 35 = ap (λ (x : ℕ). field s x 35) (omega arith) in
      rw (q, front s p 51 13) (omega (arith, a, b, c))

module _ (a b : Standard) (p x y : ℕ) (fa : StandardFits a) (fb : StandardFits (standard_up p b)) (early : a.start < p) (ex : x + 2 ^ 35 ≡ standard_number a) (ey : y + 2 ^ 35 ≡ standard_number b) where
  pub before : x < y + p → Before standard_key a (standard_up p b)
  before h = standards-below a (standard_up p b) fa fb ∙ lt-ltb (standard_number a) (standard_number (standard_up p b)) (omega (arith, ex, ey, h))

  pub behind : y + p ≤ x → Before standard_key (standard_up p b) a
  behind h = standards-below (standard_up p b) a fb fa ∙ lt-ltb (standard_number (standard_up p b)) (standard_number a) (omega (arith, ex, ey, h, early, fa.2, fb.2))

-- ---- which is next

module _ (a : ℕ → Standard) (n : ℕ) (b : ℕ → Standard) (k p i j : ℕ) (l : Left n k i j) where
  pub first_over : i ≡ n → Next a n b k p i j false
  first_over e = record { first = λ h. absurd (false-true h); second = λ h. (omega (arith, l.more, e), λ g. absurd (omega (arith, g, e))) }

  pub second_over : (i ≡ n → ⊥) → j ≡ k → Next a n b k p i j true
  second_over ne e = record { first = λ h. (omega (arith, l.first, ne), λ g. absurd (omega (arith, g, e))); second = λ h. absurd (false-true (sym h)) }

  pub compared : (x y : ℕ) → (i ≡ n → ⊥) → (j ≡ k → ⊥) → Mergeable a n b k p → StandardFits (a i) → StandardFits (b j) → x + 2 ^ 35 ≡ standard_number (a i) → y + 2 ^ 35 ≡ standard_number (b j)
      → Next a n b k p i j (ltb x (y + p))
  compared x y ni nj m fa fb ex ey =
      let here : i < n = omega (arith, l.first, ni) in
      let there : j < k = omega (arith, l.second, nj) in
      let up : StandardFits (standard_up p (b j)) = (fb.0, fb.1, m.fits j there) in
      record {
        first = λ h. (here, λ g. before (a i) (b j) p x y fa up (m.early i here) ex ey (ltb-true x (y + p) h));
        second = λ h. (there, λ g. behind (a i) (b j) p x y fa up (m.early i here) ex ey (ltb-false x (y + p) h));
      }

-- ---- what is written

abbrev pub both : (ℕ → Standard) → ℕ → (ℕ → Standard) → ℕ → ℕ → List Standard
both a n b k p = merged standard_key (up_to a n) (map (standard_up p) (up_to b k))

-- i of the first list and j of the second are written, and the rest of the merge is the merge of what is left
pub record MergedSoFar (a : ℕ → Standard) (n : ℕ) (b : ℕ → Standard) (k p : ℕ) (s : List ℕ) (at i j r : ℕ) (t : List ℕ) : Type 0 where
  pub done : List Standard
  pub counted : length done ≡ i + j
  pub first : i ≤ n
  pub second : j ≤ k
  pub rest : both a n b k p ≡ done ++ merged standard_key (drop i (up_to a n)) (drop j (map (standard_up p) (up_to b k)))
  pub put : Put (joined standard_bytes done) s at r t

module _ (a : ℕ → Standard) (n : ℕ) (b : ℕ → Standard) (k p : ℕ) (s : List ℕ) (at : ℕ) where
  pub merged_none : MergedSoFar a n b k p s at 0 0 at s
  unfolding joined
  merged_none = record { done = []; counted = refl; first = omega arith; second = omega arith; rest = refl; put = put-nothing s at }

  pub merged_place : (i j r : ℕ) (t : List ℕ) → MergedSoFar a n b k p s at i j r t → r ≡ at + 10 * (i + j)
  merged_place i j r t m = omega (arith, m.put.next, length_joined 10 standard_slots m.done, m.counted)

  one-more : (done : List Standard) (x : Standard) (r q : ℕ) (t u : List ℕ) → Put (joined standard_bytes done) s at r t → Put (standard_bytes x) t r q u → Put (joined standard_bytes (done ++ (x ∷ []))) s at q u
  unfolding joined
  one-more done x r q t u d h = read_as (sym (joined-append standard_bytes done (x ∷ []) ∙ ap (λ (y : List ℕ). joined standard_bytes done ++ y) (append-nil (standard_bytes x)))) ((then) d h)

  module _ (m : Mergeable a n b k p) where
    abbrev ss : List Standard
    ss = map (standard_up p) (up_to b k)

    first-rises : Rises standard_key (up_to a n)
    first-rises = rises standard_key (up_to a n) m.first_rises

    second-rises : Rises standard_key ss
    second-rises = rises-map standard_key (standard_up p) (Before standard_key) (standard-up p) (up_to b k) (rises standard_key (up_to b k) m.second_rises)

    second-length : length ss ≡ k
    second-length = length-map (up_to b k) (standard_up p) ∙ length_up_to b k

    module _ (d : Standard) (i j r q : ℕ) (t u : List ℕ) (w : MergedSoFar a n b k p s at i j r t) where
      first-at : i < n → get_or (up_to a n) i d ≡ a i
      first-at h = up_to_at a n i d h

      second-at : j < k → get_or ss j d ≡ standard_up p (b j)
      second-at h = ap (λ (l : List Standard). get_or l j d) (map-up_to (standard_up p) b k) ∙ up_to_at (λ x. standard_up p (b x)) k j d h

      pub merged_first : Next a n b k p i j true → Put (standard_bytes (standard_up 0 (a i))) t r q u → MergedSoFar a n b k p s at (i + 1) j q u
      merged_first x h =
          let f = x.first refl in
          let e = take-first standard_key d (up_to a n) ss first-rises second-rises i j (rw (length_up_to a n) f.0)
          (λ g. let l : j < k = rw second-length at g in rw (first-at f.0, second-at l) (f.1 l)) in
          let same : standard_up 0 (a i) ≡ a i = λ y. record { «module» = (a i).«module»; recipe = (a i).recipe; start = zero-add (a i).start y; theoretical = (a i).theoretical; spare = (a i).spare } in
          record {
            done = w.done ++ (a i ∷ []);
            counted = length-append w.done (a i ∷ []) ∙ omega (arith, w.counted);
            first = omega (arith, f.0);
            second = w.second;
            rest = w.rest ∙ ap (λ (l : List Standard). w.done ++ l) (e ∙ rw (first-at f.0, add-one i) refl) ∙ sym (append_assoc w.done (a i ∷ []) _);
            put = one-more w.done (a i) r q t u w.put (read_as (ap standard_bytes same) h);
          }

      pub merged_second : Next a n b k p i j false → Put (standard_bytes (standard_up p (b j))) t r q u → MergedSoFar a n b k p s at i (j + 1) q u
      merged_second x h =
          let f = x.second refl in
          let e = take-second standard_key d (up_to a n) ss first-rises second-rises i j (rw second-length f.0)
          (λ g. let l : i < n = rw (length_up_to a n) at g in rw (first-at l, second-at f.0) (f.1 l)) in
          record {
            done = w.done ++ (standard_up p (b j) ∷ []);
            counted = length-append w.done (standard_up p (b j) ∷ []) ∙ omega (arith, w.counted);
            first = w.first;
            second = omega (arith, f.0);
            rest = w.rest ∙ ap (λ (l : List Standard). w.done ++ l) (e ∙ rw (second-at f.0, add-one j) refl) ∙ sym (append_assoc w.done (standard_up p (b j) ∷ []) _);
            put = one-more w.done (standard_up p (b j)) r q t u w.put h;
          }

    pub merged_all : (i j r : ℕ) (t : List ℕ) → n + k ≤ i + j → MergedSoFar a n b k p s at i j r t → Put (joined standard_bytes (both a n b k p)) s at r t
    unfolding merged
    merged_all i j r t h w =
        let x : drop i (up_to a n) ≡ [] = drop_of_length-le (up_to a n) {i = i} (omega (arith, length_up_to a n, w.second)) in
        let y : drop j ss ≡ [] = drop_of_length-le ss {i = j} (omega (arith, second-length, w.first)) in
        let e : both a n b k p ≡ w.done = w.rest ∙ rw (x, y) (append-nil w.done) in
        read_as (ap (joined standard_bytes) (sym e)) w.put
