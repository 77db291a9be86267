-- A text written into a buffer: what the buffer keeps, and texts written one behind the other. Assumes nothing.
use mathlib.Core.Path.{◌≡◌, refl, sym, ap, ◌∙◌}
use mathlib.Core.List.{List, [], ◌∷◌, ◌++◌, append_assoc, append-nil}
use Prim.Native.Nat.{ℕ, zero, suc, ◌+◌, ◌≤◌, ◌<◌}
use native.Mathlib.Nat.{add-zero, zero-add, suc-add, le_refl}
use native.Mathlib.Numerals.{add-one}
use native.Mathlib.Omega.{arith}
use lib.ListN.{length, take, drop, get_or, set, length-append, length-set, drop_of_length-le, take-append-drop}
use lib.Seq.{paste, paste-zero, paste-suc, take-length, length-paste, drop-paste, drop-drop, take_at, drop_at, take-append_seam, drop-append-add, drop-nil, take_all, length-take-le}
use Rattle.filling.specs.Buffer.{written, Put, AtFront}

-- a whole text pasted in
pub written-paste : (s : List ℕ) (at : ℕ) (xs : List ℕ) → written s at xs ≡ paste s at xs (length xs)
unfolding written
written-paste s at xs = rw (take-length, append_assoc)

pub written-front : (s xs : List ℕ) → written s 0 xs ≡ xs ++ drop (length xs) s
unfolding written
written-front s xs = rw zero-add

module _ (s : List ℕ) (at : ℕ) (xs : List ℕ) (room : at + length xs ≤ length s) where
  starts : at ≤ length s
  starts = omega arith

  pub written_length : length (written s at xs) ≡ length s
  written_length = rw written-paste (length-paste s at xs (length xs) room (le_refl (length xs)))

  pub written_behind : drop (at + length xs) (written s at xs) ≡ drop (at + length xs) s
  written_behind = rw written-paste (drop-paste s at xs (length xs) starts (le_refl (length xs)))

  pub written_before : take at (written s at xs) ≡ take at s
  unfolding written
  written_before = take_at (take at s) (xs ++ drop (at + length xs) s) at (length-take-le at s starts)

  pub written_text : take (length xs) (drop at (written s at xs)) ≡ xs
  unfolding written
  written_text = rw (drop_at (take at s) (xs ++ drop (at + length xs) s) at (length-take-le at s starts)) (take-append_seam xs (drop (at + length xs) s))

  -- up to the text's end
  pub written_through : take (at + length xs) (written s at xs) ≡ take at s ++ xs
  unfolding written
  written_through =
      let size : length (take at s ++ xs) ≡ at + length xs = length-append (take at s) xs ∙ rw (length-take-le at s starts) in
      rw (← append_assoc (take at s) xs (drop (at + length xs) s)) (take_at (take at s ++ xs) (drop (at + length xs) s) (at + length xs) size)

-- a text written behind another is both texts written as one
pub written-written : (s : List ℕ) (at : ℕ) (xs ys : List ℕ) → written (written s at xs) (at + length xs) ys ≡ written s at (xs ++ ys)
unfolding written
written-written s zero xs ys = simp (zero-add, take-append_seam, drop-append-add, drop-drop, length-append, append_assoc)
written-written [] (suc at) xs ys =
    let to : length xs ≤ suc at + length xs = omega arith in
    let behind : length xs ≤ suc at + length xs + length ys = omega arith in
    simp (drop-nil, append-nil, take_all, drop_of_length-le)
written-written (x ∷ s) (suc at) xs ys = simp suc-add (ap (λ l. x ∷ l) (written-written s at xs ys))

-- two calls that write, one behind the other
pub then : {xs ys s t u : List ℕ} {at n m : ℕ} → Put xs s at n t → Put ys t n m u → Put (xs ++ ys) s at m u
then {xs} {ys} {s} {t} {u} {at} {n} {m} p q =
    record {
      next = rw length-append (omega (arith, p.next, q.next));
      bytes = (cc) ∙ written-written s at xs ys;
    }

-- a text put is put under each of its descriptions
pub read_as : {xs ys s t : List ℕ} {at r : ℕ} → xs ≡ ys → Put xs s at r t → Put ys s at r t
read_as e p = rw e at p

-- nothing put
pub put-nothing : (s : List ℕ) (at : ℕ) → Put [] s at at s
unfolding written
put-nothing s at = record { next = omega arith; bytes = sym (rw (add-zero at) (take-append-drop at s)) }

pub put-length : {xs s t : List ℕ} {at r : ℕ} → Put xs s at r t → at + length xs ≤ length s → length t ≡ length s
put-length {xs} {s} {t} {at} p h = ap length p.bytes ∙ written_length s at xs h

-- a text at the front
fronted : {text : List ℕ} {most : ℕ} {before : List ℕ} {r : ℕ} {after : List ℕ} → r ≡ length text → after ≡ text ++ drop r before → r ≤ most → AtFront text most before r after
fronted {text} {most} {before} {r} {after} size bytes longest =
    let within : r ≤ length after = rw bytes (omega (arith, size, length-append text (drop r before))) in
    record { size = size; bytes = bytes; longest = longest; within = within; part = sym (length-take-le r after within) }

-- put there
pub at_front : {text before after : List ℕ} {r : ℕ} (most : ℕ) → length text ≤ most → Put text before 0 r after → AtFront text most before r after
at_front {text} {before} most h p =
    let size = p.next ∙ zero-add (length text) in
    fronted size (rw size (p.bytes ∙ written-front before text)) (omega (arith, size))

-- no text at all
pub front-nothing : (most : ℕ) (before : List ℕ) → AtFront [] most before 0 before
front-nothing most before = fronted refl refl (omega arith)

-- of one that may be longer
pub front-more : {text : List ℕ} {few most : ℕ} {before : List ℕ} {r : ℕ} {after : List ℕ} → few ≤ most → AtFront text few before r after → AtFront text most before r after
front-more h p = fronted p.size p.bytes (omega (arith, p.longest))

-- the buffer begins with the text
pub front-text : {text : List ℕ} {most : ℕ} {before : List ℕ} {r : ℕ} {after : List ℕ} → AtFront text most before r after → take r after ≡ text
front-text {text} {most} {before} p = rw (p.bytes, p.size) (take-append_seam text (drop (length text) before))

-- ---- a text copied byte by byte

-- its first i bytes are copied
pub record Copied (text before : List ℕ) (at i : ℕ) (after : List ℕ) : Type 0 where
  pub within : i ≤ length text
  pub bytes : after ≡ paste before at text i
  pub size : length after ≡ length before

module _ (text before : List ℕ) (at : ℕ) (room : at + length text ≤ length before) where
  pub copied_none : Copied text before at 0 before
  copied_none = record { within = omega arith; bytes = paste-zero before at text; size = refl }

  pub copied_more : (i b d : ℕ) (after : List ℕ) → i < length text → b ≡ get_or text i d → Copied text before at i after → Copied text before at (i + 1) (set after (at + i) b)
  copied_more i b d after h e c =
      record {
        within = omega arith;
        bytes = rw (add-one i, e, c.bytes) (paste-suc before at text i d (omega arith) h);
        size = simp length-set c.size;
      }

  pub copied_all : (i : ℕ) (after : List ℕ) → length text ≤ i → Copied text before at i after → Put text before at (at + i) after
  copied_all i after h c =
      let all : i ≡ length text = omega (arith, c.within) in
      record { next = ap (λ k. at + k) all; bytes = c.bytes ∙ rw all (sym (written-paste before at text)) }
