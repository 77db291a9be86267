-- The records of a list, moved up and written one behind the other.
-- Assumes nothing.
use mathlib.Core.Path.{◌≡◌, refl, ap, ◌∙◌}
use mathlib.Core.List.{List, [], ◌∷◌, map, append-nil}
use Prim.Native.Nat.{ℕ, zero, suc, ◌+◌, ◌*◌, ◌≤◌, ◌<◌}
use lib.ListN.{length}
use Rattle.std.proofs.lemmas.List.{map-append, length-map}
use Rattle.bits.specs.Put.{Slot, packed}
use Rattle.records.specs.Encode.{joined}
use Rattle.records.specs.Log.{up_to}
use Rattle.records.proofs.UpTo.{length_up_to}
use Rattle.records.proofs.RoundTrip.{joined-append, length_joined}
use Rattle.filling.specs.Buffer.{Put}
use Rattle.filling.proofs.Written.{read_as}
use Rattle.report.specs.Report.{joined as lines}
use Rattle.report.proofs.Tables.{Lined, lined_none, lined_room, lined_more, lined_all}
use Rattle.bits.proofs.Puts.{length-packed}

module _ {A : Type 0} (bytes : A → List ℕ) (f : A → A) (at : ℕ → A) where
  lined : (n : ℕ) → lines (λ i. bytes (f (at i))) n ≡ joined bytes (map f (up_to at n))
  unfolding lines joined up_to
  lined zero = refl
  lined (suc n) =
      rw (lined n, map-append f (up_to at n) (at n ∷ []), joined-append bytes (map f (up_to at n)) (f (at n) ∷ []), append-nil (bytes (f (at n)))) refl

-- records of a size: as many bytes, and the loop that writes them one behind the other
module _ {A : Type 0} (size : ℕ) (slots : A → List Slot) (f : A → A) (at : ℕ → A) where
  lined-length : (n : ℕ) → length (lines (λ i. packed size (slots (f (at i)))) n) ≡ size * n
  lined-length n =
      ap length (lined (λ r. packed size (slots r)) f at n)
      ∙ length_joined size slots (map f (up_to at n))
      ∙ ap (λ (k : ℕ). size * k) (length-map (up_to at n) f ∙ length_up_to at n)

  -- of n records the first m are written
  abbrev pub MovedSoFar : ℕ → ℕ → List ℕ → ℕ → ℕ → List ℕ → Type 0
  MovedSoFar n m s p r t = Lined (λ i. packed size (slots (f (at i)))) n m s p r t

  module _ (n : ℕ) (s : List ℕ) (p : ℕ) (room : p + size * n ≤ length s) where
    enough : p + length (lines (λ i. packed size (slots (f (at i)))) n) ≤ length s
    enough = rw (lined-length n) room

    pub moved_none : MovedSoFar n 0 s p p s
    moved_none = lined_none _ n s p enough

    pub moved_room : (m r : ℕ) (t : List ℕ) → m < n → MovedSoFar n m s p r t → r + size ≤ length t
    moved_room m r t h w = rw (length-packed size (slots (f (at m)))) at (lined_room _ n s p enough m r t h w).1

    pub moved_more : (m r q : ℕ) (t u : List ℕ) → m < n → MovedSoFar n m s p r t → Put (packed size (slots (f (at m)))) t r q u → MovedSoFar n (m + 1) s p q u
    moved_more m r q t u h w d = lined_more _ n s p enough m r q t u h w d

    pub moved_all : (m r : ℕ) (t : List ℕ) → n ≤ m → MovedSoFar n m s p r t → Put (joined (λ r. packed size (slots r)) (map f (up_to at n))) s p r t
    moved_all m r t h w = read_as (lined (λ r. packed size (slots r)) f at n) (lined_all w h)

    pub moved_place : (m r : ℕ) (t : List ℕ) → n ≤ m → MovedSoFar n m s p r t → r ≡ p + size * n
    moved_place m r t h w = (lined_all w h).next ∙ ap (λ (k : ℕ). p + k) (lined-length n)
