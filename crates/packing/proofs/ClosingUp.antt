-- Closing up in place is right: a record that is kept goes behind what is left so far, one that is dropped is passed over, and either way what is still to be read is as
-- it was.
-- Assumes nothing.
use mathlib.Core.Path.{◌≡◌, refl, sym, ap, ◌∙◌}
use mathlib.Core.Bool.{Bool, true, false, cond}
use mathlib.Core.List.{List, [], ◌++◌, append_assoc, append-nil}
use Prim.Native.Nat.{ℕ, ◌+◌, ◌≤◌}
use native.Mathlib.Nat.{add-zero}
use native.Mathlib.Omega.{arith}
use lib.ListN.{length, take, drop, length-append, length-drop}
use Rattle.std.proofs.lemmas.List.{get_or-drop}
use lib.Seq.{length-take-le}
use Rattle.filling.specs.Buffer.{written}
use Rattle.filling.proofs.Written.{written_length, written_behind, written_through}
use Rattle.records.specs.Covers.{Covers}
use Rattle.rules.specs.SameRecords.{Bytes}
use Rattle.packing.specs.Closing.{Moveable, Moved, Closed}
use Rattle.packing.proofs.Words.{further, copied}

-- nothing read yet
pub closed-none : (b : List ℕ) (to p : ℕ) → to ≤ p → Closed b to [] p to b
closed-none b to p h = record { next = sym (add-zero to); through = sym (append-nil (take to b)); behind = refl; order = h; size = refl }

module _ {b d : List ℕ} {to p r : ℕ} {xs : List ℕ} (c : Closed b to xs p r d) where
  -- the next n bytes may move to where what is left ends
  pub closed_moveable : (n : ℕ) → Bytes b → 10 ≤ p → Covers b (p + n) → Moveable d p n r
  closed_moveable n small ahead there =
      record {
        small = rw c.behind (λ k. rw (get_or-drop p b k 0) (small (p + k)));
        order = c.order;
        ahead = ahead;
        inside = omega (arith, there.0, c.size);
        short = omega (arith, there.1, c.size);
      }

  -- one more record of n bytes
  pub closed-more : (n : ℕ) (drops : Bool) (q : ℕ) (e : List ℕ) → p + n ≤ length b → Moved drops d p n r q e → Closed b to (xs ++ cond drops [] (take n (drop p b))) (p + n) q e
  closed-more n true q e h m =
      record {
        next = rw append-nil (m.next ∙ c.next);
        through = rw (append-nil, m.next, m.bytes) c.through;
        behind = rw m.bytes (further b d p (p + n) (omega arith) c.behind);
        order = omega (arith, m.next, c.order);
        size = rw m.bytes c.size;
      }
  closed-more n false q e h m =
      let x = take n (drop p d) in
      let same : take n (drop p b) ≡ x = ap (take n) (sym c.behind) in
      let inside : p + n ≤ length d = omega (arith, c.size) in
      let long : length x ≡ n = length-take-le n (drop p d) (omega (arith, length-drop p d)) in
      let room : r + length x ≤ length d = omega (arith, c.order) in
      let shape : e ≡ written d r x = m.bytes ∙ copied d p n r inside in
      let end : q ≡ r + length x = m.next ∙ ap (λ (k : ℕ). r + k) (sym long) in
      rw same
      record {
        next = omega (arith, length-append xs x, end, c.next);
        through = rw (end, shape) (written_through d r x room ∙ ap (λ (t : List ℕ). t ++ x) c.through ∙ append_assoc (take to b) xs x);
        behind = further d e (r + length x) (p + n) (omega (arith, c.order)) (ap (drop (r + length x)) shape ∙ written_behind d r x room) ∙ further b d p (p + n) (omega arith) c.behind;
        order = omega (arith, end, c.order);
        size = ap length shape ∙ written_length d r x room ∙ c.size;
      }

  -- one list behind another
  pub closed-then : {ys : List ℕ} {q s : ℕ} {e : List ℕ} → p ≤ q → Closed d r ys q s e → Closed b to (xs ++ ys) q s e
  closed-then {ys} {q} {s} {e} h k =
      record {
        next = omega (arith, length-append xs ys, k.next, c.next);
        through = k.through ∙ ap (λ (t : List ℕ). t ++ ys) c.through ∙ append_assoc (take to b) xs ys;
        behind = k.behind ∙ further b d p q h c.behind;
        order = k.order;
        size = k.size ∙ c.size;
      }
