-- A table put into a buffer: its lines one by one, their lengths, and its three parts one behind the other. Assumes nothing.
use mathlib.Core.Path.{◌≡◌, refl, sym, ap, ◌∙◌}
use mathlib.Core.List.{List, [], ◌++◌}
use Prim.Native.Nat.{ℕ, zero, suc, ◌+◌, ◌-◌, ◌*◌, ◌≤◌, ◌<◌}
use native.Mathlib.Nat.{add-zero, mul-suc}
use native.Mathlib.Numerals.{add-one}
use native.Mathlib.Omega.{arith}
use lib.ListN.{length, length-append}
use Rattle.filling.specs.Buffer.{Put}
use Rattle.report.specs.Report.{joined, table_of}
use Rattle.filling.proofs.Written.{then, read_as, put-nothing, put-length}

module _ (line : ℕ → List ℕ) where
  pub lines_none : joined line 0 ≡ []
  unfolding joined
  lines_none = refl

  lines_more : (m : ℕ) → joined line (m + 1) ≡ joined line m ++ line m
  unfolding joined
  lines_more m = rw (add-one m)

  pub length_more : (m : ℕ) → length (joined line (m + 1)) ≡ length (joined line m) + length (line m)
  length_more m = ap length (lines_more m) ∙ length-append (joined line m) (line m)

  length-mono : (m d : ℕ) → length (joined line m) ≤ length (joined line (m + d))
  length-mono m zero = rw (add-zero m) (omega arith)
  length-mono m (suc d) =
      let e : m + suc d ≡ m + d + 1 = omega arith in
      rw e (omega (arith, length-mono m d, length_more (m + d)))

  pub joined_same : (other : ℕ → List ℕ) (n : ℕ) → ((k : ℕ) → k < n → line k ≡ other k) → joined line n ≡ joined other n
  unfolding joined
  joined_same other zero h = refl
  joined_same other (suc n) h = rw (joined_same other n (λ k b. h k (omega arith)), h n (omega arith))

  pub joined_longest : (most n : ℕ) → ((k : ℕ) → k < n → length (line k) ≤ most) → length (joined line n) ≤ most * n
  unfolding joined
  joined_longest most zero h = omega arith
  joined_longest most (suc n) h = rw (length-append, mul-suc) (omega (arith, joined_longest most n (λ k b. h k (omega arith)), h n (omega arith)))

-- of n lines the first m were put
pub record Lined (line : ℕ → List ℕ) (n m : ℕ) (s : List ℕ) (at r : ℕ) (t : List ℕ) : Type 0 where
  pub within : m ≤ n
  pub put : Put (joined line m) s at r t

module _ (line : ℕ → List ℕ) (n : ℕ) (s : List ℕ) (at : ℕ) (room : at + length (joined line n) ≤ length s) where
  pub lined_none : Lined line n 0 s at at s
  lined_none = record { within = omega arith; put = read_as (sym (lines_none line)) (put-nothing s at) }

  pub lined_room : (m r : ℕ) (t : List ℕ) → m < n → Lined line n m s at r t → (length t ≡ length s) × (r + length (line m) ≤ length t)
  lined_room m r t h l =
      let d : m + 1 + (n - (m + 1)) ≡ n = omega arith in
      let mono : length (joined line (m + 1)) ≤ length (joined line n) = rw d at (length-mono line (m + 1) (n - (m + 1))) in
      let e : length t ≡ length s = put-length l.put (omega (arith, mono, length_more line m)) in
      (e, omega (arith, e, mono, length_more line m, l.put.next))

  pub lined_more : (m r q : ℕ) (t u : List ℕ) → m < n → Lined line n m s at r t → Put (line m) t r q u → Lined line n (m + 1) s at q u
  lined_more m r q t u h l p = record { within = omega arith; put = read_as (sym (lines_more line m)) ((then) l.put p) }

-- all were put
pub lined_all : {line : ℕ → List ℕ} {n m : ℕ} {s : List ℕ} {at r : ℕ} {t : List ℕ} → Lined line n m s at r t → n ≤ m → Put (joined line n) s at r t
lined_all {line} {n} {m} l h = let e : m ≡ n = omega (arith, l.within) in rw e at l.put

-- the three parts of a table
module _ (head : List ℕ) (line : ℕ → List ℕ) (n : ℕ) (last : List ℕ) where
  pub table_length : length (table_of head line n last) ≡ length head + length (joined line n) + length last
  unfolding table_of
  table_length = simp length-append

  module _ (s : List ℕ) (room : length (table_of head line n last) ≤ length s) where
    pub head_room : length head ≤ length s
    head_room = omega (arith, table_length)

    pub lines_room : (r : ℕ) (t : List ℕ) → Put head s 0 r t → r + length (joined line n) ≤ length t
    lines_room r t p = omega (arith, table_length, p.next, put-length p (omega (arith, table_length)))

    pub last_room : (r q : ℕ) (t u : List ℕ) → Put head s 0 r t → Put (joined line n) t r q u → q + length last ≤ length u
    last_room r q t u p d = omega (arith, table_length, p.next, d.next, put-length p (omega (arith, table_length)), put-length d (lines_room r t p))

    pub all_put : (r q k : ℕ) (t u v : List ℕ) → Put head s 0 r t → Put (joined line n) t r q u → Put last u q k v → Put (table_of head line n last) s 0 k v
    unfolding table_of
    all_put r q k t u v a b c = (then) ((then) a b) c
