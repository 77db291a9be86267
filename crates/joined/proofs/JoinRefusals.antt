-- Every refusal of the joining call is one of the kinds that the request names, with the list that it gives it, and is in the call's table.
-- Assumes nothing.
use mathlib.Core.Path.{◌≡◌, refl, sym, subst}
use mathlib.Core.Bool.{Bool, true, false, ◌&&◌, ◌||◌, not}
use mathlib.Core.Logic.{◌⊎◌, inl, inr}
use mathlib.Core.List.{List, [], ◌∷◌, ◌++◌}
use Prim.Native.Nat.{ℕ, ◌+◌, ◌<◌}
use native.Mathlib.Decide.{ℕ_discrete}
use native.Mathlib.Omega.{arith}
use lib.Dec.{T, ltb, eqb}
use lib.ListN.{length}
use borrow.Author.Tests.{ltb-true, not-true, eqb-false, eqb-true, eq-eqb, ne_eqb}
use Rattle.std.specs.declared.result.Result.TheVariants.{Ok, Err}
use Rattle.records.specs.Log.{decode}
use Rattle.records.specs.Encode.{header_for}
use Rattle.rules.specs.declared.Ground.{Ground}
use Rattle.rules.specs.declared.Ground.TheVariants.{Period, Counts, ShortBuffer, UnlikeTools}
use Rattle.rules.specs.declared.LogList.{LogList}
use Rattle.rules.specs.declared.LogList.TheVariants.{NoList, States, Standards, Units, Benchmarks, Second, SecondStates, SecondStandards, SecondUnits}
use Rattle.rules.specs.declared.Refusal.{Refusal}
use Rattle.rules.specs.Grounds.{Verdict, refusal, ground, ◌then◌}
use Rattle.rules.specs.Names.{number_of, list_number, list_of_second}
use Rattle.rules.specs.Refusals.{Row, row, log_refusals, rows_of_second, join_refusals, is_row, Known, OfLog}
use Rattle.rules.specs.Verdict.{bad_period, bad_counts, verdict}
use Rattle.rules.proofs.FirstGround.{refused-not}
use Rattle.rules.proofs.KnownRefusals.{log-refusal}
use Rattle.joined.specs.Joined.{joined_log}
use Rattle.joined.specs.Joins.{shifted, of_second, join_grounds, joined_bytes, join_verdict, Shifted, WhyRefused, OfJoin}
use Rattle.joined.proofs.JoinedBytes.{second-accepted}

-- ---- a refusal in a sequence of grounds

then-refused : (u v : Verdict) (x : Refusal) → u then v ≡ Err x → (u ≡ Err x) ⊎ ((u ≡ Ok tt) × (v ≡ Err x))
then-refused (Ok tt) v x e = inr (refl, e)
then-refused (Err y) v x e = inl e

ground-refused : (g : Ground) (l : LogList) (p : ℕ) (b : Bool) (x : Refusal) → ground g l p b ≡ Err x → (b ≡ true) × (x ≡ refusal g l p)
ground-refused g l p true x e = (refl, cc)
ground-refused g l p false x e = absurd (refused-not (sym e))

second-refused : (v : Verdict) (x : Refusal) → of_second v ≡ Err x → (y : Refusal) × (v ≡ Err y) × (x ≡ shifted y)
second-refused (Ok tt) x e = absurd (refused-not (sym e))
second-refused (Err y) x e = (y, refl, cc)

-- ---- the second log's list

all_low : List Row → Bool
all_low [] = true
all_low (r ∷ rs) = ltb r.list 4 && all_low rs

row-low : (rs : List Row) (n l : ℕ) → T (all_low rs) → T (is_row rs n l) → l < 4
unfolding all_low
row-low [] n l h k = absurd k
row-low (r ∷ rs) n l h k = go (ltb r.list 4) refl (eqb n r.number) (eqb l r.list) refl h k (row-low rs n l)
  where
    go : (b : Bool) → ltb r.list 4 ≡ b → (c d : Bool) → eqb l r.list ≡ d → T (b && all_low rs) → T ((c && d) || is_row rs n l) → (T (all_low rs) → T (is_row rs n l) → l < 4) → l < 4
    go true p true true q h k rest = omega (arith, ltb-true r.list 4 p, eqb-true l r.list q)
    go true p true false q h k rest = rest h k
    go true p false d q h k rest = rest h k
    go false p c d q h k rest = absurd h

log-list : (n l : ℕ) → T (is_row log_refusals n l) → l < 4
unfolding all_low
log-list n l k = row-low log_refusals n l tt k

-- a list of a log, as the second log's
ten-more : (l : LogList) → list_number l < 4 → list_number (list_of_second l) ≡ list_number l + 10
ten-more NoList h = refl
ten-more States h = refl
ten-more Standards h = refl
ten-more Units h = refl
ten-more Benchmarks h = absurd (omega (arith, h))
ten-more Second h = absurd (omega (arith, h))
ten-more SecondStates h = absurd (omega (arith, h))
ten-more SecondStandards h = absurd (omega (arith, h))
ten-more SecondUnits h = absurd (omega (arith, h))

shifted-so : (y x : Refusal) → Known log_refusals y → x ≡ shifted y → Shifted y x
shifted-so y x k e =
    record {
      number = rw e;
      list = rw e (ten-more y.list (log-list (number_of y.ground) (list_number y.list) k));
      place = rw e;
    }

-- ---- why

module _ (s t : List ℕ) (room : ℕ) (x : Refusal) where
  abbrev together : Verdict
  together = join_grounds (decode s) (decode t)

  abbrev last : Verdict
  last = ground ShortBuffer NoList 0 (ltb room (length (joined_bytes s t)))

  abbrev differ : Bool
  differ = not (eqb (decode s).modules (decode t).modules)

  abbrev long : Bool
  long = bad_period ((decode s).period + (decode t).period)

  abbrev many : Bool
  many = bad_counts (header_for (joined_log (decode s) (decode t)))

  of-both : verdict s ≡ Ok tt → verdict t ≡ Ok tt → together ≡ Err x → WhyRefused s t room x
  unfolding join_grounds joined_log
  of-both a b r = first (then-refused (ground UnlikeTools NoList 0 differ) (ground Period NoList 0 long then ground Counts NoList 0 many) x r)
    where
      second : (ground Period NoList 0 long ≡ Err x) ⊎ ((ground Period NoList 0 long ≡ Ok tt) × (ground Counts NoList 0 many ≡ Err x)) → WhyRefused s t room x
      second (inl q) = let g = ground-refused Period NoList 0 long x q in WhyRefused.period a b g.0 g.1
      second (inr q) = let g = ground-refused Counts NoList 0 many x q.1 in WhyRefused.counts a b g.0 g.1

      first : (ground UnlikeTools NoList 0 differ ≡ Err x) ⊎ ((ground UnlikeTools NoList 0 differ ≡ Ok tt) × (ground Period NoList 0 long then ground Counts NoList 0 many ≡ Err x)) → WhyRefused s t room x
      first (inl q) =
          let g = ground-refused UnlikeTools NoList 0 differ x q in
          WhyRefused.unlike a b (eqb-false (decode s).modules (decode t).modules (not-true (eqb (decode s).modules (decode t).modules) g.0)) g.1
      first (inr q) = second (then-refused (ground Period NoList 0 long) (ground Counts NoList 0 many) x q.1)

  pub why-refused : join_verdict s t room ≡ Err x → WhyRefused s t room x
  unfolding join_verdict
  why-refused e = first (then-refused (verdict s) (of_second (verdict t) then together then last) x e)
    where
      third : verdict s ≡ Ok tt → verdict t ≡ Ok tt → (together ≡ Err x) ⊎ ((together ≡ Ok tt) × (last ≡ Err x)) → WhyRefused s t room x
      third a b (inl r) = of-both a b r
      third a b (inr r) = let g = ground-refused ShortBuffer NoList 0 (ltb room (length (joined_bytes s t))) x r.1 in WhyRefused.short a b (ltb-true room (length (joined_bytes s t)) g.0) g.1

      second : verdict s ≡ Ok tt → (of_second (verdict t) ≡ Err x) ⊎ ((of_second (verdict t) ≡ Ok tt) × (together then last ≡ Err x)) → WhyRefused s t room x
      second a (inl r) =
          let w = second-refused (verdict t) x r in
          let o : OfLog t w.0 = log-refusal t w.0 w.1 in
          WhyRefused.second a w.0 o (shifted-so w.0 x o.known w.2)
      second a (inr r) = third a (second-accepted (verdict t) r.0) (then-refused together last x r.1)

      first : (verdict s ≡ Err x) ⊎ ((verdict s ≡ Ok tt) × (of_second (verdict t) then together then last ≡ Err x)) → WhyRefused s t room x
      first (inl r) = WhyRefused.of_first (log-refusal s x r)
      first (inr r) = second r.0 (then-refused (of_second (verdict t)) (together then last) x r.1)

-- ---- the table

or-right : (a b : Bool) → T b → T (a || b)
or-right true b h = tt
or-right false b h = h

row-left : (rs qs : List Row) (n l : ℕ) → T (is_row rs n l) → T (is_row (rs ++ qs) n l)
row-left [] qs n l h = absurd h
row-left (r ∷ rs) qs n l h = go (eqb n r.number && eqb l r.list) h (row-left rs qs n l)
  where
    go : (b : Bool) → T (b || is_row rs n l) → (T (is_row rs n l) → T (is_row (rs ++ qs) n l)) → T (b || is_row (rs ++ qs) n l)
    go true h rest = tt
    go false h rest = rest h

row-right : (rs qs : List Row) (n l : ℕ) → T (is_row qs n l) → T (is_row (rs ++ qs) n l)
row-right [] qs n l h = h
row-right (r ∷ rs) qs n l h = or-right (eqb n r.number && eqb l r.list) _ (row-right rs qs n l h)

row-shifted : (rs : List Row) (n l : ℕ) → T (is_row rs n l) → T (is_row (rows_of_second rs) n (l + 10))
row-shifted [] n l h = h
row-shifted (r ∷ rs) n l h = rw (same (ℕ_discrete l r.list)) (go (eqb n r.number && eqb l r.list) h (row-shifted rs n l))
  where
    same : Dec (l ≡ r.list) → eqb (l + 10) (r.list + 10) ≡ eqb l r.list
    same (yes e) = rw (eq-eqb l r.list e, eq-eqb (l + 10) (r.list + 10) (omega arith))
    same (no e) = rw (ne_eqb l r.list e, ne_eqb (l + 10) (r.list + 10) (λ h. e (omega arith)))

    go : (b : Bool) → T (b || is_row rs n l) → (T (is_row rs n l) → T (is_row (rows_of_second rs) n (l + 10))) → T (b || is_row (rows_of_second rs) n (l + 10))
    go true h rest = tt
    go false h rest = rest h

abbrev own : List Row
own = row UnlikeTools NoList ∷ row ShortBuffer NoList ∷ []

module _ (s t : List ℕ) (room : ℕ) (x : Refusal) where
  fixed : (y : Refusal) → Known join_refusals y → x ≡ y → Known join_refusals x
  fixed y h q = subst (λ (z : Refusal). Known join_refusals z) (sym q) h

  known : WhyRefused s t room x → Known join_refusals x
  known (WhyRefused.of_first o) = row-left log_refusals (rows_of_second log_refusals ++ own) (number_of x.ground) (list_number x.list) o.known
  known (WhyRefused.second a y o h) =
      rw (h.number, h.list)
      (row-right log_refusals (rows_of_second log_refusals ++ own) (number_of y.ground) (list_number y.list + 10)
      (row-left (rows_of_second log_refusals) own (number_of y.ground) (list_number y.list + 10) (row-shifted log_refusals (number_of y.ground) (list_number y.list) o.known)))
  known (WhyRefused.unlike a b h q) = fixed (refusal UnlikeTools NoList 0) tt q
  known (WhyRefused.period a b h q) = fixed (refusal Period NoList 0) tt q
  known (WhyRefused.counts a b h q) = fixed (refusal Counts NoList 0) tt q
  known (WhyRefused.short a b h q) = fixed (refusal ShortBuffer NoList 0) tt q

  pub of-join : join_verdict s t room ≡ Err x → OfJoin s t room x
  of-join e = let w = why-refused s t room x e in record { why = w; known = known w }
