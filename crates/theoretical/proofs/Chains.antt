-- The last standard that passes a test, and how it is found among the entries.
-- Assumes nothing.
use mathlib.Core.Path.{◌≡◌, refl, sym, ap, ap₂, ◌∙◌, subst}
use mathlib.Core.Bool.{Bool, true, false, ◌&&◌, ◌||◌, cond}
use mathlib.Core.Option.{Option, none, some}
use mathlib.Core.List.{List, [], ◌∷◌, ◌++◌, foldl-append}
use Prim.Native.Nat.{ℕ, zero, suc, ◌+◌, ◌/◌, ◌%◌, ◌≤◌, ◌<◌}
use native.Mathlib.Nat.{add-zero}
use native.Mathlib.Numerals.{add-one}
use native.Mathlib.Decide.{ℕ_discrete}
use native.Mathlib.Omega.{arith}
use lib.Dec.{leb, eqb}
use lib.ListN.{length, get_or, set, replicate, get_or-replicate}
use lib.Seq.{get_or-set_same, get_or-set_other}
use borrow.Author.Tests.{eq-eqb, ne_eqb, eqb-true}
use Rattle.std.specs.Prelude.{Some, None}
use Rattle.std.proofs.lemmas.Option.{none-some}
use Rattle.records.specs.declared.Standard.{Standard}
use Rattle.records.specs.Log.{up_to}
use Rattle.records.proofs.UpTo.{length_up_to, up_to_more, up_to_all}
use Rattle.rules.specs.declared.Placed.{Placed}
use Rattle.rules.specs.Theoretical.{placed, placed_from, is_for, has_begun, last_where, last_in_force}
use Rattle.rules.specs.RecordGrounds.{is_among}
use Rattle.rules.proofs.Booleans.{both, or-true, false-true}
use Rattle.rules.proofs.InForce.{placed-up_to, for_true, begun, not_begun}
use Rattle.theoretical.specs.declared.listing.Entry.{Entry}
use Rattle.theoretical.specs.declared.listing.Entries.{Entries}
use Rattle.theoretical.specs.Listing.{pair_of, bin_of, is_in, last_placed, found, link_to, standard_of, entry_of, with_entry, listed, Chained}

-- ---- the last that passes a test

module _ (test : Standard → Bool) (at : ℕ → Standard) where
  pub last_none : last_placed test (up_to at 0) ≡ none
  unfolding last_where placed_from up_to
  last_none = refl

  pub last_more : (n : ℕ) → last_placed test (up_to at (suc n)) ≡ cond (test (at n)) (some (placed n (at n))) (last_placed test (up_to at n))
  unfolding last_where up_to
  last_more n =
      rw (placed-up_to at (suc n), placed-up_to at n)
      (foldl-append (λ f p. cond (test p.standard) (some p) f) none (up_to (λ i. placed i (at i)) n) (placed n (at n) ∷ []))

  -- what it is
  pub record Last (n : ℕ) (p : Placed) : Type 0 where
    pub within : p.index < n
    pub same : p.standard ≡ at p.index
    pub passes : test (at p.index) ≡ true

  pub the_last : (n : ℕ) (p : Placed) → last_placed test (up_to at n) ≡ some p → Last n p
  the_last zero p e = let q : none ≡ some p = sym last_none ∙ e in cc
  the_last (suc n) p e = go (test (at n)) refl (sym (last_more n) ∙ e) (the_last n p)
    where
      go : (b : Bool) → test (at n) ≡ b → cond b (some (placed n (at n))) (last_placed test (up_to at n)) ≡ some p → (last_placed test (up_to at n) ≡ some p → Last n p) → Last (suc n) p
      go true t q rest =
          let r : placed n (at n) ≡ p = cc in
          rw (← r) (record { within = omega arith; same = refl; passes = t })
      go false t q rest =
          let l = rest q in
          record { within = omega (arith, l.within); same = l.same; passes = l.passes }

  pub link_le : (n : ℕ) → link_to (last_placed test (up_to at n)) ≤ n
  link_le n = go (last_placed test (up_to at n)) refl
    where
      go : (o : Option Placed) → last_placed test (up_to at n) ≡ o → link_to o ≤ n
      go none e = omega arith
      go (some p) e = let l = the_last n p e in omega (arith, l.within)

-- those behind the last that passes a test pass no narrower one
pub narrower : (wide narrow : Standard → Bool) (at : ℕ → Standard) → ((s : Standard) → narrow s ≡ true → wide s ≡ true) → (n : ℕ)
    → last_placed narrow (up_to at n) ≡ last_placed narrow (up_to at (link_to (last_placed wide (up_to at n))))
narrower wide narrow at h zero = rw (last_none wide at) refl
narrower wide narrow at h (suc n) = rw (last_more wide at n) (go (wide (at n)) refl (narrower wide narrow at h n))
  where
    fails : (b : Bool) → narrow (at n) ≡ b → wide (at n) ≡ false → b ≡ false
    fails true e q = absurd (false-true (sym q ∙ h (at n) e))
    fails false e q = refl

    go : (b : Bool) → wide (at n) ≡ b → last_placed narrow (up_to at n) ≡ last_placed narrow (up_to at (link_to (last_placed wide (up_to at n))))
        → last_placed narrow (up_to at (suc n)) ≡ last_placed narrow (up_to at (link_to (cond b (some (placed n (at n))) (last_placed wide (up_to at n)))))
    go true q rest = rw (add-one n) refl
    go false q rest = last_more narrow at n ∙ rw (fails (narrow (at n)) refl q) rest

-- every list is its elements
of_elements : (P : List Standard → Type 0) → ((at : ℕ → Standard) (n : ℕ) → P (up_to at n)) → (ss : List Standard) → P ss
of_elements P h ss = subst P (up_to_all (λ i. get_or ss i no_standard) ss no_standard (λ i l. refl)) (h (λ i. get_or ss i no_standard) (length ss))
  where
    no_standard : Standard
    no_standard = record { «module» = 0; recipe = 0; start = 0; theoretical = 0; spare = 0 }

-- ---- entries

pub bin-low : (pair : ℕ) → bin_of pair < 1024
unfolding bin_of
bin-low pair = omega arith

module _ (e : Entry) where
  pub own_pair : pair_of (standard_of e).«module» (standard_of e).recipe ≡ e.pair
  own_pair = omega arith

up_to-same : {A : Type 0} (f g : ℕ → A) (n : ℕ) → ((i : ℕ) → i < n → f i ≡ g i) → up_to f n ≡ up_to g n
unfolding up_to
up_to-same f g zero h = refl
up_to-same f g (suc n) h = rw (up_to-same f g n (λ i l. h i (omega arith)), h n (omega arith))

pub room : (E : Entries) (n : ℕ) (ss : List Standard) → listed E n ≡ ss → length ss < 512 → n < 512
room E n ss e h = let l = length_up_to (λ i. standard_of (entry_of E i)) n in omega (arith, l, rw (← e) at h)

pub chained_none : (E : Entries) (A L : List ℕ) → L ≡ replicate 1024 0 → Chained E A 0 L
chained_none E A L e = record { few = omega arith; aheads = λ i h. absurd (omega arith); lasts = λ bin h. rw (e, last_none (is_in bin) (λ i. standard_of (entry_of E i))) (get_or-replicate {A = ℕ} 1024 bin 0 0 h) }

-- an entry made of a standard gives it back
pub given_back : (s : Standard) (pair : ℕ) → pair ≡ pair_of s.«module» s.recipe → s.recipe < 1024 → s.spare ≡ 0
    → standard_of (record { start = s.start; theoretical = s.theoretical; pair = pair }) ≡ s
given_back s pair e low plain =
    let m : pair / 1024 ≡ s.«module» = omega arith in
    let recipe : pair % 1024 ≡ s.recipe = omega arith in
    rw (m, recipe) (ap (λ (x : ℕ). record { «module» = s.«module»; recipe = s.recipe; start = s.start; theoretical = s.theoretical; spare = x }) (sym plain))

-- one more entry
module _ (E : Entries) (n : ℕ) (e : Entry) (within : n < 512) (starts : length E.starts ≡ 512) (times : length E.times ≡ 512) (pairs : length E.pairs ≡ 512) where
  abbrev more : Entries
  more = with_entry E n e

  here : entry_of more n ≡ e
  here = rw (get_or-set_same E.starts n e.start 0 (omega arith), get_or-set_same E.times n e.theoretical 0 (omega arith), get_or-set_same E.pairs n e.pair 0 (omega arith)) refl

  other : (j : ℕ) → (j ≡ n → ⊥) → entry_of more j ≡ entry_of E j
  other j ne = rw (get_or-set_other E.starts n j e.start 0 ne, get_or-set_other E.times n j e.theoretical 0 ne, get_or-set_other E.pairs n j e.pair 0 ne) refl

  listed-front : (i : ℕ) → i ≤ n → listed more i ≡ listed E i
  listed-front i h = up_to-same _ _ i (λ j l. ap standard_of (other j (λ q. omega arith)))

  pub listed_more : listed more (n + 1) ≡ listed E n ++ (standard_of e ∷ [])
  listed_more = up_to_more (λ i. standard_of (entry_of more i)) n ∙ rw (listed-front n (omega arith)) (ap (λ (x : Entry). listed E n ++ (standard_of x ∷ [])) here)

  pub chained_more : (A L : List ℕ) → length A ≡ 512 → length L ≡ 1024 → Chained E A n L → Chained more (set A n (get_or L (bin_of e.pair) 0)) (n + 1) (set L (bin_of e.pair) (n + 1))
  chained_more A L size sized chain = record { few = omega arith; aheads = aheads; lasts = lasts }
    where
      aheads : (i : ℕ) → i < n + 1 → get_or (set A n (get_or L (bin_of e.pair) 0)) i 0 ≡ link_to (last_placed (is_in (bin_of (entry_of more i).pair)) (listed more i))
      aheads i h =
          rw (listed-front i (omega arith))
          (elim (ℕ_discrete i n) [
            | yes q ↦ rw (q, get_or-set_same A n (get_or L (bin_of e.pair) 0) 0 (omega arith)) (chain.lasts (bin_of e.pair) (bin-low e.pair) ∙ ap (λ (x : Entry). link_to (last_placed (is_in (bin_of x.pair)) (listed E n))) (sym here))
            | no q ↦ rw (get_or-set_other A n i (get_or L (bin_of e.pair) 0) 0 q) (chain.aheads i (omega (arith, q)) ∙ ap (λ (x : Entry). link_to (last_placed (is_in (bin_of x.pair)) (listed E i))) (sym (other i q)))
          ])

      lasts : (bin : ℕ) → bin < 1024 → get_or (set L (bin_of e.pair) (n + 1)) bin 0 ≡ link_to (last_placed (is_in bin) (listed more (n + 1)))
      lasts bin h =
          let at = λ (i : ℕ). standard_of (entry_of more i) in
          let own : is_in bin (at n) ≡ eqb (bin_of e.pair) bin = ap (λ (x : Entry). is_in bin (standard_of x)) here ∙ ap (λ (p : ℕ). eqb (bin_of p) bin) (own_pair e) in
          rw (add-one n, last_more (is_in bin) at n, own, listed-front n (omega arith))
          (elim (ℕ_discrete (bin_of e.pair) bin) [
            | yes q ↦ rw (eq-eqb (bin_of e.pair) bin q, ← q, get_or-set_same L (bin_of e.pair) (suc n) 0 (omega (arith, bin-low e.pair))) (omega arith)
            | no q ↦ rw (ne_eqb (bin_of e.pair) bin q) (get_or-set_other L (bin_of e.pair) bin (suc n) 0 (λ z. q (sym z)) ∙ chain.lasts bin h)
          ])

-- ---- from bin to standard

module _ (at : ℕ → Standard) (m recipe : ℕ) where
  abbrev own : Standard → Bool
  own = is_for m recipe

  abbrev bin : ℕ
  bin = bin_of (pair_of m recipe)

  -- the last for the module and the recipe is among the first `from` of the n, and the last of these is in their bin
  pub record Seeking (n from : ℕ) : Type 0 where
    pub within : from ≤ n
    pub same : last_placed own (up_to at n) ≡ last_placed own (up_to at from)
    pub binned : (i : ℕ) → from ≡ suc i → is_in bin (at i) ≡ true

  own_in : (s : Standard) → own s ≡ true → is_in bin s ≡ true
  own_in s e = let f = for_true m recipe s e in eq-eqb (bin_of (pair_of s.«module» s.recipe)) bin (ap bin_of (ap₂ pair_of f.0 f.1))

  pub from_the_bin : (n from : ℕ) → from ≡ link_to (last_placed (is_in bin) (up_to at n)) → Seeking n from
  from_the_bin n from e = rw e (go (last_placed (is_in bin) (up_to at n)) refl (narrower (is_in bin) own at own_in n))
    where
      go : (o : Option Placed) → last_placed (is_in bin) (up_to at n) ≡ o → last_placed own (up_to at n) ≡ last_placed own (up_to at (link_to o)) → Seeking n (link_to o)
      go none q same = record { within = omega arith; same = same; binned = λ i z. absurd (omega arith) }
      go (some p) q same =
          let l = the_last (is_in bin) at n p q in
          record { within = omega (arith, l.within); same = same; binned = λ i z. let j : i ≡ p.index = omega arith in rw j l.passes }

  pub sought : (n i : ℕ) → Seeking n (suc i) → own (at i) ≡ true → last_placed own (up_to at n) ≡ some (placed i (at i))
  sought n i s e = s.same ∙ last_more own at i ∙ rw e

  pub nothing_sought : (n : ℕ) → Seeking n 0 → last_placed own (up_to at n) ≡ none
  nothing_sought n s = s.same ∙ last_none own at

  -- another's standard in the bin: the one sought is ahead of it
  pub further : (n i from : ℕ) → Seeking n (suc i) → own (at i) ≡ false → from ≡ link_to (last_placed (is_in (bin_of (pair_of (at i).«module» (at i).recipe))) (up_to at i)) → Seeking n from
  further n i from s e q =
      let shared : bin_of (pair_of (at i).«module» (at i).recipe) ≡ bin = eqb-true (bin_of (pair_of (at i).«module» (at i).recipe)) bin (s.binned i refl) in
      let next = from_the_bin i from (q ∙ ap (λ (b : ℕ). link_to (last_placed (is_in b) (up_to at i))) shared) in
      record { within = omega (arith, next.within, s.within); same = s.same ∙ last_more own at i ∙ rw e next.same; binned = next.binned }

-- ---- the walk from there

module _ (m recipe time : ℕ) where
  abbrev started : Standard → Bool
  started = has_begun m recipe time

  begun_own : (s : Standard) → started s ≡ true → is_for m recipe s ≡ true
  begun_own s e = (both (is_for m recipe s) (leb s.start time) e).0

  module _ (at : ℕ → Standard) (n : ℕ) where
    -- the answer is among the first `left`
    pub record Searching (left : ℕ) : Type 0 where
      pub within : left ≤ n
      pub same : last_in_force (up_to at n) m recipe time ≡ last_in_force (up_to at left) m recipe time

    -- one that has not begun is passed over, and the first that has is the one
    pub passed : (i : ℕ) → Searching (suc i) → started (at i) ≡ false → Searching i
    passed i s e = record { within = omega (arith, s.within); same = s.same ∙ last_more started at i ∙ rw e refl }

    -- so are those that start after the time
    pub later : (k left : ℕ) → Searching (left + k) → ((i : ℕ) → left ≤ i → i < left + k → time < (at i).start) → Searching left
    later zero left s h = rw (add-zero left) at s
    later (suc k) left s h =
        let one : left + suc k ≡ suc (left + k) = omega arith in
        let i = left + k in
        later k left (passed i (rw one at s) (not_begun m recipe (at i) time (h i (omega arith) (omega arith)))) (λ j a b. h j a (omega (arith, b)))

    pub reached : (i : ℕ) → Searching (suc i) → started (at i) ≡ true → last_in_force (up_to at n) m recipe time ≡ some (placed i (at i))
    reached i s e = s.same ∙ last_more started at i ∙ rw e refl

    pub none_reached : Searching 0 → last_in_force (up_to at n) m recipe time ≡ none
    none_reached s = s.same ∙ last_none started at

    -- the walk that begins at the last for them, or nowhere where none is, misses nothing: behind that are others' alone
    pub from_the_last : (o : Option Placed) → last_placed (is_for m recipe) (up_to at n) ≡ o → Searching (link_to o)
    from_the_last none e = record { within = omega arith; same = narrower (is_for m recipe) started at begun_own n ∙ rw e refl }
    from_the_last (some p) e = let l = the_last (is_for m recipe) at n p e in record { within = omega (arith, l.within); same = narrower (is_for m recipe) started at begun_own n ∙ rw e refl }

    -- where none is for the module and the recipe, none has begun
    no_own : last_placed (is_for m recipe) (up_to at n) ≡ none → last_in_force (up_to at n) m recipe time ≡ none
    no_own e = none_reached (from_the_last none e)

    module _ (p : Placed) (e : last_placed (is_for m recipe) (up_to at n) ≡ some p) where
      from_it : Searching (suc p.index)
      from_it = rw (← add-one p.index) (from_the_last (some p) e)

      newest : p.standard.start ≤ time → last_in_force (up_to at n) m recipe time ≡ some p
      newest h =
          let l = the_last (is_for m recipe) at n p e in
          reached p.index from_it (begun m recipe (at p.index) time (for_true m recipe (at p.index) l.passes) (rw l.same at h))
          ∙ ap {B = Option Placed} some (ap (placed p.index) (sym l.same))

      pub newest_passed : time < p.standard.start → Searching p.index
      newest_passed h = let l = the_last (is_for m recipe) at n p e in passed p.index from_it (not_begun m recipe (at p.index) time (rw l.same at h))

  pub none_begun : (ss : List Standard) → last_placed (is_for m recipe) ss ≡ none → last_in_force ss m recipe time ≡ none
  none_begun = of_elements (λ ss. last_placed (is_for m recipe) ss ≡ none → last_in_force ss m recipe time ≡ none) no_own

  pub newest_begun : (p : Placed) (ss : List Standard) → last_placed (is_for m recipe) ss ≡ some p → p.standard.start ≤ time → last_in_force ss m recipe time ≡ some p
  newest_begun p = of_elements (λ ss. last_placed (is_for m recipe) ss ≡ some p → p.standard.start ≤ time → last_in_force ss m recipe time ≡ some p) (λ at n. newest at n p)

-- ---- one that is like another

-- e has the module, the recipe and the start of s
abbrev pub is_like : Standard → Standard → Bool
is_like s e = is_for s.«module» s.recipe e && eqb e.start s.start

module _ (s : Standard) where
  among-append : (e : Standard) (es : List Standard) → is_among s (es ++ (e ∷ [])) ≡ is_like s e || is_among s es
  among-append e [] = refl
  among-append e (d ∷ es) = swap (is_like s d) (is_like s e) (is_among s es) (among-append e es)
    where
      swap : (a b c : Bool) {d : Bool} → d ≡ b || c → a || d ≡ b || (a || c)
      swap true true c e = refl
      swap true false c e = refl
      swap false b c e = e

  module _ (at : ℕ → Standard) where
    pub among_passed : (n : ℕ) → is_among s (up_to at n) ≡ false → is_like s (at n) ≡ false → is_among s (up_to at (n + 1)) ≡ false
    among_passed n e q = rw (up_to_more at n, among-append (at n) (up_to at n), q) e

    pub among_reached : (n i : ℕ) → i < n → is_like s (at i) ≡ true → is_among s (up_to at n) ≡ true
    unfolding up_to
    among_reached zero i h q = absurd (omega arith)
    among_reached (suc n) i h q =
        among-append (at n) (up_to at n)
        ∙ elim (ℕ_discrete i n) [
          | yes e ↦ rw (← e, q) refl
          | no e ↦ or-true (is_like s (at n)) (is_among s (up_to at n)) (among_reached n i (omega (arith, e)) q)
        ]

-- ---- what is answered

pub none_found : (o : Option Placed) → None ≡ found o → o ≡ none
none_found none e = refl
none_found (some p) e = absurd (none-some p e)

pub some_found : (o : Option Placed) (p : Placed) → Some p ≡ found o → o ≡ some p
some_found none p e = absurd (none-some p (sym e))
some_found (some q) p e = let r : q ≡ p = cc in ap {B = Option Placed} some r
