-- Each unit record keeps its standard in the joined log: so theoretical times add up, and each standard keeps its credited units.
-- Assumes nothing.
use mathlib.Core.Path.{◌≡◌, refl, sym, ap, ap₂, ◌∙◌}
use mathlib.Core.Bool.{Bool, false, cond}
use mathlib.Core.Option.{Option}
use mathlib.Core.List.{List, [], ◌∷◌, ◌++◌, map, Memᴰ}
use Prim.Native.Nat.{ℕ, ◌+◌, ◌*◌, ◌<◌}
use native.Mathlib.Decide.{ℕ_discrete}
use native.Mathlib.Omega.{arith}
use lib.Dec.{eqb}
use lib.ListN.{length}
use borrow.Author.Tests.{eq-eqb, ne_eqb}
use Rattle.records.specs.declared.Standard.{Standard}
use Rattle.records.specs.declared.UnitRecord.{UnitRecord}
use Rattle.rules.specs.declared.Placed.{Placed}
use Rattle.rules.specs.Sequence.{standard_key}
use Rattle.rules.specs.Theoretical.{in_force, time_of, credit, theoretical_time, judged_by, units_judged}
use Rattle.rules.specs.Credited.{no_standard, nth}
use Rattle.rules.specs.Lists.{Each, Rises}
use Rattle.rules.proofs.Each.{each-so, each-map}
use Rattle.rules.specs.Sound.{UnitSound}
use Rattle.sound.proofs.Force.{each-member, at-member, same-record, same-index, Answered, answered, Judge, judge}
use Rattle.joined.specs.Joined.{standard_up, unit_up}
use Rattle.joined.proofs.JoinedStandards.{both, both-rise, holds-before, holds-after}

-- ---- sums over unit records that keep their standard

-- the same test, put in other numbers
same-test : (x y i j : ℕ) → (y ≡ i → x ≡ j) → (x ≡ j → y ≡ i) → eqb y i ≡ eqb x j
same-test x y i j f g = go (ℕ_discrete y i)
  where
    go : Dec (y ≡ i) → eqb y i ≡ eqb x j
    go (yes e) = rw (eq-eqb y i e, eq-eqb x j (f e))
    go (no e) = rw (ne_eqb y i e, ne_eqb x j (λ h. e (g h)))

module _ (units : UnitRecord → ℕ) where
  pub time-append : (ss : List Standard) (us vs : List UnitRecord) (m : ℕ) → theoretical_time units ss (us ++ vs) m ≡ theoretical_time units ss us m + theoretical_time units ss vs m
  unfolding theoretical_time
  time-append ss [] vs m = omega arith
  time-append ss (u ∷ us) vs m = omega (arith, time-append ss us vs m)

  pub judged-append : (ss : List Standard) (us vs : List UnitRecord) (i : ℕ) → units_judged units ss (us ++ vs) i ≡ units_judged units ss us i + units_judged units ss vs i
  unfolding units_judged
  judged-append ss [] vs i = omega arith
  judged-append ss (u ∷ us) vs i = omega (arith, judged-append ss us vs i)

  abbrev force_for : List Standard → UnitRecord → Option Placed
  force_for ss u = in_force ss u.«module» u.recipe u.time

  -- records given by another list's, each for the same module and with the same units
  module _ (f : UnitRecord → UnitRecord) (own : (u : UnitRecord) → (f u).«module» ≡ u.«module») (alike : (u : UnitRecord) → units (f u) ≡ units u) (ss ts : List Standard) where
    pub times-kept : (m : ℕ) (us : List UnitRecord) → Each (λ u. time_of (force_for ss (f u)) ≡ time_of (force_for ts u)) us → theoretical_time units ss (map f us) m ≡ theoretical_time units ts us m
    unfolding theoretical_time credit
    times-kept m [] e = refl
    times-kept m (u ∷ us) e =
        ap₂ ◌+◌
        (ap₂ (λ (n : ℕ) (x : ℕ). cond (eqb n m) x 0) (own u) (ap₂ ◌*◌ (alike u) e.0))
        (times-kept m us e.1)

    pub judged-kept : (i j : ℕ) (us : List UnitRecord) → Each (λ u. judged_by ss (f u) i ≡ judged_by ts u j) us → units_judged units ss (map f us) i ≡ units_judged units ts us j
    unfolding units_judged
    judged-kept i j [] e = refl
    judged-kept i j (u ∷ us) e = ap₂ ◌+◌ (ap₂ (λ (b : Bool) (x : ℕ). cond b x 0) e.0 (alike u)) (judged-kept i j us e.1)

  pub none-judged : (ss : List Standard) (i : ℕ) (us : List UnitRecord) → Each (λ u. judged_by ss u i ≡ false) us → units_judged units ss us i ≡ 0
  unfolding units_judged
  none-judged ss i [] e = refl
  none-judged ss i (u ∷ us) e = rw e.0 (omega (arith, none-judged ss i us e.1))

pub map-same : {A : Type 0} (rs : List A) → map (λ r. r) rs ≡ rs
map-same [] = refl
map-same (r ∷ rs) = ap (λ (t : List _). r ∷ t) (map-same rs)

-- ---- the two logs' unit records among the merged standards

module _ (p q n n′ : ℕ) (ss ts : List Standard) (early : Each (λ s. s.start < p) ss) (u : Rises standard_key ss) (v : Rises standard_key ts) where
  abbrev all : List Standard
  all = both p ss ts

  abbrev up : Rises standard_key all
  up = both-rise p ss ts early u v

  -- a unit record of the first log
  pub record FirstJudged (w : UnitRecord) : Type 0 where
    pub mine : Judge ss w.«module» w.recipe w.time (in_force ss w.«module» w.recipe w.time)
    pub ours : Answered all w.«module» w.recipe w.time mine.place.standard (in_force all w.«module» w.recipe w.time)

  pub first-judged : (w : UnitRecord) → UnitSound p n ss w → FirstJudged w
  first-judged w s =
      let j = judge ss w.«module» w.recipe w.time s.judged in
      record {
        mine = j;
        ours = answered all w.«module» w.recipe w.time up j.place.standard (holds-before p ss ts early w.«module» w.recipe w.time j.place.standard s.inside j.holds);
      }

  -- and one of the second, moved up
  pub record SecondJudged (w : UnitRecord) : Type 0 where
    pub mine : Judge ts w.«module» w.recipe w.time (in_force ts w.«module» w.recipe w.time)
    pub ours : Answered all w.«module» w.recipe (p + w.time) (standard_up p mine.place.standard) (in_force all w.«module» w.recipe (p + w.time))

  pub second-judged : (w : UnitRecord) → UnitSound q n′ ts w → SecondJudged w
  second-judged w s =
      let j = judge ts w.«module» w.recipe w.time s.judged in
      record {
        mine = j;
        ours = answered all w.«module» w.recipe (p + w.time) up (standard_up p j.place.standard) (holds-after p ss ts early w.«module» w.recipe w.time j.place.standard j.holds);
      }

  pub first-time : (w : UnitRecord) → UnitSound p n ss w → time_of (in_force all w.«module» w.recipe w.time) ≡ time_of (in_force ss w.«module» w.recipe w.time)
  first-time w s = let j = first-judged w s in rw (j.ours.answer, j.mine.answer) (ap (λ (x : Standard). x.theoretical) j.ours.standard)

  pub second-time : (w : UnitRecord) → UnitSound q n′ ts w → time_of (in_force all w.«module» w.recipe (p + w.time)) ≡ time_of (in_force ts w.«module» w.recipe w.time)
  second-time w s = let j = second-judged w s in rw (j.ours.answer, j.mine.answer) (ap (λ (x : Standard). x.theoretical) j.ours.standard)

  -- ---- by index

  module _ (i j : ℕ) (inside : i < length all) where
    first-index : j < length ss → nth all i ≡ nth ss j → (w : UnitRecord) → UnitSound p n ss w → judged_by all w i ≡ judged_by ss w j
    unfolding judged_by
    first-index l e w s =
        let k = first-judged w s in
        let x = k.mine.place.index in
        let y = k.ours.place.index in
        let there : nth all y ≡ nth ss x = k.ours.there ∙ sym k.mine.there in
        rw (k.ours.answer, k.mine.answer)
        (same-test x y i j
        (λ h. same-index standard_key ss no_standard u x j k.mine.inside l (sym there ∙ ap (nth all) h ∙ e))
        (λ h. same-index standard_key all no_standard up y i k.ours.inside inside (there ∙ ap (nth ss) h ∙ sym e)))

    -- a standard of the second log judges none of the first
    second-not-first : nth all i ≡ standard_up p (nth ts j) → (w : UnitRecord) → UnitSound p n ss w → judged_by all w i ≡ false
    unfolding judged_by
    second-not-first e w s =
        let k = first-judged w s in
        let y = k.ours.place.index in
        let early-one : k.mine.place.standard.start < p = each-member (λ s. s.start < p) k.mine.holds.listed early in
        rw k.ours.answer
        (ne_eqb y i (λ h. let z : k.mine.place.standard ≡ standard_up p (nth ts j) = sym k.ours.there ∙ ap (nth all) h ∙ e in omega (arith, ap (λ (x : Standard). x.start) z, early-one)))

    first-not-second : j < length ss → nth all i ≡ nth ss j → (w : UnitRecord) → UnitSound q n′ ts w → judged_by all (unit_up p w) i ≡ false
    unfolding judged_by
    first-not-second l e w s =
        let k = second-judged w s in
        let y = k.ours.place.index in
        let early-one : (nth ss j).start < p = each-member (λ s. s.start < p) (at-member ss j no_standard l) early in
        rw k.ours.answer
        (ne_eqb y i (λ h. let z : standard_up p k.mine.place.standard ≡ nth ss j = sym k.ours.there ∙ ap (nth all) h ∙ e in omega (arith, ap (λ (x : Standard). x.start) z, early-one)))

    second-index : j < length ts → nth all i ≡ standard_up p (nth ts j) → (w : UnitRecord) → UnitSound q n′ ts w → judged_by all (unit_up p w) i ≡ judged_by ts w j
    unfolding judged_by
    second-index l e w s =
        let k = second-judged w s in
        let x = k.mine.place.index in
        let y = k.ours.place.index in
        let there : nth all y ≡ standard_up p (nth ts x) = k.ours.there ∙ ap (standard_up p) (sym k.mine.there) in
        rw (k.ours.answer, k.mine.answer)
        (same-test x y i j
        (λ h. same-index standard_key ts no_standard v x j k.mine.inside l (down (nth ts x) (nth ts j) (at-member ts x no_standard k.mine.inside) (at-member ts j no_standard l) (sym there ∙ ap (nth all) h ∙ e)))
        (λ h. same-index standard_key all no_standard up y i k.ours.inside inside (there ∙ ap (λ (z : ℕ). standard_up p (nth ts z)) h ∙ sym e)))
      where
        down : (r s : Standard) → Memᴰ r ts → Memᴰ s ts → standard_up p r ≡ standard_up p s → r ≡ s
        down r s a b z =
            let start : r.start ≡ s.start = omega (arith, ap (λ (x : Standard). x.start) z) in
            let own : r.«module» ≡ s.«module» = ap (λ (x : Standard). x.«module») z in
            let made : r.recipe ≡ s.recipe = ap (λ (x : Standard). x.recipe) z in
            same-record standard_key v a b (rw (own, made, start))

  -- ---- all of them

  module _ (us vs : List UnitRecord) (su : Each (UnitSound p n ss) us) (sv : Each (UnitSound q n′ ts) vs) (units : UnitRecord → ℕ) (alike : (w : UnitRecord) → units (unit_up p w) ≡ units w) where
    pub theoretical-added : (m : ℕ) → theoretical_time units all (us ++ map (unit_up p) vs) m ≡ theoretical_time units ss us m + theoretical_time units ts vs m
    theoretical-added m =
        let first : theoretical_time units all (map (λ w. w) us) m ≡ theoretical_time units ss us m = times-kept units (λ w. w) (λ w. refl) (λ w. refl) all ss m us (each-so (UnitSound p n ss) _ first-time us su) in
        time-append units all us (map (unit_up p) vs) m
        ∙ ap₂ ◌+◌
        (rw (map-same us) at first)
        (times-kept units (unit_up p) (λ w. refl) alike all ts m vs (each-so (UnitSound q n′ ts) _ second-time vs sv))

    module _ (i j : ℕ) (inside : i < length all) where
      pub first-kept : j < length ss → nth all i ≡ nth ss j → units_judged units all (us ++ map (unit_up p) vs) i ≡ units_judged units ss us j
      first-kept l e =
          let first : units_judged units all (map (λ w. w) us) i ≡ units_judged units ss us j = judged-kept units (λ w. w) (λ w. refl) (λ w. refl) all ss i j us (each-so (UnitSound p n ss) _ (first-index i j inside l e) us su) in
          let none : units_judged units all (map (unit_up p) vs) i ≡ 0 = none-judged units all i (map (unit_up p) vs) (each-map (unit_up p) (UnitSound q n′ ts) (λ w. judged_by all w i ≡ false) (first-not-second i j inside l e) vs sv) in
          judged-append units all us (map (unit_up p) vs) i ∙ omega (arith, rw (map-same us) at first, none)

      pub second-kept : j < length ts → nth all i ≡ standard_up p (nth ts j) → units_judged units all (us ++ map (unit_up p) vs) i ≡ units_judged units ts vs j
      second-kept l e =
          let none : units_judged units all us i ≡ 0 = none-judged units all i us (each-so (UnitSound p n ss) _ (second-not-first i j inside e) us su) in
          let second : units_judged units all (map (unit_up p) vs) i ≡ units_judged units ts vs j = judged-kept units (unit_up p) (λ w. refl) alike all ts i j vs (each-so (UnitSound q n′ ts) _ (second-index i j inside l e) vs sv) in
          judged-append units all us (map (unit_up p) vs) i ∙ omega (arith, none, second)
