-- The unit records tested and credited, one by one.
-- Assumes nothing.
use mathlib.Core.Path.{◌≡◌, refl, sym, ap, ◌∙◌}
use mathlib.Core.Bool.{not}
use mathlib.Core.Option.{none, some}
use mathlib.Core.List.{List, [], ◌∷◌, ◌++◌}
use Prim.Native.Nat.{ℕ, ◌+◌, ◌*◌, ◌^◌, ◌≤◌, ◌<◌}
use native.Mathlib.Nat.{mul-le-mul, add_assoc}
use native.Mathlib.Decide.{ℕ_discrete, dec_lt}
use native.Mathlib.Omega.{arith}
use lib.ListN.{length, get_or, set, replicate, length-set, length-replicate, get_or-replicate}
use lib.Seq.{get_or-set_same, get_or-set_other}
use lib.Dec.{leb, ltb}
use borrow.Author.Tests.{eq-eqb, ne_eqb, le-ltb, lt-ltb, le-leb, lt-leb}
use Rattle.records.specs.declared.Header.{Header}
use Rattle.records.specs.declared.Standard.{Standard}
use Rattle.records.specs.declared.UnitRecord.{UnitRecord}
use Rattle.records.specs.Fields.{unit_from}
use Rattle.records.specs.Log.{up_to, standard_at, unit_at}
use Rattle.records.proofs.Widths.{unit-fits, standard-time-low}
use Rattle.rules.specs.declared.Placed.{Placed}
use Rattle.rules.specs.declared.Ground.TheVariants.{NoStandard, Unsorted}
use Rattle.rules.specs.declared.LogList.TheVariants.{Units}
use Rattle.rules.specs.Grounds.{ground, ◌then◌}
use Rattle.rules.specs.Theoretical.{last_in_force, in_force, credit, theoretical_time}
use Rattle.std.specs.Prelude.{Some, None, true}
use Rattle.rules.proofs.InForce.{the_one}
use Rattle.rules.proofs.LastInForce.{last_in_force_lem}
use Rattle.theoretical.specs.Listing.{found}
use Rattle.theoretical.proofs.Chains.{none_found, some_found}
use Rattle.rules.specs.Sequence.{is_rising, standard_key}
use Rattle.rules.specs.Keys.{unit_number, UnitFits, UnitsSequenced}
use Rattle.rules.specs.RecordGrounds.{is_none, unit_ground}
use Rattle.rules.proofs.FirstGround.{then-assoc}
use Rattle.theoretical.specs.Credits.{own_grounds, SumsSoFar}

-- the record that begins at a byte is the log's, and its fields have their widths
module _ (s : List ℕ) (h : Header) (i byte : ℕ) (u : UnitRecord) (e : u ≡ unit_from s (8 * byte)) (place : byte ≡ 10 + 6 * h.states + 10 * h.standards + 11 * i) where
  pub read_at : u ≡ unit_at s h i
  read_at = e ∙ ap (unit_from s) (omega arith)

  pub widths : UnitFits u × (u.actual < 65536) × (u.effective < 65536)
  widths =
      let f = unit-fits s (80 + 48 * h.states + 80 * h.standards + 88 * i) in
      rw read_at ((f.0, f.1.0, f.1.1.0), f.1.1.1.0, f.1.1.1.1.0)

-- a standard in force is one of the log's
pub index-low : (s : List ℕ) (h : Header) (n : ℕ) (ss : List Standard) → ss ≡ up_to (standard_at s h) n → (m recipe time : ℕ) (p : Placed) → in_force ss m recipe time ≡ some p → p.index < n
index-low s h n ss listed m recipe time p e = (the_one (standard_at s h) m recipe time n p (rw listed at e)).listed

pub short : (s : List ℕ) (h : Header) (n : ℕ) (ss : List Standard) → ss ≡ up_to (standard_at s h) n → (m recipe time : ℕ) (p : Placed) → in_force ss m recipe time ≡ some p → p.standard.theoretical < 134217728
short s h n ss listed m recipe time p e =
    let f = the_one (standard_at s h) m recipe time n p (rw listed at e) in
    rw f.same (standard-time-low s h p.index)

-- where the standards rise, what is looked up is in force
module _ (ss : List Standard) (rising : is_rising standard_key ss ≡ true) (m recipe time : ℕ) where
  pub none_in_force : None ≡ found (last_in_force ss m recipe time) → in_force ss m recipe time ≡ none
  none_in_force e = sym (last_in_force_lem ss m recipe time rising) ∙ none_found _ e

  pub one_in_force : (p : Placed) → Some p ≡ found (last_in_force ss m recipe time) → in_force ss m recipe time ≡ some p
  one_in_force p e = sym (last_in_force_lem ss m recipe time rising) ∙ some_found _ p e

-- one unit record's credit is below 2 ^ 43
pub credit_low : (units theoretical : ℕ) → units < 65536 → theoretical < 134217728 → units * theoretical < 2 ^ 43
credit_low units theoretical h l = omega (arith, mul-le-mul {n₁ = units} {m₁ = theoretical} {n₂ = 65535} {m₂ = 134217727} (omega arith) (omega arith))

-- ---- one more unit record

module _ (f : UnitRecord → ℕ) (ss : List Standard) where
  total-more : (us : List UnitRecord) (u : UnitRecord) (m : ℕ) → theoretical_time f ss (us ++ (u ∷ [])) m ≡ theoretical_time f ss us m + credit f ss m u
  unfolding theoretical_time
  total-more [] u m = omega arith
  total-more (v ∷ us) u m = rw (total-more us u m) (sym (add_assoc (credit f ss m v) (theoretical_time f ss us m) (credit f ss m u)))

  credit-own : (u : UnitRecord) (p : Placed) (m : ℕ) → u.«module» ≡ m → in_force ss u.«module» u.recipe u.time ≡ some p → credit f ss m u ≡ f u * p.standard.theoretical
  unfolding credit
  credit-own u p m e i = rw (eq-eqb u.«module» m e, i)

  credit-other : (u : UnitRecord) (m : ℕ) → (u.«module» ≡ m → ⊥) → credit f ss m u ≡ 0
  unfolding credit
  credit-other u m ne = rw (ne_eqb u.«module» m ne)

  module _ (us : List UnitRecord) (u : UnitRecord) (p : Placed) (A : List ℕ) (len : length A ≡ 64) (low : u.«module» < 64) (found : in_force ss u.«module» u.recipe u.time ≡ some p) where
    pub sum_more : ((m : ℕ) → m < 64 → get_or A m 0 ≡ theoretical_time f ss us m)
        → (m : ℕ) → m < 64 → get_or (set A u.«module» (get_or A u.«module» 0 + f u * p.standard.theoretical)) m 0 ≡ theoretical_time f ss (us ++ (u ∷ [])) m
    sum_more h m l =
        rw (total-more us u m)
        (elim (ℕ_discrete u.«module» m) [
          | yes q ↦ rw (credit-own u p m q found, ← q) (get_or-set_same A u.«module» _ 0 (omega arith) ∙ ap (λ (x : ℕ). x + f u * p.standard.theoretical) (h u.«module» low))
          | no q ↦ rw (credit-other u m q) (get_or-set_other A u.«module» m _ 0 (λ e. q (sym e)) ∙ h m l ∙ omega arith)
        ])

    pub low_more : (i : ℕ) → f u < 65536 → p.standard.theoretical < 134217728 → ((m : ℕ) → m < 64 → get_or A m 0 ≤ i * 2 ^ 43)
        → (m : ℕ) → m < 64 → get_or (set A u.«module» (get_or A u.«module» 0 + f u * p.standard.theoretical)) m 0 ≤ (i + 1) * 2 ^ 43
    low_more i few short h m l =
        elim (ℕ_discrete u.«module» m) [
          | yes q ↦ rw (← q, get_or-set_same A u.«module» (get_or A u.«module» 0 + f u * p.standard.theoretical) 0 (omega arith)) (omega (arith, h u.«module» low, credit_low (f u) p.standard.theoretical few short))
          | no q ↦ rw (get_or-set_other A u.«module» m (get_or A u.«module» 0 + f u * p.standard.theoretical) 0 (λ e. q (sym e))) (omega (arith, h m l))
        ]

module _ (ss : List Standard) (us : List UnitRecord) (i : ℕ) (u : UnitRecord) (p : Placed) (low : u.«module» < 64) (found : in_force ss u.«module» u.recipe u.time ≡ some p)
    (few : u.actual < 65536) (fewer : u.effective < 65536) (short : p.standard.theoretical < 134217728) where
  pub summed_more : (A E : List ℕ) → SumsSoFar ss us i A E
      → SumsSoFar ss (us ++ (u ∷ [])) (i + 1) (set A u.«module» (get_or A u.«module» 0 + u.actual * p.standard.theoretical)) (set E u.«module» (get_or E u.«module» 0 + u.effective * p.standard.theoretical))
  summed_more A E sums =
      record {
        sized = (length-set A _ _ ∙ sums.sized.0, length-set E _ _ ∙ sums.sized.1);
        low = λ m l. (
          low_more (λ u. u.actual) ss us u p A sums.sized.0 low found i few short (λ k q. (sums.low k q).0) m l,
          low_more (λ u. u.effective) ss us u p E sums.sized.1 low found i fewer short (λ k q. (sums.low k q).1) m l,
        );
        credited =
            record {
              actual = sum_more (λ u. u.actual) ss us u p A sums.sized.0 low found sums.credited.actual;
              effective = sum_more (λ u. u.effective) ss us u p E sums.sized.1 low found sums.credited.effective;
            };
      }

-- ---- one unit record tested, by its number

not-below : (b n : ℕ) → not (ltb b n) ≡ leb n b
not-below b n = elim (dec_lt b n) [ yes h ↦ rw (lt-ltb b n h, lt-leb n b h) refl | no h ↦ rw (le-ltb b n (omega arith), le-leb n b (omega arith)) refl ]

pub unit_by_number : (period modules : ℕ) (ss : List Standard) (earlier : List UnitRecord) (i before : ℕ) (u : UnitRecord) → UnitFits u → UnitsSequenced earlier before
    → unit_ground period modules ss earlier i u
    ≡ (own_grounds period modules i u
    then ground NoStandard Units i (is_none (in_force ss u.«module» u.recipe u.time))
    then ground Unsorted Units i (leb (unit_number u) before))
unfolding unit_ground own_grounds
unit_by_number period modules ss earlier i before u fit q = rw (q.next u fit, not-below before (unit_number u)) (sym (simp then-assoc))

-- sums that start at zero
pub summed-none : (ss : List Standard) (at : ℕ → UnitRecord) (A E : List ℕ) → A ≡ replicate 64 0 → E ≡ replicate 64 0 → SumsSoFar ss (up_to at 0) 0 A E
unfolding up_to theoretical_time
summed-none ss at A E ea ee =
    rw (ea, ee)
    (record {
      sized = (length-replicate {A = ℕ} 64 0, length-replicate {A = ℕ} 64 0);
      low = λ m l. (zero-low m l, zero-low m l);
      credited = record { actual = λ m l. get_or-replicate {A = ℕ} 64 m 0 0 l; effective = λ m l. get_or-replicate {A = ℕ} 64 m 0 0 l };
    })
  where
    zero-low : (m : ℕ) → m < 64 → get_or (replicate 64 0) m 0 ≤ 0 * 2 ^ 43
    zero-low m l = rw (get_or-replicate {A = ℕ} 64 m 0 0 l) (omega arith)
