-- Each number that is read fits its field, those of a whole log too.
-- Assumes nothing.
use mathlib.Core.Path.{◌≡◌, sym, subst}
use mathlib.Core.List.{List, [], ◌∷◌, ◌++◌}
use Prim.Native.Nat.{ℕ, zero, suc, ◌+◌, ◌*◌, ◌^◌, ◌<◌}
use native.Mathlib.Omega.{arith}
use Rattle.bits.specs.Put.{Slot, Fit}
use Rattle.bits.proofs.Fields.{field_lt}
use Rattle.records.specs.Fields.{header_from, state_from, standard_from, unit_from}
use Rattle.records.specs.declared.Header.{Header}
use Rattle.records.specs.Log.{header_of, state_at, standard_at, unit_at, up_to, decode}
use Rattle.records.specs.Encode.{header_slots, state_slots, standard_slots, unit_slots, header_for, AllFit, LogFits}
use Rattle.records.specs.Whole.{units_end}
use Rattle.records.proofs.UpTo.{length_up_to}

header-fits : (s : List ℕ) (p : ℕ) → Fit (header_slots (header_from s p))
unfolding header_from
header-fits s p = (field_lt s p 35, (field_lt s (p + 35) 7, (field_lt s (p + 42) 14, (field_lt s (p + 56) 11, (field_lt s (p + 67) 13, tt)))))

-- a log of the length that its header gives is short
pub whole-short : (s : List ℕ) (h : Header) → h ≡ header_of s → units_end h < 2 ^ 32
whole-short s h own =
    let fit : Fit (header_slots h) = subst (λ (x : Header). Fit (header_slots x)) (sym own) (header-fits s 0) in
    omega (arith, fit.1.1.0, fit.1.1.1.0, fit.1.1.1.1.0)

pub state-fits : (s : List ℕ) (p : ℕ) → Fit (state_slots (state_from s p))
unfolding state_from
state-fits s p = (field_lt s p 6, (field_lt s (p + 6) 5, (field_lt s (p + 11) 35, (field_lt s (p + 46) 2, tt))))

pub standard-fits : (s : List ℕ) (p : ℕ) → Fit (standard_slots (standard_from s p))
unfolding standard_from
standard-fits s p = (field_lt s p 6, (field_lt s (p + 6) 10, (field_lt s (p + 16) 35, (field_lt s (p + 51) 27, (field_lt s (p + 78) 2, tt)))))

-- the theoretical time of a log's standard
pub standard-time-low : (s : List ℕ) (h : Header) (i : ℕ) → (standard_at s h i).theoretical < 2 ^ 27
standard-time-low s h i = (standard-fits s (80 + 48 * h.states + 80 * i)).1.1.1.0

pub unit-fits : (s : List ℕ) (p : ℕ) → Fit (unit_slots (unit_from s p))
unfolding unit_from
unit-fits s p = (field_lt s p 6, (field_lt s (p + 6) 10, (field_lt s (p + 16) 35, (field_lt s (p + 51) 16, (field_lt s (p + 67) 16, (field_lt s (p + 83) 5, tt))))))

fit-up_to : {A : Type 0} (slots : A → List Slot) (at : ℕ → A) → ((i : ℕ) → Fit (slots (at i))) → (n : ℕ) → AllFit slots (up_to at n)
unfolding up_to
fit-up_to slots at h zero = tt
fit-up_to {A} slots at h (suc n) = more (up_to at n) (fit-up_to slots at h n)
  where
    more : (rs : List A) → AllFit slots rs → AllFit slots (rs ++ (at n ∷ []))
    more [] f = (h n, tt)
    more (r ∷ rs) f = (f.0, more rs f.1)

-- the header of a log that was read counts its records
pub header-counts : (s : List ℕ) → header_for (decode s) ≡ header_of s
unfolding decode
header-counts s =
    let h = header_of s in
    rw (length_up_to (state_at s) h.states, length_up_to (standard_at s h) h.standards, length_up_to (unit_at s h) h.units)

pub decode-fits : (s : List ℕ) → LogFits (decode s)
unfolding decode
decode-fits s =
    let h = header_of s in
    record {
      header = subst (λ (h : Header). Fit (header_slots h)) (sym (header-counts s)) (header-fits s 0);
      states = fit-up_to state_slots (state_at s) (λ i. state-fits s (80 + 48 * i)) h.states;
      standards = fit-up_to standard_slots (standard_at s h) (λ i. standard-fits s (80 + 48 * h.states + 80 * i)) h.standards;
      units = fit-up_to unit_slots (unit_at s h) (λ i. unit-fits s (80 + 48 * h.states + 80 * h.standards + 88 * i)) h.units;
    }
