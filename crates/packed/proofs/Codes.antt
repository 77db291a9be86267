-- State records as records that set a value: a module's code, from their time on.
-- Assumes nothing.
use mathlib.Core.Path.{◌≡◌}
use mathlib.Core.Bool.{Bool, true, ◌&&◌}
use Prim.Native.Nat.{ℕ, ◌≤◌}
use lib.Dec.{leb, eqb}
use borrow.Author.Tests.{eqb-true, leb-true, eq-eqb, le-leb}
use Rattle.records.specs.declared.StateRecord.{StateRecord}
use Rattle.rules.specs.Sequence.{state_key}
use Rattle.rules.proofs.Booleans.{both}
use Rattle.rules.proofs.Sequence.{time-above}
use Rattle.packed.proofs.Changes.{Setting}

abbrev pub meets : ℕ → ℕ → StateRecord → Bool
meets m t r = eqb r.«module» m && leb r.time t

pub met : (m t : ℕ) (r : StateRecord) → meets m t r ≡ true → (r.«module» ≡ m) × (r.time ≤ t)
met m t r e = let p = both (eqb r.«module» m) (leb r.time t) e in (eqb-true r.«module» m p.0, leb-true r.time t p.1)

pub meet : (m t : ℕ) (r : StateRecord) → r.«module» ≡ m → r.time ≤ t → meets m t r ≡ true
meet m t r e l = rw (eq-eqb r.«module» m e) (le-leb r.time t l)

abbrev pub codes : Setting StateRecord ℕ
codes =
    record {
      subject = λ r. r.«module»;
      time = λ r. r.time;
      value = λ r. r.code;
      meets = meets;
      met = met;
      meet = meet;
      key = state_key;
      above = λ r q h e. time-above r q e h;
    }
