-- `records::state_in` meets its contract: each field is cut out of the word. Assumes nothing.
use native.Mathlib.Omega.{arith}
use mathlib.Core.Path.{◌≡◌}
use mathlib.Core.List.{List}
use Prim.Native.Nat.{ℕ, ◌+◌}
use Rattle.bits.specs.Bits.{field}
use Rattle.bits.proofs.Fields.{cut_at, tail_at}
use Rattle.records.specs.Fields.{state_from}
use Rattle.records.specs.declared.StateRecord.{StateRecord}
use Rattle.records.proofs.state_in.Goals as goal

fields : (s : List ℕ) (p : ℕ) (r : StateRecord) → r.«module» ≡ field s p 6 → r.code ≡ field s (p + 6) 5 → r.time ≡ field s (p + 11) 35 → r.spare ≡ field s (p + 46) 2
    → r ≡ state_from s p
unfolding state_from
fields s p r m k t x = λ i. record { «module» = m i; code = k i; time = t i; spare = x i }

pub returns : goal.returns
returns c =
    λ s p e.
    fields s (p + 16) _ (rw e (cut_at s p 16 6 42 64 (p + 16) (omega arith) (omega arith))) (rw e (cut_at s p 22 5 37 64 (p + 16 + 6) (omega arith) (omega arith)))
    (rw e (cut_at s p 27 35 2 64 (p + 16 + 11) (omega arith) (omega arith))) (rw e (tail_at s p 62 2 64 (p + 16 + 46) (omega arith) (omega arith)))
