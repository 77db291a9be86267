-- A module's time with codes of any kind in the joined log is its time in the first log and its time in the second: up to the first's period the codes are
-- the first's, and from there on the second's, which opens each module.
-- Assumes nothing.
use mathlib.Core.Path.{◌≡◌, ap, ap₂, ◌∙◌}
use mathlib.Core.Bool.{Bool, true}
use mathlib.Core.Option.{Option}
use mathlib.Core.List.{List, ◌++◌, map}
use Prim.Native.Nat.{ℕ, ◌+◌, ◌<◌}
use native.Mathlib.Omega.{arith}
use Rattle.records.specs.declared.StateRecord.{StateRecord}
use Rattle.records.specs.Log.{Log}
use Rattle.rules.specs.Time.{code_at, is_state, state_time}
use Rattle.rules.specs.RecordGrounds.{first_time, is_opening}
use Rattle.rules.specs.Quantities.{time_in}
use Rattle.rules.proofs.Each.{each-image}
use Rattle.states.proofs.Count.{count-agree}
use Rattle.sound.proofs.Codes.{count-add, or_else, found-first, code-append, code-later, opened-found}
use Rattle.joined.specs.Joined.{state_up, joined_log, time_with}
use Rattle.joined.proofs.Up.{code-up}

module _ (p m : ℕ) (ps qs : List StateRecord) where
  pub before : (t : ℕ) → t < p → code_at (ps ++ map (state_up p) qs) m t ≡ code_at ps m t
  before t l = code-append m t ps (map (state_up p) qs) ∙ ap (λ (o : Option ℕ). or_else o (code_at ps m t)) (code-later m t (map (state_up p) qs) (each-image (state_up p) (λ r. t < r.time) (λ r. omega arith) qs))

  pub after : is_opening (first_time m qs) ≡ true → (t : ℕ) → code_at (ps ++ map (state_up p) qs) m (p + t) ≡ code_at qs m t
  after o t =
      code-append m (p + t) ps (map (state_up p) qs)
      ∙ ap (λ (c : Option ℕ). or_else c (code_at ps m (p + t))) (code-up p m t qs)
      ∙ found-first (code_at qs m t) (code_at ps m (p + t)) (opened-found m t qs o)

module _ (a b : Log) (m : ℕ) (o : is_opening (first_time m b.states) ≡ true) where
  pub times-added : (test : Option ℕ → Bool) → time_with test (joined_log a b) m ≡ time_with test a m + time_with test b m
  unfolding time_with joined_log
  times-added test =
      count-add (λ t. test (code_at (joined_log a b).states m t)) a.period b.period
      ∙ ap₂ ◌+◌
      (count-agree _ (λ t. test (code_at a.states m t)) a.period (λ t l. ap test (before a.period m a.states b.states t l)))
      (count-agree _ (λ t. test (code_at b.states m t)) b.period (λ t l. ap test (after a.period m a.states b.states o t)))

  pub states-added : (k : ℕ) → time_in (joined_log a b) k m ≡ time_in a k m + time_in b k m
  unfolding time_in state_time time_with
  states-added k = times-added (is_state k)
