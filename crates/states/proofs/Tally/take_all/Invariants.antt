use mathlib.Core.Path.{◌≡◌}
use Prim.Native.Nat.{ℕ}
use Rattle.records.specs.declared.StateRecord.{StateRecord}
use Rattle.records.specs.Log.{state_at, up_to}
use Rattle.rules.specs.Grounds.{Verdict}
use Rattle.std.specs.declared.result.Result.TheVariants.{Ok}
use Rattle.rules.specs.Grounds.{first_of}
use Rattle.rules.specs.RecordGrounds.{state_ground}
use Rattle.states.specs.Held.{Holding}
use Rattle.states.proofs.Tally.take_all.Given as goal

-- record i's ground, after the records before it
abbrev pub ground_at : ℕ → ℕ → (ℕ → StateRecord) → ℕ → Verdict
ground_at period modules at i = state_ground period modules (up_to at i) i (at i)

abbrev pub invariant-loop-i : goal.invariant-loop-i
invariant-loop-i l = record {
  passed : first_of (ground_at l.log.header.period l.log.header.modules (state_at l.log.bytes.now)) l.i ≡ Ok tt;
  same_totals : l.self.totals.ghost_name ≡ l.initial.self.totals.ghost_name;
  held : Holding (up_to (state_at l.log.bytes.now) l.i) l.log.header.period l.self;
}
