-- What the pass holds between two records, for the contracts of its private functions: the totals T, for each module one word in P, which has the least time that
-- its next record may have and the state since its latest, and whether its first record was at 0, in O.
-- Definitions only.
use Rattle.std.specs.Prelude.{◌≡◌, Bool, false, List, ℕ, zero, suc, ◌+◌, ◌-◌, ◌*◌, ◌/◌, ◌%◌, ◌^◌, ◌≤◌, ◌<◌, leb, get_or, set, length, replicate}
use Rattle.std.proofs.Math.Option.{none, some, IsSome}
use Rattle.records.specs.declared.StateRecord.{StateRecord}
use Rattle.records.specs.Log.{up_to}
use Rattle.rules.specs.Grounds.{Verdict}
use Rattle.std.specs.declared.result.Result.TheVariants.{Ok}
use Rattle.rules.specs.Grounds.{each_of}
use Rattle.rules.specs.Names.{productive, standby, engineering}
use Rattle.rules.specs.Time.{state_of, code_at, state_time}
use Rattle.rules.specs.Keys.{StatesSequenced}
use Rattle.states.specs.declared.Tally.{Tally}
use Rattle.rules.specs.RecordGrounds.{own_time, first_time, is_opening, state_ground}

-- the totals once module m has been d ms in a state
abbrev pub totals_with : List ℕ → ℕ → ℕ → ℕ → List ℕ
totals_with T m state d = set T (6 * m + state) (get_or T (6 * m + state) 0 + d)

-- the states that count as uptime: productive, standby and engineering
abbrev pub is_uptime : ℕ → Bool
is_uptime state = leb state engineering

-- whether each state counts, as the first n codes of the table tell it
unfoldable pub uptime_marks : ℕ → List Bool
unfolding state_of
uptime_marks zero = replicate 6 false
uptime_marks (suc n) = set (uptime_marks n) (state_of n) (is_uptime (state_of n))

-- module m's uptime, of its totals
abbrev pub uptime_in : List ℕ → ℕ → ℕ
uptime_in T m = get_or T (6 * m + productive) 0 + get_or T (6 * m + standby) 0 + get_or T (6 * m + engineering) 0

-- module m has no record yet
pub record Unseen (rs : List StateRecord) (m n s : ℕ) (o : Bool) : Type 0 where
  pub next : n ≡ 0
  pub state : s ≡ 0
  pub opening : o ≡ false
  pub own : own_time m rs ≡ none
  pub first : first_time m rs ≡ none
  pub code : (t : ℕ) → code_at rs m t ≡ none

-- module m is in the state s since n - 1
pub record Open (rs : List StateRecord) (m n s : ℕ) (o : Bool) : Type 0 where
  pub next : 0 < n
  pub opening : o ≡ is_opening (first_time m rs)
  pub own : own_time m rs ≡ some (n - 1)
  pub first : IsSome (first_time m rs)
  pub latest : ℕ
  pub state : s ≡ state_of latest
  pub code : (t : ℕ) → n - 1 ≤ t → code_at rs m t ≡ some latest

pub data Stretch (rs : List StateRecord) (m n s : ℕ) (o : Bool) : Type 0 where
  fresh : Unseen rs m n s o → Stretch rs m n s o
  running : Open rs m n s o → Stretch rs m n s o

-- module m's six totals are its state times up to u
pub record Sums (rs : List StateRecord) (T : List ℕ) (m u : ℕ) : Type 0 where
  pub totals : (k : ℕ) → k < 6 → get_or T (6 * m + k) 0 ≡ state_time rs u m k

-- what is known of a module's last stretch, and of its next record
pub record Module (rs : List StateRecord) (period m n s : ℕ) (o : Bool) : Type 0 where
  pub early : n ≤ period
  pub low : s < 6
  pub stretch : Stretch rs m n s o

pub record Modules (rs : List StateRecord) (period : ℕ) (P : List ℕ) (O : List Bool) : Type 0 where
  pub words : length P ≡ 64
  pub opened : length O ≡ 64
  pub each : (m : ℕ) → m < 64 → Module rs period m (get_or P m 0 / 8) (get_or P m 0 % 8) (get_or O m false)

-- after the records rs: each module's totals run up to its latest record
pub record Held (rs : List StateRecord) (period : ℕ) (T P : List ℕ) (O : List Bool) : Type 0 where
  pub totals : length T ≡ 384
  pub modules : Modules rs period P O
  pub sums : (m : ℕ) → m < 64 → Sums rs T m (get_or P m 0 / 8 - 1)

-- what a tally holds after the records rs
pub record Holding (rs : List StateRecord) (period : ℕ) (t : Tally) : Type 0 where
  pub sequenced : StatesSequenced rs t.before
  pub held : Held rs period t.totals.now t.latest t.opened

-- module m has an open stretch, which is not begun after `end` and has room in its total
pub record Ending (T P : List ℕ) (m end : ℕ) : Type 0 where
  pub running : 0 < get_or P m 0 / 8
  pub state : get_or P m 0 % 8 < 6
  pub begun : get_or P m 0 / 8 - 1 ≤ end
  pub room : get_or T (6 * m + get_or P m 0 % 8) 0 + (end - (get_or P m 0 / 8 - 1)) < 2 ^ 64

-- the totals once module m's open stretch has ended
abbrev pub stretch_ended : List ℕ → List ℕ → ℕ → ℕ → List ℕ
stretch_ended T P m end = totals_with T m (get_or P m 0 % 8) (end - (get_or P m 0 / 8 - 1))

-- record i's answer v, and what is held where it passes
pub record Stepped (at : ℕ → StateRecord) (period modules i : ℕ) (v : Verdict) (t : Tally) : Type 0 where
  pub answer : v ≡ state_ground period modules (up_to at i) i (at i)
  pub held : v ≡ Ok tt → Holding (up_to at (i + 1)) period t

-- the answer v to n records, and what is held where all pass
pub record Scanned (at : ℕ → StateRecord) (period modules n : ℕ) (v : Verdict) (t : Tally) : Type 0 where
  pub answer : v ≡ each_of (state_ground period modules) (up_to at n)
  pub held : v ≡ Ok tt → Holding (up_to at n) period t
