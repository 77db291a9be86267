-- What is claimed of a packed log: it says what the log says, and no log that says the same has fewer records.
-- Definitions only.
use Rattle.std.specs.Prelude.{◌≡◌, ◌+◌, ◌≤◌, ◌<◌, ℕ, List, length}
use Rattle.std.specs.declared.result.Result.TheVariants.{Ok}
use Rattle.records.specs.Log.{Log, decode}
use Rattle.rules.specs.Time.{code_at}
use Rattle.rules.specs.Quantities.{module_times, tool_times, of_module, of_tool}
use Rattle.rules.specs.Verdict.{verdict}
use Rattle.packed.specs.Packed.{time_in_force, packed_log, packed_bytes}

-- two logs of one period and module count say the same: at each millisecond each module has the same code, and each module and recipe the same theoretical time in
-- force, or none in both; and the unit records are the same
pub record SaySame (k l : Log) : Type 0 where
  pub period : k.period ≡ l.period
  pub modules : k.modules ≡ l.modules
  pub codes : (m t : ℕ) → m < l.modules → t < l.period → code_at k.states m t ≡ code_at l.states m t
  pub times : (m recipe t : ℕ) → m < l.modules → t < l.period → time_in_force k.standards m recipe t ≡ time_in_force l.standards m recipe t
  pub units : k.units ≡ l.units

-- ---- what stays

-- the same state times and quantities, of which figures, losses and the report are made
pub record SameSums (k l : Log) : Type 0 where
  pub times : (m : ℕ) → module_times k m ≡ module_times l m
  pub tool_times : tool_times k ≡ tool_times l
  pub quantities : (m : ℕ) → of_module k m ≡ of_module l m
  pub tool : of_tool k ≡ of_tool l

-- ---- what is least

-- k has no more records than l: of states, of standards, and in all
pub record NoMore (k l : Log) : Type 0 where
  pub states : length k.states ≤ length l.states
  pub standards : length k.standards ≤ length l.standards
  pub all : length k.states + length k.standards + length k.units ≤ length l.states + length l.standards + length l.units

-- ---- what is claimed of an accepted log s

pub record Packed (s : List ℕ) : Type 0 where
  -- the packed bytes say the packed log, and are an accepted log
  pub says : decode (packed_bytes s) ≡ packed_log (decode s)
  pub accepted : verdict (packed_bytes s) ≡ Ok tt
  -- nothing that the log says is lost
  pub same : SaySame (packed_log (decode s)) (decode s)
  pub sums : SameSums (packed_log (decode s)) (decode s)
  -- no log that says the same, accepted or not, has fewer records
  pub fewest : (l : Log) → SaySame l (decode s) → NoMore (packed_log (decode s)) l
  -- each accepted log that says the same is packed to the same bytes
  pub one : (t : List ℕ) → verdict t ≡ Ok tt → SaySame (decode t) (decode s) → packed_bytes t ≡ packed_bytes s
  -- the packed log is its own packed log
  pub again : packed_bytes (packed_bytes s) ≡ packed_bytes s
  pub size : length (packed_bytes s) ≤ length s
