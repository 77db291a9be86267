-- What the joining call answers, and what it leaves in the lent buffer.
-- Definitions only.
use Rattle.std.specs.Prelude.{◌≡◌, ◌+◌, ◌≤◌, ◌<◌, ℕ, true, not, List, length, ltb, eqb}
use Rattle.std.specs.declared.result.Result.{Result}
use Rattle.std.specs.declared.result.Result.TheVariants.{Ok, Err}
use Rattle.records.specs.Log.{Log, decode}
use Rattle.records.specs.Encode.{header_for, encode}
use Rattle.rules.specs.declared.Refusal.{Refusal}
use Rattle.rules.specs.declared.Ground.TheVariants.{Period, Counts, ShortBuffer, UnlikeTools}
use Rattle.rules.specs.declared.LogList.TheVariants.{NoList}
use Rattle.rules.specs.Answers.{FrontWritten}
use Rattle.rules.specs.Grounds.{Verdict, ground, refusal, ◌then◌}
use Rattle.rules.specs.Names.{number_of, list_number, list_of_second}
use Rattle.rules.specs.Quantities.{of_tool, tool_times}
use Rattle.rules.specs.Refusals.{OfLog, Known, join_refusals}
use Rattle.rules.specs.Verdict.{bad_period, bad_counts, verdict}
use Rattle.joined.specs.Joined.{joined_log, added, times_added, SumsAdded, CreditsKept}

-- ---- when a join is refused

-- the refusals of the second log carry the list number plus 10
abbrev pub shifted : Refusal → Refusal
shifted y = refusal y.ground (list_of_second y.list) y.place

abbrev pub of_second : Verdict → Verdict
of_second (Ok tt) = Ok tt
of_second (Err y) = Err (shifted y)

-- 23 where the module counts differ, then 2 and 4 for the joined log
unfoldable pub join_grounds : Log → Log → Verdict
unfolding joined_log
join_grounds a b =
    ground UnlikeTools NoList 0 (not (eqb a.modules b.modules))
    then ground Period NoList 0 (bad_period (joined_log a b).period)
    then ground Counts NoList 0 (bad_counts (header_for (joined_log a b)))

-- the bytes of the joined log
unfoldable pub joined_bytes : List ℕ → List ℕ → List ℕ
unfolding joined_log decode encode
joined_bytes s t = encode (joined_log (decode s) (decode t))

-- the first log is tested, then the second, then the two together, and last the buffer
unfoldable pub join_verdict : List ℕ → List ℕ → ℕ → Verdict
unfolding verdict decode join_grounds joined_bytes
join_verdict s t room =
    verdict s
    then of_second (verdict t)
    then join_grounds (decode s) (decode t)
    then ground ShortBuffer NoList 0 (ltb room (length (joined_bytes s t)))

-- ---- which refusals there are

-- a refusal y of the second log, as the call hands it out: its number, its list plus 10, and its place
pub record Shifted (y x : Refusal) : Type 0 where
  pub number : number_of x.ground ≡ number_of y.ground
  pub list : list_number x.list ≡ list_number y.list + 10
  pub place : x.place ≡ y.place

pub data WhyRefused (s t : List ℕ) (room : ℕ) (x : Refusal) : Type 0 where
  of_first : OfLog s x → WhyRefused s t room x
  second : verdict s ≡ Ok tt → (y : Refusal) → OfLog t y → Shifted y x → WhyRefused s t room x
  unlike : verdict s ≡ Ok tt → verdict t ≡ Ok tt → ((decode s).modules ≡ (decode t).modules → ⊥) → x ≡ refusal UnlikeTools NoList 0 → WhyRefused s t room x
  period : verdict s ≡ Ok tt → verdict t ≡ Ok tt → bad_period ((decode s).period + (decode t).period) ≡ true → x ≡ refusal Period NoList 0 → WhyRefused s t room x
  counts : verdict s ≡ Ok tt → verdict t ≡ Ok tt → bad_counts (header_for (joined_log (decode s) (decode t))) ≡ true → x ≡ refusal Counts NoList 0 → WhyRefused s t room x
  short : verdict s ≡ Ok tt → verdict t ≡ Ok tt → room < length (joined_bytes s t) → x ≡ refusal ShortBuffer NoList 0 → WhyRefused s t room x

-- a refusal of the call, with a number and a list of its table
pub record OfJoin (s t : List ℕ) (room : ℕ) (x : Refusal) : Type 0 where
  pub why : WhyRefused s t room x
  pub known : Known join_refusals x

-- ---- what is written

-- what is claimed of the bytes that are written: they say the joined log and are an accepted log, of the two lengths added less the 10 bytes of one header and at most
-- 63,130 bytes; its times and quantities are the two logs' added, per module and for the tool, and each standard keeps its credited units
pub record Joined (s t : List ℕ) : Type 0 where
  pub says : decode (joined_bytes s t) ≡ joined_log (decode s) (decode t)
  pub accepted : verdict (joined_bytes s t) ≡ Ok tt
  pub size : length (joined_bytes s t) + 10 ≡ length s + length t
  pub most : length (joined_bytes s t) ≤ 63130
  pub sums : (m : ℕ) → m < (decode s).modules → SumsAdded (decode s) (decode t) m
  pub tool : of_tool (joined_log (decode s) (decode t)) ≡ added (of_tool (decode s)) (of_tool (decode t))
  pub tool_times : tool_times (joined_log (decode s) (decode t)) ≡ times_added (tool_times (decode s)) (tool_times (decode t))
  pub credits : CreditsKept (decode s) (decode t)

-- three logs of which each two neighbours may be joined join to the same bytes, whichever two come first
abbrev pub Grouped : Type 0
Grouped =
    (s t u : List ℕ) → verdict s ≡ Ok tt → verdict t ≡ Ok tt → verdict u ≡ Ok tt → join_grounds (decode s) (decode t) ≡ Ok tt → join_grounds (decode t) (decode u) ≡ Ok tt
    → joined_bytes (joined_bytes s t) u ≡ joined_bytes s (joined_bytes t u)

-- the contract: the joined log's bytes at the front of the buffer, and what was behind them behind them
abbrev pub Joins : List ℕ → List ℕ → List ℕ → Result ℕ Refusal → List ℕ → Type 0
Joins s t before r after =
    FrontWritten (join_verdict s t (length before)) (joined_bytes s t) (λ n. (n ≤ length before) × Joined s t) (OfJoin s t (length before)) before r after
