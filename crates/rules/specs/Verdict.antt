-- When a log is turned back: the first ground that is met, in the sequence of document 01.
-- Definitions only.
use Rattle.std.specs.Prelude.{ℕ, ◌+◌, ◌*◌, List, Bool, ◌||◌, not, length, leb, ltb, eqb}
use Rattle.records.specs.declared.Header.{Header}
use Rattle.records.specs.Log.{Log, header_of, decode}
use Rattle.e79.specs.declared.Quantities.{Quantities}
use Rattle.rules.specs.declared.StateTimes.{StateTimes}
use Rattle.rules.specs.declared.Ground.TheVariants.{NoHeader, Period, Modules, Counts, Length, StrayModule, TooFast, TooGreat}
use Rattle.rules.specs.declared.LogList.TheVariants.{NoList}
use Rattle.rules.specs.Grounds.{Verdict}
use Rattle.rules.specs.Grounds.{ground, ◌then◌, first_of}
use Rattle.rules.specs.Names.{productive}
use Rattle.rules.specs.RecordGrounds.{state_grounds, standard_grounds, unit_grounds}
use Rattle.rules.specs.Quantities.{time_in, actual_time, of_tool, tool_times, sum_below, uptime, effective_time}

-- the period is 1 to 31,622,400,000 ms, 366 days
abbrev pub bad_period : ℕ → Bool
bad_period period = eqb period 0 || ltb 31622400000 period

-- 1 to 64 modules
abbrev pub bad_modules : ℕ → Bool
bad_modules modules = eqb modules 0 || ltb 64 modules

-- at most 6,000 state records, 512 standards and 2,000 unit records
abbrev pub bad_counts : Header → Bool
bad_counts h = ltb 6000 h.states || (ltb 512 h.standards || ltb 2000 h.units)

-- the length is that of the header and its counts
abbrev pub bad_length : ℕ → Header → Bool
bad_length size h = not (eqb size (10 + 6 * h.states + 10 * h.standards + 11 * h.units))

-- no header, period, modules, counts, length
unfoldable pub header_grounds : List ℕ → Verdict
header_grounds s =
    let h = header_of s in
    ground NoHeader NoList 0 (ltb (length s) 10)
    then ground Period NoList 0 (bad_period h.period)
    then ground Modules NoList 0 (bad_modules h.modules)
    then ground Counts NoList 0 (bad_counts h)
    then ground Length NoList 0 (bad_length (length s) h)

-- too fast: module m's actual theoretical time above its production time
unfoldable pub fast_ground : Log → ℕ → Verdict
unfolding time_in actual_time
fast_ground l m = ground TooFast NoList m (ltb (time_in l productive m) (actual_time l m))

-- above the greatest whole number up to which a double holds every one
abbrev pub is_over : ℕ → Bool
is_over n = ltb 9007199254740991 n

abbrev pub any_over : Quantities → Bool
any_over q = is_over q.total || (is_over q.uptime || (is_over q.production || (is_over q.actual || is_over q.effective)))

abbrev pub any_time_over : StateTimes → Bool
any_time_over t =
    is_over t.productive
    || (is_over t.standby || (is_over t.engineering || (is_over t.scheduled || (is_over t.unscheduled || is_over t.nonscheduled))))

-- the modules for 16, the lowest first, then the tool's sums for 17
unfoldable pub sum_grounds : Log → Verdict
unfolding fast_ground first_of sum_below time_in uptime actual_time effective_time
sum_grounds l = first_of (fast_ground l) l.modules then ground TooGreat NoList 0 (any_over (of_tool l) || any_time_over (tool_times l))

unfoldable pub record_grounds : Log → Verdict
unfolding state_grounds standard_grounds unit_grounds sum_grounds
record_grounds l =
    state_grounds l.period l.modules l.states
    then standard_grounds l.period l.modules l.standards
    then unit_grounds l.period l.modules l.standards l.units
    then sum_grounds l

-- acceptance of the bytes of a log, or the first ground met
unfoldable pub verdict : List ℕ → Verdict
unfolding header_grounds record_grounds decode
verdict s = header_grounds s then record_grounds (decode s)

-- the same for a call about module m: a stray module where an accepted log has none of that number
unfoldable pub verdict_on : List ℕ → ℕ → Verdict
unfolding verdict decode
verdict_on s m = verdict s then ground StrayModule NoList m (leb (decode s).modules m)
