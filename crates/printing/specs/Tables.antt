-- The tables of state times, of quantities and of losses, as bytes. Definitions only.
use Rattle.std.specs.Prelude.{List, ◌++◌, ℕ, length, get_or}
use Rattle.records.specs.Log.{Log}
use Rattle.e79.specs.declared.Quantities.{Quantities}
use Rattle.e79.specs.Quantities.{quantities_of}
use Rattle.rules.specs.declared.StateTimes.{StateTimes}
use Rattle.rules.specs.Quantities.{module_times, tool_times, of_module, of_tool, times_of}
use Rattle.losses.specs.declared.Losses.{Losses}
use Rattle.losses.specs.Losses.{losses_of}
use Rattle.report.specs.Text.{ascii}
use Rattle.report.specs.Report.{decimal, places, short, tool, joined, table_of}
use Rattle.printing.specs.declared.Table.{Table}
use Rattle.printing.specs.declared.Table.TheVariants.{Times, Quantities as OfQuantities, Losses as OfLosses}

-- a space and a number
unfoldable pub number : ℕ → List ℕ
unfolding decimal
number v = ascii " " ++ decimal v

-- the numbers of a line, and byte 10, in which each line ends
unfoldable pub numbers : List ℕ → List ℕ
unfolding joined number
numbers vs = joined (λ k. number (get_or vs k 0)) (length vs) ++ ascii "\n"

-- a space and ten-thousandths with four places
unfoldable pub fraction : ℕ → List ℕ
unfolding places
fraction p = ascii " " ++ places p

-- the four losses and OEE, and the line's end
unfoldable pub bar : Losses → List ℕ
unfolding fraction
bar s = fraction s.availability ++ fraction s.operational ++ fraction s.rate ++ fraction s.quality ++ fraction s.oee ++ ascii "\n"

-- the first line
unfoldable pub heading_of : Table → List ℕ
heading_of Times = ascii "module productive standby engineering scheduled unscheduled nonscheduled\n"
heading_of OfQuantities = ascii "module total uptime production actual effective\n"
heading_of OfLosses = ascii "module availability operational rate quality oee\n"

-- what a table tells of a module or of the tool, and the line's end
abbrev pub told : Table → StateTimes → Quantities → List ℕ
told Times t q = numbers (times_of t)
told OfQuantities t q = numbers (quantities_of q)
told OfLosses t q = bar (losses_of q)

-- a module's line, by its number, and the tool's
unfoldable pub line_in : Table → Log → ℕ → List ℕ
unfolding short numbers bar losses_of
line_in t l m = short m ++ told t (module_times l m) (of_module l m)

unfoldable pub tool_in : Table → Log → List ℕ
unfolding tool numbers bar losses_of
tool_in t l = tool ++ told t (tool_times l) (of_tool l)

-- the table of a log
unfoldable pub table_text : Table → Log → List ℕ
unfolding table_of heading_of line_in tool_in
table_text t l = table_of (heading_of t) (line_in t l) l.modules (tool_in t l)
