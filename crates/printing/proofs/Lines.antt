-- A table has two lines more than the modules, each line ends in byte 10 and has no other inside, and the last begins `tool`. Assumes nothing.
use mathlib.Core.Path.{◌≡◌, refl}
use mathlib.Core.List.{List, ◌++◌}
use Prim.Native.Nat.{ℕ, zero, suc, ◌+◌}
use lib.ListN.{length, get_or}
use Rattle.records.specs.Log.{Log}
use Rattle.std.specs.Prelude.{Some}
use Rattle.e79.specs.declared.Quantities.{Quantities}
use Rattle.e79.specs.Quantities.{quantities_of}
use Rattle.rules.specs.declared.StateTimes.{StateTimes}
use Rattle.rules.specs.Quantities.{module_times, tool_times, of_module, of_tool, times_of}
use Rattle.losses.specs.declared.Losses.{Losses}
use Rattle.losses.specs.Losses.{losses_of}
use Rattle.report.specs.Text.{ascii}
use Rattle.report.specs.Lines.{ends, Line, Lines, LastLine}
use Rattle.report.specs.Report.{decimal, places, shown, short, tool, joined}
use Rattle.report.proofs.Lines.{ends-append, no-ends, shown-inside, short-inside, decimal-inside, behind, table_lines, table_last}
use Rattle.printing.specs.declared.Table.{Table}
use Rattle.printing.specs.declared.Table.TheVariants.{Times, Quantities as OfQuantities, Losses as OfLosses}
use Rattle.printing.specs.Tables.{number, numbers, fraction, bar, heading_of, told, line_in, tool_in, table_text}

number-inside : (v : ℕ) → ends (number v) ≡ 0
unfolding number ends
number-inside v = no-ends (ascii " ") (decimal v) refl (decimal-inside v)

joined-inside : (text : ℕ → List ℕ) (n : ℕ) → ((k : ℕ) → ends (text k) ≡ 0) → ends (joined text n) ≡ 0
unfolding joined ends
joined-inside text zero h = refl
joined-inside text (suc n) h = no-ends (joined text n) (text n) (joined-inside text n h) (h n)

numbers-line : (vs : List ℕ) → Line (numbers vs)
unfolding numbers
numbers-line vs = record { inside = joined (λ k. number (get_or vs k 0)) (length vs); ending = refl; no_other = joined-inside (λ k. number (get_or vs k 0)) (length vs) (λ k. number-inside (get_or vs k 0)) }

-- a bar, as a line
fraction-inside : (p : ℕ) → ends (fraction p) ≡ 0
unfolding fraction shown ends
fraction-inside p = no-ends (ascii " ") (places p) refl (shown-inside (Some p))

bar-line : (s : Losses) → Line (bar s)
unfolding bar ends
bar-line s =
    record {
      inside = fraction s.availability ++ fraction s.operational ++ fraction s.rate ++ fraction s.quality ++ fraction s.oee;
      ending = refl;
      no_other = simp (ends-append, fraction-inside);
    }

told-line : (t : Table) (u : StateTimes) (q : Quantities) → Line (told t u q)
told-line Times u q = numbers-line (times_of u)
told-line OfQuantities u q = numbers-line (quantities_of q)
told-line OfLosses u q = bar-line (losses_of q)

heading-line : (t : Table) → Line (heading_of t)
unfolding heading_of ends
heading-line Times = record { inside = ascii "module productive standby engineering scheduled unscheduled nonscheduled"; ending = refl; no_other = refl }
heading-line OfQuantities = record { inside = ascii "module total uptime production actual effective"; ending = refl; no_other = refl }
heading-line OfLosses = record { inside = ascii "module availability operational rate quality oee"; ending = refl; no_other = refl }

module _ (t : Table) (l : Log) where
  module_line_lem : (m : ℕ) → Line (line_in t l m)
  unfolding line_in
  module_line_lem m = behind (short m) (short-inside m) (told-line t (module_times l m) (of_module l m))

  tool_line_lem : Line (tool_in t l)
  unfolding tool_in tool ends
  tool_line_lem = behind tool refl (told-line t (tool_times l) (of_tool l))

  pub printed_lines : Lines (l.modules + 2) (table_text t l)
  unfolding table_text
  printed_lines = table_lines (heading_of t) (line_in t l) (heading-line t) module_line_lem l.modules (tool_in t l) tool_line_lem

  pub printed_last : LastLine (table_text t l) (l.modules + 1) (ascii "tool")
  unfolding table_text tool_in tool
  printed_last = table_last (heading_of t) (line_in t l) (heading-line t) module_line_lem l.modules (ascii "tool") (tool_in t l) tool_line_lem refl
