-- A table's lines by what the table tells, and how many bytes they take. Assumes nothing.
use mathlib.Core.Path.{◌≡◌, sym, ap, ◌∙◌}
use mathlib.Core.List.{◌++◌}
use Prim.Native.Nat.{ℕ, ◌+◌, ◌^◌, ◌≤◌, ◌<◌}
use native.Mathlib.Omega.{arith}
use lib.Dec.{lit≤}
use lib.ListN.{length, length-append}
use Rattle.records.specs.Log.{Log}
use Rattle.e79.specs.declared.Quantities.{Quantities}
use Rattle.e79.specs.Quantities.{Ordered, quantities_of}
use Rattle.rules.specs.declared.StateTimes.{StateTimes}
use Rattle.rules.specs.Quantities.{sum_below, time_in, module_times, tool_times, of_module, of_tool, times_of}
use Rattle.judging.specs.Working.{Consistent}
use Rattle.rules.proofs.SumLaws.{sum-le}
use Rattle.judging.proofs.Accepted.{tool_total, tool_ordered}
use Rattle.report.specs.Report.{decimal, tool}
use Rattle.report.proofs.Decimals.{short-decimal, decimal-length}
use Rattle.report.proofs.Tables.{joined_longest, table_length}
use Rattle.printing.specs.declared.Table.{Table}
use Rattle.printing.specs.declared.Table.TheVariants.{Times, Quantities as OfQuantities, Losses as OfLosses}
use Rattle.losses.specs.Losses.{losses_of}
use Rattle.printing.proofs.Numbers.{Below, numbers-longest, bar_length}
use Rattle.printing.specs.Tables.{heading_of, told, line_in, tool_in, table_text}

-- ---- a module's line and the tool's

-- a table tells of the same times and quantities the same
pub told_same : (table : Table) {t u : StateTimes} {q r : Quantities} → t ≡ u → q ≡ r → told table t q ≡ told table u r
told_same table {t} {u} {q} {r} e f = ap (λ x. told table x q) e ∙ ap (λ x. told table u x) f

module _ (t : Table) (l : Log) where
  pub line_decimal : (m : ℕ) → m < 64 → decimal m ++ told t (module_times l m) (of_module l m) ≡ line_in t l m
  unfolding line_in
  line_decimal m h = ap (λ s. s ++ told t (module_times l m) (of_module l m)) (sym (short-decimal m (omega arith)))

  pub line_length_lem : (m : ℕ) → m < 64 → length (line_in t l m) ≡ length (decimal m) + length (told t (module_times l m) (of_module l m))
  line_length_lem m h = sym (ap length (line_decimal m h)) ∙ length-append (decimal m) (told t (module_times l m) (of_module l m))

  pub tool-length : length (tool_in t l) ≡ 4 + length (told t (tool_times l) (of_tool l))
  unfolding tool_in tool
  tool-length = length-append tool (told t (tool_times l) (of_tool l))

-- ---- the longest table

heading-longest : (t : Table) → length (heading_of t) ≤ 73
unfolding heading_of
heading-longest Times = lit≤ tt
heading-longest OfQuantities = lit≤ tt
heading-longest OfLosses = lit≤ tt

five-below : (b : ℕ) (q : Quantities) → Ordered q → q.total < b → Below b (quantities_of q)
five-below b q o h =
    let up : q.uptime < b = omega (arith, o.uptime_total) in
    let made : q.production < b = omega (arith, o.production_uptime) in
    let actual : q.actual < b = omega (arith, o.actual_production) in
    (h, (up, (made, (actual, (omega (arith, o.effective_actual), tt)))))

module _ (l : Log) (ok : Consistent l) where
  of_module_lem : (t : Table) (m : ℕ) → m < l.modules → length (told t (module_times l m) (of_module l m)) ≤ 73
  of_module_lem Times m h = numbers-longest 10 (times_of (module_times l m)) (each 0, (each 1, (each 2, (each 3, (each 4, (each 5, tt))))))
    where
      each : (k : ℕ) → time_in l k m < 10 ^ 11
      each k = omega (arith, ok.short, ok.times k m h)
  of_module_lem OfQuantities m h = omega (arith, numbers-longest 10 (quantities_of (of_module l m)) (five-below (10 ^ 11) (of_module l m) (ok.each m h) (omega (arith, ok.short))))
  of_module_lem OfLosses m h = omega (arith, bar_length (losses_of (of_module l m)))

  of_tool_lem : (t : Table) → length (told t (tool_times l) (of_tool l)) ≤ 85
  of_tool_lem Times = numbers-longest 12 (times_of (tool_times l)) (each 0, (each 1, (each 2, (each 3, (each 4, (each 5, tt))))))
    where
      each : (k : ℕ) → sum_below (time_in l k) l.modules < 10 ^ 13
      each k = omega (arith, tool_total l ok, sum-le (time_in l k) (λ m. l.period) l.modules (λ m h. ok.times k m h))
  of_tool_lem OfQuantities = omega (arith, numbers-longest 12 (quantities_of (of_tool l)) (five-below (10 ^ 13) (of_tool l) (tool_ordered l ok) (omega (arith, tool_total l ok))))
  of_tool_lem OfLosses = omega (arith, bar_length (losses_of (of_tool l)))

  module-longest : (t : Table) (m : ℕ) → m < l.modules → length (line_in t l m) ≤ 75
  module-longest t m h =
      let low : m < 64 = omega (arith, ok.few) in
      omega (arith, line_length_lem t l m low, of_module_lem t m h, decimal-length 1 m (omega arith))

  -- every table fits
  pub table_longest : (t : Table) → length (table_text t l) ≤ 5000
  unfolding table_text
  table_longest t =
      omega (
        arith,
        table_length (heading_of t) (line_in t l) l.modules (tool_in t l),
        heading-longest t,
        joined_longest (line_in t l) 75 l.modules (λ m h. module-longest t m h),
        ok.few,
        tool-length t l,
        of_tool_lem t,
      )
