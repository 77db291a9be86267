-- How many bytes the fields and the lines of the report take. Assumes nothing.
use mathlib.Core.Path.{◌≡◌, refl}
use Prim.Native.Nat.{ℕ, zero, suc, ◌+◌, ◌-◌, ◌*◌, ◌≤◌, ◌<◌}
use native.Mathlib.Decide.{dec_lt}
use native.Mathlib.Omega.{arith}
use borrow.Author.Tests.{lt-ltb, le-ltb}
use lib.Dec.{lit≤}
use lib.ListN.{length, length-append}
use Rattle.e79.specs.declared.Quantities.{Quantities}
use Rattle.e79.specs.Quantities.{based}
use Rattle.e79.specs.Printed.{printed_of}
use Rattle.report.specs.Report.{short, places, shown, figure, figures, heading, tool, module_line, tool_line, joined, table_of, module_lines, report_of}

pub figure-space : (n d : ℕ) → length (figure n d) ≡ length (shown (printed_of n d)) + 1
unfolding figure
figure-space n d = omega arith

-- a figure takes seven bytes with its space, and two where there is no base
pub figure_none : (n d : ℕ) → d ≡ 0 → 2 ≡ length (figure n d)
unfolding figure shown printed_of based
figure_none n d e = rw e

pub figure_based : (n d : ℕ) → (d ≡ 0 → ⊥) → 7 ≡ length (figure n d)
unfolding figure shown places printed_of based
figure_based n zero h = absurd (h refl)
figure_based n (suc d) h = refl

figure_length-le : (n d : ℕ) → length (figure n d) ≤ 7
unfolding figure shown places printed_of based
figure_length-le n zero = lit≤ tt
figure_length-le n (suc d) = lit≤ tt

pub figures_length_lem : (q : Quantities) → length (figures q) ≡ length (figure q.uptime q.total) + length (figure q.production q.uptime) + length (figure q.actual q.production) + length (figure q.effective q.actual) + length (figure q.effective q.total) + 1
unfolding figures
figures_length_lem q = simp length-append

pub module-length : (m : ℕ) (q : Quantities) → length (module_line m q) ≡ length (short m) + length (figures q)
unfolding module_line
module-length m q = length-append (short m) (figures q)

pub short-one : (m : ℕ) → m < 10 → length (short m) ≡ 1
unfolding short
short-one m h = rw (lt-ltb m 10 h)

pub short-two : (m : ℕ) → 10 ≤ m → length (short m) ≡ 2
unfolding short
short-two m h = rw (le-ltb m 10 h)

pub tool-length : (q : Quantities) → length (tool_line q) ≡ 4 + length (figures q)
unfolding tool_line tool
tool-length q = length-append tool (figures q)

pub heading-length : length heading ≡ 32
unfolding heading
heading-length = refl

-- ---- the longest report
figures_length-le : (q : Quantities) → length (figures q) ≤ 36
figures_length-le q =
    omega (
      arith,
      figures_length_lem q,
      figure_length-le q.uptime q.total,
      figure_length-le q.production q.uptime,
      figure_length-le q.actual q.production,
      figure_length-le q.effective q.actual,
      figure_length-le q.effective q.total,
    )

-- the lines of the first ten modules take a byte less each
module_lines-length : (each : ℕ → Quantities) (n : ℕ) → length (module_lines each n) + 10 ≤ 38 * n + (10 - n)
unfolding joined
module_lines-length each zero = lit≤ tt
module_lines-length each (suc n) =
    let before = module_lines-length each n in
    rw length-append
    (elim (dec_lt n 10) [
      | yes h ↦ omega (arith, before, module-length n (each n), short-one n h, figures_length-le (each n))
      | no h ↦ omega (arith, before, module-length n (each n), short-two n (omega arith), figures_length-le (each n))
    ])

pub length-report : (n : ℕ) (each : ℕ → Quantities) (whole : Quantities) → n ≤ 64 → length (report_of n each whole) ≤ 2494
unfolding report_of table_of
length-report n each whole h = simp length-append (omega (arith, module_lines-length each n, tool-length whole, figures_length-le whole, heading-length))

-- 64 modules whose every figure has a base reach it
pub length-reached : let q : Quantities = record { total = 1; uptime = 1; production = 1; actual = 1; effective = 1 } in length (report_of 64 (λ m. q) q) ≡ 2494
unfolding report_of table_of joined heading module_line short tool_line tool figures figure shown places printed_of based
length-reached = refl
