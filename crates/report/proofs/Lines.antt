-- The report has one line more than the modules and the heading, each line ends in byte 10 and has no other inside, the first is the heading, and the last begins `tool`. Assumes nothing.
use mathlib.Core.Path.{◌≡◌, refl, sym}
use mathlib.Core.List.{List, [], ◌∷◌, ◌++◌, append_assoc, append-nil}
use mathlib.Core.Bool.{false}
use Prim.Native.Nat.{ℕ, zero, suc, ◌+◌, ◌/◌, ◌≤◌}
use native.Mathlib.Nat.{add_assoc, zero-add, le_refl}
use native.Mathlib.Numerals.{add-one, add-two}
use native.Mathlib.Decide.{dec_lt}
use native.Mathlib.Omega.{arith}
use borrow.Author.Tests.{lt-ltb, le-ltb, ne_eqb}
use lib.Dec.{eqb}
use lib.ListN.{length, take}
use lib.Seq.{take-append_seam}
use Rattle.e79.specs.declared.Quantities.{Quantities}
use Rattle.std.specs.Prelude.{Option, Some, None}
use Rattle.report.specs.Text.{ascii}
use Rattle.report.proofs.Decimals.{decimal-below, decimal-more}
use Rattle.report.specs.Lines.{ends, Line, Lines, none, more, LastLine}
use Rattle.report.specs.Report.{digit, decimal, short, places, shown, figure, figures, heading, tool, module_line, tool_line, joined, table_of, report_of}

-- ---- line ends of texts put together
pub ends-append : (s t : List ℕ) → ends (s ++ t) ≡ ends s + ends t
unfolding ends
ends-append [] t = sym (zero-add (ends t))
ends-append (b ∷ s) t = rw (ends-append s t, add_assoc)

pub no-ends : (s t : List ℕ) → ends s ≡ 0 → ends t ≡ 0 → ends (s ++ t) ≡ 0
no-ends s t h k = rw (ends-append, h, k)

line-ends : {s : List ℕ} → Line s → ends s ≡ 1
unfolding ends
line-ends l = rw (l.ending, ends-append, l.no_other)

-- so many lines have so many line ends
pub lines-ends : {n : ℕ} {s : List ℕ} → Lines n s → ends s ≡ n
unfolding ends
lines-ends none = refl
lines-ends (more {n} {s} {x} l k) = rw (ends-append, lines-ends l, line-ends k) (add-one n)

-- ---- no byte of a number or a figure is 10
digit-other : (n : ℕ) → eqb (digit n) 10 ≡ false
digit-other n = ne_eqb (digit n) 10 (λ e. omega arith)

pub short-inside : (m : ℕ) → ends (short m) ≡ 0
unfolding ends short
short-inside m =
    elim (dec_lt m 10) [
      | yes h ↦ rw (lt-ltb m 10 h, digit-other)
      | no h ↦ rw (le-ltb m 10 (omega arith), digit-other (m / 10), digit-other m)
    ]

decimal_in_lem : (k n : ℕ) → n ≤ k → ends (decimal n) ≡ 0
unfolding ends
decimal_in_lem zero n h = rw (decimal-below n (omega arith), digit-other)
decimal_in_lem (suc k) n h =
    elim (dec_lt n 10) [
      | yes b ↦ rw (decimal-below n b, digit-other)
      | no b ↦ rw (decimal-more n (omega arith)) (no-ends (decimal (n / 10)) (digit n ∷ []) (decimal_in_lem k (n / 10) (omega arith)) (rw digit-other))
    ]

pub decimal-inside : (n : ℕ) → ends (decimal n) ≡ 0
decimal-inside n = decimal_in_lem n n (le_refl n)

pub shown-inside : (p : Option ℕ) → ends (shown p) ≡ 0
unfolding ends shown places
shown-inside (Some p) = simp digit-other
shown-inside None = refl

figure-inside : (n d : ℕ) → ends (figure n d) ≡ 0
unfolding figure ends
figure-inside n d = rw shown-inside

-- ---- each line
pub behind : (s : List ℕ) {t : List ℕ} → ends s ≡ 0 → Line t → Line (s ++ t)
behind s h l = record { inside = s ++ l.inside; ending = rw (l.ending, append_assoc); no_other = no-ends s l.inside h l.no_other }

figures-line : (q : Quantities) → Line (figures q)
unfolding figures
figures-line q =
    record {
      inside = figure q.uptime q.total ++ figure q.production q.uptime ++ figure q.actual q.production ++ figure q.effective q.actual ++ figure q.effective q.total;
      ending = refl;
      no_other = simp (ends-append, figure-inside);
    }

pub heading-line : Line heading
unfolding heading ends
heading-line = record { inside = ascii "module avail oper rate qual oee"; ending = refl; no_other = refl }

pub module_line_lem : (m : ℕ) (q : Quantities) → Line (module_line m q)
unfolding module_line
module_line_lem m q = behind (short m) (short-inside m) (figures-line q)

pub tool_line_lem : (q : Quantities) → Line (tool_line q)
unfolding tool_line tool ends
tool_line_lem q = behind tool refl (figures-line q)

-- ---- a table

module _ (head : List ℕ) (line : ℕ → List ℕ) (heading : Line head) (each : (m : ℕ) → Line (line m)) where
  -- the heading and the modules' lines, one more at a time
  front-lines : (n : ℕ) → Lines (suc n) (head ++ joined line n)
  unfolding joined
  front-lines zero = rw append-nil (more none heading)
  front-lines (suc n) = rw append_assoc at (more (front-lines n) (each n))

  pub table_lines : (n : ℕ) (last : List ℕ) → Line last → Lines (n + 2) (table_of head line n last)
  unfolding table_of
  table_lines n last l = rw add-two (more (front-lines n) l)

  -- the last line, behind the heading and the modules' lines, begins with a word
  pub table_last : (n : ℕ) (word last : List ℕ) → Line last → take (length word) last ≡ word → LastLine (table_of head line n last) (n + 1) word
  unfolding table_of
  table_last n word last l e = record { front = head ++ joined line n; last = last; whole = refl; lines = rw add-one (front-lines n); line = l; begins = e }

pub table-first : (head : List ℕ) (line : ℕ → List ℕ) (n : ℕ) (last : List ℕ) → take (length head) (table_of head line n last) ≡ head
unfolding table_of
table-first head line n last = rw append_assoc (take-append_seam head (joined line n ++ last))

-- ---- the report

module _ (n : ℕ) (each : ℕ → Quantities) (whole : Quantities) where
  line : ℕ → List ℕ
  line m = module_line m (each m)

  pub report_lines : Lines (n + 2) (report_of n each whole)
  unfolding report_of line
  report_lines = table_lines heading line heading-line (λ m. module_line_lem m (each m)) n (tool_line whole) (tool_line_lem whole)

  pub report_ends : ends (report_of n each whole) ≡ n + 2
  report_ends = lines-ends report_lines

  -- the first line is the heading
  pub report_first : take (length heading) (report_of n each whole) ≡ heading
  unfolding report_of line
  report_first = table-first heading line n (tool_line whole)

  -- the last line is the tool's
  pub report_last : LastLine (report_of n each whole) (n + 1) (ascii "tool")
  unfolding report_of line tool_line tool
  report_last = table_last heading line heading-line (λ m. module_line_lem m (each m)) n tool (tool_line whole) (tool_line_lem whole) refl
