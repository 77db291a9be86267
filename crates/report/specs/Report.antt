-- The lines of the report and the line for a refused log, as bytes. Definitions only.
use Rattle.std.specs.Prelude.{◌≡◌, cond, Option, Some, None, List, [], ◌∷◌, ◌++◌, ℕ, zero, suc, ◌+◌, ◌/◌, ◌%◌, ◌≤◌, ◌<◌, ltb, length}
use Rattle.e79.specs.declared.Quantities.{Quantities}
use Rattle.e79.specs.Printed.{printed_of}
use Rattle.rules.specs.declared.Refusal.{Refusal}
use Rattle.rules.specs.Names.{number_of, list_number}
use Rattle.report.specs.Text.{ascii}

-- the last decimal digit of a number, as a byte
abbrev pub digit : ℕ → ℕ
digit n = 48 + n % 10

-- a number below 100 with no leading zero
unfoldable pub short : ℕ → List ℕ
short n = cond (ltb n 10) (digit n ∷ []) (digit (n / 10) ∷ digit n ∷ [])

-- the last k + 1 digits of a number, with no leading zero
unfoldable pub decimal_in : ℕ → ℕ → List ℕ
decimal_in zero n = digit n ∷ []
decimal_in (suc k) n = let more = decimal_in k (n / 10) ++ (digit n ∷ []) in cond (ltb n 10) (digit n ∷ []) more

-- any number with no leading zero: n has at most n + 1 digits
unfoldable pub decimal : ℕ → List ℕ
decimal n = decimal_in n n

-- ten-thousandths with four places: a digit, a point and four digits
unfoldable pub places : ℕ → List ℕ
places p = digit (p / 10000) ∷ 46 ∷ digit (p / 1000) ∷ digit (p / 100) ∷ digit (p / 10) ∷ digit p ∷ []

-- a printed figure, `-` where there is no base
unfoldable pub shown : Option ℕ → List ℕ
shown (Some p) = places p
shown None = ascii "-"

-- a space, which parts the fields, and the printed figure of a numerator and a denominator
unfoldable pub figure : ℕ → ℕ → List ℕ
figure n d = ascii " " ++ shown (printed_of n d)

-- the five printed figures, availability, operational, rate, quality and OEE, and byte 10, in which each line ends
unfoldable pub figures : Quantities → List ℕ
figures q =
    figure q.uptime q.total
    ++ figure q.production q.uptime
    ++ figure q.actual q.production
    ++ figure q.effective q.actual
    ++ figure q.effective q.total
    ++ ascii "\n"

-- the first line
unfoldable pub heading : List ℕ
heading = ascii "module avail oper rate qual oee\n"

-- the word with which the last line begins
unfoldable pub tool : List ℕ
tool = ascii "tool"

-- a module's line: its number, then its figures
unfoldable pub module_line : ℕ → Quantities → List ℕ
module_line m q = short m ++ figures q

-- the tool's line
unfoldable pub tool_line : Quantities → List ℕ
tool_line q = tool ++ figures q

-- the texts of 0 up to n - 1, one behind the other
unfoldable pub joined : (ℕ → List ℕ) → ℕ → List ℕ
joined text zero = []
joined text (suc n) = joined text n ++ text n

-- a table: its heading, a line for each of so many modules, and its last line, which is the tool's
unfoldable pub table_of : List ℕ → (ℕ → List ℕ) → ℕ → List ℕ → List ℕ
unfolding joined
table_of head line n last = head ++ joined line n ++ last

-- the report on so many modules, from each one's quantities and the tool's
abbrev pub module_lines : (ℕ → Quantities) → ℕ → List ℕ
module_lines each n = joined (λ m. module_line m (each m)) n

unfoldable pub report_of : ℕ → (ℕ → Quantities) → Quantities → List ℕ
unfolding table_of
report_of n each whole = table_of heading (λ m. module_line m (each m)) n (tool_line whole)

-- the line of a refusal by its numbers: `refused N list L at P`
unfoldable pub refused_at : ℕ → ℕ → ℕ → List ℕ
refused_at number list place =
    (ascii "refused " ++ decimal number) ++ (ascii " list " ++ decimal list) ++ (ascii " at " ++ decimal place) ++ ascii "\n"

-- what a refused log prints, with its number, list and place
unfoldable pub refused_line : Refusal → List ℕ
unfolding refused_at
refused_line x = refused_at (number_of x.ground) (list_number x.list) x.place

-- the length of a text, which is at most so many bytes
pub record LengthOf (text : List ℕ) (most r : ℕ) : Type 0 where
  pub size : r ≡ length text
  pub within : r ≤ most

-- how many bytes a figure takes with its space, whatever its numerator
pub record FigureLength (d r : ℕ) : Type 0 where
  pub size : (n : ℕ) → r ≡ length (figure n d)
  pub within : r ≤ 7

-- the length of a module's line, one byte less where the number has one digit
pub record ModuleLength (m : ℕ) (q : Quantities) (r : ℕ) : Type 0 where
  pub size : r ≡ length (module_line m q)
  pub within : r ≤ 38
  pub one_digit : m < 10 → r ≤ 37
