-- How a line on standard error begins. Definitions only.
use Rattle.std.specs.Prelude.{◌||◌, cond, List, ◌++◌, map, ℕ, ltb, eqb}
use Rattle.report.specs.Text.{ascii}

-- a byte as it is shown: `?` for one that moves the cursor, byte 10 among them
unfoldable pub shown_byte : ℕ → ℕ
shown_byte b = cond (ltb b 32 || eqb b 127) 63 b

-- the program, and what the line is about
unfoldable pub about : List ℕ → List ℕ
unfolding shown_byte
about name = ascii "toollog: " ++ map shown_byte name
