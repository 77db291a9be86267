-- What packing a log did, in lines.
-- Definitions only.
use Rattle.std.specs.Prelude.{ℕ, ◌-◌, List, ◌++◌, length}
use Rattle.records.specs.Log.{header_of}
use Rattle.report.specs.Text.{ascii}
use Rattle.report.specs.Report.{decimal}

-- a label, a number, and byte 10, in which each line ends
unfoldable pub line : List ℕ → ℕ → List ℕ
line label n = (label ++ decimal n) ++ ascii "\n"

-- the lengths before and after, and how many records went, by the two headers
unfoldable pub packing_text : List ℕ → List ℕ → List ℕ
packing_text s t =
    line (ascii "bytes before ") (length s)
    ++ line (ascii "bytes after ") (length t)
    ++ line (ascii "states dropped ") ((header_of s).states - (header_of t).states)
    ++ line (ascii "standards dropped ") ((header_of s).standards - (header_of t).standards)
