-- The name of the file that is written before it takes another's place. Definitions only.
use Rattle.std.specs.Prelude.{List, ◌++◌, ℕ, take}
use Rattle.report.specs.Text.{ascii}

-- a path and `.new` behind it. No system takes a path of 4,096 bytes, so what is cut of a longer one makes no other name of it
unfoldable pub new_name : List ℕ → List ℕ
new_name path = take 4196 path ++ ascii ".new"
