-- What one pass over a rising list has at hand to tell that a record says nothing new: each module's last code, and the standard just before.
-- Definitions only.
use Rattle.std.specs.Prelude.{ℕ, Bool, ◌&&◌, cond, eqb}
use mathlib.Core.List.{List, foldl}
use Rattle.std.proofs.Math.Option.{Option, none, some}
use Rattle.records.specs.declared.StateRecord.{StateRecord}
use Rattle.records.specs.declared.Standard.{Standard}

-- the code of module m's last record
unfoldable pub last_code : List StateRecord → ℕ → Option ℕ
last_code rs m = foldl (λ found r. cond (eqb r.«module» m) (some r.code) found) none rs

-- a standard has the module, the recipe and the time of another
abbrev pub same_time : Standard → Standard → Bool
same_time b s = eqb b.«module» s.«module» && (eqb b.recipe s.recipe && eqb b.theoretical s.theoretical)
