-- What R-5 claims of a module's sums: they come of its own standards alone.
-- Definitions only.
use Rattle.std.specs.Prelude.{◌≡◌, cond, List, [], ◌∷◌, ℕ, eqb}
use Rattle.records.specs.declared.Standard.{Standard}
use Rattle.records.specs.Log.{Log}
use Rattle.rules.specs.Quantities.{of_module}

-- module m's own standards, in their sequence
unfoldable pub own_standards : ℕ → List Standard → List Standard
own_standards m [] = []
own_standards m (s ∷ ss) = cond (eqb s.«module» m) (s ∷ own_standards m ss) (own_standards m ss)

-- a log with other standards in the place of its own
abbrev pub with_standards : Log → List Standard → Log
with_standards l ss = record { period = l.period; modules = l.modules; states = l.states; standards = ss; units = l.units }

-- standards of other modules added, changed, moved or taken away leave a module's five quantities as they are
abbrev pub OwnStandardsAlone : Type 0
OwnStandardsAlone = (l : Log) (ss : List Standard) (m : ℕ) → own_standards m l.standards ≡ own_standards m ss → of_module l m ≡ of_module (with_standards l ss) m
