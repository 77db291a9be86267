-- What holds of the five quantities of a module or of the tool in every accepted log. Definitions only.
use Rattle.std.specs.Prelude.{List, [], ◌∷◌, ℕ, zero, suc, ◌^◌, ◌≤◌, ◌<◌}
use Rattle.e79.specs.declared.Quantities.{Quantities}

-- none passes the one before it, and total time is above 0 and below 2 ^ 53, up to which a double holds every whole number
pub record Ordered (q : Quantities) : Type 0 where
  pub effective_actual : q.effective ≤ q.actual
  pub actual_production : q.actual ≤ q.production
  pub production_uptime : q.production ≤ q.uptime
  pub uptime_total : q.uptime ≤ q.total
  pub begun : 0 < q.total
  pub few : q.total < 2 ^ 53

-- two of the five, the numerator and the denominator of a figure
pub record Portion (n d : ℕ) : Type 0 where
  pub part : n ≤ d
  pub few : d < 2 ^ 53

-- the first where the denominator is 0, and in no other case; else the second
unfoldable pub based : {X : Type 0} → ℕ → X → X → X
based zero unbased value = unbased
based (suc d) unbased value = value

-- the five as a list, in the sequence in which they are handed out and printed
abbrev pub quantities_of : Quantities → List ℕ
quantities_of q = q.total ∷ q.uptime ∷ q.production ∷ q.actual ∷ q.effective ∷ []
