-- What the parts of the joining call promise one another.
-- Definitions only.
use Rattle.std.specs.Prelude.{◌+◌, ◌≤◌, ◌<◌, not, eqb}
use Rattle.records.specs.declared.Header.{Header}
use Rattle.rules.specs.declared.Ground.TheVariants.{Period, Counts, UnlikeTools}
use Rattle.rules.specs.declared.LogList.TheVariants.{NoList}
use Rattle.rules.specs.Grounds.{Verdict, ground, ◌then◌}
use Rattle.rules.specs.Verdict.{bad_period, bad_counts}

-- the header of the joined log
abbrev pub joined_header : Header → Header → Header
joined_header a b =
    record {
      period = a.period + b.period;
      modules = a.modules;
      states = a.states + b.states;
      standards = a.standards + b.standards;
      units = a.units + b.units;
    }

-- the grounds that the two headers decide
abbrev pub header_verdict : Header → Header → Verdict
header_verdict a b =
    ground UnlikeTools NoList 0 (not (eqb a.modules b.modules))
    then ground Period NoList 0 (bad_period (joined_header a b).period)
    then ground Counts NoList 0 (bad_counts (joined_header a b))

-- what each of the two headers has, that of an accepted log
pub record InBounds (h : Header) : Type 0 where
  pub begun : 0 < h.period
  pub short : h.period ≤ 31622400000
  pub modules : h.modules ≤ 64
  pub states : h.states ≤ 6000
  pub standards : h.standards ≤ 512
  pub units : h.units ≤ 2000
