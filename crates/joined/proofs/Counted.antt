-- How many records the joined log has: as many as the two logs together.
-- Assumes nothing.
use mathlib.Core.Path.{◌≡◌, ◌∙◌}
use mathlib.Core.List.{map}
use Prim.Native.Nat.{◌+◌}
use lib.ListN.{length, length-append}
use Rattle.std.proofs.lemmas.List.{length-map}
use Rattle.records.specs.Log.{Log}
use Rattle.rules.specs.Sequence.{standard_key}
use Rattle.joined.specs.Joined.{state_up, standard_up, unit_up, joined_log}
use Rattle.joined.proofs.Merging.{merged-length}

module _ (a b : Log) where
  pub states-counted : length (joined_log a b).states ≡ length a.states + length b.states
  unfolding joined_log
  states-counted = length-append a.states _ ∙ rw (length-map b.states (state_up a.period))

  pub standards-counted : length (joined_log a b).standards ≡ length a.standards + length b.standards
  unfolding joined_log
  standards-counted = merged-length standard_key a.standards (map (standard_up a.period) b.standards) ∙ rw (length-map b.standards (standard_up a.period))

  pub units-counted : length (joined_log a b).units ≡ length a.units + length b.units
  unfolding joined_log
  units-counted = length-append a.units _ ∙ rw (length-map b.units (unit_up a.period))
