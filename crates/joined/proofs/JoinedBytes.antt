-- What the joining call writes: the bytes of the joined log, which the reader accepts.
-- Assumes nothing.
use mathlib.Core.Path.{◌≡◌, refl, sym, ◌∙◌}
use mathlib.Core.Bool.{not}
use mathlib.Core.List.{List, map}
use Prim.Native.Nat.{ℕ, ◌+◌, ◌*◌, ◌≤◌}
use native.Mathlib.Omega.{arith}
use lib.Dec.{eqb}
use lib.ListN.{length}
use borrow.Author.Tests.{eqb-true, not-false}
use Rattle.records.specs.Log.{Log, decode}
use Rattle.records.specs.Encode.{header_for, encode}
use Rattle.records.proofs.RoundTrip.{length-encode}
use Rattle.rules.specs.declared.Ground.TheVariants.{Period, Counts, UnlikeTools}
use Rattle.rules.specs.declared.LogList.TheVariants.{NoList}
use Rattle.rules.specs.Grounds.{Verdict}
use Rattle.std.specs.declared.result.Result.TheVariants.{Ok, Err}
use Rattle.rules.specs.Grounds.{ground, ◌then◌}
use Rattle.rules.specs.Sequence.{standard_key}
use Rattle.rules.specs.Verdict.{bad_period, bad_counts}
use Rattle.rules.proofs.FirstGround.{then-left, then-right, not-met, refused-not}
use Rattle.rules.specs.Lists.{Each}
use Rattle.rules.proofs.Each.{each-append, each-map}
use Rattle.sound.proofs.Encoded.{encoded-says, encoded-accepted}
use Rattle.judging.proofs.Bounds.{good-period, good-counts}
use Rattle.sound.specs.Bounds.{Bounded, StandardNarrow, UnitNarrow, Writable, Read}
use Rattle.joined.specs.Joined.{standard_up, unit_up, joined_log}
use Rattle.joined.specs.Joins.{of_second, join_grounds, joined_bytes, Joined}
use Rattle.joined.proofs.Counted.{states-counted, standards-counted, units-counted}
use Rattle.joined.proofs.Merging.{merged-each}
use Rattle.joined.proofs.JoinedLog.{sums-added, tool-times-added, tool-added, credits-kept, joined-sound}

module _ (a b : Log) where
  pub joined-length : length (encode (joined_log a b)) ≡ 10 + 6 * (length a.states + length b.states) + 10 * (length a.standards + length b.standards) + 11 * (length a.units + length b.units)
  joined-length = length-encode (joined_log a b) ∙ rw (states-counted, standards-counted, units-counted)

pub second-accepted : (v : Verdict) → of_second v ≡ Ok tt → v ≡ Ok tt
second-accepted (Ok tt) e = refl
second-accepted (Err x) e = absurd (refused-not e)

-- ---- an accepted call

module _ (s t : List ℕ) where
  abbrev a : Log
  a = decode s

  abbrev b : Log
  b = decode t

  -- known once both logs are accepted, ahead of 18
  pub joined-size : Read s → Read t → length (joined_bytes s t) + 10 ≡ length s + length t
  unfolding joined_bytes
  joined-size x y = omega (arith, joined-length a b, x.size, y.size)

  module _ (x : Read s) (y : Read t) (e : join_grounds a b ≡ Ok tt) where
    abbrev unlike : Verdict
    unlike = ground UnlikeTools NoList 0 (not (eqb a.modules b.modules))

    abbrev long : Verdict
    long = ground Period NoList 0 (bad_period (joined_log a b).period)

    abbrev many : Verdict
    many = ground Counts NoList 0 (bad_counts (header_for (joined_log a b)))

    pub alike : b.modules ≡ a.modules
    unfolding join_grounds
    alike = sym (eqb-true a.modules b.modules (not-false (eqb a.modules b.modules) (not-met UnlikeTools NoList 0 _ (then-left unlike (long then many) e))))

    bounded : Bounded (joined_log a b)
    unfolding join_grounds joined_log
    bounded =
        let e2 = then-right unlike (long then many) e in
        let p = good-period (joined_log a b).period (not-met Period NoList 0 _ (then-left long many e2)) in
        let c = good-counts (header_for (joined_log a b)) (not-met Counts NoList 0 _ (then-right long many e2)) in
        record { some_time = p.0; short = p.1; some_module = x.writable.bounded.some_module; few = x.writable.bounded.few; states = c.0; standards = c.1; units = c.2 }

    standards-fit : Each StandardNarrow (joined_log a b).standards
    unfolding joined_log
    standards-fit =
        merged-each standard_key StandardNarrow a.standards (map (standard_up a.period) b.standards) x.writable.standards
        (each-map (standard_up a.period) StandardNarrow StandardNarrow (λ r h. record { recipe = h.recipe; theoretical = h.theoretical }) b.standards y.writable.standards)

    units-fit : Each UnitNarrow (joined_log a b).units
    unfolding joined_log
    units-fit =
        each-append UnitNarrow a.units _ x.writable.units
        (each-map (unit_up a.period) UnitNarrow UnitNarrow (λ r h. record { recipe = h.recipe; actual = h.actual; effective = h.effective }) b.units y.writable.units)

    pub joined-writable : Writable (joined_log a b)
    joined-writable = record { sound = joined-sound a b x.writable.sound y.writable.sound alike; bounded = bounded; standards = standards-fit; units = units-fit }

    most : length (joined_bytes s t) ≤ 63130
    unfolding joined_bytes
    most = let w = bounded in omega (arith, length-encode (joined_log a b), w.states, w.standards, w.units)

    pub joined-log : Joined s t
    unfolding joined_bytes
    joined-log =
        record {
          says = encoded-says (joined_log a b) joined-writable;
          accepted = encoded-accepted (joined_log a b) joined-writable;
          size = joined-size x y;
          most = most;
          sums = sums-added a b x.writable.sound y.writable.sound alike;
          tool = tool-added a b x.writable.sound y.writable.sound alike;
          tool_times = tool-times-added a b x.writable.sound y.writable.sound alike;
          credits = credits-kept a b x.writable.sound y.writable.sound alike;
        }
