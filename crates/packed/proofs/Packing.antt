-- The claims about packing. What a log says, and its packed records, determine one another: so logs that say the same are packed to the same bytes, the packed log,
-- which says the same, is packed to itself, and no log that says the same has fewer records.
-- Assumes nothing.
use mathlib.Core.Path.{◌≡◌, refl, sym, ap}
use mathlib.Core.List.{List}
use Prim.Native.Nat.{ℕ, ◌≤◌}
use native.Mathlib.Omega.{arith}
use lib.ListN.{length}
use Rattle.std.specs.declared.result.Result.TheVariants.{Ok}
use Rattle.records.specs.Log.{Log, decode}
use Rattle.records.specs.Encode.{encode}
use Rattle.records.proofs.RoundTrip.{length-encode}
use Rattle.rules.specs.Lists.{Each}
use Rattle.rules.specs.Sound.{StateSound, StandardSound, Sound}
use Rattle.rules.specs.Verdict.{verdict}
use Rattle.sound.specs.Bounds.{Writable}
use Rattle.sound.proofs.Encoded.{read, encoded-says, encoded-accepted}
use Rattle.packed.specs.Claims.{SaySame, NoMore, Packed}
use Rattle.packed.specs.Packed.{packed_log, packed_bytes}
use Rattle.packed.proofs.OnePass.{states_fewer, standards_fewer}
use Rattle.packed.proofs.PackedLists.{codes_kept, fewest_states, one_states, times_kept, fewest_standards, one_standards}
use Rattle.packed.proofs.PackedLog.{writable}
use Rattle.packed.proofs.SameSums.{SameTold, told_same, same_sums}

-- ---- logs

module _ (l : Log) (s : Sound l) where
  log-same : SaySame (packed_log l) l
  unfolding packed_log
  log-same =
      record {
        period = refl;
        modules = refl;
        codes = λ m t h g. codes_kept l.states s.states_rise m t;
        times = λ m recipe t h g. times_kept l.standards s.standards_rise m recipe t;
        units = refl;
      }

  log-fewest : (k : Log) → SaySame k l → NoMore (packed_log l) k
  unfolding packed_log
  log-fewest k same =
      let a = fewest_states l.period l.modules l.states k.states s.states_rise s.states (λ m t h g. sym (same.codes m t h g)) in
      let b = fewest_standards l.period l.modules l.standards k.standards s.standards_rise s.standards (λ m recipe t h g. sym (same.times m recipe t h g)) in
      record { states = a; standards = b; all = omega (arith, a, b, ap length same.units) }

  log-one : (k : Log) → Sound k → SaySame k l → packed_log k ≡ packed_log l
  unfolding packed_log
  log-one k r same =
      let good : Each (StateSound l.period l.modules) k.states = rw (same.period, same.modules) at r.states in
      let fine : Each (StandardSound l.period l.modules) k.standards = rw (same.period, same.modules) at r.standards in
      let states = one_states l.period l.modules k.states l.states r.states_rise good same.codes s.states_rise s.states in
      let standards = one_standards l.period l.modules k.standards l.standards r.standards_rise fine same.times s.standards_rise s.standards in
      λ i. record { period = same.period i; modules = same.modules i; states = states i; standards = standards i; units = same.units i }

-- ---- bytes

module _ (s : List ℕ) (ok : verdict s ≡ Ok tt) where
  pub sound_of : Sound (decode s)
  sound_of = (read s ok).writable.sound

  packed-writable : Writable (packed_log (decode s))
  packed-writable = writable (decode s) (read s ok).writable

  pub packed_says : decode (packed_bytes s) ≡ packed_log (decode s)
  unfolding packed_bytes
  packed_says = encoded-says (packed_log (decode s)) packed-writable

  pub packed_accepted : verdict (packed_bytes s) ≡ Ok tt
  unfolding packed_bytes
  packed_accepted = encoded-accepted (packed_log (decode s)) packed-writable

  pub packed_within : length (packed_bytes s) ≤ length s
  unfolding packed_bytes packed_log
  packed_within =
      omega (arith, length-encode (packed_log (decode s)), (read s ok).size, states_fewer (decode s).states, standards_fewer (decode s).standards)

  -- what is told of the log is told of its packed bytes
  pub same_told : SameTold (decode (packed_bytes s)) (decode s)
  same_told = rw packed_says (told_same (decode s) sound_of)

pub packed_one : (s t : List ℕ) → verdict s ≡ Ok tt → verdict t ≡ Ok tt → SaySame (decode t) (decode s) → packed_bytes t ≡ packed_bytes s
unfolding packed_bytes
packed_one s t a b same = ap encode (log-one (decode s) (sound_of s a) (decode t) (sound_of t b) same)

module _ (s : List ℕ) (ok : verdict s ≡ Ok tt) where
  pub packed_again : packed_bytes (packed_bytes s) ≡ packed_bytes s
  packed_again = packed_one s (packed_bytes s) ok (packed_accepted s ok) (rw (packed_says s ok) (log-same (decode s) (sound_of s ok)))

  pub packed_claims : Packed s
  packed_claims =
      record {
        says = packed_says s ok;
        accepted = packed_accepted s ok;
        same = log-same (decode s) (sound_of s ok);
        sums = same_sums (packed_log (decode s)) (decode s) (told_same (decode s) (sound_of s ok));
        fewest = λ l same. log-fewest (decode s) (sound_of s ok) l same;
        one = λ t b same. packed_one s t ok b same;
        again = packed_again;
        size = packed_within s ok;
      }
