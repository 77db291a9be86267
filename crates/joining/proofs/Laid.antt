-- How the joined log's bytes lie: the header, the first log's state records as they stand, the second's moved up, the standards of both merged, the first's unit
-- records as they stand, the second's moved up. And what the two accepted logs give each part.
-- Assumes nothing.
use mathlib.Core.Path.{◌≡◌, sym, ap, ◌∙◌, subst}
use mathlib.Core.Bool.{not}
use mathlib.Core.List.{List, [], ◌∷◌, ◌++◌, map, append_assoc}
use Prim.Native.Nat.{ℕ, zero, suc, ◌+◌, ◌*◌, ◌^◌, ◌≤◌, ◌<◌}
use native.Mathlib.Decide.{ℕ_discrete}
use native.Mathlib.Omega.{arith}
use lib.Dec.{eqb}
use lib.ListN.{length, take, drop, length-append}
use lib.Seq.{take_at, drop_at}
use Rattle.std.specs.declared.result.Result.TheVariants.{Ok}
use Rattle.bits.specs.Put.{Fit}
use Rattle.bits.proofs.Puts.{length-packed}
use Rattle.records.specs.declared.Header.{Header}
use Rattle.records.specs.Encode.{header_slots, state_slots, standard_slots, header_bytes, state_bytes, standard_bytes, unit_bytes, joined, header_for, encode}
use Rattle.records.specs.Log.{Log, header_of, state_at, standard_at, unit_at, up_to, decode}
use Rattle.records.proofs.RoundTrip.{joined-append, length_joined, encode-decode}
use Rattle.records.proofs.UpTo.{length_up_to}
use Rattle.records.proofs.Widths.{header-counts}
use Rattle.rules.specs.declared.Ground.TheVariants.{Period, Counts, UnlikeTools}
use Rattle.rules.specs.declared.LogList.TheVariants.{NoList}
use Rattle.rules.specs.Grounds.{ground, ◌then◌}
use Rattle.rules.specs.Lists.{Each}
use Rattle.rules.specs.SameRecords.{Bytes}
use Rattle.rules.specs.Sound.{StateSound, StandardSound, UnitSound}
use Rattle.rules.specs.Verdict.{bad_period, bad_counts, verdict}
use Rattle.rules.proofs.Each.{each-left, each-right}
use Rattle.rules.proofs.Risen.{risen, whole_length}
use Rattle.sound.proofs.Encoded.{read, fits}
use Rattle.joined.specs.Joined.{state_up, unit_up, joined_log}
use Rattle.joined.specs.Joins.{join_grounds, joined_bytes}
use Rattle.joining.specs.Parts.{joined_header, header_verdict}
use Rattle.joining.specs.Turns.{Mergeable}
use Rattle.joined.proofs.Counted.{states-counted, standards-counted, units-counted}
use Rattle.joined.proofs.JoinedBytes.{joined-length, joined-writable}
use Rattle.joining.proofs.Turning.{both}

-- ---- the bytes

module _ (a b : Log) where
  abbrev pub second_states : List ℕ
  second_states = joined state_bytes (map (state_up a.period) b.states)

  abbrev pub second_units : List ℕ
  second_units = joined unit_bytes (map (unit_up a.period) b.units)

  pub laid : encode (joined_log a b)
      ≡ header_bytes (header_for (joined_log a b)) ++ (joined state_bytes a.states ++ (second_states ++ (joined standard_bytes (joined_log a b).standards ++ (joined unit_bytes a.units ++ second_units))))
  unfolding encode joined_log
  laid =
      rw (joined-append state_bytes a.states (map (state_up a.period) b.states), joined-append unit_bytes a.units (map (unit_up a.period) b.units))
      (ap (λ (r : List ℕ). header_bytes (header_for (joined_log a b)) ++ r) (append_assoc (joined state_bytes a.states) second_states _))

-- where the lists of a log stand in its bytes
module _ (l : Log) where
  pub states_there : take (6 * length l.states) (drop 10 (encode l)) ≡ joined state_bytes l.states
  unfolding encode
  states_there =
      let behind = joined standard_bytes l.standards ++ joined unit_bytes l.units in
      rw (drop_at (header_bytes (header_for l)) (joined state_bytes l.states ++ behind) 10 (length-packed 10 (header_slots (header_for l)))) (take_at (joined state_bytes l.states) behind (6 * length l.states) (length_joined 6 state_slots l.states))

  pub units_there : drop (10 + 6 * length l.states + 10 * length l.standards) (encode l) ≡ joined unit_bytes l.units
  unfolding encode
  units_there =
      let head = header_bytes (header_for l) in
      let states = joined state_bytes l.states in
      let standards = joined standard_bytes l.standards in
      let long : length (head ++ (states ++ standards)) ≡ 10 + 6 * length l.states + 10 * length l.standards
      = simp (length-append, length-packed, length_joined 6 state_slots l.states, length_joined 10 standard_slots l.standards) (omega arith) in
      rw (← append_assoc states standards (joined unit_bytes l.units), ← append_assoc head (states ++ standards) (joined unit_bytes l.units))
      (drop_at (head ++ (states ++ standards)) (joined unit_bytes l.units) _ long)

-- ---- a property of each record, by its index

each-at : {A : Type 0} (P : A → Type 0) (at : ℕ → A) (n : ℕ) → Each P (up_to at n) → (i : ℕ) → i < n → P (at i)
unfolding up_to
each-at P at zero e i h = absurd (omega arith)
each-at P at (suc n) e i h =
    elim (ℕ_discrete i n) [
      | yes q ↦ subst (λ (j : ℕ). P (at j)) (sym q) (each-right P (up_to at n) (at n ∷ []) e).0
      | no q ↦ each-at P at n (each-left P (up_to at n) (at n ∷ []) e) i (omega (arith, q))
    ]

-- ---- the two headers

module _ (s t : List ℕ) where
  abbrev ha : Header
  ha = header_of s

  abbrev hb : Header
  hb = header_of t

  abbrev log : Log
  log = joined_log (decode s) (decode t)

  pub size : length (joined_bytes s t) ≡ 10 + 6 * (ha.states + hb.states) + 10 * (ha.standards + hb.standards) + 11 * (ha.units + hb.units)
  unfolding joined_bytes decode
  size =
      joined-length (decode s) (decode t)
      ∙ rw (length_up_to (state_at s) ha.states, length_up_to (state_at t) hb.states, length_up_to (standard_at s ha) ha.standards, length_up_to (standard_at t hb) hb.standards, length_up_to (unit_at s ha) ha.units, length_up_to (unit_at t hb) hb.units)

  -- the header counts the records of both
  pub header-same : joined_header ha hb ≡ header_for log
  unfolding joined_log decode
  header-same =
      let n : (z : List ℕ) → length (decode z).states ≡ (header_of z).states = λ z. ap (λ (h : Header). h.states) (header-counts z) in
      let k : (z : List ℕ) → length (decode z).standards ≡ (header_of z).standards = λ z. ap (λ (h : Header). h.standards) (header-counts z) in
      let u : (z : List ℕ) → length (decode z).units ≡ (header_of z).units = λ z. ap (λ (h : Header). h.units) (header-counts z) in
      let x : ha.states + hb.states ≡ length log.states = omega (arith, states-counted (decode s) (decode t), n s, n t) in
      let y : ha.standards + hb.standards ≡ length log.standards = omega (arith, standards-counted (decode s) (decode t), k s, k t) in
      let z : ha.units + hb.units ≡ length log.units = omega (arith, units-counted (decode s) (decode t), u s, u t) in
      λ i. record { period = ha.period + hb.period; modules = ha.modules; states = x i; standards = y i; units = z i }

  pub grounds-same : header_verdict ha hb ≡ join_grounds (decode s) (decode t)
  unfolding join_grounds joined_log decode
  grounds-same = ap (λ (h : Header). ground UnlikeTools NoList 0 (not (eqb ha.modules hb.modules)) then ground Period NoList 0 (bad_period (ha.period + hb.period)) then ground Counts NoList 0 (bad_counts h)) header-same

  -- ---- two accepted logs that may be joined

  module _ (first : verdict s ≡ Ok tt) (second : verdict t ≡ Ok tt) (allowed : join_grounds (decode s) (decode t) ≡ Ok tt) where
    -- the moved times are before the joined period's end
    pub period-low : ha.period + hb.period ≤ 31622400000
    unfolding joined_log decode
    period-low = (joined-writable s t (read s first) (read t second) allowed).bounded.short

    pub header-fit : Fit (header_slots (joined_header ha hb))
    header-fit = subst (λ (h : Header). Fit (header_slots h)) (sym header-same) (fits log (joined-writable s t (read s first) (read t second) allowed)).header

    pub states-fit : (i : ℕ) → i < hb.states → ha.period + (state_at t i).time < 2 ^ 35
    unfolding decode
    states-fit i h = let e = each-at (StateSound hb.period hb.modules) (state_at t) hb.states (read t second).writable.sound.states i h in omega (arith, e.inside, period-low)

    pub units-fit : (i : ℕ) → i < hb.units → ha.period + (unit_at t hb i).time < 2 ^ 35
    unfolding decode
    units-fit i h = let e = each-at (UnitSound hb.period hb.modules (decode t).standards) (unit_at t hb) hb.units (read t second).writable.sound.units i h in omega (arith, e.inside, period-low)

    pub mergeable : Mergeable (standard_at s ha) ha.standards (standard_at t hb) hb.standards ha.period
    unfolding decode
    mergeable =
        record {
          first_rises = (risen s first).standards;
          second_rises = (risen t second).standards;
          early = λ i h. (each-at (StandardSound ha.period ha.modules) (standard_at s ha) ha.standards (read s first).writable.sound.standards i h).inside;
          fits = λ i h. let e = each-at (StandardSound hb.period hb.modules) (standard_at t hb) hb.standards (read t second).writable.sound.standards i h in omega (arith, e.inside, period-low);
        }

    -- the parts
    module _ (small : Bytes s) where
      again : encode (decode s) ≡ s
      again = encode-decode s small (whole_length s first)

      pub states-copied : take (6 * ha.states) (drop 10 s) ≡ joined state_bytes (decode s).states
      states-copied =
          let n : length (decode s).states ≡ ha.states = ap (λ (h : Header). h.states) (header-counts s) in
          ap (λ (k : ℕ). take (6 * k) (drop 10 s)) (sym n) ∙ ap (λ (z : List ℕ). take (6 * length (decode s).states) (drop 10 z)) (sym again) ∙ states_there (decode s)

      pub units-copied : drop (10 + 6 * ha.states + 10 * ha.standards) s ≡ joined unit_bytes (decode s).units
      units-copied =
          let n : length (decode s).states ≡ ha.states = ap (λ (h : Header). h.states) (header-counts s) in
          let k : length (decode s).standards ≡ ha.standards = ap (λ (h : Header). h.standards) (header-counts s) in
          rw (← n, ← k) (ap (drop (10 + 6 * length (decode s).states + 10 * length (decode s).standards)) (sym again) ∙ units_there (decode s))

      pub all-parts : joined_bytes s t
          ≡ header_bytes (joined_header ha hb)
          ++ (take (6 * ha.states) (drop 10 s)
          ++ (joined state_bytes (map (state_up ha.period) (up_to (state_at t) hb.states))
          ++ (joined standard_bytes (both (standard_at s ha) ha.standards (standard_at t hb) hb.standards ha.period)
          ++ (drop (10 + 6 * ha.states + 10 * ha.standards) s
          ++ joined unit_bytes (map (unit_up ha.period) (up_to (unit_at t hb) hb.units))))))
      unfolding joined_bytes joined_log decode
      all-parts =
          let head : header_bytes (header_for log) ≡ header_bytes (joined_header ha hb) = ap header_bytes (sym header-same) in
          let states = sym states-copied in
          let units = sym units-copied in
          laid (decode s) (decode t) ∙ λ i. head i ++ (states i ++ (second_states (decode s) (decode t) ++ (joined standard_bytes log.standards ++ (units i ++ second_units (decode s) (decode t)))))
