-- What an accepted log gives each pass, and what the three leave together: with the header's counts and the zeros it is the packed log's bytes.
-- Assumes nothing.
use mathlib.Core.Path.{◌≡◌, sym, ap, ◌∙◌, subst}
use mathlib.Core.Bool.{true}
use mathlib.Core.List.{List, ◌++◌, append_assoc}
use Prim.Native.Nat.{ℕ, ◌+◌, ◌-◌, ◌*◌, ◌/◌, ◌^◌, ◌≤◌, ◌<◌}
use native.Mathlib.Omega.{arith}
use lib.ListN.{length, take, drop, length-append, length-drop}
use lib.Seq.{drop_at, take-add, take-append-add, length-take-le}
use Rattle.std.specs.declared.result.Result.TheVariants.{Ok}
use Rattle.bits.specs.Put.{Fit}
use Rattle.bits.proofs.Puts.{length-packed}
use Rattle.filling.specs.Buffer.{Put}
use Rattle.filling.proofs.Written.{written-front}
use Rattle.records.specs.declared.Header.{Header}
use Rattle.records.specs.Covers.{Covers}
use Rattle.records.specs.Encode.{header_slots, state_slots, standard_slots, header_bytes, header_for, encode}
use Rattle.records.specs.Log.{Log, header_of, state_at, standard_at, unit_at, up_to, decode}
use Rattle.records.specs.Whole.{standards_begin, units_begin, units_end}
use Rattle.records.proofs.RecordKinds.{standard-kind, unit-kind}
use Rattle.records.proofs.RoundTrip.{length_joined}
use Rattle.records.proofs.UpTo.{length_up_to}
use Rattle.records.proofs.Widths.{whole-short}
use Rattle.rules.specs.Sequence.{is_rising, state_key, standard_key}
use Rattle.rules.specs.Verdict.{verdict}
use Rattle.rules.proofs.Risen.{risen, whole_length}
use Rattle.sound.proofs.Encoded.{read, fits}
use Rattle.packed.specs.Packed.{packed_log, packed_bytes}
use Rattle.packed.proofs.PackedLog.{writable}
use Rattle.packing.specs.Closing.{Closed}
use Rattle.packing.specs.Passes.{states_left, standards_left, all_units}
use Rattle.packing.proofs.Words.{further}
use Rattle.packing.proofs.ClosingUp.{closed-then}
use Rattle.packing.proofs.Passing.{record-kept}

-- ---- a list read behind what is closed up

module _ (s : List ℕ) (h : Header) (d : List ℕ) where
  same-standards : drop (standards_begin h) d ≡ drop (standards_begin h) s → standard_at d h ≡ standard_at s h
  same-standards e =
      let each : (i : ℕ) → standard_at d h i ≡ standard_at s h i
      = λ i. let place : 80 + 48 * h.states + 80 * i ≡ 8 * (10 + 6 * h.states + 10 * i) = omega arith in
      rw place (record-kept standard-kind s d (10 + 6 * h.states + 10 * i) (further s d (standards_begin h) (10 + 6 * h.states + 10 * i) (omega arith) e)) in
      λ j i. each i j

  same-units : drop (units_begin h) d ≡ drop (units_begin h) s → unit_at d h ≡ unit_at s h
  same-units e =
      let each : (i : ℕ) → unit_at d h i ≡ unit_at s h i
      = λ i. let place : 80 + 48 * h.states + 80 * h.standards + 88 * i ≡ 8 * (10 + 6 * h.states + 10 * h.standards + 11 * i) = omega arith in
      rw place (record-kept unit-kind s d (10 + 6 * h.states + 10 * h.standards + 11 * i) (further s d (units_begin h) (10 + 6 * h.states + 10 * h.standards + 11 * i) (omega arith) e)) in
      λ j i. each i j

-- ---- an accepted log

module _ (s : List ℕ) (h : Header) (own : h ≡ header_of s) (ok : verdict s ≡ Ok tt) where
  size : length s ≡ units_end h
  size = rw own (whole_length s ok)

  short : length s < 2 ^ 32
  short = omega (arith, size, whole-short s h own)

  -- a part of it is there, in the buffer as it is then
  pub there : (d : List ℕ) → length d ≡ length s → (n : ℕ) → n ≤ units_end h → Covers d n
  there d e n l = (omega (arith, size), omega (arith, short))

  pub states_rise : is_rising state_key (up_to (state_at s) h.states) ≡ true
  unfolding decode
  states_rise = rw own (risen s ok).states

  standards_rise : is_rising standard_key (up_to (standard_at s h) h.standards) ≡ true
  unfolding decode
  standards_rise = rw own (risen s ok).standards

  -- ---- the passes, one behind another

  module _ {d : List ℕ} {r : ℕ} (states : Closed s 10 (states_left s h.states) (10 + 6 * h.states) r d) where
    pub standards_still_rise : is_rising standard_key (up_to (standard_at d h) h.standards) ≡ true
    standards_still_rise = rw (same-standards s h d states.behind) standards_rise

    module _ {e : List ℕ} {q : ℕ} (standards : Closed d r (standards_left d h h.standards) (units_begin h) q e) where
      abbrev lists : List ℕ
      lists = states_left s h.states ++ (standards_left s h h.standards ++ all_units s h)

      abbrev log : Log
      log = packed_log (decode s)

      two : Closed s 10 (states_left s h.states ++ standards_left s h h.standards) (units_begin h) q e
      unfolding standards_left
      two = closed-then states (omega arith) (rw (same-standards s h d states.behind) at standards)

      -- the header of the packed log, by where its lists end
      abbrev pub counted : Header
      counted = record h { states = (r - 10) / 6; standards = (q - r) / 10 }

      pub header_packed : counted ≡ header_for log
      unfolding states_left standards_left packed_log decode
      header_packed =
          let n : length (states_left s h.states) ≡ 6 * length log.states = rw own (length_joined 6 state_slots log.states) in
          let k : length (standards_left s h h.standards) ≡ 10 * length log.standards = rw own (length_joined 10 standard_slots log.standards) in
          let left : q ≡ r + length (standards_left s h h.standards) = rw (same-standards s h d states.behind) at standards.next in
          let x : (r - 10) / 6 ≡ length log.states = omega (arith, n, states.next) in
          let y : (q - r) / 10 ≡ length log.standards = omega (arith, k, left) in
          let z : h.units ≡ length log.units = rw own (sym (length_up_to (unit_at s (header_of s)) (header_of s).units)) in
          λ i. record { period = (own i).period; modules = (own i).modules; states = x i; standards = y i; units = z i }

      pub header_fits : Fit (header_slots counted)
      header_fits = subst (λ (k : Header). Fit (header_slots k)) (sym header_packed) (fits log (writable (decode s) (read s ok).writable)).header

      module _ {f : List ℕ} {end : ℕ} (units : Closed e q (all_units e h) (units_end h) end f) where
        all : Closed s 10 lists (units_end h) end f
        unfolding all_units
        all =
            let three = closed-then two (omega arith) (rw (same-units s h e two.behind) at units) in
            rw (← append_assoc (states_left s h.states) (standards_left s h h.standards) (all_units s h)) three

        bytes-known : packed_bytes s ≡ header_bytes counted ++ lists
        unfolding packed_bytes encode packed_log decode states_left standards_left all_units
        bytes-known =
            ap (λ (k : Header). header_bytes k ++ (states_left s (header_of s).states ++ (standards_left s (header_of s) (header_of s).standards ++ all_units s (header_of s)))) (sym header_packed)
            ∙ ap (λ (k : Header). header_bytes counted ++ (states_left s k.states ++ (standards_left s k k.standards ++ all_units s k))) (sym own)

        pub size_packed : end ≡ length (packed_bytes s)
        size_packed = omega (arith, all.next, ap length bytes-known, length-append (header_bytes counted) lists, length-packed 10 (header_slots counted))

        pub within_packed : end ≤ length f
        within_packed = omega (arith, all.order, all.size, size)

        -- with the header laid over its front
        module _ {m : ℕ} {g : List ℕ} (laid : Put (header_bytes counted) f 0 m g) where
          shape : g ≡ header_bytes counted ++ drop (length (header_bytes counted)) f
          shape = laid.bytes ∙ written-front f (header_bytes counted)

          pub length_laid : length g ≡ length s
          length_laid =
              let n = length-packed 10 (header_slots counted) in
              omega (arith, ap length shape, length-append (header_bytes counted) (drop (length (header_bytes counted)) f), length-drop (length (header_bytes counted)) f, n, all.size, all.order, all.next, size)

          pub front_packed : take end g ≡ packed_bytes s
          front_packed =
              let n = length lists in
              let ten : length (header_bytes counted) ≡ 10 = length-packed 10 (header_slots counted) in
              let room : 10 ≤ length f = omega (arith, all.next, all.order, all.size, size) in
              let through : take 10 f ++ take n (drop 10 f) ≡ take 10 s ++ lists = sym (take-add 10 n f) ∙ ap (λ (k : ℕ). take k f) (sym all.next) ∙ all.through in
              let behind : take n (drop 10 f) ≡ lists
              = sym (drop_at (take 10 f) (take n (drop 10 f)) 10 (length-take-le 10 f room)) ∙ ap (drop 10) through ∙ drop_at (take 10 s) lists 10 (length-take-le 10 s (omega (arith, room, all.size))) in
              let end-known : end ≡ length (header_bytes counted) + n = omega (arith, all.next, ten) in
              ap (take end) shape
              ∙ ap (λ (k : ℕ). take k (header_bytes counted ++ drop (length (header_bytes counted)) f)) end-known
              ∙ take-append-add (header_bytes counted) (drop (length (header_bytes counted)) f) n
              ∙ ap (λ (k : ℕ). header_bytes counted ++ take n (drop k f)) ten
              ∙ ap (λ (x : List ℕ). header_bytes counted ++ x) behind
              ∙ sym bytes-known
