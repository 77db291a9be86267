-- Two accepted logs made of one header and the same records are the same bytes: their lists rise, so each is decided by its records, and a log's bytes are
-- those that its records are written as.
-- Assumes nothing.
use mathlib.Core.Path.{◌≡◌, refl, sym, ap, ◌∙◌}
use mathlib.Core.List.{List}
use Prim.Native.Nat.{ℕ}
use Rattle.records.specs.Log.{header_of, decode}
use Rattle.records.specs.Encode.{encode}
use Rattle.records.proofs.RoundTrip.{encode-decode}
use Rattle.std.specs.declared.result.Result.TheVariants.{Ok}
use Rattle.rules.specs.Sequence.{state_key, standard_key, unit_key}
use Rattle.rules.specs.Verdict.{verdict}
use Rattle.rules.specs.SameRecords.{SameRecords, SameBytes}
use Rattle.rules.proofs.Sequence.{same_rising}
use Rattle.rules.proofs.Risen.{risen, whole_length}

of_parts : (s : List ℕ) → decode s ≡ record { period = (header_of s).period; modules = (header_of s).modules; states = (decode s).states; standards = (decode s).standards; units = (decode s).units }
unfolding decode
of_parts s = refl

same_log : (s t : List ℕ) → verdict s ≡ Ok tt → verdict t ≡ Ok tt → SameRecords s t → decode s ≡ decode t
same_log s t a b same =
    let p = risen s a in
    let q = risen t b in
    of_parts s
    ∙ rw (
      same.header,
      same_rising state_key (decode s).states (decode t).states p.states q.states same.states,
      same_rising standard_key (decode s).standards (decode t).standards p.standards q.standards same.standards,
      same_rising unit_key (decode s).units (decode t).units p.units q.units same.units,
    )
    (sym (of_parts t))

pub same_bytes : SameBytes
same_bytes s t bytes-s bytes-t a b same = sym (encode-decode s bytes-s (whole_length s a)) ∙ ap encode (same_log s t a b same) ∙ encode-decode t bytes-t (whole_length t b)
