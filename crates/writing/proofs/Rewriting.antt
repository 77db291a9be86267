-- An accepted log rewritten from its own records has its own bytes: each of its numbers fits its field, no spare bit is set, and a buffer that holds the log
-- holds each record, so that no call is refused.
-- Assumes nothing.
use mathlib.Core.Path.{◌≡◌, sym, ap, ap₂, ◌∙◌}
use mathlib.Core.List.{List, ◌++◌}
use Prim.Native.Nat.{ℕ}
use native.Mathlib.Omega.{arith}
use lib.ListN.{length, drop, take-append-drop}
use lib.Seq.{length-take-le}
use Rattle.records.specs.Log.{decode}
use Rattle.records.specs.Encode.{encode, joined}
use Rattle.records.proofs.RoundTrip.{encode-decode}
use Rattle.records.proofs.Widths.{decode-fits}
use Rattle.std.specs.declared.result.Result.TheVariants.{Ok}
use Rattle.rules.specs.Verdict.{header_grounds, record_grounds, verdict}
use Rattle.rules.proofs.FirstGround.{then-right}
use Rattle.rules.specs.Sound.{StateSound, StandardSound, UnitSound, Sound}
use Rattle.rules.proofs.Each.{each-so}
use Rattle.rules.proofs.Sound.{sound}
use Rattle.rules.proofs.Risen.{whole_length}
use Rattle.writing.specs.Writing.{entry_bytes}
use Rattle.writing.specs.Runs.{run, finished, entries_of, NoSpare, RewrittenSame}
use Rattle.writing.proofs.Kept.{run-kept, run_all_lem}
use Rattle.writing.proofs.Finished.{entries_bytes, fit_entries, finished-says}

-- ---- an accepted log has no spare bit set

pub no-spare : (s : List ℕ) → verdict s ≡ Ok tt → NoSpare (decode s)
unfolding verdict
no-spare s e =
    let l = decode s in
    let a : Sound l = sound l (then-right (header_grounds s) (record_grounds l) e) in
    record {
      states = each-so (StateSound l.period l.modules) _ (λ r h. h.unspared) l.states a.states;
      standards = each-so (StandardSound l.period l.modules) _ (λ r h. h.unspared) l.standards a.standards;
      units = each-so (UnitSound l.period l.modules l.standards) _ (λ r h. h.unspared) l.units a.units;
    }

-- ---- the law

pub rewritten-same : RewrittenSame
rewritten-same s buf bytes accepted room =
    let l = decode s in
    let es = entries_of l in
    let plain = no-spare s accepted in
    let again : encode l ≡ s = encode-decode s bytes (whole_length s accepted) in
    let long : joined entry_bytes es ≡ s = entries_bytes l plain ∙ again in
    let all : (run buf es).added ≡ es = run_all_lem buf es (fit_entries l plain (decode-fits s)) (rw long room) in
    let says = finished-says buf es l plain all in
    let k = run-kept buf es in
    let w = run buf es in
    let front : finished w ≡ s = says.bytes ∙ again in
    let at : w.position ≡ length s = sym (length-take-le w.position w.buffer (omega (arith, k.within, k.size))) ∙ ap length front in
    record {
      bytes = sym (take-append-drop w.position w.buffer) ∙ ap₂ ◌++◌ front (k.behind ∙ ap (λ (n : ℕ). drop n buf) at);
      position = at;
      answer = says.answer ∙ ap verdict again ∙ accepted;
    }
