-- What the packing call answers and leaves in its buffer is as promised: a refused log as it was, and of an accepted one the packed bytes and zeros. The packed bytes
-- are an accepted log, which packs to itself and has no zeros behind it.
-- Assumes nothing.
use mathlib.Core.Path.{◌≡◌, refl}
use mathlib.Core.List.{List, ◌++◌, append-nil}
use Prim.Native.Nat.{ℕ, ◌-◌}
use native.Mathlib.Omega.{arith}
use lib.ListN.{length, replicate, take}
use lib.Seq.{take_at}
use Rattle.std.specs.declared.result.Result.TheVariants.{Ok, Err}
use Rattle.rules.specs.declared.Refusal.{Refusal}
use Rattle.rules.specs.Refusals.{OfLog}
use Rattle.rules.specs.Verdict.{verdict}
use Rattle.rules.proofs.Given.{never, given_refused, given_answered}
use Rattle.rules.proofs.KnownRefusals.{log-refusal}
use Rattle.packed.specs.Packed.{packed_bytes}
use Rattle.packed.specs.Packs.{packed_buffer, packed_answer, Again, OfPacking, Packs}
use Rattle.packed.proofs.Packing.{packed_accepted, packed_within, packed_again, packed_claims}

again : (s : List ℕ) → verdict s ≡ Ok tt → Again s (length (packed_bytes s))
unfolding packed_buffer packed_answer
again s ok =
    let t = packed_bytes s in
    let part : take (length t) (packed_buffer s) ≡ t = rw ok (take_at t (replicate (length s - length t) 0) (length t) refl) in
    let none : length t - length t ≡ 0 = omega arith in
    record {
      part = part;
      bytes = rw (part, packed_accepted s ok, packed_again s ok, none) (append-nil t);
      answer = rw (part, packed_accepted s ok, packed_again s ok);
    }

pub of_packing : (s : List ℕ) → verdict s ≡ Ok tt → OfPacking s (length (packed_bytes s))
of_packing s ok = record { within = packed_within s ok; packed = packed_claims s ok; again = again s ok }

pub packs_refused : (s : List ℕ) (x : Refusal) → verdict s ≡ Err x → Packs s (Err x) s
unfolding packed_buffer
packs_refused s x e =
    record {
      given = given_refused (verdict s) (length (packed_bytes s)) (OfPacking s) (OfLog s) x e (log-refusal s x e);
      bytes = rw e;
      unchanged = λ y q. refl;
    }

pub packs_accepted : (s : List ℕ) → verdict s ≡ Ok tt → (r : ℕ) (after : List ℕ) → r ≡ length (packed_bytes s) → after ≡ packed_bytes s ++ replicate (length s - length (packed_bytes s)) 0 → Packs s (Ok r) after
unfolding packed_buffer
packs_accepted s ok r after long put =
    record {
      given = given_answered (verdict s) (length (packed_bytes s)) (OfPacking s) (OfLog s) r ok long (of_packing s ok);
      bytes = rw ok put;
      unchanged = λ x q. absurd (never r x q);
    }
