-- A text about a log in a lent buffer: refused with the log, refused for the room, or written. And the listing of an accepted log's credited units.
-- Assumes nothing.
use mathlib.Core.Path.{◌≡◌, ap, ◌∙◌}
use mathlib.Core.List.{List}
use Prim.Native.Nat.{ℕ, ◌+◌, ◌*◌, ◌≤◌, ◌<◌}
use native.Mathlib.Nat.{zero-add}
use native.Mathlib.Omega.{arith}
use lib.ListN.{length, get_or}
use lib.Dec.{ltb}
use Rattle.std.specs.declared.result.Result.TheVariants.{Ok, Err}
use Rattle.records.specs.Log.{Log, header_of, standard_at, unit_at, decode}
use Rattle.records.proofs.UpTo.{length_up_to, up_to_at}
use Rattle.records.proofs.Widths.{unit-fits}
use Rattle.rules.specs.declared.Refusal.{Refusal}
use Rattle.rules.specs.declared.Ground.TheVariants.{ShortBuffer}
use Rattle.rules.specs.declared.LogList.TheVariants.{NoList}
use Rattle.rules.specs.Grounds.{ground}
use Rattle.rules.specs.Credited.{credited_to, credits_of}
use Rattle.rules.specs.Verdict.{verdict}
use Rattle.rules.proofs.Given.{front_refused, front_put}
use Rattle.rules.proofs.KnownRefusals.{log-refusal}
use Rattle.filling.specs.Buffer.{Put}
use Rattle.filling.proofs.Written.{written-front}
use Rattle.report.specs.Report.{joined}
use Rattle.report.proofs.Tables.{joined_same}
use Rattle.theoretical.proofs.Counting.{judged_low}
use Rattle.judging.proofs.Judging.{accepted_counts}
use Rattle.reporting.specs.Reports.{verdict_for_text, ForText, of_log}
use Rattle.reporting.proofs.Reporting.{room_refused, for-room, room_enough, refused_short}
use Rattle.listing.specs.Listings.{credit_line, credit_listing, TextWritten}

-- ---- any text

module _ (text : Log → List ℕ) (most : ℕ) (s b : List ℕ) where
  abbrev size : ℕ
  size = length (text (decode s))

  -- nothing is written
  refused : (x : Refusal) → verdict_for_text text s (length b) ≡ Err x → ForText text s (length b) x → TextWritten text most s b (Err x) b
  refused x e for = front_refused _ _ _ _ b x e for

  pub text_refused : (x : Refusal) → verdict s ≡ Err x → TextWritten text most s b (Err x) b
  text_refused x e = refused x (room_refused text s (length b) x e) (of_log (log-refusal s x e))

  module _ (e : verdict s ≡ Ok tt) where
    pub text_short : (x : Refusal) → ground ShortBuffer NoList 0 (ltb (length b) size) ≡ Err x → TextWritten text most s b (Err x) b
    text_short x f = refused x (for-room text s (length b) e ∙ f) (refused_short text s (length b) e x f)

    pub text_put : size ≤ length b → size ≤ most → (r : ℕ) (a : List ℕ) → Put (text (decode s)) b 0 r a → TextWritten text most s b (Ok r) a
    text_put fits few r a p = front_put _ _ _ _ b (room_enough text s (length b) e fits) r (p.next ∙ zero-add size) (fits, few) a (p.bytes ∙ written-front b (text (decode s)))

-- ---- the listing of credited units

module _ (s : List ℕ) (e : verdict s ≡ Ok tt) where
  pub standards_few : (header_of s).standards ≤ 512
  standards_few = (accepted_counts s e).counts.1

  -- 2,000 records of at most 65,535 units: nine digits
  pub credits_low : (i : ℕ) → i < 512 → get_or (credits_of (decode s)) i 0 < 1000000000
  unfolding decode credits_of credited_to
  credits_low i h =
      let head = header_of s in
      rw (up_to_at (credited_to (decode s)) 512 i 0 h)
      (omega (arith, judged_low (λ u. u.actual) (decode s).standards (unit_at s head) (λ k. (unit-fits s (80 + 48 * head.states + 80 * head.standards + 88 * k)).1.1.1.0) head.units i, (accepted_counts s e).counts.2))

  pub lists_credits : joined (λ i. credit_line i (get_or (credits_of (decode s)) i 0)) (header_of s).standards ≡ credit_listing (decode s)
  unfolding credit_listing credits_of decode
  lists_credits =
      rw (length_up_to (standard_at s (header_of s)) (header_of s).standards)
      (joined_same _ _ (header_of s).standards (λ i h. ap (credit_line i) (up_to_at (credited_to (decode s)) 512 i 0 (omega (arith, standards_few)))))
