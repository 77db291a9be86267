-- What the joining call answers, test by test.
-- Assumes nothing.
use mathlib.Core.Path.{◌≡◌, refl, ap, ◌∙◌}
use mathlib.Core.List.{List}
use Prim.Native.Nat.{ℕ, ◌+◌, ◌-◌, ◌≤◌}
use native.Mathlib.Nat.{zero-add}
use native.Mathlib.Omega.{arith}
use lib.Dec.{ltb}
use lib.ListN.{length}
use borrow.Author.Tests.{le-ltb}
use Rattle.std.specs.declared.result.Result.TheVariants.{Ok, Err}
use Rattle.filling.specs.Buffer.{Put}
use Rattle.filling.proofs.Written.{written-front}
use Rattle.judging.proofs.Judging.{accepted_counts}
use Rattle.records.specs.Log.{header_of, decode}
use Rattle.rules.specs.declared.Ground.TheVariants.{ShortBuffer}
use Rattle.rules.specs.declared.LogList.TheVariants.{NoList}
use Rattle.rules.specs.declared.Refusal.{Refusal}
use Rattle.rules.specs.Grounds.{Verdict, ground, ◌then◌}
use Rattle.rules.specs.Verdict.{verdict}
use Rattle.rules.proofs.Given.{front_refused, front_put}
use Rattle.sound.proofs.Encoded.{read}
use Rattle.joined.specs.Joins.{of_second, join_grounds, joined_bytes, join_verdict, Joins}
use Rattle.joining.specs.Parts.{InBounds}
use Rattle.joined.proofs.JoinedBytes.{joined-log, joined-size}
use Rattle.joined.proofs.JoinRefusals.{of-join}

-- the header of an accepted log
pub in-bounds : (s : List ℕ) → verdict s ≡ Ok tt → InBounds (header_of s)
in-bounds s e =
    let c = accepted_counts s e in
    record { begun = c.period.0; short = c.period.1; modules = c.modules.1; states = c.counts.0; standards = c.counts.1; units = c.counts.2 }

module _ (s t b : List ℕ) where
  -- nothing is written
  refused : (x : Refusal) → join_verdict s t (length b) ≡ Err x → Joins s t b (Err x) b
  refused x e = front_refused _ _ _ _ b x e (of-join s t (length b) x e)

  abbrev last : Verdict
  last = ground ShortBuffer NoList 0 (ltb (length b) (length (joined_bytes s t)))

  from-first : join_verdict s t (length b) ≡ verdict s then of_second (verdict t) then join_grounds (decode s) (decode t) then last
  unfolding join_verdict
  from-first = refl

  pub first-refused : (x : Refusal) → verdict s ≡ Err x → Joins s t b (Err x) b
  first-refused x e = refused x (from-first ∙ ap (λ (v : Verdict). v then of_second (verdict t) then join_grounds (decode s) (decode t) then last) e)

  module _ (first : verdict s ≡ Ok tt) where
    from-second : join_verdict s t (length b) ≡ of_second (verdict t) then join_grounds (decode s) (decode t) then last
    from-second = from-first ∙ ap (λ (v : Verdict). v then of_second (verdict t) then join_grounds (decode s) (decode t) then last) first

    pub second-refused : (x : Refusal) → of_second (verdict t) ≡ Err x → Joins s t b (Err x) b
    second-refused x e = refused x (from-second ∙ ap (λ (v : Verdict). v then join_grounds (decode s) (decode t) then last) e)

    module _ (second : verdict t ≡ Ok tt) where
      from-both : join_verdict s t (length b) ≡ join_grounds (decode s) (decode t) then last
      from-both = from-second ∙ ap (λ (v : Verdict). of_second v then join_grounds (decode s) (decode t) then last) second

      pub both-refused : (x : Refusal) → join_grounds (decode s) (decode t) ≡ Err x → Joins s t b (Err x) b
      both-refused x e = refused x (from-both ∙ ap (λ (v : Verdict). v then last) e)

      -- the two lengths less one header's
      pub length-known : length s + length t - 10 ≡ length (joined_bytes s t)
      length-known = omega (arith, joined-size s t (read s first) (read t second))

      module _ (allowed : join_grounds (decode s) (decode t) ≡ Ok tt) where
        from-room : join_verdict s t (length b) ≡ last
        from-room = from-both ∙ ap (λ (v : Verdict). v then last) allowed

        pub room-refused : (x : Refusal) → last ≡ Err x → Joins s t b (Err x) b
        room-refused x e = refused x (from-room ∙ e)

        pub joined_put : length (joined_bytes s t) ≤ length b → (r : ℕ) (a : List ℕ) → Put (joined_bytes s t) b 0 r a → Joins s t b (Ok r) a
        joined_put fits r a p =
            let accepts : join_verdict s t (length b) ≡ Ok tt = from-room ∙ ap (ground ShortBuffer NoList 0) (le-ltb (length b) (length (joined_bytes s t)) fits) in
            front_put _ _ _ _ b accepts r (p.next ∙ zero-add (length (joined_bytes s t))) (fits, joined-log s t (read s first) (read t second) allowed) a (p.bytes ∙ written-front b (joined_bytes s t))
