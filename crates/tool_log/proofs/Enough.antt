-- An accepted log has at most 63,130 bytes, and 63,131 bytes of an input are enough to decide: what `shift` and the header's constant rest on.
-- Assumes nothing.
use mathlib.Core.Path.{◌≡◌, refl, sym, ap, ◌∙◌}
use mathlib.Core.List.{List}
use mathlib.Core.Bool.{Bool, true, false}
use Prim.Native.Nat.{ℕ, ◌+◌, ◌*◌, ◌≤◌, ◌<◌}
use native.Mathlib.Omega.{arith}
use lib.ListN.{length, take}
use lib.Seq.{length-take-le}
use borrow.Author.Tests.{le-ltb, ne_eqb}
use Rattle.bits.proofs.Fields.{field-take}
use Rattle.records.specs.declared.Header.{Header}
use Rattle.records.specs.Fields.{header_from}
use Rattle.records.specs.Log.{header_of, decode}
use Rattle.rules.specs.declared.Ground.TheVariants.{Period, Modules, Counts, Length}
use Rattle.rules.specs.declared.LogList.TheVariants.{NoList}
use Rattle.std.specs.declared.result.Result.TheVariants.{Ok}
use Rattle.rules.specs.Grounds.{Verdict, ground, ◌then◌}
use Rattle.rules.specs.Verdict.{bad_period, bad_modules, bad_counts, bad_length, header_grounds, record_grounds, verdict}
use Rattle.judging.proofs.Bounds.{good-counts}
use Rattle.judging.proofs.Judging.{accepted_counts}

pub longest-log : (s : List ℕ) → verdict s ≡ Ok tt → length s ≤ 63130
longest-log s a = let n = accepted_counts s a in omega (arith, n.whole, n.counts)

-- what a longer input is answered: its header decides, and else 5
abbrev by_header : Header → Verdict
by_header h =
    ground Period NoList 0 (bad_period h.period)
    then ground Modules NoList 0 (bad_modules h.modules)
    then ground Counts NoList 0 (bad_counts h)
    then ground Length NoList 0 true

pub too_long : (s : List ℕ) → 63130 < length s → verdict s ≡ by_header (header_of s)
unfolding verdict header_grounds
too_long s l = rw (le-ltb (length s) 10 (omega arith)) (go (bad_period h.period) (bad_modules h.modules) (bad_counts h) refl)
  where
    h : Header
    h = header_of s

    long : bad_counts h ≡ false → bad_length (length s) h ≡ true
    long c = rw (ne_eqb (length s) (10 + 6 * h.states + 10 * h.standards + 11 * h.units) (λ e. omega (arith, good-counts h c)))

    go : (p m c : Bool) → bad_counts h ≡ c
        → (ground Period NoList 0 p then ground Modules NoList 0 m then ground Counts NoList 0 c then ground Length NoList 0 (bad_length (length s) h)) then record_grounds (decode s)
        ≡ ground Period NoList 0 p then ground Modules NoList 0 m then ground Counts NoList 0 c then ground Length NoList 0 true
    go true m c e = refl
    go false true c e = refl
    go false false true e = refl
    go false false false e = rw (long e)

header-take : (s : List ℕ) → header_of (take 63131 s) ≡ header_of s
unfolding header_from
header-take s =
    rw (
      field-take s 63131 0 35 (omega arith),
      field-take s 63131 35 7 (omega arith),
      field-take s 63131 42 14 (omega arith),
      field-take s 63131 56 11 (omega arith),
      field-take s 63131 67 13 (omega arith),
    )

-- an input of more than 63,130 bytes is refused as its first 63,131 bytes are
pub enough : (s : List ℕ) → 63130 < length s → verdict (take 63131 s) ≡ verdict s
enough s l =
    let n : length (take 63131 s) ≡ 63131 = length-take-le 63131 s l in
    too_long (take 63131 s) (omega (arith, n)) ∙ ap by_header (header-take s) ∙ sym (too_long s l)
