-- A run of calls keeps this: the bytes before the position are those of the records added, and those behind it are as they were.
-- Assumes nothing.
use mathlib.Core.Path.{◌≡◌, refl, sym, ap, ◌∙◌}
use mathlib.Core.List.{List, [], ◌∷◌, ◌++◌, foldl, append_assoc, append-nil}
use Prim.Native.Nat.{ℕ, ◌+◌, ◌≤◌}
use native.Mathlib.Omega.{arith}
use lib.Dec.{ltb}
use lib.ListN.{length, length-append}
use lib.Seq.{drop-drop}
use borrow.Author.Tests.{ltb-false, le-ltb}
use Rattle.bits.specs.Put.{Fit}
use Rattle.bits.proofs.Puts.{length-packed}
use Rattle.records.specs.Encode.{joined, AllFit}
use Rattle.filling.specs.Buffer.{written}
use Rattle.filling.proofs.Written.{written_length, written_behind, written_through}
use Rattle.rules.specs.declared.Ground.TheVariants.{ShortBuffer, TooWide}
use Rattle.rules.specs.declared.LogList.TheVariants.{NoList}
use Rattle.rules.specs.Grounds.{Verdict}
use Rattle.std.specs.declared.result.Result.TheVariants.{Ok, Err}
use Rattle.rules.specs.Grounds.{ground}
use Rattle.rules.proofs.FirstGround.{then-left, then-right, not-met}
use Rattle.rules.specs.Answers.{answer_of}
use Rattle.writing.specs.Writing.{Entry, entry_bytes, any_too_wide, add_verdict, if_accepted, add_answer, add_buffer}
use Rattle.writing.specs.Runs.{Run, handed_back, counted, call, run, Kept}
use Rattle.writing.proofs.Fitting.{fits, none-too_wide}

-- ---- an accepted call

-- what an accepted call has, and what a call needs to be accepted
pub record Addable (e : Entry) (room at : ℕ) : Type 0 where
  pub fit : Fit e.slots
  pub holds : at + e.size ≤ room

pub addable : (e : Entry) (room at : ℕ) → add_verdict e room at ≡ Ok tt → Addable e room at
unfolding add_verdict
addable e room at a =
    let wide = ground TooWide e.list 0 (any_too_wide e.slots) in
    let short = ground ShortBuffer NoList 0 (ltb room (at + e.size)) in
    record {
      fit = fits e.slots (not-met TooWide e.list 0 (any_too_wide e.slots) (then-left wide short a));
      holds = ltb-false room (at + e.size) (not-met ShortBuffer NoList 0 (ltb room (at + e.size)) (then-right wide short a));
    }

pub accepting : (e : Entry) (room at : ℕ) → Addable e room at → add_verdict e room at ≡ Ok tt
unfolding add_verdict
accepting e room at f = rw (none-too_wide e.slots f.fit, le-ltb room (at + e.size) f.holds)

-- ---- a run

joined-more : (es : List Entry) (e : Entry) → joined entry_bytes (es ++ (e ∷ [])) ≡ joined entry_bytes es ++ entry_bytes e
unfolding joined
joined-more [] e = append-nil (entry_bytes e)
joined-more (d ∷ es) e = rw (joined-more es e, append_assoc (entry_bytes d) (joined entry_bytes es) (entry_bytes e))

fit-more : (es : List Entry) (e : Entry) → AllFit (λ e. e.slots) es → Fit e.slots → AllFit (λ e. e.slots) (es ++ (e ∷ []))
fit-more [] e fit f = (f, tt)
fit-more (d ∷ es) e fit f = (fit.0, fit-more es e fit.1 f)

-- where an accepted call leaves a run
abbrev onward : Run → Entry → Run
onward w e =
    record {
      buffer = written w.buffer w.position (entry_bytes e);
      position = w.position + e.size;
      added = w.added ++ (e ∷ []);
    }

by-verdict : (w : Run) (e : Entry) → call w e ≡ if_accepted (add_verdict e (length w.buffer) w.position) (onward w e) w
unfolding call add_answer add_buffer
by-verdict w e = go (add_verdict e (length w.buffer) w.position)
  where
    left : Verdict → Run
    left v =
        let r = answer_of v (w.position + e.size) in
        record { buffer = if_accepted v (written w.buffer w.position (entry_bytes e)) w.buffer; position = handed_back r w.position; added = counted r w.added e }

    go : (v : Verdict) → left v ≡ if_accepted v (onward w e) w
    go (Ok tt) = refl
    go (Err x) = refl

call_kept : (buf : List ℕ) (w : Run) (e : Entry) → Kept buf w → Kept buf (call w e)
call_kept buf w e k = rw (by-verdict w e) (step (add_verdict e (length w.buffer) w.position) refl)
  where
    step : (v : Verdict) → add_verdict e (length w.buffer) w.position ≡ v → Kept buf (if_accepted v (onward w e) w)
    step (Ok tt) a =
        let at = w.position in
        let xs = entry_bytes e in
        let len : length xs ≡ e.size = length-packed e.size e.slots in
        let f = addable e (length w.buffer) at a in
        record {
          bytes = rw len at (written_through w.buffer at xs (rw len f.holds)) ∙ rw k.bytes (sym (joined-more w.added e));
          behind = rw len at (written_behind w.buffer at xs (rw len f.holds)) ∙ sym (drop-drop e.size at w.buffer) ∙ rw k.behind (drop-drop e.size at buf);
          within = omega (arith, f.holds, k.size);
          size = written_length w.buffer at xs (rw len f.holds) ∙ k.size;
          fit = fit-more w.added e k.fit f.fit;
        }
    step (Err x) a = k

runs-kept : (buf : List ℕ) (es : List Entry) (w : Run) → Kept buf w → Kept buf (foldl call w es)
runs-kept buf [] w k = k
runs-kept buf (e ∷ es) w k = runs-kept buf es (call w e) (call_kept buf w e k)

pub run-kept : (buf : List ℕ) (es : List Entry) → Kept buf (run buf es)
unfolding run joined
run-kept buf es = runs-kept buf es (record { buffer = buf; position = 0; added = [] }) (record { bytes = refl; behind = refl; within = omega arith; size = refl; fit = tt })

-- ---- a run in which nothing is refused

call-made : (w : Run) (e : Entry) → Addable e (length w.buffer) w.position → call w e ≡ onward w e
call-made w e f = by-verdict w e ∙ ap (λ (v : Verdict). if_accepted v (onward w e) w) (accepting e (length w.buffer) w.position f)

-- where the buffer holds the bytes of all, all are added
runs-all : (es : List Entry) (w : Run) → AllFit (λ e. e.slots) es → w.position + length (joined entry_bytes es) ≤ length w.buffer → (foldl call w es).added ≡ w.added ++ es
unfolding joined
runs-all [] w fit h = sym (append-nil w.added)
runs-all (e ∷ es) w fit h =
    let at = w.position in
    let xs = entry_bytes e in
    let len : length xs ≡ e.size = length-packed e.size e.slots in
    let split : length (xs ++ joined entry_bytes es) ≡ length xs + length (joined entry_bytes es) = length-append xs (joined entry_bytes es) in
    let next = onward w e in
    let longer : length next.buffer ≡ length w.buffer = written_length w.buffer at xs (omega arith) in
    ap (λ (u : Run). (foldl call u es).added) (call-made w e (record { fit = fit.0; holds = omega arith }))
    ∙ runs-all es next fit.1 (omega arith)
    ∙ append_assoc w.added (e ∷ []) es

pub run_all_lem : (buf : List ℕ) (es : List Entry) → AllFit (λ e. e.slots) es → length (joined entry_bytes es) ≤ length buf → (run buf es).added ≡ es
unfolding run
run_all_lem buf es fit h = runs-all es (record { buffer = buf; position = 0; added = [] }) fit (omega arith)
