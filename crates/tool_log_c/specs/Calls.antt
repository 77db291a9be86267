-- What each C function does: its flag, and what the caller's arrays hold in the end, for the verdict and the values that `tool_log` answers.
-- Definitions only.
use Rattle.std.specs.Prelude.{◌≡◌, List, [], ◌∷◌, ◌++◌, ℕ, ◌+◌, ◌≤◌, length, drop, Float}
use Rattle.records.specs.Log.{header_of, standard_at, decode}
use Rattle.e79.specs.declared.Quantities.{Quantities}
use Rattle.e79.specs.Quantities.{Ordered, quantities_of}
use Rattle.e79.specs.Doubles.{figures_of}
use Rattle.e79.specs.Accuracy.{Accurate}
use Rattle.rules.specs.declared.Refusal.{Refusal}
use Rattle.rules.specs.Grounds.{Verdict}
use Rattle.std.specs.declared.result.Result.TheVariants.{Ok, Err}
use Rattle.rules.specs.Quantities.{all_times, module_times, tool_times, of_module, of_tool, times_of}
use Rattle.rules.specs.Theoretical.{in_force}
use Rattle.rules.specs.Credited.{credits_of}
use Rattle.rules.specs.Answers.{written_by}
use Rattle.rules.specs.Verdict.{verdict, verdict_on}
use Rattle.losses.specs.Losses.{losses_of, shares_of, AddsUp}
use Rattle.answering.specs.Calls.{OnModule}
use Rattle.rules.specs.Refusals.{OfLog}
use Rattle.reporting.specs.Reports.{verdict_for_text, verdict_for, ForText, ForRoom}
use Rattle.crediting.specs.Calls.{AllCredited, in_force_of, Uses}
use Rattle.listing.specs.Listings.{credit_listing}
use Rattle.joined.specs.Joins.{join_verdict, joined_bytes, OfJoin, Joined}
use Rattle.packed.specs.Packed.{packed_bytes}
use Rattle.packed.specs.Packs.{packed_buffer, OfPacking}
use Rattle.benchmarks.specs.Benchmarks.{benchmark_at, verdict_with}
use Rattle.supplemental.specs.Supplemental.{supplemental_of, supplementals_of, AllRounded}
use Rattle.supplemental.specs.Calls.{WithBenchmarks}
use Rattle.writing.specs.Writing.{Entry, add_verdict, add_buffer, OfAdding, finish_verdict, OfFinishing}
use Rattle.telling.specs.Arrays.{refusal_of, ratios_of, bases_of}
use Rattle.telling.specs.Told.{answer_or, found_flag, found_or, Told}

-- what is promised of the value where the verdict accepts, and what a refusal may be
pub record Promised (v : Verdict) (Promise : Type 0) (Allowed : Refusal → Type 0) : Type 0 where
  pub promise : v ≡ Ok tt → Promise
  pub refusal : (x : Refusal) → v ≡ Err x → Allowed x

-- ---- a verdict

pub record Tells (v : Verdict) (Allowed : Refusal → Type 0) (r : ℕ) (refusal : List ℕ) : Type 0 where
  pub told : Told v r refusal
  pub known : (x : Refusal) → v ≡ Err x → Allowed x

-- the one for a buffer
abbrev pub TellsVerdict : List ℕ → ℕ → ℕ → List ℕ → Type 0
TellsVerdict s room r refusal = Tells (verdict_for s room) (ForRoom s room) r refusal

-- ---- whole numbers

pub record TellsNumbers (v : Verdict) (numbers before : List ℕ) (Promise : Type 0) (Allowed : Refusal → Type 0) (r : ℕ) (after refusal : List ℕ) : Type 0 where
  pub told : Told v r refusal
  pub array : after ≡ answer_or v numbers before
  pub known : Promised v Promise Allowed

-- the six state times of module m, which add up to the period
abbrev pub TellsModuleTimes : List ℕ → ℕ → List ℕ → ℕ → List ℕ → List ℕ → Type 0
TellsModuleTimes s m before r after refusal =
    let t = module_times (decode s) m in
    TellsNumbers (verdict_on s m) (times_of t) before (all_times t ≡ (decode s).period) (OnModule s m) r after refusal

-- the tool's, which add up to its total time
abbrev pub TellsToolTimes : List ℕ → List ℕ → ℕ → List ℕ → List ℕ → Type 0
TellsToolTimes s before r after refusal =
    let t = tool_times (decode s) in
    TellsNumbers (verdict s) (times_of t) before (all_times t ≡ (of_tool (decode s)).total) (OfLog s) r after refusal

-- the five quantities of module m, none of which passes the one before it
abbrev pub TellsModuleQuantities : List ℕ → ℕ → List ℕ → ℕ → List ℕ → List ℕ → Type 0
TellsModuleQuantities s m before r after refusal =
    let q = of_module (decode s) m in
    TellsNumbers (verdict_on s m) (quantities_of q) before (Ordered q) (OnModule s m) r after refusal

abbrev pub TellsToolQuantities : List ℕ → List ℕ → ℕ → List ℕ → List ℕ → Type 0
TellsToolQuantities s before r after refusal =
    let q = of_tool (decode s) in
    TellsNumbers (verdict s) (quantities_of q) before (Ordered q) (OfLog s) r after refusal

-- the four losses and OEE of module m, which make 10,000, and no other five that do lie nearer
abbrev pub TellsModuleLosses : List ℕ → ℕ → List ℕ → ℕ → List ℕ → List ℕ → Type 0
TellsModuleLosses s m before r after refusal =
    let q = of_module (decode s) m in
    TellsNumbers (verdict_on s m) (shares_of (losses_of q)) before (AddsUp q (losses_of q)) (OnModule s m) r after refusal

abbrev pub TellsToolLosses : List ℕ → List ℕ → ℕ → List ℕ → List ℕ → Type 0
TellsToolLosses s before r after refusal =
    let q = of_tool (decode s) in
    TellsNumbers (verdict s) (shares_of (losses_of q)) before (AddsUp q (losses_of q)) (OfLog s) r after refusal

-- the actual units credited to each standard; those of all standards make the log's
abbrev pub TellsCreditedUnits : List ℕ → List ℕ → ℕ → List ℕ → List ℕ → Type 0
TellsCreditedUnits s before r after refusal =
    let c = credits_of (decode s) in
    TellsNumbers (verdict s) c before (AllCredited (decode s) c) (OfLog s) r after refusal

-- the tool's four supplemental figures, each the nearest whole number and at most 10,000
abbrev pub TellsSupplemental : List ℕ → List ℕ → List ℕ → ℕ → List ℕ → List ℕ → Type 0
TellsSupplemental s b before r after refusal =
    let f = supplemental_of (decode s) (benchmark_at b) in
    TellsNumbers (verdict_with s b) (supplementals_of f) before (AllRounded (decode s) (benchmark_at b) f) (WithBenchmarks s b) r after refusal

-- ---- what is written to a buffer, or what is found

-- the length of what is written to the front of the buffer, and all of the buffer's bytes
pub record TellsFront (v : Verdict) (content : List ℕ) (Promise : ℕ → Type 0) (Allowed : Refusal → Type 0) (before lengthBefore : List ℕ) (r : ℕ) (after told_length refusal : List ℕ) : Type 0 where
  pub told : TellsNumbers v (length content ∷ []) lengthBefore (Promise (length content)) Allowed r told_length refusal
  pub bytes : after ≡ written_by v content ++ drop (length (written_by v content)) before

-- the listing of credited units
abbrev pub TellsCreditedListing : List ℕ → List ℕ → List ℕ → ℕ → List ℕ → List ℕ → List ℕ → Type 0
TellsCreditedListing s before lengthBefore r after told_length refusal =
    let listing = credit_listing (decode s) in
    TellsFront (verdict_for_text credit_listing s (length before)) listing (λ n. (n ≤ length before) × (n ≤ 7168)) (ForText credit_listing s (length before)) before lengthBefore r after told_length refusal

-- the joined log
abbrev pub TellsJoin : List ℕ → List ℕ → List ℕ → List ℕ → ℕ → List ℕ → List ℕ → List ℕ → Type 0
TellsJoin s t before lengthBefore r after told_length refusal =
    TellsFront (join_verdict s t (length before)) (joined_bytes s t) (λ n. (n ≤ length before) × Joined s t) (OfJoin s t (length before)) before lengthBefore r after told_length refusal

-- the packed log's length, and all of the buffer's bytes
pub record TellsPack (before lengthBefore : List ℕ) (r : ℕ) (after told_length refusal : List ℕ) : Type 0 where
  pub told : TellsNumbers (verdict before) (length (packed_bytes before) ∷ []) lengthBefore (OfPacking before (length (packed_bytes before))) (OfLog before) r told_length refusal
  pub bytes : after ≡ packed_buffer before

-- index and time of the standard in force for a module, a recipe and a time
pub record TellsInForce (s : List ℕ) (m recipe time : ℕ) (before : List ℕ) (r : ℕ) (after refusal : List ℕ) : Type 0 where
  pub flag : r ≡ found_flag (verdict_on s m) (in_force_of (in_force (decode s).standards m recipe time))
  pub why : refusal ≡ refusal_of (verdict_on s m)
  pub array : after ≡ found_or (λ f. f.index ∷ f.time ∷ []) (verdict_on s m) (in_force_of (in_force (decode s).standards m recipe time)) before
  pub known : Promised (verdict_on s m) (Uses (standard_at s (header_of s)) (header_of s).standards m recipe time (in_force_of (in_force (decode s).standards m recipe time))) (OnModule s m)

-- ---- doubles

-- the doubles of quantities q, which are as accurate as `Accurate` says
pub record TellsDoubles (v : Verdict) (q : Quantities) (before : List Float) (basedBefore : List ℕ) (Allowed : Refusal → Type 0) (r : ℕ) (after : List Float) (based refusal : List ℕ) : Type 0 where
  pub told : Told v r refusal
  pub doubles : after ≡ answer_or v (ratios_of (figures_of q)) before
  pub bases : based ≡ answer_or v (bases_of (figures_of q)) basedBefore
  pub known : Promised v (Accurate q (figures_of q)) Allowed

abbrev pub TellsModuleFigures : List ℕ → ℕ → List Float → List ℕ → ℕ → List Float → List ℕ → List ℕ → Type 0
TellsModuleFigures s m before basedBefore r after based refusal =
    TellsDoubles (verdict_on s m) (of_module (decode s) m) before basedBefore (OnModule s m) r after based refusal

abbrev pub TellsToolFigures : List ℕ → List Float → List ℕ → ℕ → List Float → List ℕ → List ℕ → Type 0
TellsToolFigures s before basedBefore r after based refusal =
    TellsDoubles (verdict s) (of_tool (decode s)) before basedBefore (OfLog s) r after based refusal

-- ---- writing

-- the position behind the record, and all of the buffer's bytes
pub record TellsAdding (e : Entry) (before : List ℕ) (at : ℕ) (nextBefore : List ℕ) (r : ℕ) (after next refusal : List ℕ) : Type 0 where
  pub told : TellsNumbers (add_verdict e (length before) at) ((at + e.size) ∷ []) nextBefore (at + e.size ≤ length before) (OfAdding e (length before) at) r next refusal
  pub bytes : after ≡ add_buffer e before at

abbrev pub TellsFinishing : List ℕ → ℕ → ℕ → List ℕ → Type 0
TellsFinishing buf at r refusal = Tells (finish_verdict buf at) (OfFinishing buf at) r refusal
