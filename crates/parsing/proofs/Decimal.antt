-- A decimal as `report` puts it is std's, which std's `parse` reads. Assumes nothing.
use mathlib.Core.Path.{◌≡◌, ap, ◌∙◌}
use mathlib.Core.List.{List, [], ◌∷◌, ◌++◌}
use Prim.Native.Nat.{ℕ, ◌+◌, ◌%◌, ◌^◌, ◌≤◌, ◌<◌}
use native.Mathlib.Omega.{arith}
use lib.ListN.{length, replicate}
use Rattle.std.specs.Fmt.{decimal as std·decimal}
use Rattle.std.specs.Str.{IsUtf8, IsAscii}
use Rattle.std.proofs.Common.{Result, Ok}
use Rattle.std.specs.Str.Parse.{ParsesUnsigned}
use Rattle.std.proofs.lemmas.Fmt.{decimal_by_steps, parse-decimal}
use Rattle.std.proofs.lemmas.Str.{IsUtf8-from_ascii, IsAscii-append}
use Rattle.std.proofs.lemmas.Str.Ascii.{IsAscii-cons, IsAscii-nil}
use Rattle.filling.specs.Buffer.{Put, AtFront}
use Rattle.filling.proofs.Written.{at_front}
use Rattle.report.specs.Report.{digit, decimal}
use Rattle.report.proofs.Decimals.{decimal-below, decimal-more, decimal-length}

decimal-std : (n : ℕ) → n < 2 ^ 64 → decimal n ≡ std·decimal n
decimal-std =
    decimal_by_steps (λ n s. decimal n ≡ s)
    (λ n h. let e : digit n ≡ 48 + n = omega arith in decimal-below n h ∙ ap (λ d. d ∷ []) e)
    (λ n s h e. decimal-more n h ∙ ap (λ t. t ++ (digit n ∷ [])) e)

ascii-one : (d : ℕ) → d < 128 → IsAscii (d ∷ [])
ascii-one d h = IsAscii-cons d [] h IsAscii-nil

pub decimal-utf8 : (n : ℕ) → n < 2 ^ 64 → IsUtf8 (std·decimal n)
decimal-utf8 n h =
    IsUtf8-from_ascii (std·decimal n)
    (decimal_by_steps (λ n s. IsAscii s) (λ n h. ascii-one (48 + n) (omega arith)) (λ n s h a. IsAscii-append s _ a (ascii-one (48 + n % 10) (omega arith))) n h)

pub parsed : {E : Type 0} (text : List ℕ) (r : Result ℕ E) → ParsesUnsigned 64 10 text r → (n : ℕ) → n < 2 ^ 64 → text ≡ decimal n → r ≡ Ok n
parsed text r p n h e = parse-decimal 64 n text r h h (e ∙ decimal-std n h) p

pub utf8 : (text : List ℕ) (n : ℕ) → n < 2 ^ 64 → text ≡ decimal n → IsUtf8 text
utf8 text n h e = rw (e ∙ decimal-std n h) (decimal-utf8 n h)

-- a number of 64 bits has at most 20 digits
pub few : (n : ℕ) → n < 2 ^ 64 → length (decimal n) ≤ 20
few n h = decimal-length 19 n (omega arith)

-- the decimal stands at the front
pub front : {n r : ℕ} {after : List ℕ} → n < 2 ^ 64 → Put (decimal n) (replicate 20 0) 0 r after → AtFront (decimal n) 20 (replicate 20 0) r after
front {n} h p = at_front 20 (few n h) p
