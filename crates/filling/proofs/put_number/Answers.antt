-- `filling::put_number` meets its contract: the bytes that it puts are the number's low ones. Assumes nothing.
use mathlib.Core.Path.{◌≡◌, ap, sym, ◌∙◌}
use Prim.Native.Nat.{ℕ, ◌-◌, ◌^◌, ◌%◌}
use native.Mathlib.Omega.{arith}
use Rattle.std.specs.List.{between}
use Rattle.filling.specs.Buffer.{big_endian}
use Rattle.filling.proofs.Written.{read_as}
use Rattle.filling.proofs.Numbers.{number-bytes, number-low, number-last}
use Rattle.filling.proofs.put_number.Goals as goal

pub returns-in-8 : goal.returns-in-8
returns-in-8 c =
    let v = c.args.number in
    read_as (c.to_be_bytes.ensures ∙ number-bytes 8 v ∙ ap (λ (n : ℕ). big_endian n v) (sym c.in-8.is)) c.put_text.ensures

pub returns-in-4 : goal.returns-in-4
returns-in-4 c =
    let v = c.args.number in
    read_as (c.to_be_bytes-in-4.ensures ∙ number-bytes 4 (v % 2 ^ 32) ∙ number-low 4 (v % 2 ^ 32) v (omega arith) ∙ ap (λ (n : ℕ). big_endian n v) (sym c.in-4.is)) c.put_text-in-4.ensures

pub returns-in_default : goal.returns-in_default
returns-in_default c =
    let n = c.args.n in
    let v = c.args.number in
    let last : between (8 - n) 8 c.to_be_bytes-in_default.result ≡ big_endian n v = rw c.to_be_bytes-in_default.ensures (number-last 8 n v c.requires.1) in
    read_as last c.put_text-in_default.ensures
