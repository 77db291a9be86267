-- The bytes of a number, the most significant first: how many, which, where a number of two parts is cut, and which of them the machine's are.
-- Assumes nothing.
use mathlib.Core.Path.{◌≡◌, refl, sym, ap, ap₂, ◌∙◌}
use mathlib.Core.List.{◌∷◌, ◌++◌}
use Prim.Native.Nat.{ℕ, zero, suc, ◌+◌, ◌-◌, ◌*◌, ◌/◌, ◌%◌, ◌^◌, ◌≤◌, ◌<◌}
use native.Mathlib.Nat.{zero-add, suc-add, pow-suc}
use native.Mathlib.Omega.{arith}
use lib.ListN.{length, get_or, drop, length-drop}
use lib.Seq.{take_all}
use lib.Pow.{pow-add, shr-shr, field, mod-mod-pow}
use Rattle.std.specs.List.{between}
use Rattle.std.specs.Int.{byte_at, bytes_high_first}
use Rattle.filling.specs.Buffer.{big_endian}

pub number-length : (n v : ℕ) → length (big_endian n v) ≡ n
unfolding big_endian
number-length zero v = refl
number-length (suc n) v = ap suc (number-length n v)

pub number-byte : (n v i : ℕ) → i < n → get_or (big_endian n v) i 0 ≡ v / 2 ^ (8 * (n - 1 - i)) % 256
unfolding big_endian
number-byte zero v i h = absurd (omega arith)
number-byte (suc n) v zero h = rw e
  where
    e : suc n - 1 - 0 ≡ n
    e = omega arith
number-byte (suc n) v (suc i) h =
    let e : suc n - 1 - suc i ≡ n - 1 - i = omega arith in
    rw e (number-byte n v i (omega arith))

-- a number's low bytes are those of its remainder
pub number-low : (n v w : ℕ) → v % 2 ^ (8 * n) ≡ w % 2 ^ (8 * n) → big_endian n v ≡ big_endian n w
unfolding big_endian
number-low zero v w e = refl
number-low (suc n) v w e =
    let d : 8 * suc n ≡ 8 + 8 * n = omega arith in
    let f : v % 2 ^ (8 + 8 * n) ≡ w % 2 ^ (8 + 8 * n) = rw d at e in
    let first : v / 2 ^ (8 * n) % 256 ≡ w / 2 ^ (8 * n) % 256 = sym (field v 8 (8 * n)) ∙ ap (λ (x : ℕ). x / 2 ^ (8 * n)) f ∙ field w 8 (8 * n) in
    let rest : v % 2 ^ (8 * n) ≡ w % 2 ^ (8 * n) = sym (mod-mod-pow v 8 (8 * n)) ∙ ap (λ (x : ℕ). x % 2 ^ (8 * n)) f ∙ mod-mod-pow w 8 (8 * n) in
    ap₂ ◌∷◌ first (number-low n v w rest)

-- m + n bytes are the m of a first number and the n of a second, where these are its parts
pub number-parts : (m n v first second : ℕ) → first ≡ v / 2 ^ (8 * n) → second % 2 ^ (8 * n) ≡ v % 2 ^ (8 * n) → big_endian (m + n) v ≡ big_endian m first ++ big_endian n second
unfolding big_endian
number-parts zero n v first second p q = rw (zero-add n) (number-low n v second (sym q))
number-parts (suc m) n v first second p q =
    let d : 8 * (m + n) ≡ 8 * n + 8 * m = omega arith in
    let here : v / 2 ^ (8 * (m + n)) ≡ first / 2 ^ (8 * m) = rw (d, p) (sym (shr-shr v (8 * n) (8 * m))) in
    rw (suc-add m n, here, number-parts m n v first second p q)

-- ---- as the machine has them

power_of_bytes : (n : ℕ) → 256 ^ n ≡ 2 ^ (8 * n)
power_of_bytes zero = refl
power_of_bytes (suc n) =
    let e : 8 * suc n ≡ 8 * n + 8 = omega arith in
    rw (e, pow-add 2 (8 * n) 8, pow-suc 256 n, power_of_bytes n)

byte_is : (n v : ℕ) → byte_at n v ≡ v / 2 ^ (8 * n) % 256
byte_is zero v = omega arith
byte_is (suc n) v = rw (power_of_bytes (suc n))

-- n bytes of a machine number
pub number-bytes : (n v : ℕ) → bytes_high_first n v ≡ big_endian n v
unfolding big_endian
number-bytes zero v = refl
number-bytes (suc n) v = ap₂ ◌∷◌ (byte_is n v) (number-bytes n v)

number-behind : (k n v : ℕ) → drop k (big_endian (k + n) v) ≡ big_endian n v
unfolding big_endian
number-behind zero n v = rw zero-add
number-behind (suc k) n v = rw suc-add (number-behind k n v)

-- the last n of m of them
pub number-last : (m n v : ℕ) → n ≤ m → between (m - n) m (bytes_high_first m v) ≡ big_endian n v
number-last m n v h =
    let e : m ≡ (m - n) + n = omega arith in
    rw (number-bytes m v) (take_all (m - (m - n)) (drop (m - n) (big_endian m v)) (omega (arith, length-drop (m - n) (big_endian m v), number-length m v)) ∙ ap (λ (x : ℕ). drop (m - n) (big_endian x v)) e ∙ number-behind (m - n) n v)
