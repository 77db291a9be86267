-- Closing up in place: bytes of a buffer that move towards its front, over those that are dropped.
-- Definitions only.
use Rattle.std.specs.Prelude.{◌≡◌, ℕ, ◌+◌, ◌^◌, ◌≤◌, ◌<◌, Bool, cond, List, ◌++◌, length, take, drop}
use Rattle.std.specs.List.{copy_within}
use Rattle.rules.specs.SameRecords.{Bytes}

-- n bytes from byte `from` on, which has a log's header ahead of it, may move to `to`
pub record Moveable (b : List ℕ) (from n to : ℕ) : Type 0 where
  pub small : Bytes (drop from b)
  pub order : to ≤ from
  pub ahead : 10 ≤ from
  pub inside : from + n ≤ length b
  pub short : length b < 2 ^ 32

-- a record of n bytes at byte `from` is passed over, or copied to byte `to`; r is where the next one goes
pub record Moved (drops : Bool) (before : List ℕ) (from n to r : ℕ) (after : List ℕ) : Type 0 where
  pub bytes : after ≡ cond drops before (copy_within before from (from + n) to)
  pub next : r ≡ cond drops to (to + n)

-- of the bytes from `to` up to p, xs are left: they stand from `to` on and end at r, and before `to` and from p on all is as it was
pub record Closed (before : List ℕ) (to : ℕ) (xs : List ℕ) (p r : ℕ) (after : List ℕ) : Type 0 where
  pub next : r ≡ to + length xs
  pub through : take r after ≡ take to before ++ xs
  pub behind : drop p after ≡ drop p before
  pub order : r ≤ p
  pub size : length after ≡ length before
