-- Three logs join to one log, whichever two come first.
-- Assumes nothing.
use mathlib.Core.Path.{◌≡◌, refl, sym, ap, ap₂, ◌∙◌}
use mathlib.Core.Bool.{true}
use mathlib.Core.Logic.{◌⊎◌, inl, inr}
use mathlib.Core.List.Memᴰ
use mathlib.Core.List.{List, [], ◌∷◌, ◌++◌, map, append_assoc, Memᴰ}
use Prim.Native.Nat.{ℕ, ◌+◌}
use native.Mathlib.Nat.{add_assoc}
use Rattle.std.proofs.lemmas.List.{map-append}
use Rattle.records.specs.declared.Standard.{Standard}
use Rattle.records.specs.Encode.{encode}
use Rattle.records.specs.Log.{Log, decode}
use Rattle.rules.specs.Sequence.{is_rising, standard_key}
use Rattle.rules.specs.Sound.{Sound}
use Rattle.rules.proofs.Each.{rising}
use Rattle.rules.proofs.Sequence.{rising_same}
use Rattle.sound.proofs.Encoded.{read}
use Rattle.joined.specs.Joined.{state_up, standard_up, unit_up, joined_log}
use Rattle.joined.specs.Joins.{joined_bytes, Grouped}
use Rattle.joined.specs.Merged.{merged}
use Rattle.joined.proofs.JoinedBytes.{alike, joined-log}
use Rattle.joined.proofs.JoinedLog.{joined-sound}
use Rattle.joined.proofs.JoinedStandards.{Moved, origin, map-member}
use Rattle.joined.proofs.Merging.{merged-first, merged-second}

-- ---- records that follow

-- one move and then another is one move
twice-moved : {A : Type 0} (f g h : A → A) → ((r : A) → h r ≡ f (g r)) → (rs : List A) → map h rs ≡ map f (map g rs)
twice-moved f g h e [] = refl
twice-moved f g h e (r ∷ rs) = ap₂ ◌∷◌ (e r) (twice-moved f g h e rs)

followed : {A : Type 0} (f g h : A → A) → ((r : A) → h r ≡ f (g r)) → (xs ys zs : List A) → (xs ++ map f ys) ++ map h zs ≡ xs ++ map f (ys ++ map g zs)
followed f g h e xs ys zs =
    append_assoc xs (map f ys) (map h zs)
    ∙ ap (λ (r : List _). xs ++ r) (ap (λ (r : List _). map f ys ++ r) (twice-moved f g h e zs) ∙ sym (map-append f ys (map g zs)))

-- ---- the standards

module _ (p q : ℕ) (xs ys zs : List Standard) where
  abbrev left : List Standard
  left = merged standard_key (merged standard_key xs (map (standard_up p) ys)) (map (standard_up (p + q)) zs)

  abbrev right : List Standard
  right = merged standard_key xs (map (standard_up p) (merged standard_key ys (map (standard_up q) zs)))

  twice : (z : Standard) → standard_up (p + q) z ≡ standard_up p (standard_up q z)
  twice z = λ i. record { «module» = z.«module»; recipe = z.recipe; start = add_assoc p q z.start i; theoretical = z.theoretical; spare = z.spare }

  to-right : (x : Standard) → Memᴰ x left → Memᴰ x right
  to-right x m = go (origin (p + q) (merged standard_key xs (map (standard_up p) ys)) zs x m)
    where
      inner : Memᴰ x xs ⊎ Moved p xs ys x → Memᴰ x right
      inner (inl n) = merged-first standard_key (map (standard_up p) (merged standard_key ys (map (standard_up q) zs))) n
      inner (inr y) = Memᴰ.cast y.same (merged-second standard_key xs (map-member (standard_up p) (merged-first standard_key (map (standard_up q) zs) y.listed)))

      go : Memᴰ x (merged standard_key xs (map (standard_up p) ys)) ⊎ Moved (p + q) (merged standard_key xs (map (standard_up p) ys)) zs x → Memᴰ x right
      go (inl n) = inner (origin p xs ys x n)
      go (inr z) = Memᴰ.cast (z.same ∙ twice z.old) (merged-second standard_key xs (map-member (standard_up p) (merged-second standard_key ys (map-member (standard_up q) z.listed))))

  to-left : (x : Standard) → Memᴰ x right → Memᴰ x left
  to-left x m = go (origin p xs (merged standard_key ys (map (standard_up q) zs)) x m)
    where
      inner : (w : Standard) → x ≡ standard_up p w → Memᴰ w ys ⊎ Moved q ys zs w → Memᴰ x left
      inner w e (inl n) = merged-first standard_key (map (standard_up (p + q)) zs) (Memᴰ.cast e (merged-second standard_key xs (map-member (standard_up p) n)))
      inner w e (inr z) =
          Memᴰ.cast (e ∙ ap (standard_up p) z.same ∙ sym (twice z.old)) (merged-second standard_key (merged standard_key xs (map (standard_up p) ys)) (map-member (standard_up (p + q)) z.listed))

      go : Memᴰ x xs ⊎ Moved p xs (merged standard_key ys (map (standard_up q) zs)) x → Memᴰ x left
      go (inl n) = merged-first standard_key (map (standard_up (p + q)) zs) (merged-first standard_key (map (standard_up p) ys) n)
      go (inr w) = inner w.old w.same (origin q ys zs w.old w.listed)

  merged-same : is_rising standard_key left ≡ true → is_rising standard_key right ≡ true → left ≡ right
  merged-same u v = rising_same standard_key left right u v to-right to-left

-- ---- logs

module _ (a b c : Log) (sa : Sound a) (sb : Sound b) (sc : Sound c) (ab : b.modules ≡ a.modules) (bc : c.modules ≡ b.modules) where
  kept : (joined_log b c).modules ≡ a.modules
  unfolding joined_log
  kept = ab

  kept-too : c.modules ≡ (joined_log a b).modules
  unfolding joined_log
  kept-too = bc ∙ ab

  pub grouped : joined_log (joined_log a b) c ≡ joined_log a (joined_log b c)
  unfolding joined_log
  grouped =
      let left = joined-sound (joined_log a b) c (joined-sound a b sa sb ab) sc kept-too in
      let right = joined-sound a (joined_log b c) sa (joined-sound b c sb sc bc) kept in
      let standards = merged-same a.period b.period a.standards b.standards c.standards (rising standard_key _ left.standards_rise) (rising standard_key _ right.standards_rise) in
      let states = followed (state_up a.period) (state_up b.period) (state_up (a.period + b.period))
      (λ r. λ i. record { «module» = r.«module»; code = r.code; time = add_assoc a.period b.period r.time i; spare = r.spare }) a.states b.states c.states in
      let units = followed (unit_up a.period) (unit_up b.period) (unit_up (a.period + b.period))
      (λ u. λ i. record { «module» = u.«module»; recipe = u.recipe; time = add_assoc a.period b.period u.time i; actual = u.actual; effective = u.effective; spare = u.spare }) a.units b.units c.units in
      λ i. record { period = add_assoc a.period b.period c.period i; modules = a.modules; states = states i; standards = standards i; units = units i }

-- ---- bytes

pub grouped-bytes : Grouped
unfolding joined_bytes
grouped-bytes s t u first second third early late =
    let x = read s first in
    let y = read t second in
    let z = read u third in
    let left = (joined-log s t x y early).says in
    let right = (joined-log t u y z late).says in
    ap (λ (l : Log). encode (joined_log l (decode u))) left
    ∙ ap encode (grouped (decode s) (decode t) (decode u) x.writable.sound y.writable.sound z.writable.sound (alike s t x y early) (alike t u y z late))
    ∙ ap (λ (l : Log). encode (joined_log (decode s) l)) (sym right)
