-- Records that each set a value for their subject from their time on, as state records set a module's code and standards the theoretical time of a module and a
-- recipe. Of such a list, in which the times of each subject rise: a record repeats the value held just before it where the records ahead of it give that value, so
-- that dropping it changes no value at any time.
-- Assumes nothing.
use mathlib.Core.Path.{◌≡◌, refl, sym, ap, ◌∙◌, subst}
use mathlib.Core.Bool.{Bool, true, false, cond}
use mathlib.Core.Logic.{◌⊎◌, inl, inr}
use mathlib.Core.Option.{Option, none, some}
use mathlib.Core.List.Memᴰ
use mathlib.Core.List.{List, [], ◌∷◌, ◌++◌, foldl, foldl-append, append_assoc, Memᴰ}
use Prim.Native.Nat.{ℕ, zero, suc, ◌≤◌, ◌<◌}
use native.Mathlib.Nat.{le_refl}
use native.Mathlib.Omega.{arith}
use borrow.Author.Tests.{eqb-true, eq-eqb}
use Rattle.rules.specs.Lists.{Each, Ordered, Before, Rises}
use Rattle.rules.proofs.Booleans.{false-true}
use Rattle.rules.proofs.Each.{each-so, each-right}
use Rattle.rules.proofs.Sound.{is-false}
use Rattle.packed.specs.Packed.{held_before, is_held, without}
use Rattle.packed.proofs.Without.{without-more, without-same}

-- ---- tests, and values held

pub same-truth : (a b : Bool) → (a ≡ true → b ≡ true) → (b ≡ true → a ≡ true) → a ≡ b
same-truth true b f g = sym (f refl)
same-truth false true f g = g refl
same-truth false false f g = refl

held-some : (o : Option ℕ) (v : ℕ) → is_held o v ≡ true → o ≡ some v
held-some none v e = absurd (false-true e)
held-some (some w) v e = ap some (eqb-true w v e)

pub some-held : (o : Option ℕ) (v : ℕ) → o ≡ some v → is_held o v ≡ true
some-held o v e = rw e (eq-eqb v v refl)

-- what is the same at each time below the period is the same just before each
pub same-before : (period n : ℕ) (f g : ℕ → Option ℕ) → n < period → ((t : ℕ) → t < period → f t ≡ g t) → held_before f n ≡ held_before g n
same-before period zero f g l h = refl
same-before period (suc n) f g l h = h n (omega arith)

-- ---- a list around one of its records

module _ {A : Type 0} (Below : A → A → Type 0) where
  ahead-each : (earlier : List A) (r : A) (later : List A) → Ordered Below (earlier ++ (r ∷ later)) → Each (λ p. Below p r) earlier
  ahead-each [] r later h = tt
  ahead-each (p ∷ ps) r later h = ((each-right (Below p) ps (r ∷ later) h.0).0, ahead-each ps r later h.1)

  behind-each : (earlier : List A) (r : A) (later : List A) → Ordered Below (earlier ++ (r ∷ later)) → Each (Below r) later
  behind-each [] r later h = h.0
  behind-each (p ∷ ps) r later h = behind-each ps r later h.1

  pub ordered-so : (Above : A → A → Type 0) → ((r q : A) → Below r q → Above r q) → (rs : List A) → Ordered Below rs → Ordered Above rs
  ordered-so Above h [] e = tt
  ordered-so Above h (r ∷ rs) e = (each-so (Below r) (Above r) (h r) rs e.0, ordered-so Above h rs e.1)

-- ---- records that set a value

-- a kind of record that sets a value: for which subject, from what time on, and which; `meets k t r` tests that r is about subject k and has begun by t, and of two
-- records of a subject the one with the key above is later
pub record Setting (A K : Type 0) : Type 0 where
  pub subject : A → K
  pub time : A → ℕ
  pub value : A → ℕ
  pub meets : K → ℕ → A → Bool
  pub met : (k : K) (t : ℕ) (r : A) → meets k t r ≡ true → (subject r ≡ k) × (time r ≤ t)
  pub meet : (k : K) (t : ℕ) (r : A) → subject r ≡ k → time r ≤ t → meets k t r ≡ true
  pub key : A → List ℕ
  pub above : (r q : A) → Before key r q → subject r ≡ subject q → time r < time q

module _ {A K : Type 0} (kind : Setting A K) where
  abbrev subject : A → K
  subject = kind.subject

  abbrev time : A → ℕ
  time = kind.time

  abbrev value : A → ℕ
  value = kind.value

  abbrev meets : K → ℕ → A → Bool
  meets = kind.meets

  -- after one more record
  abbrev pub put : K → ℕ → Option ℕ → A → Option ℕ
  put k t found r = cond (meets k t r) (some (value r)) found

  -- the value of subject k at time t
  abbrev pub value_at : List A → K → ℕ → Option ℕ
  value_at rs k t = foldl (put k t) none rs

  -- a record repeats the value that its subject has just before
  abbrev pub repeats : List A → A → Bool
  repeats rs r = is_held (held_before (value_at rs (subject r)) (time r)) (value r)

  -- where r and q have one subject, q is later
  abbrev pub Later : A → A → Type 0
  Later r q = subject r ≡ subject q → time r < time q

  -- the times of each subject rise
  abbrev pub Ascends : List A → Type 0
  Ascends rs = Ordered Later rs

  pub ascends : (rs : List A) → Rises (kind.key) rs → Ascends rs
  ascends rs e = ordered-so (Before (kind.key)) Later (kind.above) rs e

  -- ---- the value just before a record is its subject's current one, by the records ahead of it in the list

  -- a record that has not begun sets nothing
  idle : (k : K) (t : ℕ) (found : Option ℕ) (r : A) → (subject r ≡ k → t < time r) → put k t found r ≡ found
  idle k t found r h = rw (is-false (meets k t r) (λ e. let p = kind.met k t r e in omega (arith, h p.0, p.1)))

  unmoved : (r : A) (later : List A) (t : ℕ) (found : Option ℕ) → Each (Later r) later → t ≤ time r → foldl (put (subject r) t) found later ≡ found
  unmoved r [] t found h l = refl
  unmoved r (q ∷ later) t found h l = rw (idle (subject r) t found q (λ e. omega (arith, h.0 (sym e)))) (unmoved r later t found h.1 l)

  -- from just before r on, the records ahead of r give its subject one value
  steady : (r : A) (earlier : List A) (t u : ℕ) (found : Option ℕ) → Each (λ p. Later p r) earlier → time r ≤ suc t → time r ≤ suc u → foldl (put (subject r) t) found earlier ≡ foldl (put (subject r) u) found earlier
  steady r [] t u found h l m = refl
  steady r (p ∷ ps) t u found h l m =
      let e : meets (subject r) t p ≡ meets (subject r) u p
      = same-truth (meets (subject r) t p) (meets (subject r) u p)
      (λ e. let o = (kind.met (subject r) t p e).0 in kind.meet (subject r) u p o (omega (arith, h.0 o)))
      (λ e. let o = (kind.met (subject r) u p e).0 in kind.meet (subject r) t p o (omega (arith, h.0 o))) in
      rw e (steady r ps t u (put (subject r) u found p) h.1 l m)

  -- ahead of a record at time 0 there is none of its subject
  opening : (r : A) (earlier : List A) (t : ℕ) (found : Option ℕ) → Each (λ p. Later p r) earlier → time r ≡ 0 → foldl (put (subject r) t) found earlier ≡ found
  opening r [] t found h z = refl
  opening r (p ∷ ps) t found h z = rw (idle (subject r) t found p (λ e. absurd (omega (arith, h.0 e)))) (opening r ps t found h.1 z)

  value-append : (earlier rs : List A) (k : K) (t : ℕ) → value_at (earlier ++ rs) k t ≡ foldl (put k t) (value_at earlier k t) rs
  value-append earlier rs k t = foldl-append (put k t) none earlier rs

  held-current : (earlier : List A) (r : A) (later : List A) → Ascends (earlier ++ (r ∷ later)) → held_before (value_at (earlier ++ (r ∷ later)) (subject r)) (time r) ≡ value_at earlier (subject r) (time r)
  held-current earlier r later h = go (time r) refl
    where
      go : (n : ℕ) → time r ≡ n → held_before (value_at (earlier ++ (r ∷ later)) (subject r)) n ≡ value_at earlier (subject r) n
      go zero e = sym (opening r earlier 0 none (ahead-each Later earlier r later h) e)
      go (suc n) e =
          value-append earlier (r ∷ later) (subject r) n
          ∙ rw (idle (subject r) n (value_at earlier (subject r) n) r (λ q. omega arith))
          (unmoved r later n (value_at earlier (subject r) n) (behind-each Later earlier r later h) (omega arith)
          ∙ steady r earlier n (suc n) none (ahead-each Later earlier r later h) (omega arith) (omega arith))

  -- so one pass decides: whether a record repeats is told by the records ahead of it
  pub repeats-current : (earlier : List A) (r : A) (later : List A) → Ascends (earlier ++ (r ∷ later)) → repeats (earlier ++ (r ∷ later)) r ≡ is_held (value_at earlier (subject r) (time r)) (value r)
  repeats-current earlier r later h = ap (λ (o : Option ℕ). is_held o (value r)) (held-current earlier r later h)

  -- ---- nothing changes at any time

  -- a record that is dropped sets the value that its subject has
  dropped : (earlier : List A) (r : A) (later : List A) (k : K) (t : ℕ) → Ascends (earlier ++ (r ∷ later)) → is_held (value_at earlier (subject r) (time r)) (value r) ≡ true → put k t (value_at earlier k t) r ≡ value_at earlier k t
  dropped earlier r later k t h e = go (meets k t r) refl
    where
      go : (b : Bool) → meets k t r ≡ b → cond b (some (value r)) (value_at earlier k t) ≡ value_at earlier k t
      go true w =
          let p = kind.met k t r w in
          let s : value_at earlier (subject r) t ≡ value_at earlier (subject r) (time r) = steady r earlier t (time r) none (ahead-each Later earlier r later h) (omega (arith, p.1)) (omega arith) in
          rw (← p.0) (sym (held-some (value_at earlier (subject r) (time r)) (value r) e) ∙ sym s)
      go false w = refl

  kept-same : (whole earlier rs : List A) (k : K) (t : ℕ) → whole ≡ earlier ++ rs → Ascends whole → foldl (put k t) (value_at earlier k t) (without (repeats whole) rs) ≡ foldl (put k t) (value_at earlier k t) rs
  unfolding without
  kept-same whole earlier [] k t e h = refl
  kept-same whole earlier (r ∷ rs) k t e h =
      let more : value_at (earlier ++ (r ∷ [])) k t ≡ put k t (value_at earlier k t) r = value-append earlier (r ∷ []) k t in
      let rest = rw more at (kept-same whole (earlier ++ (r ∷ [])) rs k t (e ∙ sym (append_assoc earlier (r ∷ []) rs)) h) in
      let asc : Ascends (earlier ++ (r ∷ rs)) = rw e at h in
      step (repeats whole r) refl asc rest
    where
      step : (b : Bool) → repeats whole r ≡ b → Ascends (earlier ++ (r ∷ rs)) → foldl (put k t) (put k t (value_at earlier k t) r) (without (repeats whole) rs) ≡ foldl (put k t) (put k t (value_at earlier k t) r) rs
          → foldl (put k t) (value_at earlier k t) (cond b (without (repeats whole) rs) (r ∷ without (repeats whole) rs)) ≡ foldl (put k t) (put k t (value_at earlier k t) r) rs
      step true w asc rest =
          let current : is_held (value_at earlier (subject r) (time r)) (value r) ≡ true = sym (repeats-current earlier r rs asc) ∙ ap (λ (l : List A). repeats l r) (sym e) ∙ w in
          let d = dropped earlier r rs k t asc current in
          ap (λ (o : Option ℕ). foldl (put k t) o (without (repeats whole) rs)) (sym d) ∙ rest
      step false w asc rest = rest

  pub value-kept : (rs : List A) → Ascends rs → (k : K) (t : ℕ) → value_at (without (repeats rs) rs) k t ≡ value_at rs k t
  value-kept rs h k t = kept-same rs [] rs k t refl h

  -- ---- one more record

  -- whether one of the records ahead repeats does not depend on the one that is added
  repeats-ahead : (rs : List A) (r a : A) → Later a r → repeats (rs ++ (r ∷ [])) a ≡ repeats rs a
  repeats-ahead rs r a h = ap (λ (o : Option ℕ). is_held o (value a)) (go (time a) refl)
    where
      go : (n : ℕ) → time a ≡ n → held_before (value_at (rs ++ (r ∷ [])) (subject a)) n ≡ held_before (value_at rs (subject a)) n
      go zero e = refl
      go (suc n) e = value-append rs (r ∷ []) (subject a) n ∙ idle (subject a) n (value_at rs (subject a) n) r (λ q. omega (arith, h (sym q)))

  -- the next record is left unless it repeats its subject's current value
  pub left-more : (rs : List A) (r : A) → Ascends (rs ++ (r ∷ []))
      → without (repeats (rs ++ (r ∷ []))) (rs ++ (r ∷ [])) ≡ without (repeats rs) rs ++ cond (is_held (value_at rs (subject r) (time r)) (value r)) [] (r ∷ [])
  left-more rs r h =
      without-more (repeats (rs ++ (r ∷ []))) rs r
      ∙ rw (
        without-same (repeats (rs ++ (r ∷ []))) (repeats rs) rs (each-so (λ a. Later a r) (λ a. repeats (rs ++ (r ∷ [])) a ≡ repeats rs a) (repeats-ahead rs r) rs (ahead-each Later rs r [] h)),
        repeats-current rs r [] h,
      )

  -- ---- lists that give the same values

  -- each record gives its subject its value at its time
  pub own-value : (rs : List A) (found : Option ℕ) {a : A} → Ascends rs → Memᴰ a rs → foldl (put (subject a) (time a)) found rs ≡ some (value a)
  own-value [] found h m = absurd (Memᴰ.not-nil m)
  own-value (r ∷ rs) found {a} h m = go (Memᴰ.cases_cons m) (own-value rs (put (subject a) (time a) found r) h.1)
    where
      go : (a ≡ r) ⊎ Memᴰ a rs → (Memᴰ a rs → foldl (put (subject a) (time a)) (put (subject a) (time a) found r) rs ≡ some (value a)) → foldl (put (subject a) (time a)) found (r ∷ rs) ≡ some (value a)
      go (inl e) rest =
          subst (λ (x : A). foldl (put (subject x) (time x)) found (r ∷ rs) ≡ some (value x)) (sym e)
          (rw (kind.meet (subject r) (time r) r refl (le_refl (time r))) (unmoved r rs (time r) (some (value r)) h.0 (le_refl (time r))))
      go (inr n) rest = rest n

  -- two lists give the subject of r the same value at each time below the period
  abbrev pub SameFor : ℕ → List A → List A → A → Type 0
  SameFor period rs qs r = (t : ℕ) → t < period → value_at rs (subject r) t ≡ value_at qs (subject r) t

  pub repeats-alike : (period : ℕ) (rs qs : List A) (r : A) → time r < period → SameFor period rs qs r → repeats rs r ≡ repeats qs r
  repeats-alike period rs qs r l h = ap (λ (o : Option ℕ). is_held o (value r)) (same-before period (time r) (value_at rs (subject r)) (value_at qs (subject r)) l h)
