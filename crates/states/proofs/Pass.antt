-- The pass keeps what `Held` says: a record that passes its tests ends its module's open stretch, whose length its counters grow by, and begins the next. At the end each
-- module's last stretch ends with the period, so that its counters are its state times.
-- Assumes nothing.
use mathlib.Core.Path.{◌≡◌, refl, sym, ◌∙◌}
use mathlib.Core.Bool.{Bool, true, false, not}
use mathlib.Core.Option.{none, some, IsSome}
use mathlib.Core.List.{List, [], ◌∷◌, ◌++◌}
use Prim.Native.Nat.{ℕ, ◌+◌, ◌-◌, ◌*◌, ◌/◌, ◌%◌, ◌^◌, ◌≤◌, ◌<◌}
use native.Mathlib.Omega.{arith}
use native.Mathlib.Decide.{ℕ_discrete}
use lib.Dec.{eqb, lit<}
use lib.ListN.{get_or, set, length, length-set, replicate, length-replicate, get_or-replicate}
use lib.Seq.{get_or-set_same, get_or-set_other}
use borrow.Author.Tests.{not-false}
use Rattle.records.specs.declared.StateRecord.{StateRecord}
use Rattle.records.specs.Log.{state_at, up_to}
use Rattle.std.specs.declared.result.Result.TheVariants.{Ok, Err}
use Rattle.rules.specs.declared.Ground.TheVariants.{NoOpening}
use Rattle.rules.specs.declared.LogList.TheVariants.{NoList}
use Rattle.rules.specs.declared.Refusal.{Refusal}
use Rattle.rules.specs.Grounds.{Verdict, ground, first_of, each_of}
use Rattle.rules.specs.Time.{state_of, code_at, is_state, count, state_time}
use Rattle.records.proofs.Widths.{state-fits}
use Rattle.rules.specs.Sequence.{state_key}
use Rattle.rules.specs.Keys.{state_number, StateFits, StatesSequenced}
use Rattle.rules.proofs.Keys.{sequenced_none}
use Rattle.rules.specs.RecordGrounds.{own_time, first_time, is_opening, state_ground, opening_ground, state_grounds}
use Rattle.rules.proofs.FirstGround.{refused-not, not-met, first_none, first_more, first_stop}
use Rattle.states.specs.Tally.{Tallied}
use Rattle.states.specs.Held.{uptime_in, Ending, stretch_ended, Unseen, Open, Stretch, fresh, running, Sums, Module, Modules, Held}
use Rattle.states.proofs.OneMore.{code_from, time_before, own_time_lem, first_new, first_stays, code_other, time_other, own_other, first_other}
use Rattle.states.proofs.Sound.{next_of, Sound}
use Rattle.states.proofs.Table.{state-low}
use Rattle.states.proofs.Sums.{Runs, room, grows, sums-as, sums_own, sums_other, total_length, uptime-sum}

-- a record's module and time by their widths
pub module_fits : (s : List ℕ) (i : ℕ) → (state_at s i).«module» < 64
module_fits s i = (state-fits s (80 + 48 * i)).0

pub time_fits : (s : List ℕ) (i : ℕ) → (state_at s i).time < 2 ^ 35
time_fits s i = (state-fits s (80 + 48 * i)).1.1.0

pub state_fits : (s : List ℕ) (i : ℕ) → StateFits (state_at s i)
state_fits s i = (module_fits s i, time_fits s i)

-- ---- a module's word

module _ (n s : ℕ) (low : s < 6) where
  pub word_next : (n * 8 + s) / 8 ≡ n
  word_next = omega arith

  pub word_state : (n * 8 + s) % 8 ≡ s
  word_state = omega arith

-- ---- what is known of a module

module _ {rs : List StateRecord} {m n s : ℕ} {o : Bool} where
  -- the least time that its next record may have
  next-own : Stretch rs m n s o → n ≡ next_of (own_time m rs)
  next-own (fresh k) = rw k.own k.next
  next-own (running k) = rw k.own (omega (arith, k.next))

  opening_of : Stretch rs m n s o → o ≡ is_opening (first_time m rs)
  opening_of (fresh k) = rw k.first k.opening
  opening_of (running k) = k.opening

  -- it has no record where the least time is 0, and one where it is not or where it is opened
  is-unseen : Stretch rs m n s o → n ≡ 0 → Unseen rs m n s o
  is-unseen (fresh k) z = k
  is-unseen (running k) z = absurd (omega (arith, k.next))

  is_open : Stretch rs m n s o → (n ≡ 0 → s ≡ 0 → ⊥) → Open rs m n s o
  is_open (fresh k) pos = absurd (pos k.next k.state)
  is_open (running k) pos = k

  is-opened : Stretch rs m n s o → o ≡ true → Open rs m n s o
  is-opened (fresh k) e = let z : ◌≡◌ {A = ℕ} 0 1 = cc (e, k.opening) in absurd (omega arith)
  is-opened (running k) e = k

-- ---- a record more

module _ (rs : List StateRecord) (r : StateRecord) where
  module-other : {period x n s : ℕ} {o : Bool} → (r.«module» ≡ x → ⊥) → Module rs period x n s o → Module (rs ++ (r ∷ [])) period x n s o
  module-other {x = x} {n} {s} {o} ne M = record { early = M.early; low = M.low; stretch = go M.stretch }
    where
      go : Stretch rs x n s o → Stretch (rs ++ (r ∷ [])) x n s o
      go (fresh k) = fresh (record {
        next = k.next;
        state = k.state;
        opening = k.opening;
        own = own_other rs r x ne ∙ k.own;
        first = first_other rs r x ne ∙ k.first;
        code = λ t. code_other rs r x ne t ∙ k.code t;
      })
      go (running k) = running (record {
        next = k.next;
        opening = rw (first_other rs r x ne) k.opening;
        own = own_other rs r x ne ∙ k.own;
        first = rw (first_other rs r x ne) k.first;
        latest = k.latest;
        state = k.state;
        code = λ t h. code_other rs r x ne t ∙ k.code t h;
      })

  module _ {period modules : ℕ} (ok : Sound period modules rs r) where
    module-own : (o : Bool) → o ≡ is_opening (first_time r.«module» (rs ++ (r ∷ []))) → IsSome (first_time r.«module» (rs ++ (r ∷ [])))
        → Module (rs ++ (r ∷ [])) period r.«module» (r.time + 1) (state_of r.code) o
    module-own o e f =
        let d : r.time + 1 - 1 ≡ r.time = omega arith in
        record {
          early = omega (arith, ok.inside);
          low = state-low r.code ok.low;
          stretch = running (record {
            next = omega arith;
            opening = e;
            own = rw d (own_time_lem rs r);
            first = f;
            latest = r.code;
            state = refl;
            code = λ t h. code_from rs r t (omega arith);
          });
        }

    module _ {T P : List ℕ} {O : List Bool} (H : Held rs period T P O) (h : r.«module» < 64) where
      -- the word of the record's module after it
      abbrev word : ℕ
      word = (r.time + 1) * 8 + state_of r.code

      word_of : (get_or (set P r.«module» word) r.«module» 0 / 8 ≡ r.time + 1) × (get_or (set P r.«module» word) r.«module» 0 % 8 ≡ state_of r.code)
      word_of =
          let low = state-low r.code ok.low in
          let a : r.«module» < length P = omega (arith, H.modules.words) in
          rw (get_or-set_same P r.«module» word 0 a) (word_next (r.time + 1) (state_of r.code) low, word_state (r.time + 1) (state_of r.code) low)

      -- what is held after the record, by what is known of its own module's totals and of the others'
      held_more : (T⁺ : List ℕ) (O⁺ : List Bool) → length T⁺ ≡ 384 → length O⁺ ≡ 64
          → Module (rs ++ (r ∷ [])) period r.«module» (r.time + 1) (state_of r.code) (get_or O⁺ r.«module» false)
          → Sums (rs ++ (r ∷ [])) T⁺ r.«module» r.time
          → ((x : ℕ) → (r.«module» ≡ x → ⊥) → get_or O⁺ x false ≡ get_or O x false)
          → ((x v : ℕ) → (r.«module» ≡ x → ⊥) → Sums rs T x v → Sums rs T⁺ x v)
          → Held (rs ++ (r ∷ [])) period T⁺ (set P r.«module» word) O⁺
      held_more T⁺ O⁺ long many own sums others-opened others = record {
        totals = long;
        modules = record {
          words = length-set P _ _ ∙ H.modules.words;
          opened = many;
          each = λ x l. pick x l (ℕ_discrete r.«module» x);
        };
        sums = λ x l. run x l (ℕ_discrete r.«module» x);
      }
        where
          pick : (x : ℕ) → x < 64 → Dec (r.«module» ≡ x)
              → Module (rs ++ (r ∷ [])) period x (get_or (set P r.«module» word) x 0 / 8) (get_or (set P r.«module» word) x 0 % 8) (get_or O⁺ x false)
          pick x l (yes e) = rw (← e, word_of.0, word_of.1) own
          pick x l (no ne) =
              rw (get_or-set_other P r.«module» x word 0 (λ q. ne (sym q)), others-opened x ne)
              (module-other ne (H.modules.each x l))

          run : (x : ℕ) → x < 64 → Dec (r.«module» ≡ x) → Sums (rs ++ (r ∷ [])) T⁺ x (get_or (set P r.«module» word) x 0 / 8 - 1)
          run x l (yes e) =
              let d : r.time + 1 - 1 ≡ r.time = omega arith in
              rw (← e, word_of.0, d) sums
          run x l (no ne) =
              rw (get_or-set_other P r.«module» x word 0 (λ q. ne (sym q)))
              (sums-as (time_other rs r x ne _) (others x _ ne (H.sums x l)))

      -- a module's first record: no time of any state has passed
      pub held_first : get_or P r.«module» 0 ≡ 0 → Held (rs ++ (r ∷ [])) period T (set P r.«module» word) (set O r.«module» (eqb r.time 0))
      unfolding is_state
      held_first z =
          let k = is-unseen (H.modules.each r.«module» h).stretch (omega (arith, z)) in
          let a : r.«module» < length O = omega (arith, H.modules.opened) in
          let u : get_or P r.«module» 0 / 8 - 1 ≡ 0 = omega (arith, z) in
          let first = first_new rs r k.first in
          let idle : Runs rs r.«module» none 0 r.time = record { from = omega arith; same = λ x l b. k.code x } in
          held_more T _ H.totals (length-set O _ _ ∙ H.modules.opened)
          (module-own _ (rw (get_or-set_same O r.«module» (eqb r.time 0) false a, first)) (rw first tt))
          (sums-as (λ k. time_before rs r r.«module» k ∙ grows idle k ∙ omega arith) (rw u at (H.sums r.«module» h)))
          (λ x ne. get_or-set_other O r.«module» x _ false (λ q. ne (sym q)))
          (λ x v ne s. s)

      -- a later record: its module's open stretch ends
      module _ (pos : get_or P r.«module» 0 ≡ 0 → ⊥) where
        open-own : Open rs r.«module» (get_or P r.«module» 0 / 8) (get_or P r.«module» 0 % 8) (get_or O r.«module» false)
        open-own = is_open (H.modules.each r.«module» h).stretch (λ a b. pos (omega (arith, a, b)))

        pub since : get_or P r.«module» 0 / 8 - 1 ≤ r.time
        since = omega (arith, ok.later, next-own (H.modules.each r.«module» h).stretch)

        pub ending_next : r.time < 2 ^ 35 → Ending T P r.«module» r.time
        ending_next l =
            let low = (H.modules.each r.«module» h).low in
            record {
              running = open-own.next;
              state = low;
              begun = since;
              room = room (H.sums r.«module» h) _ low _ (omega (arith, since, l));
            }

        pub held_next : Held (rs ++ (r ∷ [])) period (stretch_ended T P r.«module» r.time) (set P r.«module» word) O
        held_next =
            let low = (H.modules.each r.«module» h).low in
            let k = open-own in
            let stays = first_stays rs r r.«module» k.first in
            let runs : Runs rs r.«module» (some k.latest) (get_or P r.«module» 0 / 8 - 1) r.time = record { from = since; same = λ x l b. k.code x l } in
            held_more _ O
            (total_length T H.totals _ _ _ h low)
            H.modules.opened
            (module-own _ (rw stays k.opening) (rw stays k.first))
            (sums-as (time_before rs r r.«module») (sums_own T H.totals _ _ _ h low k.state refl runs (H.sums r.«module» h)))
            (λ x ne. refl)
            (λ x v ne s. sums_other T H.totals _ _ _ h low ne s)

-- ---- before the first record

pub states_none : (at : ℕ → StateRecord) → StatesSequenced (up_to at 0) 0
unfolding up_to
states_none at = sequenced_none state_key state_number StateFits (λ r. omega arith)

pub held_none : (at : ℕ → StateRecord) (period : ℕ) → Held (up_to at 0) period (replicate 384 0) (replicate 64 0) (replicate 64 false)
unfolding up_to own_time first_time code_at state_time count
held_none at period = record {
  totals = length-replicate {A = ℕ} 384 0;
  modules = record {
    words = length-replicate {A = ℕ} 64 0;
    opened = length-replicate 64 false;
    each = λ m h. rw (get_or-replicate {A = ℕ} 64 m 0 0 h, get_or-replicate 64 m false false h) (record {
      early = omega arith;
      low = lit< tt;
      stretch = fresh (record { next = refl; state = refl; opening = refl; own = refl; first = refl; code = λ t. refl });
    });
  };
  sums = λ m h. rw (get_or-replicate {A = ℕ} 64 m 0 0 h) (record { totals = λ k l. get_or-replicate {A = ℕ} 384 (6 * m + k) 0 0 (omega arith) });
}

-- ---- the first ground met is the answer, and nothing more is owed

pub refused_as : {rs : List StateRecord} {period modules : ℕ} {v : Verdict} {x : Refusal} {T U : List ℕ} → state_grounds period modules rs ≡ Err x → v ≡ Err x → Tallied rs period modules v T U
refused_as q e = record {
  answer = e ∙ sym q;
  totals = λ a. absurd (refused-not (sym e ∙ a));
  uptime = λ a. absurd (refused-not (sym e ∙ a));
}

-- where it is a record's
pub stopped : (rs : List StateRecord) (period modules : ℕ) {x : Refusal} → each_of (state_ground period modules) rs ≡ Err x → state_grounds period modules rs ≡ Err x
unfolding state_grounds
stopped rs period modules e = rw e refl

-- ---- the modules, at the end of the period

-- the modules below d are opened, their last stretches are closed, and their uptimes are summed
pub record Finishing (rs : List StateRecord) (period modules d : ℕ) (T U P : List ℕ) (O : List Bool) : Type 0 where
  pub records : each_of (state_ground period modules) rs ≡ Ok tt
  pub openings : first_of (opening_ground rs) d ≡ Ok tt
  pub totals : length T ≡ 384
  pub uptime : length U ≡ 64
  pub modules_held : Modules rs period P O
  pub done : (m : ℕ) → m < d → (Sums rs T m period) × (get_or U m 0 ≡ state_time rs period m 0 + state_time rs period m 1 + state_time rs period m 2)
  pub rest : (m : ℕ) → d ≤ m → m < 64 → Sums rs T m (get_or P m 0 / 8 - 1)

module _ {rs : List StateRecord} {period modules : ℕ} {T U P : List ℕ} {O : List Bool} where
  pub finish_start : each_of (state_ground period modules) rs ≡ Ok tt → length U ≡ 64 → Held rs period T P O → Finishing rs period modules 0 T U P O
  finish_start a wide H = record {
    records = a;
    openings = first_none (opening_ground rs);
    totals = H.totals;
    uptime = wide;
    modules_held = H.modules;
    done = λ m h. absurd (omega arith);
    rest = λ m l h. H.sums m h;
  }

  module _ {d : ℕ} (F : Finishing rs period modules d T U P O) (h : d < 64) where
    opening-is : get_or O d false ≡ is_opening (first_time d rs)
    opening-is = opening_of (F.modules_held.each d h).stretch

    -- the lowest module that is not opened
    pub finish_stop : {x : Refusal} → d < modules → ground NoOpening NoList d (not (get_or O d false)) ≡ Err x → state_grounds period modules rs ≡ Err x
    unfolding state_grounds opening_ground
    finish_stop {x} l e = rw F.records (first_stop (opening_ground rs) modules d x l F.openings (rw (← opening-is) e))

    module _ (e : ground NoOpening NoList d (not (get_or O d false)) ≡ Ok tt) where
      stretch-of : Open rs d (get_or P d 0 / 8) (get_or P d 0 % 8) (get_or O d false)
      stretch-of = is-opened (F.modules_held.each d h).stretch (not-false _ (not-met NoOpening NoList d _ e))

      pub ending_last : period < 2 ^ 64 → Ending T P d period
      ending_last l =
          let M = F.modules_held.each d h in
          record {
            running = stretch-of.next;
            state = M.low;
            begun = omega (arith, M.early);
            room = room (F.rest d (omega arith) h) _ M.low _ (omega (arith, M.early, l));
          }

      abbrev closed : List ℕ
      closed = stretch_ended T P d period

      pub closed_sums : Sums rs closed d period
      closed_sums =
          sums_own T F.totals _ _ _ h (F.modules_held.each d h).low stretch-of.state refl
          (record { from = omega (arith, (F.modules_held.each d h).early); same = λ x l b. stretch-of.code x l })
          (F.rest d (omega arith) h)

      pub finish_more : Finishing rs period modules (d + 1) closed (set U d (uptime_in closed d)) P O
      unfolding opening_ground
      finish_more =
          let low = (F.modules_held.each d h).low in
          record {
            records = F.records;
            openings = first_more (opening_ground rs) d F.openings (rw (← opening-is) e);
            totals = total_length T F.totals _ _ _ h low;
            uptime = length-set U _ _ ∙ F.uptime;
            modules_held = F.modules_held;
            done = λ m l. pick m l low (ℕ_discrete d m);
            rest = λ m l b. sums_other T F.totals _ _ _ h low (λ z. absurd (omega arith)) (F.rest m (omega arith) b);
          }
        where
          pick : (m : ℕ) → m < d + 1 → get_or P d 0 % 8 < 6 → Dec (d ≡ m)
              → (Sums rs closed m period) × (get_or (set U d (uptime_in closed d)) m 0 ≡ state_time rs period m 0 + state_time rs period m 1 + state_time rs period m 2)
          pick m l low (yes q) =
              let a : d < length U = omega (arith, F.uptime) in
              rw (← q) (closed_sums, get_or-set_same U d _ 0 a ∙ uptime-sum closed_sums)
          pick m l low (no ne) =
              let old = F.done m (omega (arith, ne)) in
              (sums_other T F.totals _ _ _ h low ne old.0, get_or-set_other U d m _ 0 (λ z. ne (sym z)) ∙ old.1)

  pub finish_all : {V : List ℕ} → Finishing rs period modules modules T U P O → V ≡ T → Tallied rs period modules (Ok tt) V U
  unfolding state_grounds
  finish_all F e = record {
    answer = rw (F.records, F.openings);
    totals = λ _ m k h l. rw e ((F.done m h).0.totals k l);
    uptime = λ _ m h. (F.done m h).1;
  }
