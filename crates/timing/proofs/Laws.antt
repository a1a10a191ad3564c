-- A law for each way out of a function, over plain variables.
use mathlib.Core.Path.{◌≡◌, refl, sym, ap, ◌∙◌}
use mathlib.Core.Logic.{◌≢◌}
use mathlib.Core.Bool.{Bool, true, false, cond, ◌&&◌}
use mathlib.Core.List.{List}
use Prim.Native.Nat.{ℕ, suc, ◌+◌, ◌-◌, ◌*◌, ◌^◌, ◌≤◌, ◌<◌, max}
use native.Mathlib.Numerals.{add-one}
use native.Mathlib.Omega.{arith}
use lib.ListN.{length, set, length-set}
use lib.Dec.{eqb, leb}
use borrow.Author.Tests.{eq-eqb, ne_eqb, le-leb, lt-leb}
use Rattle.words.specs.Basics.{none}
use Rattle.words.specs.Below.{below_set}
use Rattle.frames.specs.declared.Frame.{Frame}
use Rattle.frames.specs.Frames.{frame_at}
use Rattle.frames.specs.Deques.{bottom}
use Rattle.semantics.specs.declared.Rise.{Rise}
use Rattle.semantics.specs.Timing.{own_clock, latest, ticked, waits_for_one, rise, Timing, costing}
use Rattle.timing.specs.Turns.{RoomFor, timing, worker_at, first_at, ticks_over}

-- ---- room in the clock words

pub room_set : (n : ℕ) (ks : List ℕ) (k v : ℕ) → RoomFor n ks → v + n < 2 ^ 64 → RoomFor n (set ks k v)
room_set n ks k v h b i = omega (arith, below_set (2 ^ 64 - n) ks k v (λ j. omega (arith, h j)) (omega arith) i)

pub room_less : (n m : ℕ) (ks : List ℕ) → m ≤ n → RoomFor n ks → RoomFor m ks
room_less n m ks b h i = omega (arith, h i)

pub room_ticked : (n m : ℕ) (ks ks' : List ℕ) (p : ℕ) → m < n → RoomFor n ks → ks' ≡ ticked ks p → RoomFor m ks'
room_ticked n m ks ks' p b h e = rw e (room_set m ks (2 * p) (suc (own_clock ks p)) (room_less n m ks (omega arith) h) (omega (arith, h (2 * p))))

-- ---- where the ends of a return stop: q is the place of the parent of the frame at p, and f its record

module _ (fs : List Frame) (ks : List ℕ) (p t more : ℕ) (r : Rise) where
  pub rise-main : more ≤ 0 → r ≡ record { place = none; passes = false; clock = t } → r ≡ rise more fs ks p t
  unfolding rise
  rise-main h e = let z : more ≡ 0 = omega arith in e ∙ sym (ap (λ (d : ℕ). rise d fs ks p t) z)

module _ (fs : List Frame) (ks : List ℕ) (p t more q : ℕ) (f : Frame) (w : Bool) (h : 0 < more) (eq : q ≡ (frame_at fs p).parent) (ef : f ≡ frame_at fs q) (ew : w ≡ waits_for_one f) where
  -- w: does the parent wait for one child? e: does it end too?
  abbrev risen : Bool → Bool → Rise
  risen w e = cond (w && e) (rise (more - 1) fs ks q (max (latest ks q) t)) (record { place = q; passes = w; clock = t })

  rise-step : (u e : Bool) → w ≡ u → eqb f.returning 1 ≡ e → risen u e ≡ rise more fs ks p t
  unfolding rise
  rise-step u e eu ee =
      let left : more ≡ suc (more - 1) = omega arith in
      sym (ap (λ (d : ℕ). rise d fs ks p t) left ∙ rw (← eq, ← ef) (ap (λ (b : Bool). risen b (eqb f.returning 1)) (sym ew ∙ eu) ∙ ap (risen u) ee))

  pub rise_goes_on : (r : Rise) → w ≡ false → r ≡ record { place = q; passes = false; clock = t } → r ≡ rise more fs ks p t
  rise_goes_on r n er = er ∙ rise-step false (eqb f.returning 1) n refl

  pub rise_passes : (r : Rise) → w ≡ true → f.returning ≢ 1 → r ≡ record { place = q; passes = true; clock = t } → r ≡ rise more fs ks p t
  rise_passes r y n er = er ∙ rise-step true false y (ne_eqb f.returning 1 n)

  pub rise_ends : (l t' : ℕ) → w ≡ true → f.returning ≡ 1 → l ≡ latest ks q → t' ≡ max l t → rise (more - 1) fs ks q t' ≡ rise more fs ks p t
  rise_ends l t' y e el et =
      ap (rise (more - 1) fs ks q) (et ∙ ap (λ (k : ℕ). max k t) el) ∙ rise-step true true y (eq-eqb f.returning 1 e)

-- ---- records in turn: the i-th, and those from it up to `to`

module _ (ds tape answers : List ℕ) (i : ℕ) (t : Timing) where
  -- its step, if it is one
  abbrev told : Bool → Timing
  told b = cond b (costing t (ticked t.clocks (bottom ds (worker_at tape i)))) t

  ticks_step : (k : ℕ) (b : Bool) → leb 100 (first_at answers i) ≡ b → ticks_over ds tape answers i (suc k) t ≡ ticks_over ds tape answers (suc i) k (told b)
  unfolding ticks_over
  ticks_step k b e = ap (λ (c : Bool). ticks_over ds tape answers (suc i) k (told c)) e

  -- the code's numbers
  ticks_next : (to : ℕ) (b : Bool) → i < to → leb 100 (first_at answers i) ≡ b → ticks_over ds tape answers (i + 1) (to - (i + 1)) (told b) ≡ ticks_over ds tape answers i (to - i) t
  ticks_next to b h e =
      let left : to - i ≡ suc (to - (i + 1)) = omega arith in
      ap (λ (j : ℕ). ticks_over ds tape answers j (to - (i + 1)) (told b)) (add-one i) ∙ sym (ap (λ (k : ℕ). ticks_over ds tape answers i k t) left ∙ ticks_step (to - (i + 1)) b e)

-- after the records up to the i-th the clocks are ks and the work is `sum`: those that are left make of them what all make of ks₀ and `work`
pub record Turned (ds tape answers ks₀ : List ℕ) (from to work : ℕ) (ks : List ℕ) (sum i : ℕ) : Type 0 where
  pub low : from ≤ i
  pub high : i ≤ to
  pub same : length ks ≡ length ks₀
  pub room : RoomFor (to - i) ks
  pub fits : sum + (to - i) < 2 ^ 64
  pub left : (span : ℕ) → ticks_over ds tape answers i (to - i) (timing ks sum span) ≡ ticks_over ds tape answers from (to - from) (timing ks₀ work span)

module _ (ds tape answers ks₀ : List ℕ) (from to work : ℕ) where
  module _ (ks : List ℕ) (sum i : ℕ) (T : Turned ds tape answers ks₀ from to work ks sum i) where
    pub turn_ticks : (p : ℕ) (ks₁ ks' : List ℕ) (sum' : ℕ) → i < to → 100 ≤ first_at answers i → p ≡ bottom ds (worker_at tape i) → ks₁ ≡ ticked ks p → ks' ≡ ks₁ → sum' ≡ sum + 1
        → Turned ds tape answers ks₀ from to work ks' sum' (i + 1)
    turn_ticks p ks₁ ks' sum' b h ep e₁ e' es =
        let e : ks' ≡ ticked ks p = e' ∙ e₁ in
        let t : timing ks' sum' ≡ timing (ticked ks (bottom ds (worker_at tape i))) (suc sum) = rw (e, ep, es, add-one sum) in
        record {
          low = omega (arith, T.low);
          high = omega arith;
          same = ap (λ (l : List ℕ). length l) e ∙ length-set ks (2 * p) (suc (own_clock ks p)) ∙ T.same;
          room = room_ticked (to - i) (to - (i + 1)) ks ks' p (omega arith) T.room e;
          fits = omega (arith, T.fits);
          left = λ span.
              ap (λ (f : ℕ → Timing). ticks_over ds tape answers (i + 1) (to - (i + 1)) (f span)) t
              ∙ ticks_next ds tape answers i (timing ks sum span) to true b (le-leb 100 (first_at answers i) h)
              ∙ T.left span;
        }

    pub turn_skips : (ks' : List ℕ) (sum' : ℕ) → i < to → first_at answers i < 100 → ks' ≡ ks → sum' ≡ sum → Turned ds tape answers ks₀ from to work ks' sum' (i + 1)
    turn_skips ks' sum' b h e es =
        rw (e, es)
        (record {
          low = omega (arith, T.low);
          high = omega arith;
          same = T.same;
          room = room_less (to - i) (to - (i + 1)) ks (omega arith) T.room;
          fits = omega (arith, T.fits);
          left = λ span. ticks_next ds tape answers i (timing ks sum span) to false b (lt-leb 100 (first_at answers i) h) ∙ T.left span;
        })

    pub turn_ends : to ≤ i → (span : ℕ) → timing ks sum span ≡ ticks_over ds tape answers from (to - from) (timing ks₀ work span)
    unfolding ticks_over
    turn_ends h span =
        let e : to - i ≡ 0 = omega arith in
        sym (ap (λ (k : ℕ). ticks_over ds tape answers i k (timing ks sum span)) e) ∙ T.left span
