-- R-7: a step other than a return: the bottom frame's clock ticks, passes its sync or waits for it, and a child's clock begins.
use Rattle.std.specs.Prelude.{◌≡◌, refl, ◌≢◌, Bool, List, [], ◌∷◌, ℕ, suc, ◌+◌, ◌*◌, ◌<◌, max, length}
use Rattle.std.proofs.Common.{sym, ap, ap₂, ◌∙◌, subst, inl, inr, arith}
use mathlib.Core.List.Memᴰ.{eq_of_singleton as In-one}
use mathlib.Core.List.Memᴰ.{head as here}
use mathlib.Core.List.{Memᴰ as In}
use mathlib.Core.List.Permᴰ
use Rattle.words.specs.Lists.{In-perm}
use Rattle.model.specs.Machine.{Frame, Machine, live}
use Rattle.model.specs.Steps.{Action}
use Rattle.model.specs.Clocks.{Clock, Clocks, moved, clocks_moved}
use Rattle.model.specs.Clocks.{ticked as plainTicked, passed as plainPassed, waiting as plainWaiting}
use Rattle.model.proofs.Theory.Effects.{Acts}
use Rattle.model.proofs.Theory.PostOrder.{post_nodup}
use Rattle.model.proofs.Theory.SettleClocks.{clock_names}
use Rattle.model.proofs.Theory.ClockNames.{in_moved}
use Rattle.semantics.specs.Core.{Core}
use Rattle.semantics.specs.Timing.{own_clock, child_clock, ticked, passed, Timing, costing}
use Rattle.semantics.proofs.Theory.Relation.{Trees, Relates}
use Rattle.semantics.proofs.Theory.Places.{placed_inside, placed_apart}
use Rattle.semantics.proofs.Theory.ClockWords.{own_at, own_else, child_own, long_set}
use Rattle.semantics.proofs.Theory.Timed.{Held, Timed, clock_frame}
use Rattle.soundness.specs.Layout.{Layout}

-- the clocks after a step that costs 1, of cs
abbrev pub spent : Clocks → List Clock → Clocks
spent C cs = record { clocks = cs; work = 1 + C.work; span = C.span }

module _ (layout : Layout) where
  module _ {P : Trees} {M : Machine} {c : Core} (r : Relates layout P M c) (C : Clocks) (t : Timing) (H : Timed layout r C t) (w : ℕ) (a : Action) (x : Acts M w a) (busy : Bool) where
    abbrev q : Frame
    q = x.actor

    abbrev p : ℕ
    p = r.at q.name

    abbrev n : ℕ
    n = length c.frames

    abbrev ks : List ℕ
    ks = t.clocks

    abbrev cs' : List Clock
    cs' = clocks_moved q a busy C.clocks

    pub lives : In q (live M)
    lives = In-perm (Permᴰ.symm x.before) (here refl)

    pub inside : p < n
    inside = placed_inside layout r q lives

    -- another frame's place
    pub apart : (k : Clock) → In k C.clocks → k.name ≢ q.name → r.at k.name ≢ p
    apart k m d = let f = clock_frame layout r C t H k m in λ z. placed_apart layout r f.0 q f.1 lives (λ e. d (sym f.2 ∙ e)) (ap r.at f.2 ∙ z)

    -- the frame at y has these two words
    abbrev Words : List ℕ → ℕ → Clock → Type 0
    Words js y u = (own_clock js y ≡ u.clock) × (child_clock js y ≡ u.latest)

    pub own_words : (k : Clock) → In k C.clocks → k.name ≡ q.name → Words ks p k
    own_words k m e = let z = ap r.at (sym e) in (ap (own_clock ks) z ∙ H.held.own k m, ap (child_clock ks) z ∙ H.held.children k m)

    -- ---- q's clock alone is altered, by m

    module _ (m : Clock → Clock) (named : (k : Clock) → (m k).name ≡ k.name) (js : List ℕ) (long : length js ≡ 2 * n) (alone : (k : Clock) → moved q a busy k ≡ m k ∷ [])
        (mine : (k : Clock) → In k C.clocks → k.name ≡ q.name → Words js p (m k)) (others : (y : ℕ) → y ≢ p → (own_clock js y ≡ own_clock ks y) × (child_clock js y ≡ child_clock ks y)) where
      words : (u : Clock) → In u cs' → Words js (r.at u.name) u
      words u i = elim (in_moved q a busy C.clocks (post_nodup (clock_names C.clocks) H.ordered.post) u i) [
        | inl o ↦ (let z = others (r.at u.name) (apart u o.0 o.1) in (z.0 ∙ H.held.own u o.0, z.1 ∙ H.held.children u o.0))
        | inr o ↦ (let e : u ≡ m o.0 = In-one (subst (λ (l : List Clock). In u l) (alone o.0) o.3) in
            let place : r.at u.name ≡ p = ap r.at (ap (λ (k : Clock). k.name) e ∙ named o.0 ∙ o.2) in
            let z = mine o.0 o.1 o.2 in
            (ap (own_clock js) place ∙ z.0 ∙ ap (λ (k : Clock). k.clock) (sym e), ap (child_clock js) place ∙ z.1 ∙ ap (λ (k : Clock). k.latest) (sym e)))
      ]

      held_one : Held r.at n (spent C cs') (costing t js)
      held_one = record { own = λ u i. (words u i).0; children = λ u i. (words u i).1; long = long; work = omega (arith, H.held.work); span = H.held.span }

    -- a step that ticks
    pub held_ticked : ((k : Clock) → moved q a busy k ≡ plainTicked k ∷ []) → Held r.at n (spent C cs') (costing t (ticked ks p))
    held_ticked alone =
        let L = H.held.long in
        let v = suc (own_clock ks p) in
        held_one plainTicked (λ k. refl) (ticked ks p) (long_set ks n L (2 * p) v) alone
        (λ k i e. let z = own_words k i e in (own_at ks n L p v inside ∙ ap suc z.0, child_own ks n L p v p ∙ z.1))
        (λ y d. (own_else ks n L p v y d, child_own ks n L p v y))

    -- a sync that passes
    pub held_passed : ((k : Clock) → moved q a busy k ≡ plainPassed k ∷ []) → Held r.at n (spent C cs') (costing t (passed ks p))
    held_passed alone =
        let L = H.held.long in
        let v = suc (max (own_clock ks p) (child_clock ks p)) in
        held_one plainPassed (λ k. refl) (passed ks p) (long_set ks n L (2 * p) v) alone
        (λ k i e. let z = own_words k i e in (own_at ks n L p v inside ∙ ap₂ (λ (a b : ℕ). suc (max a b)) z.0 z.1, child_own ks n L p v p ∙ z.1))
        (λ y d. (own_else ks n L p v y d, child_own ks n L p v y))

    -- a sync that waits
    pub held_waiting : ((k : Clock) → moved q a busy k ≡ plainWaiting k ∷ []) → Held r.at n (spent C cs') (costing t ks)
    held_waiting alone = held_one plainWaiting (λ k. refl) ks H.held.long alone own_words (λ y d. (refl, refl))
