-- R-7: from the end of a frame on a worker with an empty deque the ends go on upward. What the words' rise finds in the table before the return is what the
-- plain machine finds end by end.
use Rattle.std.specs.Prelude.{◌≡◌, refl, ◌≢◌, true, false, cond, ◌&&◌, length, eqb}
use Rattle.std.proofs.Common.{sym, ap, ap₂, ◌∙◌, inl, inr, arith, ne_eqb}
use Rattle.std.proofs.Math.Path.{subst}
use mathlib.Core.List.Memᴰ.{append_cases as In-cases}
use mathlib.Core.List.Memᴰ.{append_left as In-left}
use mathlib.Core.List.Memᴰ.{append_right as In-right}
use mathlib.Core.List.Memᴰ.{cases_cons as In-cons}
use mathlib.Core.List.Memᴰ.{head as here}
use mathlib.Core.List.Memᴰ.{map as In-map}
use mathlib.Core.List.Memᴰ.{not-nil as not-in-nil}
use mathlib.Core.List.{Memᴰ as In}
use mathlib.Core.List.{List, [], ◌∷◌, ◌++◌, map, tail-eq_of_cons-eq}
use Prim.Native.Nat.{ℕ, suc, ◌*◌, ◌<◌, max}
use Rattle.words.specs.Basics.{none, joined}
use Rattle.words.specs.Tests.{decided, true≢false}
use Rattle.frames.specs.declared.Frame.{Frame as FrameRecord}
use Rattle.frames.specs.Frames.{frame_at}
use Rattle.model.specs.Machine.{Name, Frame, Machine, live, is_empty, is_child, has_frame}
use Rattle.model.specs.Clocks.{Clock, Clocks, best, woken, settle}
use Rattle.model.specs.Clocks.{passed as plainPassed}
use Rattle.model.proofs.Theory.MainEnds.{In-hasFrame}
use Rattle.model.proofs.Theory.FrameTree.{main-lives}
use Rattle.model.proofs.Theory.Siblings.{child_of_lem, of_child}
use Rattle.model.proofs.Theory.SettleClocks.{settle-none, woken-none}
use Rattle.semantics.specs.Core.{Core}
use Rattle.semantics.specs.Timing.{own_clock, child_clock, latest, passed, heard, waits_for_one, rise, Timing, ended}
use Rattle.semantics.proofs.Theory.Relation.{Trees, Relates, child_count, parent_place}
use Rattle.semantics.proofs.Theory.Places.{recorded, placed_inside, placed_apart}
use Rattle.semantics.proofs.Theory.ClockWords.{own_at, own_else, child_own, child_at_lem, child_else, own_child, long_set}
use Rattle.semantics.proofs.Theory.Timed.{Held}
use Rattle.semantics.proofs.Theory.ClocksLeft.{ClockOf, clock_there, before_there, after_there}
use Rattle.semantics.proofs.Theory.Rising.{Rising}
use Rattle.soundness.specs.Layout.{Layout}

-- the clocks of cs after the ends and the resumption that led to M'; the span so far is s
abbrev pub after : ℕ → Machine → List Clock → ℕ → Clocks
after work M' cs s = let x = settle (live M') [] cs in record { clocks = map (woken M'.suspended) x.0; work = work; span = max s (best is_empty x.1) }

-- the span once a frame of this name has ended at the time e, 0 before
abbrev pub span_at : Name → ℕ → ℕ
span_at n e = cond (is_empty n) e 0

module _ (layout : Layout) where
  -- the words before the return are those of the core c₀
  module _ {P : Trees} {M₀ : Machine} {c₀ : Core} (r₀ : Relates layout P M₀ c₀) (t : Timing) (work : ℕ) (same_work : t.work ≡ work) (quiet : t.span ≡ 0) (long : length t.clocks ≡ 2 * length c₀.frames) where
    abbrev fs : List FrameRecord
    fs = c₀.frames

    abbrev at : Name → ℕ
    at = r₀.at

    abbrev ks : List ℕ
    ks = t.clocks

    -- the ends from that of n, at the time e, lead to M'
    abbrev pub Risen : Name → ℕ → Machine → List Clock → ℕ → Type 0
    Risen n e M' cs s = Held at (length fs) (after work M' cs s) (ended t (rise (length n) fs ks (at n) e))

    -- ---- the frames that are left

    module _ (n : Name) (e : ℕ) (M : Machine) (cs : List Clock) (E : Rising M₀ at ks n e M cs) where
      pub lived_before : (f : Frame) → In f (live M) → In f (live M₀)
      lived_before f m = elim (In-cases M.suspended m) [ inl i ↦ In-left (joined M₀.deques) (E.waiting f i) | inr i ↦ In-right M₀.suspended (E.running f i) ]

      pub frame_of_lem : (u : Clock) → In u cs → (f : Frame) × In f (live M) × (f.name ≡ u.name)
      frame_of_lem u m = E.ordered.names.alive u.name (In-map (λ (k : Clock). k.name) m)

      -- no more frames end, and no sync passes
      still : (s : ℕ) → after work M cs s ≡ record { clocks = cs; work = work; span = s }
      still s =
          ap (λ x. record { clocks = map (woken M.suspended) x.0; work = work; span = max s (best is_empty x.1) })
          (settle-none (λ m. has_frame m (live M)) cs (λ u m. let f = frame_of_lem u m in In-hasFrame u.name (live M) f.0 f.1 f.2))
          ∙ ap₂ (λ (l : List Clock) (k : ℕ). record { clocks = l; work = work; span = k })
          (woken-none M.suspended cs (λ u m w. let f = E.at_sync.suspended u m w in In-hasFrame u.name M.suspended f.0 f.1 f.2))
          (let z : max s 0 ≡ s = omega arith in z)

    -- ---- Main has ended

    none_left : (e : ℕ) (M : Machine) (cs : List Clock) → Rising M₀ at ks [] e M cs → cs ≡ []
    none_left e M [] E = refl
    none_left e M (u ∷ cs) E =
        let f = frame_of_lem [] e M (u ∷ cs) E u (here refl) in
        let m = main-lives (live M) E.tree.rooted u.name f.0 f.1 f.2 in
        absurd (true≢false (sym (In-hasFrame [] (live M) m.0 m.1 m.2) ∙ E.above))

    pub main-ended : (e : ℕ) (M : Machine) (cs : List Clock) (s : ℕ) → Rising M₀ at ks [] e M cs → s ≡ e → Risen [] e M cs s
    unfolding rise
    main-ended e M cs s E z =
        subst (λ (l : List Clock). Held at (length fs) (after work M l s) (ended t (record { place = none; passes = false; clock = e }))) (sym (none_left e M cs E))
        (record { own = λ u m. absurd (not-in-nil m); children = λ u m. absurd (not-in-nil m); long = long; work = same_work; span = (let y : e ≡ max s 0 = omega (arith, z) in y) })

    -- ---- another frame has ended: its parent g

    module _ (j : ℕ) (p : Name) (e : ℕ) (M : Machine) (cs : List Clock) (E : Rising M₀ at ks (j ∷ p) e M cs) (g : Frame) (lives : In g (live M)) (named : g.name ≡ p) where
      abbrev q : ℕ
      q = at p

      abbrev F : FrameRecord
      F = frame_at fs q

      pub g_lived : In g (live M₀)
      g_lived = lived_before (j ∷ p) e M cs E g lives

      inside : q < length fs
      inside = subst (λ (m : Name). at m < length fs) named (placed_inside layout r₀ g g_lived)

      not_none : eqb q none ≡ false
      not_none = ne_eqb q none (λ z. omega (arith, z, inside, r₀.formed.few))

      parent_at : (frame_at fs (at (j ∷ p))).parent ≡ q
      parent_at = let f = E.lived in subst (λ (m : Name). (frame_at fs (at m)).parent ≡ parent_place at m) f.2 (recorded layout r₀ f.0 f.1).1.parent

      -- its outstanding count before the return
      pub outstanding_is : F.outstanding ≡ suc (child_count p (live M))
      outstanding_is = subst (λ (m : Name). (frame_at fs (at m)).outstanding ≡ child_count m (live M₀)) named (recorded layout r₀ g g_lived).1.outstanding ∙ E.one_less p (child_of_lem j p)

      rise_stops : waits_for_one F && eqb F.returning 1 ≡ false → rise (suc (length p)) fs ks (at (j ∷ p)) e ≡ record { place = q; passes = waits_for_one F; clock = e }
      unfolding rise
      rise_stops z = rw (parent_at, z)

      pub rise_ends : waits_for_one F && eqb F.returning 1 ≡ true → rise (suc (length p)) fs ks (at (j ∷ p)) e ≡ rise (length p) fs ks q (max (latest ks q) e)
      unfolding rise
      rise_ends z = rw (parent_at, z)

      -- ---- the words once it has heard of the end

      abbrev js : List ℕ
      js = heard ks q e

      -- the clock of another frame is elsewhere
      apart : (u : Clock) → In u cs → u.name ≢ p → at u.name ≢ q
      apart u m d z =
          let f = frame_of_lem (j ∷ p) e M cs E u m in
          placed_apart layout r₀ f.0 g (lived_before (j ∷ p) e M cs E f.0 f.1) g_lived (λ y. d (sym f.2 ∙ y ∙ named)) (ap at f.2 ∙ z ∙ ap at (sym named))

      own_heard : (u : Clock) → In u cs → own_clock js (at u.name) ≡ u.clock
      own_heard u m = own_child ks (length fs) long q (max (child_clock ks q) e) (at u.name) ∙ E.own u m

      child-heard : (u : Clock) → In u cs → child_clock js (at u.name) ≡ u.latest
      child-heard u m = elim (decided (is_child u.name (j ∷ p))) [
        | inl y ↦ (let place : at u.name ≡ q = ap at (sym (tail-eq_of_cons-eq (of_child u.name (j ∷ p) y).1)) in
            ap (child_clock js) place ∙ child_at_lem ks (length fs) long q (max (child_clock ks q) e) inside ∙ ap (λ (x : ℕ). max (child_clock ks x) e) (sym place) ∙ E.parent u m y)
        | inr y ↦ child_else ks (length fs) long q (max (child_clock ks q) e) (at u.name) (apart u m (λ z. true≢false (sym (child_of_lem j p) ∙ ap (λ (x : Name). is_child x (j ∷ p)) (sym z) ∙ y))) ∙ E.children u m y
      ]

      long_heard : length js ≡ 2 * length fs
      long_heard = long_set ks (length fs) long (suc (2 * q)) (max (child_clock ks q) e)

      -- ---- the parent does not wait for this child alone

      pub stays : waits_for_one F ≡ false → (s : ℕ) → s ≡ 0 → Risen (j ∷ p) e M cs s
      stays z s y =
          subst (λ (C : Clocks). Held at (length fs) C (ended t (rise (suc (length p)) fs ks (at (j ∷ p)) e))) (sym (still (j ∷ p) e M cs E s))
          (rw (rise_stops (rw z), z, not_none) (record { own = own_heard; children = child-heard; long = long_heard; work = same_work; span = quiet ∙ sym y }))

      -- ---- it waits at its sync for this child alone

      module _ (K : ClockOf cs p) where
        abbrev k : Clock
        k = K.clock

        abbrev pub passed_on : List Clock
        passed_on = K.before ++ (plainPassed k ∷ K.after)

        abbrev Right : Clock → Type 0
        Right u = (own_clock (passed js q) (at u.name) ≡ u.clock) × (child_clock (passed js q) (at u.name) ≡ u.latest)

        other_right : (u : Clock) → In u cs → u.name ≢ p → Right u
        other_right u m d = (own_else js (length fs) long_heard q (suc (latest js q)) (at u.name) (apart u m d) ∙ own_heard u m, child_own js (length fs) long_heard q (suc (latest js q)) (at u.name) ∙ child-heard u m)

        own_right : Right (plainPassed k)
        own_right =
            let m = clock_there cs p K in
            let place = ap at K.named in
            let o : own_clock js q ≡ k.clock = ap (own_clock js) (sym place) ∙ own_heard k m in
            let l : child_clock js q ≡ k.latest = ap (child_clock js) (sym place) ∙ child-heard k m in (
              ap (own_clock (passed js q)) place ∙ own_at js (length fs) long_heard q (suc (latest js q)) inside ∙ ap₂ (λ (a b : ℕ). suc (max a b)) o l,
              child_own js (length fs) long_heard q (suc (latest js q)) (at k.name) ∙ child-heard k m,
            )

        right : (u : Clock) → In u passed_on → Right u
        right u m = elim (In-cases K.before m) [
          | inl i ↦ other_right u (before_there cs p K u i) (K.before_apart u i)
          | inr i ↦ elim (In-cons i) [
            | inl z ↦ subst Right (sym z) own_right
            | inr o ↦ other_right u (after_there cs p K u o) (K.after_apart u o)
          ]
        ]

        pub passes : waits_for_one F ≡ true → eqb F.returning 1 ≡ false → (M' : Machine) (s : ℕ) → s ≡ 0 → after work M' cs s ≡ record { clocks = passed_on; work = work; span = s } → Risen (j ∷ p) e M' cs s
        passes z b M' s y is =
            subst (λ (C : Clocks). Held at (length fs) C (ended t (rise (suc (length p)) fs ks (at (j ∷ p)) e))) (sym is)
            (rw (rise_stops (rw (z, b)), z, not_none)
            (record { own = λ u m. (right u m).0; children = λ u m. (right u m).1; long = long_set js (length fs) long_heard (2 * q) (suc (latest js q)); work = same_work; span = quiet ∙ sym y }))
