-- R-7: the ends upward, by induction on the name of the frame that ended last: the clock words after the rise hold the clocks of the plain machine after them.
use Rattle.std.specs.Prelude.{◌≡◌, refl, ◌≢◌, Bool, true, false, not, ◌&&◌, ℕ, suc, ◌*◌, ◌<◌, max, length, set, eqb}
use Rattle.std.proofs.Common.{sym, ap, ap₂, ◌∙◌, subst, inl, inr, arith, eq-eqb, ne_eqb}
use mathlib.Core.List.Memᴰ.{append_cases as In-cases}
use mathlib.Core.List.{Memᴰ as In}
use mathlib.Core.List.{List, [], ◌∷◌, ◌++◌, map, Permᴰ}
use Rattle.std.proofs.lemmas.List.{set-get_or}
use Rattle.words.specs.Basics.{joined, same}
use Rattle.words.specs.Tests.{decided, both, true≢false}
use Rattle.words.specs.Lists.{In-perm}
use Rattle.words.specs.Distinct.{same_eq, same_refl, same_differ}
use Rattle.frames.specs.declared.Frame.{Frame as FrameRecord}
use Rattle.frames.specs.Frames.{frame_at}
use Rattle.model.specs.Machine.{Name, Frame, Machine, live, deque, is_empty, is_child, has_child, has_frame, those}
use Rattle.model.specs.Steps.{waits_in_return, waits_at_sync, leave, resume, upward}
use Rattle.model.specs.Clocks.{Clock, best, final_clock, woken, settle}
use Rattle.model.proofs.Theory.LiveRun.{Disjoint, disjoint_perm}
use Rattle.model.proofs.Theory.Effects.{perm_those, resume-live, upward-live}
use Rattle.model.proofs.Theory.FrameTree.{Rooted}
use Rattle.model.proofs.Theory.DequeShape.{disjoint_left, disjoint_right, disjoint_apart, one_named, in_others, to_others}
use Rattle.model.proofs.Theory.MainEnds.{In-hasFrame, has_frame_In}
use Rattle.model.proofs.Theory.Outcomes.{rooted_leave, above-leave}
use Rattle.model.proofs.Theory.ViewNames.{settles_in}
use Rattle.model.proofs.Theory.Siblings.{child_of_lem}
use Rattle.model.proofs.Theory.SettleClocks.{AllAsleep, settle-none, woken_one, settled_in_turn}
use Rattle.semantics.specs.Core.{Core}
use Rattle.semantics.specs.Timing.{own_clock, child_clock, latest, waits_for_one, rise, Timing, ended}
use Rattle.semantics.proofs.Theory.Relation.{Trees, Relates, bit, child_count}
use Rattle.semantics.proofs.Theory.Places.{childless_count, those-none, those_one, others-all}
use Rattle.semantics.proofs.Theory.RelationFacts.{parent_count}
use Rattle.semantics.proofs.Theory.Timed.{Held}
use Rattle.semantics.proofs.Theory.ClocksLeft.{ClockOf, clock_of, clock_there, before_there, after_there, OneEnds, one_ends}
use Rattle.semantics.proofs.Theory.Rising.{Standing, Rising, Departs, rising}
use Rattle.semantics.proofs.Theory.TimedRise.{after, span_at, Risen, frame_of_lem, main-ended, outstanding_is, rise_ends, stays, passed_on, passes}
use Rattle.soundness.specs.Layout.{Layout}

and-false : (b : Bool) → b && false ≡ false
and-false true = refl
and-false false = refl

module _ (layout : Layout) where
  -- a frame of another name
  not_named : (p : Name) (f : Frame) (b : Bool) → f.name ≢ p → same f.name p && b ≡ false
  not_named p f b d = rw (same_differ d)

-- ---- the clocks of the frames R that are left, of which those of M' live in the end

pub after_then : (work : ℕ) (R : List Frame) (M' : Machine) (cs : List Clock) (s : ℕ) → Rooted R → ((f : Frame) → In f (live M') → In f R)
    → after work M' cs s ≡ after work M' (settle R [] cs).0 (max s (best is_empty (settle R [] cs).1))
after_then work R M' cs s rooted old =
    let x = settled_in_turn R (live M') cs rooted (λ u m z. let f = has_frame_In u.name (live M') z in In-hasFrame u.name R f.0 (old f.0 f.1) f.2) in
    let first = best is_empty (settle R [] cs).1 in
    let second = best is_empty (settle (live M') [] (settle R [] cs).0).1 in
    ap₂ (λ (l : List Clock) (k : ℕ). record { clocks = map (woken M'.suspended) l; work = work; span = k }) x.0
    (ap (max s) x.1 ∙ (let z : max s (max first second) ≡ max (max s first) second = omega arith in z))

-- the span once g has ended at the time e, which was 0
pub span_then : (n : Name) (e s : ℕ) → s ≡ 0 → max s (best is_empty ((n, e) ∷ [])) ≡ span_at n e
span_then [] e s z = omega (arith, z)
span_then (k ∷ n) e s z = omega (arith, z)

module _ (layout : Layout) where
  module _ {P : Trees} {M₀ : Machine} {c₀ : Core} (r₀ : Relates layout P M₀ c₀) (t : Timing) (work : ℕ) (same_work : t.work ≡ work) (quiet : t.span ≡ 0) (long : length t.clocks ≡ 2 * length c₀.frames) (w : ℕ) where
    abbrev Upward : Name → Type 0
    Upward n = (e : ℕ) (M : Machine) (cs : List Clock) (s : ℕ) → Rising M₀ r₀.at t.clocks n e M cs → s ≡ span_at n e → w < length M.deques → deque M w ≡ []
        → Risen layout r₀ t work same_work quiet long n e (upward M w n) cs s

    -- ---- a child of g has ended, at the time e

    module _ (j : ℕ) (g : Frame) (e : ℕ) (M : Machine) (cs : List Clock) (s : ℕ) (E : Rising M₀ r₀.at t.clocks (j ∷ g.name) e M cs) (zero : s ≡ 0) (lt : w < length M.deques) (idle : deque M w ≡ []) (lives : In g (live M)) where
      abbrev p : Name
      p = g.name

      abbrev ks : List ℕ
      ks = t.clocks

      abbrev q : ℕ
      q = r₀.at p

      abbrev F : FrameRecord
      F = frame_at c₀.frames q

      abbrev Done : Machine → Type 0
      Done M' = Risen layout r₀ t work same_work quiet long (j ∷ p) e M' cs s

      outstanding : F.outstanding ≡ suc (child_count p (live M))
      outstanding = outstanding_is layout r₀ t work same_work quiet long j p e M cs E g lives refl

      disjoint_waiting : Disjoint M.suspended
      disjoint_waiting = disjoint_left M.suspended (joined M.deques) E.tree.disjoint

      stays_put : waits_for_one F ≡ false → Done M
      stays_put z = stays layout r₀ t work same_work quiet long j p e M cs E g lives refl z s zero

      -- ---- it has another live child

      with_child_lem : has_child p (live M) ≡ true → Done (upward M w (j ∷ p))
      with_child_lem h =
          let away : upward M w (j ∷ p) ≡ M = rw h in
          subst Done (sym away) (stays_put (rw (ne_eqb F.outstanding 1 (λ z. parent_count p (live M) h (omega (arith, z, outstanding)))) (and-false (eqb F.suspended 1))))

      -- ---- it runs

      runs : has_child p (live M) ≡ false → In g (joined M.deques) → Done (upward M w (j ∷ p))
      runs h i =
          let a = those-none (waits_in_return p) M.suspended (λ f m. not_named layout p f f.returning (apart f m)) in
          let b = those-none (waits_at_sync p) M.suspended (λ f m. not_named layout p f (not f.returning) (apart f m)) in
          let o = others-all (waits_at_sync p) M.suspended (λ f m. not_named layout p f (not f.returning) (apart f m)) in
          let still : set M.deques w [] ≡ M.deques = ap (set M.deques w) (sym idle) ∙ set-get_or M.deques w [] in
          let away : upward M w (j ∷ p) ≡ M = rw (h, a, b, o, still) in
          subst Done (sym away) (stays_put (rw (ne_eqb F.suspended 1 (λ z. omega (arith, z, (r₀.running g (E.running g i)).suspended)))))
        where
          apart : (f : Frame) → In f M.suspended → f.name ≢ p
          apart f m d = disjoint_apart M.suspended (joined M.deques) E.tree.disjoint f g m i d

      -- ---- it waits, and has no live child left

      module _ (h : has_child p (live M) ≡ false) (i : In g M.suspended) where
        for_one : waits_for_one F ≡ true
        for_one = rw (eq-eqb F.suspended 1 (r₀.waiting g (E.waiting g i)).suspended, eq-eqb F.outstanding 1 (outstanding ∙ ap suc (childless_count p (live M) h)))

        returning_word : F.returning ≡ bit g.returning
        returning_word = (r₀.waiting g (E.waiting g i)).returning

        K : ClockOf cs p
        K = clock_of cs p E.ordered.post (E.ordered.names.all g lives)

        -- a suspended frame of this name is g
        is_g : (f : Frame) → In f M.suspended → f.name ≡ p → f ≡ g
        is_g f m d = one_named M.suspended disjoint_waiting f g m i d

        -- ---- at its sync

        module _ (n : g.returning ≡ false) where
          abbrev M₁ : Machine
          M₁ = resume M w p

          away_resumed : upward M w (j ∷ p) ≡ M₁
          away_resumed = let a = those-none (waits_in_return p) M.suspended none in rw (h, a)
            where
              none : (f : Frame) → In f M.suspended → waits_in_return p f ≡ false
              none f m = elim (decided (waits_in_return p f)) [
                | inl z ↦ (let x = both (same f.name p) f.returning z in absurd (true≢false (sym x.1 ∙ ap (λ (y : Frame). y.returning) (is_g f m (same_eq f.name p x.0)) ∙ n)))
                | inr z ↦ z
              ]

          asleep : (us : List Clock) → ((u : Clock) → In u us → In u cs) → ((u : Clock) → In u us → u.name ≢ p) → AllAsleep M₁.suspended us
          asleep us there_was apart u m z =
              let f = E.at_sync.suspended u (there_was u m) z in
              In-hasFrame u.name M₁.suspended f.0 (to_others (waits_at_sync p) M.suspended f.0 f.1 (not_named layout p f.0 (not f.0.returning) (λ d. apart u m (sym f.2 ∙ d)))) f.2

          gone : has_frame K.clock.name M₁.suspended ≡ false
          gone = elim (decided (has_frame K.clock.name M₁.suspended)) [
            | inl z ↦ (let f = has_frame_In K.clock.name M₁.suspended z in
                let x = in_others (waits_at_sync p) M.suspended f.0 f.1 in
                let y : waits_at_sync p g ≡ true = rw (same_refl p, n) in
                absurd (true≢false (sym y ∙ ap (waits_at_sync p) (sym (is_g f.0 x.0 (f.2 ∙ K.named))) ∙ x.1)))
            | inr z ↦ z
          ]

          after_resumed : after work M₁ cs s ≡ record { clocks = passed_on layout r₀ t work same_work quiet long j p e M cs E g lives refl K; work = work; span = s }
          after_resumed =
              ap (λ x. record { clocks = map (woken M₁.suspended) x.0; work = work; span = max s (best is_empty x.1) })
              (settle-none (λ m. has_frame m (live M₁)) cs
              (λ u m. let f = frame_of_lem layout r₀ t work same_work quiet long (j ∷ p) e M cs E u m in In-hasFrame u.name (live M₁) f.0 (In-perm (resume-live M w p lt idle) f.1) f.2))
              ∙ ap₂ (λ (l : List Clock) (k : ℕ). record { clocks = l; work = work; span = k })
              (ap (map (woken M₁.suspended)) K.parts
              ∙ woken_one M₁.suspended K.before K.after K.clock (asleep K.before (before_there cs p K) K.before_apart) (E.at_sync.waits K.clock (clock_there cs p K) g i (sym K.named) n) gone
              (asleep K.after (after_there cs p K) K.after_apart))
              (let z : max s 0 ≡ s = omega arith in z)

          at_its_sync : Done (upward M w (j ∷ p))
          at_its_sync =
              subst Done (sym away_resumed)
              (passes layout r₀ t work same_work quiet long j p e M cs E g lives refl K for_one (ne_eqb F.returning 1 (λ z. omega (arith, z, returning_word, ap bit n))) M₁ s zero after_resumed)

        -- ---- in its return: it ends too

        module _ (n : g.returning ≡ true) (next : Upward p) where
          abbrev M₂ : Machine
          M₂ = leave M p

          one_leaves : those (waits_in_return p) M.suspended ≡ g ∷ []
          one_leaves = those_one (waits_in_return p) M.suspended g disjoint_waiting i (rw (same_refl p, n)) (λ f z. same_eq f.name p (both _ _ z).0)

          some : is_empty (those (waits_in_return p) M.suspended) ≡ false
          some = ap is_empty one_leaves

          split : Permᴰ (live M) (those (waits_in_return p) M.suspended ++ live M₂)
          split = perm_those (waits_in_return p) M.suspended (joined M.deques)

          departs : Departs g M M₂
          departs = record {
            before = subst (λ (z : List Frame). Permᴰ (live M) (z ++ live M₂)) one_leaves split;
            tree = record { disjoint = disjoint_right (those (waits_in_return p) M.suspended) (live M₂) (disjoint_perm split E.tree.disjoint); rooted = rooted_leave M p E.tree.rooted E.tree.disjoint h };
            above = above-leave M p E.tree.rooted E.tree.disjoint h some (In-hasFrame p (live M) g lives refl);
            running = λ f m. m;
            waiting = λ f m. (in_others (waits_in_return p) M.suspended f m).0;
            at_sync = λ f m z. to_others (waits_in_return p) M.suspended f m (rw z (and-false (same f.name p)));
          }

          standing : Standing M₀ r₀.at ks g M cs
          standing = record {
            tree = E.tree;
            ordered = E.ordered;
            at_sync = E.at_sync;
            running = E.running;
            waiting = E.waiting;
            counts = λ x b. E.counts x (omega (arith, b));
            own = E.own;
            children = λ k m d. E.children k m (same_differ (λ z. d (sym z)));
          }

          X : OneEnds (live M₂) g cs
          X = one_ends (live M) (live M₂) g departs.before E.tree.disjoint cs E.ordered K

          abbrev e₂ : ℕ
          e₂ = final_clock X.clock

          abbrev cs₂ : List Clock
          cs₂ = (settle (live M₂) [] cs).0

          abbrev s₂ : ℕ
          s₂ = max s (best is_empty (settle (live M₂) [] cs).1)

          -- the time of its end
          time : e₂ ≡ max (latest ks q) e
          time =
              let k = X.clock in
              let place = ap r₀.at X.named in
              let o : own_clock ks q ≡ k.clock = ap (own_clock ks) (sym place) ∙ E.own k X.there_was in
              let l : max (child_clock ks q) e ≡ k.latest = ap (λ (y : ℕ). max (child_clock ks y) e) (sym place) ∙ E.parent k X.there_was (ap (λ (y : Name). is_child y (j ∷ p)) X.named ∙ child_of_lem j p) in
              omega (arith, o, l)

          span_so_far : s₂ ≡ span_at p e₂
          span_so_far = ap (λ l. max s (best is_empty l)) X.ended ∙ span_then p e₂ s zero

          ends_on : Risen layout r₀ t work same_work quiet long p e₂ (upward M₂ w p) cs₂ s₂
          ends_on = next e₂ M₂ cs₂ s₂ (rising M₀ r₀.at ks g M M₂ cs standing departs X) span_so_far lt idle

          away_ended : upward M w (j ∷ p) ≡ upward M₂ w p
          away_ended = rw (h, some)

          rise_on : rise (suc (length p)) c₀.frames ks (r₀.at (j ∷ p)) e ≡ rise (length p) c₀.frames ks q e₂
          rise_on =
              rise_ends layout r₀ t work same_work quiet long j p e M cs E g lives refl (rw (for_one, eq-eqb F.returning 1 (returning_word ∙ ap bit n)))
              ∙ ap (rise (length p) c₀.frames ks q) (sym time)

          in_its_return : Done (upward M w (j ∷ p))
          in_its_return =
              subst Done (sym away_ended)
              (subst (λ C. Held r₀.at (length c₀.frames) C (ended t (rise (suc (length p)) c₀.frames ks (r₀.at (j ∷ p)) e)))
              (sym (after_then work (live M₂) (upward M₂ w p) cs s departs.tree.rooted (settles_in (upward-live M₂ w p lt idle))))
              (subst (λ R. Held r₀.at (length c₀.frames) (after work (upward M₂ w p) cs₂ s₂) (ended t R)) (sym rise_on) ends_on))

    -- ---- all of them

    pub rises : (n : Name) → Upward n
    rises [] e M cs s E z lt idle = main-ended layout r₀ t work same_work quiet long e M cs s E z
    rises (j ∷ p) e M cs s E z lt idle =
        let x = has_frame_In p (live M) E.above in
        let g = x.0 in
        let E' : Rising M₀ r₀.at t.clocks (j ∷ g.name) e M cs = subst (λ (m : Name). Rising M₀ r₀.at t.clocks (j ∷ m) e M cs) (sym x.2) E in
        subst (λ (m : Name). Risen layout r₀ t work same_work quiet long (j ∷ m) e (upward M w (j ∷ m)) cs s) x.2
        (elim (decided (has_child g.name (live M))) [
          | inl h ↦ with_child_lem j g e M cs s E' z lt idle x.1 h
          | inr h ↦ elim (In-cases M.suspended x.1) [
            | inl i ↦ elim (decided g.returning) [
              | inl n ↦ in_its_return j g e M cs s E' z lt idle x.1 h i n (subst Upward (sym x.2) (λ e' M' cs' s' R y l d. rises p e' M' cs' s' R y l d))
              | inr n ↦ at_its_sync j g e M cs s E' z lt idle x.1 h i n
            ]
            | inr i ↦ runs j g e M cs s E' z lt idle x.1 h i
          ]
        ])
