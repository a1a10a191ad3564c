-- R-7: a return: its frame waits, or it ends, and upward from it the frames that waited in their returns.
use Rattle.std.specs.Prelude.{◌≡◌, refl, true, false, not, ℕ, ◌≤◌, ◌<◌, max, length}
use Rattle.std.proofs.Common.{sym, ap, ap₂, ◌∙◌, inl, inr, arith, length-set, get_or-set_same, ne_eqb}
use Rattle.std.proofs.Math.Path.{subst}
use mathlib.Core.List.Memᴰ.{append_left as In-left}
use mathlib.Core.List.Memᴰ.{cases_cons as In-cons}
use mathlib.Core.List.Memᴰ.{head as here}
use mathlib.Core.List.Memᴰ.{tail as there}
use mathlib.Core.List.{Memᴰ as In}
use mathlib.Core.List.Permᴰ
use mathlib.Core.List.{List, [], ◌∷◌, ◌++◌, map, Permᴰ}
use Rattle.words.specs.Basics.{joined}
use Rattle.words.specs.Tests.{decided}
use Rattle.words.specs.Lists.{In-perm}
use Rattle.frames.specs.Frames.{frame_at}
use Rattle.model.specs.declared.Step.TheVariants.{Return}
use Rattle.model.specs.Machine.{Name, Frame, Machine, live, deque, with_deque, is_empty, has_child, has_frame}
use Rattle.model.specs.Steps.{return, acting, as_returning, suspend, upward, after_end, after_action, end_outcome, action_answer, turn_answer}
use Rattle.model.specs.Clocks.{Clock, Clocks, best, final_clock, woken, settle, clocks_after}
use Rattle.model.proofs.Theory.LiveRun.{disjoint_perm}
use Rattle.model.proofs.Theory.Children.{has_child_perm}
use Rattle.model.proofs.Theory.Effects.{Passes, acts, rest, live_with, upward-live}
use Rattle.model.proofs.Theory.FrameTree.{FrameTree, names_apart, rooted_perm, rooted_without}
use Rattle.model.proofs.Theory.DequeShape.{DequeInvariant, Linked}
use Rattle.model.proofs.Theory.MainEnds.{In-hasFrame, has_frame_In}
use Rattle.model.proofs.Theory.Outcomes.{Above}
use Rattle.model.proofs.Theory.ViewNames.{settles_in}
use Rattle.model.proofs.Theory.SettleClocks.{settle-none, woken-none}
use Rattle.model.proofs.Theory.ClocksAfter.{clocks_return}
use Rattle.semantics.specs.Core.{Core}
use Rattle.semantics.specs.Timing.{own_clock, child_clock, latest, rise, Timing, ended, rise_from, timed_by, timed_with}
use Rattle.semantics.proofs.Theory.Relation.{Trees, Relates}
use Rattle.semantics.proofs.Theory.Places.{in_deque_lem, acting-place, acting_record}
use Rattle.semantics.proofs.Theory.RelationFacts.{in_set}
use Rattle.semantics.proofs.Theory.Timed.{Held, Timed, clock_frame}
use Rattle.semantics.proofs.Theory.ClocksLeft.{clock_of, OneEnds, one_ends}
use Rattle.semantics.proofs.Theory.Rising.{Standing, Rising, Departs, rising}
use Rattle.semantics.proofs.Theory.TimedRise.{after, span_at, Risen, stays}
use Rattle.semantics.proofs.Theory.TimedUpward.{after_then, span_then, rises}
use Rattle.soundness.specs.Layout.{Layout}

-- an end is not answered with outcome 4
outcome_few : (M : Machine) (w : ℕ) (d : List Frame) → end_outcome M w d ≤ 3
outcome_few M w d = elim (decided (not (has_frame [] (live M)))) [
  | inl a ↦ rw a (omega arith)
  | inr a ↦ rw a (elim (decided (not (is_empty d))) [
    | inl b ↦ rw b (omega arith)
    | inr b ↦ rw b (elim (decided (is_empty (deque M w))) [ inl e ↦ rw e (omega arith) | inr e ↦ rw e (omega arith) ])
  ])
]

module _ (layout : Layout) where
  -- the bottom frame q of worker w returns; above it is d
  module _ {P : Trees} {M : Machine} {c : Core} (r : Relates layout P M c) (C : Clocks) (t : Timing) (H : Timed layout r C t) (tree : FrameTree M) (dq : DequeInvariant M) (w : ℕ) (q : Frame) (d : List Frame) (lt : w < length M.deques)
      (at : deque M w ≡ q ∷ d) (before : Permᴰ (live M) (q ∷ (d ++ rest M w))) where
    abbrev cs : List Clock
    cs = C.clocks

    abbrev ks : List ℕ
    ks = t.clocks

    abbrev Left : Machine → ℕ × ℕ → Type 0
    Left M' a = Held r.at (length c.frames) (after C.work M' cs C.span) (timed_by c w a t)

    lives : In q (live M)
    lives = In-perm (Permᴰ.symm before) (here refl)

    -- ---- it waits: "a return likewise waits but adds nothing"

    abbrev M₀ : Machine
    M₀ = suspend M w (as_returning q) d

    -- a frame of the same name lives
    goes_on_lem : (f : Frame) → In f (live M) → has_frame f.name (live M₀) ≡ true
    goes_on_lem f m = elim (In-cons (In-perm before m)) [
      | inl e ↦ In-hasFrame f.name (live M₀) (as_returning q) (here refl) (ap (λ (g : Frame). g.name) (sym e))
      | inr i ↦ In-hasFrame f.name (live M₀) f (there (In-perm (Permᴰ.symm (live_with M w d lt)) i)) refl
    ]

    same_clocks : after C.work M₀ cs C.span ≡ C
    same_clocks =
        ap (λ x. record { clocks = map (woken M₀.suspended) x.0; work = C.work; span = max C.span (best is_empty x.1) })
        (settle-none (λ m. has_frame m (live M₀)) cs (λ u m. let f = clock_frame layout r C t H u m in ap (λ (y : Name). has_frame y (live M₀)) (sym f.2) ∙ goes_on_lem f.0 f.1))
        ∙ ap₂ (λ (l : List Clock) (k : ℕ). record { clocks = l; work = C.work; span = k })
        (woken-none M₀.suspended cs (λ u m y. let f = H.at_sync.suspended u m y in In-hasFrame u.name M₀.suspended f.0 (there f.1) f.2))
        (let z : max C.span 0 ≡ C.span = omega arith in z)

    waits : Left M₀ (102, 4)
    unfolding timed_with
    waits = subst (λ (Z : Clocks). Held r.at (length c.frames) Z t) (sym same_clocks) H.held

    -- ---- it ends

    module _ (h : has_child q.name (live M) ≡ false) where
      abbrev M₁ : Machine
      M₁ = with_deque M w d

      left : Permᴰ (live M) (q ∷ live M₁)
      left = Permᴰ.trans before (Permᴰ.cons refl (Permᴰ.symm (live_with M w d lt)))

      runs : (f : Frame) → In f d → In f (joined M.deques)
      runs f m = in_deque_lem M.deques w (subst (λ (l : List Frame). In f l) (sym at) (there m))

      tree-left : FrameTree M₁
      tree-left = record { disjoint = (disjoint_perm left tree.disjoint).1; rooted = rooted_without q (live M₁) (has_child_perm q.name left h) (rooted_perm left tree.rooted) }

      above-left : Above (live M₁) q.name
      above-left = by_name q.name refl
        where
          by_name : (m : Name) → q.name ≡ m → Above (live M₁) m
          by_name [] z = elim (decided (has_frame [] (live M₁))) [
            | inl y ↦ (let g = has_frame_In [] (live M₁) y in absurd (names_apart q g.0 (live M₁) (disjoint_perm left tree.disjoint) g.1 (z ∙ sym g.2)))
            | inr y ↦ y
          ]
          by_name (k ∷ p) z =
              let x = tree.rooted q lives k p z in
              elim (In-cons (In-perm left x.1)) [
                | inl y ↦ absurd (omega (arith, ap length z, ap length x.2, ap (λ (f : Frame). length f.name) y))
                | inr i ↦ In-hasFrame p (live M₁) x.0 i x.2
              ]

      departs : Departs q M M₁
      departs = record {
        before = left;
        tree = tree-left;
        above = above-left;
        running = λ f m. elim (in_set M.deques w d m) [ inl i ↦ runs f i | inr i ↦ i ];
        waiting = λ f m. m;
        at_sync = λ f m z. m;
      }

      standing : Standing M r.at ks q M cs
      standing = record {
        tree = tree;
        ordered = H.ordered;
        at_sync = H.at_sync;
        running = λ f m. m;
        waiting = λ f m. m;
        counts = λ x b. refl;
        own = H.held.own;
        children = λ k m y. H.held.children k m;
      }

      X : OneEnds (live M₁) q cs
      X = one_ends (live M) (live M₁) q left tree.disjoint cs H.ordered (clock_of cs q.name H.ordered.post (H.ordered.names.all q lives))

      abbrev e₁ : ℕ
      e₁ = final_clock X.clock

      abbrev cs₁ : List Clock
      cs₁ = (settle (live M₁) [] cs).0

      abbrev s₁ : ℕ
      s₁ = max C.span (best is_empty (settle (live M₁) [] cs).1)

      E : Rising M r.at ks q.name e₁ M₁ cs₁
      E = rising M r.at ks q M M₁ cs standing departs X

      quiet : t.span ≡ 0
      quiet = H.held.span ∙ H.quiet q lives

      span_so_far : s₁ ≡ span_at q.name e₁
      span_so_far = ap (λ l. max C.span (best is_empty l)) X.ended ∙ span_then q.name e₁ C.span (H.quiet q lives)

      -- the time of its end
      time : e₁ ≡ latest ks (r.at q.name)
      time =
          let k = X.clock in
          let place = ap r.at X.named in
          let o : own_clock ks (r.at q.name) ≡ k.clock = ap (own_clock ks) (sym place) ∙ H.held.own k X.there_was in
          let l : child_clock ks (r.at q.name) ≡ k.latest = ap (child_clock ks) (sym place) ∙ H.held.children k X.there_was in
          omega (arith, o, l)

      rise_is : rise_from c ks w ≡ rise (length q.name) c.frames ks (r.at q.name) e₁
      rise_is =
          ap (λ (p : ℕ). rise (frame_at c.frames p).depth c.frames ks p (latest ks p)) (acting-place layout r w q d lt at)
          ∙ ap₂ (λ (k e : ℕ). rise k c.frames ks (r.at q.name) e) (acting_record layout r w q d lt at).depth (sym time)

      -- the answer says that it has ended
      words_are : (o : ℕ) → o ≤ 3 → timed_by c w (102, o) t ≡ ended t (rise_from c ks w)
      unfolding timed_with
      words_are o b = rw (ne_eqb o 4 (λ z. omega (arith, z, b)))

      abbrev Done : Machine → Type 0
      Done M' = Risen layout r t C.work H.held.work quiet H.held.long q.name e₁ M' cs₁ s₁

      -- on an empty deque the ends go on upward
      on_empty : d ≡ [] → Done (upward M₁ w q.name)
      on_empty z =
          rises layout r t C.work H.held.work quiet H.held.long w q.name e₁ M₁ cs₁ s₁ E span_so_far
          (omega (arith, lt, length-set M.deques w d)) (get_or-set_same M.deques w d [] lt ∙ z)

      -- else the frame above it is its parent, which runs
      on_rest : (g : Frame) (l : List Frame) → d ≡ g ∷ l → Done M₁
      on_rest g l z =
          let k : (j : ℕ) × (q.name ≡ j ∷ g.name) = (subst Linked (at ∙ ap (λ (y : List Frame). q ∷ y) z) (dq.shape w).0).0 in
          let i : In g d = subst (λ (y : List Frame). In g y) (sym z) (here refl) in
          let g_lives : In g (live M₁) = In-perm (Permᴰ.symm (live_with M w d lt)) (In-left (rest M w) i) in
          let E₁ : Rising M r.at ks (k.0 ∷ g.name) e₁ M₁ cs₁ = subst (λ (m : Name). Rising M r.at ks m e₁ M₁ cs₁) k.1 E in
          subst (λ (m : Name). Risen layout r t C.work H.held.work quiet H.held.long m e₁ M₁ cs₁ s₁) (sym k.1)
          (stays layout r t C.work H.held.work quiet H.held.long k.0 g.name e₁ M₁ cs₁ E₁ g g_lives refl
          (rw (ne_eqb (frame_at c.frames (r.at g.name)).suspended 1 (λ y. omega (arith, y, (r.running g (runs g i)).suspended)))) s₁ (span_so_far ∙ ap (λ (m : Name). span_at m e₁) k.1))

      -- of those that are left these live in the end
      whole : (M' : Machine) → ((f : Frame) → In f (live M') → In f (live M₁)) → (o : ℕ) → o ≤ 3 → Done M' → Left M' (102, o)
      whole M' old o b D =
          subst (λ (Z : Clocks). Held r.at (length c.frames) Z (timed_by c w (102, o) t)) (sym (after_then C.work (live M₁) M' cs C.span tree-left.rooted old))
          (subst (Held r.at (length c.frames) (after C.work M' cs₁ s₁)) (sym (words_are o b ∙ ap (ended t) rise_is)) D)

      ends : (l : List Frame) → d ≡ l → Left (after_end M w q l) (102, end_outcome (after_end M w q l) w l)
      ends [] z =
          let lt₁ : w < length M₁.deques = omega (arith, lt, length-set M.deques w d) in
          let idle : deque M₁ w ≡ [] = get_or-set_same M.deques w d [] lt ∙ z in
          subst (λ (y : List Frame). Left (upward (with_deque M w y) w q.name) (102, end_outcome (upward (with_deque M w y) w q.name) w [])) z
          (whole (upward M₁ w q.name) (settles_in (upward-live M₁ w q.name lt₁ idle)) (end_outcome (upward M₁ w q.name) w []) (outcome_few (upward M₁ w q.name) w []) (on_empty z))
      ends (g ∷ l) z =
          subst (λ (y : List Frame). Left (with_deque M w y) (102, end_outcome (with_deque M w y) w (g ∷ l))) z
          (whole M₁ (λ f m. m) (end_outcome M₁ w (g ∷ l)) (outcome_few M₁ w (g ∷ l)) (on_rest g l z))

    returned : Left (after_action M w (q ∷ d) return) (action_answer M w (q ∷ d) return)
    returned = elim (decided (has_child q.name (live M))) [ inl h ↦ rw h waits | inr h ↦ rw h (ends h d refl) ]

  pub held_returned : {P : Trees} {M : Machine} {c : Core} (r : Relates layout P M c) (C : Clocks) (t : Timing) → Timed layout r C t → FrameTree M → DequeInvariant M → (w : ℕ) → Passes M (acting w return)
      → Held r.at (length c.frames) (clocks_after M C (Return w)) (timed_by c w (turn_answer M (acting w return)) t)
  held_returned {M = M} {c = c} r C t H tree dq w h =
      let x = acts M w return h in
      subst (λ (Z : Clocks). Held r.at (length c.frames) Z (timed_by c w (turn_answer M (acting w return)) t)) (sym (clocks_return M C w h))
      (subst (λ (l : List Frame). Held r.at (length c.frames) (after C.work (after_action M w l return) C.clocks C.span) (timed_by c w (action_answer M w l return) t)) (sym x.at)
      (returned r C t H tree dq w x.actor x.above x.worker x.at x.before))
