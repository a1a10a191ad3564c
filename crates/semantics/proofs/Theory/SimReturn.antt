-- An accepted return of the plain machine is matched by the engine's words: the frame waits, or it ends, and upward from it the frames
-- that waited in their returns.
use Rattle.std.specs.Prelude.{◌≡◌, ◌≢◌, Bool, not, ◌&&◌, ℕ, suc, ◌<◌, set, eqb}
use Rattle.std.proofs.Math.Path.{refl, ap, subst}
use Rattle.std.proofs.Common.{sym, ap₂, ◌∙◌, arith, length-set, get_or-set_same, eqb→eq}
use Rattle.std.proofs.Math.Logic.{inl, inr}
use Rattle.std.proofs.Math.Bool.{true, false}
use mathlib.Core.List.Memᴰ.{append_cases as In-cases}
use mathlib.Core.List.Memᴰ.{append_left as In-left}
use mathlib.Core.List.Memᴰ.{append_right as In-right}
use mathlib.Core.List.Memᴰ.{cases_cons as In-cons}
use mathlib.Core.List.Memᴰ.{head as here}
use mathlib.Core.List.{Memᴰ as In}
use mathlib.Core.List.Permᴰ
use mathlib.Core.List.{List, [], ◌∷◌, ◌++◌, tail, Permᴰ}
use Rattle.std.proofs.Math.ListN.{length}
use Rattle.std.proofs.lemmas.List.{length-map, set-get_or}
use borrow.Author.Tests.{eq-eqb, ne_eqb}
use Rattle.words.specs.Basics.{joined, same}
use Rattle.words.specs.Tests.{decided, both, true→T, true≢false}
use Rattle.words.specs.Lists.{In-perm, joined-set}
use Rattle.words.specs.Distinct.{same_eq, same_refl}
use Rattle.frames.specs.declared.Frame.{Frame as FrameRecord}
use Rattle.frames.specs.declared.Returned.TheVariants.{Continued, Idle, Resumed}
use Rattle.frames.specs.Frames.{frame_at}
use Rattle.frames.specs.Deques.{size, pop}
use Rattle.frames.specs.Steps.{waits_no_more, ends_too, go_on, went_on}
use Rattle.frames.specs.Steps.{resume as resumeTable}
use Rattle.frames.proofs.Theory.Lists.{list_length, list_elsewhere, pop_elsewhere, pop-shaped, pop_list}
use Rattle.model.specs.Machine.{Name, Frame, Machine, live, deque, with_deque, is_empty, has_child, has_frame, those, others}
use Rattle.model.specs.Steps.{return, acting, waits_in_return, waits_at_sync, leave, resume, upward, after_end, after_action, after_turn, end_outcome, action_answer, turn_answer}
use Rattle.model.proofs.Theory.LiveRun.{Disjoint, disjoint_perm}
use Rattle.model.proofs.Theory.Children.{has_child_perm}
use Rattle.model.proofs.Theory.Effects.{Passes, acts, rest, live_at_lem, live_with, perm_those}
use Rattle.model.proofs.Theory.FrameTree.{FrameTree, names_apart, rooted_perm, rooted_without}
use Rattle.model.proofs.Theory.DequeShape.{disjoint_left, disjoint_right, disjoint_apart, one_named, in_others}
use Rattle.model.proofs.Theory.MainEnds.{In-hasFrame, has_frame_In}
use Rattle.model.proofs.Theory.Outcomes.{outcome_upward, Above, main_there, rooted_leave, above-leave, outcome-upward}
use Rattle.semantics.specs.Answers.{answer_words}
use Rattle.semantics.specs.Core.{Core, StepResult, table_of, with_table, acting_in, returned, end_at, popped, end_bottom, return_on}
use Rattle.semantics.specs.Core.{upward as upwardOn}
use Rattle.semantics.proofs.Theory.Relation.{Trees, TreeLaws, bit, parent_place, child_count, places_of, Recorded, Relates, Links}
use Rattle.semantics.proofs.Theory.Places.{child_count_test, childless_count, those-none, those_one, others-all, recorded, worker_few, acting-deque, acting-place, acting-frame, acting_record}
use Rattle.semantics.proofs.Theory.RelationFacts.{in_rest, lists_with, parent_count, above_runs}
use Rattle.semantics.proofs.Theory.LinksKept.{keeps_same}
use Rattle.semantics.proofs.Theory.Suspended.{suspends, suspends_keeps}
use Rattle.semantics.proofs.Theory.Resumed.{resumes-frame, resumes_keeps}
use Rattle.semantics.proofs.Theory.EndedFrame.{Left, end_relates}
use Rattle.semantics.proofs.Theory.Viewed.{Ended}
use Rattle.semantics.proofs.Theory.LinksEnd.{next_in, links_end}
use Rattle.semantics.proofs.Theory.EndsInTurn.{EndsInTurn, stops, ends_then}
use Rattle.soundness.specs.Layout.{Layout}

module _ (layout : Layout) where
  -- ---- one turn of the ends upward, by what the parent's record says

  module _ (d : ℕ) (c : Core) (w q : ℕ) where
    abbrev parent : FrameRecord
    parent = frame_at c.frames q

    up_ends : ends_too parent ≡ true → upwardOn layout (suc d) c w q ≡ upwardOn layout d (end_at layout c q) w parent.parent
    unfolding upwardOn
    up_ends e = rw e

    up_stays : waits_no_more parent ≡ false → upwardOn layout (suc d) c w q ≡ returned c Idle
    unfolding upwardOn go_on went_on
    up_stays e = rw e

    up_resumes : waits_no_more parent ≡ true → eqb parent.returning 1 ≡ false → upwardOn layout (suc d) c w q ≡ returned (with_table c (resumeTable (table_of c) w q)) Resumed
    unfolding upwardOn go_on went_on
    up_resumes e n = rw (e, n)

  -- an end changes no number of nodes
  end_laws : {P : Trees} {n : ℕ} (c : Core) (q : ℕ) → TreeLaws layout c.head.numbers.nodes n P → TreeLaws layout (end_at layout c q).head.numbers.nodes n P
  unfolding end_at
  end_laws c q laws = laws

  -- ---- the ends upward

  -- from a core related to M by r further ends led to M' and the result s, with the outcome o
  pub record Went {P : Trees} {M : Machine} {c : Core} (r : Relates layout P M c) (M' : Machine) (o : ℕ) (s : StepResult) : Type 0 where
    pub related : Relates layout P M' s.core
    pub ends : EndsInTurn layout r related
    pub answered : answer_words s.answer ≡ (102, o)

  went_as : {P : Trees} {M : Machine} {c : Core} (r : Relates layout P M c) {M₁ M₂ : Machine} {o₁ o₂ : ℕ} {s₁ s₂ : StepResult} → M₂ ≡ M₁ → o₂ ≡ o₁ → s₂ ≡ s₁ → Went r M₁ o₁ s₁ → Went r M₂ o₂ s₂
  went_as r {M₁} {M₂} {o₁} {o₂} {s₁} {s₂} m o s W =
      subst (λ (N : Machine). Went r N o₂ s₂) (sym m) (subst (λ (n : ℕ). Went r M₁ n s₂) (sym o) (subst (λ (t : StepResult). Went r M₁ o₁ t) (sym s) W))

  -- g has ended, a frame that waited in its return
  record Leaves {P : Trees} {M : Machine} {c : Core} (r : Relates layout P M c) (g : Frame) : Type 0 where
    some : is_empty (those (waits_in_return g.name) M.suspended) ≡ false
    related : Relates layout P (leave M g.name) (end_at layout c (r.at g.name))
    same_places : related.at ≡ r.at
    ended : Ended layout r related g (live (leave M g.name))
    tree : FrameTree (leave M g.name)
    above : Above (live (leave M g.name)) g.name

  module _ {P : Trees} {M : Machine} {c : Core} (r : Relates layout P M c) (laws : TreeLaws layout c.head.numbers.nodes M.splitters P) (tree : FrameTree M) (K : Links c.frames r.at (live M)) (g : Frame) (lives : In g (live M)) where
    abbrev p : Name
    p = g.name

    abbrev F : FrameRecord
    F = frame_at c.frames (r.at p)

    -- "has no live child left"
    childless : eqb F.outstanding 0 ≡ not (has_child p (live M))
    childless = ap (λ (x : ℕ). eqb x 0) (recorded layout r g lives).1.outstanding ∙ child_count_test p (live M)

    disjoint_waiting : Disjoint M.suspended
    disjoint_waiting = disjoint_left M.suspended (joined M.deques) tree.disjoint

    -- ---- it waits, and has no live child left

    module _ (h : has_child p (live M) ≡ false) (i : In g M.suspended) where
      waits_no_more_lem : waits_no_more F ≡ true
      waits_no_more_lem = rw (eq-eqb F.suspended 1 (r.waiting g i).suspended, childless, h)

      module _ (n : g.returning ≡ true) where
        one_leaves : those (waits_in_return p) M.suspended ≡ g ∷ []
        one_leaves = those_one (waits_in_return p) M.suspended g disjoint_waiting i (rw (same_refl p, n)) (λ f s. same_eq f.name p (both _ _ s).0)

        split : Permᴰ (live M) (those (waits_in_return p) M.suspended ++ live (leave M p))
        split = perm_those (waits_in_return p) M.suspended (joined M.deques)

        with_it : Permᴰ (live M) (g ∷ live (leave M p))
        with_it = subst (λ (z : List Frame). Permᴰ (live M) (z ++ live (leave M p))) one_leaves split

        left_of : Left layout r (live (leave M p)) M.deques (others (waits_in_return p) M.suspended) c.deques
        left_of = record {
          workers = refl;
          frames = Permᴰ.refl (live (leave M p));
          shaped = r.formed.shaped;
          deques = r.deques;
          running = λ f m. (In-right (others (waits_in_return p) M.suspended) m, m);
          waiting = λ f m. (In-left (joined M.deques) m, (in_others (waits_in_return p) M.suspended f m).0);
        }

        gone : (r' : Relates layout P (leave M p) (end_at layout c (r.at p))) × (r'.at ≡ r.at)
        gone = end_relates layout r tree g (live (leave M p)) with_it M.deques (others (waits_in_return p) M.suspended) c.deques left_of laws (next_in layout r tree K g (live (leave M p)) with_it)

        leaves : Leaves r g
        unfolding end_at
        leaves =
            let some : is_empty (those (waits_in_return p) M.suspended) ≡ false = ap is_empty one_leaves in
            record {
              some = some;
              related = gone.0;
              same_places = gone.1;
              ended = record { before = with_it; after = Permᴰ.refl (live (leave M p)); places = λ n. ap (λ (at : Name → ℕ). at n) gone.1; frames = refl; totals = refl };
              tree = record { disjoint = disjoint_right (those (waits_in_return p) M.suspended) (live (leave M p)) (disjoint_perm split tree.disjoint); rooted = rooted_leave M p tree.rooted tree.disjoint h };
              above = above-leave M p tree.rooted tree.disjoint h some (In-hasFrame p (live M) g lives refl);
            }

        ends_test : ends_too F ≡ true
        ends_test = rw (waits_no_more_lem, eq-eqb F.returning 1 ((r.waiting g i).returning ∙ ap bit n))

      not_returning : g.returning ≡ false → (f : Frame) → In f M.suspended → waits_in_return p f ≡ false
      not_returning n f m = elim (decided (waits_in_return p f)) [
        | inl s ↦ (let x = both (same f.name p) f.returning s in
            let one = one_named M.suspended disjoint_waiting f g m i (same_eq f.name p x.0) in
            absurd (true≢false (sym x.1 ∙ ap (λ (z : Frame). z.returning) one ∙ n)))
        | inr s ↦ s
      ]

    -- ---- its child k has ended on worker w

    module _ (w : ℕ) (lt : w < length M.deques) (idle : deque M w ≡ []) (k : ℕ) where
      abbrev result : StepResult
      result = upwardOn layout (suc (length p)) c w (r.at p)

      abbrev Done : Type 0
      Done = Went r (upward M w (k ∷ p)) (outcome_upward M (k ∷ p)) result

      stays : waits_no_more F ≡ false → upward M w (k ∷ p) ≡ M → outcome_upward M (k ∷ p) ≡ 1 → Done
      stays e m o = went_as r m o (up_stays (length p) c w (r.at p) e) (record { related = r; ends = stops (keeps_same layout r); answered = refl })

      with_child_lem : has_child p (live M) ≡ true → Done
      with_child_lem h = stays (rw (childless, h) (and-false (eqb F.suspended 1))) (rw h) (rw h)
        where
          and-false : (b : Bool) → (b && false) ≡ false
          and-false true = refl
          and-false false = refl

      -- it runs
      runs : has_child p (live M) ≡ false → In g (joined M.deques) → Done
      runs h i =
          let a = those-none (waits_in_return p) M.suspended (none (waits_in_return p) (λ f s. same_eq f.name p (both _ _ s).0)) in
          let b = those-none (waits_at_sync p) M.suspended (none (waits_at_sync p) (λ f s. same_eq f.name p (both _ _ s).0)) in
          let o = others-all (waits_at_sync p) M.suspended (none (waits_at_sync p) (λ f s. same_eq f.name p (both _ _ s).0)) in
          let still : set M.deques w [] ≡ M.deques = ap (set M.deques w) (sym idle) ∙ set-get_or M.deques w [] in
          stays (rw (ne_eqb F.suspended 1 (λ z. omega (arith, z, (r.running g i).suspended)))) (rw (h, a, b, o, still)) (rw (h, a, b))
        where
          none : (t : Frame → Bool) → ((f : Frame) → t f ≡ true → f.name ≡ p) → (f : Frame) → In f M.suspended → t f ≡ false
          none t n f m = elim (decided (t f)) [ inl s ↦ absurd (disjoint_apart M.suspended (joined M.deques) tree.disjoint f g m i (n f s)) | inr s ↦ s ]

      -- it waits at its sync
      at_sync : (h : has_child p (live M) ≡ false) (i : In g M.suspended) → g.returning ≡ false → Done
      at_sync h i n =
          let one = those_one (waits_at_sync p) M.suspended g disjoint_waiting i (rw (same_refl p, n)) (λ f s. same_eq f.name p (both _ _ s).0) in
          let a = those-none (waits_in_return p) M.suspended (not_returning h i n) in
          let e = up_resumes (length p) c w (r.at p) (waits_no_more_lem h i) (ne_eqb F.returning 1 (λ z. omega (arith, z, (r.waiting g i).returning, ap bit n))) in
          let away : upward M w (k ∷ p) ≡ resume M w p = rw (h, a) in
          let two : outcome_upward M (k ∷ p) ≡ 2 = rw (h, a, one) in
          went_as r away two e (record { related = resumes-frame layout r w lt idle g i one laws; ends = stops (resumes_keeps layout r w lt idle g i one laws); answered = refl })

      -- it waits in its return, and ends
      in_return : (h : has_child p (live M) ≡ false) (i : In g M.suspended) → g.returning ≡ true
          → ((M' : Machine) (c' : Core) (r' : Relates layout P M' c') → TreeLaws layout c'.head.numbers.nodes M'.splitters P → FrameTree M' → Links c'.frames r'.at (live M') → w < length M'.deques → deque M' w ≡ [] → Above (live M') p
          → Went r' (upward M' w p) (outcome_upward M' p) (upwardOn layout (length p) c' w (parent_place r'.at p)))
          → Done
      in_return h i n next =
          let L = leaves h i n in
          let some = L.some in
          let W : Went L.related (upward (leave M p) w p) (outcome_upward (leave M p) p) (upwardOn layout (length p) (end_at layout c (r.at p)) w (parent_place L.related.at p)) =
          next (leave M p) (end_at layout c (r.at p)) L.related (end_laws c (r.at p) laws) L.tree (links_end layout r tree K g (live (leave M p)) L.ended.before L.related L.ended h) lt idle L.above in
          let up : F.parent ≡ parent_place L.related.at p = (r.waiting g i).parent ∙ ap (λ (at : Name → ℕ). parent_place at p) (sym L.same_places) in
          let is : result ≡ upwardOn layout (length p) (end_at layout c (r.at p)) w (parent_place L.related.at p) = up_ends (length p) c w (r.at p) (ends_test h i n) ∙ ap (upwardOn layout (length p) (end_at layout c (r.at p)) w) up in
          let away : upward M w (k ∷ p) ≡ upward (leave M p) w p = rw (h, some) in
          let told : outcome_upward M (k ∷ p) ≡ outcome_upward (leave M p) p = rw (h, some) in
          went_as r away told is (record { related = W.related; ends = ends_then g (live (leave M p)) tree h L.ended W.ends; answered = W.answered })

  pub upward_relates : (P : Trees) (n : Name) (M : Machine) (c : Core) (r : Relates layout P M c) → TreeLaws layout c.head.numbers.nodes M.splitters P → FrameTree M → Links c.frames r.at (live M)
      → (w : ℕ) → w < length M.deques → deque M w ≡ [] → Above (live M) n → Went r (upward M w n) (outcome_upward M n) (upwardOn layout (length n) c w (parent_place r.at n))
  unfolding upwardOn
  upward_relates P [] M c r laws tree K w lt idle a = record { related = r; ends = stops (keeps_same layout r); answered = refl }
  upward_relates P (k ∷ p) M c r laws tree K w lt idle a =
      let x = has_frame_In p (live M) a in
      let g = x.0 in
      subst (λ (z : Name). Went r (upward M w (k ∷ z)) (outcome_upward M (k ∷ z)) (upwardOn layout (suc (length z)) c w (r.at z))) x.2
      (elim (decided (has_child g.name (live M))) [
        | inl h ↦ with_child_lem r laws tree K g x.1 w lt idle k h
        | inr h ↦ elim (In-cases M.suspended x.1) [
          | inl i ↦ elim (decided g.returning) [
            | inl n ↦ in_return r laws tree K g x.1 w lt idle k h i n
                (subst (λ (z : Name). (M' : Machine) (c' : Core) (r' : Relates layout P M' c') → TreeLaws layout c'.head.numbers.nodes M'.splitters P → FrameTree M' → Links c'.frames r'.at (live M') → w < length M'.deques → deque M' w ≡ []
                → Above (live M') z → Went r' (upward M' w z) (outcome_upward M' z) (upwardOn layout (length z) c' w (parent_place r'.at z))) (sym x.2)
                (λ M' c' r' laws' tree' K' lt' idle' a'. upward_relates P p M' c' r' laws' tree' K' w lt' idle' a'))
            | inr n ↦ at_sync r laws tree K g x.1 w lt idle k h i n
          ]
          | inr i ↦ runs r laws tree K g x.1 w lt idle k h i
        ]
      ])

  -- a frame that ends too has no live child, is suspended and returning
  ends_facts : {P : Trees} {M : Machine} {c : Core} (r : Relates layout P M c) (g : Frame) → In g (live M) → ends_too (frame_at c.frames (r.at g.name)) ≡ true
      → (has_child g.name (live M) ≡ false) × In g M.suspended × (g.returning ≡ true)
  ends_facts {P} {M} {c} r g m e =
      let F = frame_at c.frames (r.at g.name) in
      let x = both (waits_no_more F) (eqb F.returning 1) e in
      let y = both (eqb F.suspended 1) (eqb F.outstanding 0) x.0 in
      let word : (v k : ℕ) → eqb v k ≡ true → v ≡ k = λ v k t. eqb→eq v k (true→T t) in
      let R = (recorded layout r g m).1 in
      let childless : has_child g.name (live M) ≡ false =
      elim (decided (has_child g.name (live M))) [
        | inl t ↦ absurd (parent_count g.name (live M) t (sym R.outstanding ∙ word F.outstanding 0 y.1))
        | inr t ↦ t
      ] in
      let mark : g.returning ≡ true =
      elim (decided g.returning) [
        | inl t ↦ t
        | inr t ↦ absurd (omega (arith, word F.returning 1 x.1, R.returning, ap bit t))
      ] in
      let waits : In g M.suspended =
      elim (In-cases M.suspended m) [
        | inl i ↦ i
        | inr i ↦ absurd (omega (arith, word F.suspended 1 y.0, (r.running g i).suspended))
      ] in
      (childless, waits, mark)

  -- what holds at the end of Main, and of a frame if it holds at its parent, should this end too, holds of all ends upward
  module _ (P : Trees) (T : ℕ → Core → ℕ → Type 0) (stop : (c : Core) (q : ℕ) → T 0 c q)
      (turn : (M : Machine) (c : Core) (r : Relates layout P M c) → TreeLaws layout c.head.numbers.nodes M.splitters P → FrameTree M → (g : Frame) → In g (live M)
      → (ends_too (frame_at c.frames (r.at g.name)) ≡ true → T (length g.name) (end_at layout c (r.at g.name)) (parent_place r.at g.name))
      → T (suc (length g.name)) c (r.at g.name)) where
    pub upward_by : (n : Name) (M : Machine) (c : Core) (r : Relates layout P M c) → TreeLaws layout c.head.numbers.nodes M.splitters P → FrameTree M → Links c.frames r.at (live M) → Above (live M) n → T (length n) c (parent_place r.at n)
    upward_by [] M c r laws tree K a = stop c (parent_place r.at [])
    upward_by (k ∷ p) M c r laws tree K a =
        let x = has_frame_In p (live M) a in
        let g = x.0 in
        subst (λ (z : Name). T (suc (length z)) c (r.at z)) x.2
        (turn M c r laws tree g x.1 (λ e.
        let y = ends_facts r g x.1 e in
        let L = leaves r laws tree K g x.1 y.0 y.1 y.2 in
        subst (λ (at : Name → ℕ). T (length g.name) (end_at layout c (r.at g.name)) (parent_place at g.name)) L.same_places
        (subst (λ (z : Name). (M' : Machine) (c' : Core) (r' : Relates layout P M' c') → TreeLaws layout c'.head.numbers.nodes M'.splitters P → FrameTree M' → Links c'.frames r'.at (live M') → Above (live M') z → T (length z) c' (parent_place r'.at z)) (sym x.2)
        (λ M' c' r' l' t' K' a'. upward_by p M' c' r' l' t' K' a')
        (leave M g.name) (end_at layout c (r.at g.name)) L.related (end_laws c (r.at g.name) laws) L.tree
        (links_end layout r tree K g (live (leave M g.name)) L.ended.before L.related L.ended y.0) L.above)))

  -- ---- the bottom frame q of worker w returns; above it is d

  module _ {P : Trees} {M : Machine} {c : Core} (r : Relates layout P M c) (laws : TreeLaws layout c.head.numbers.nodes M.splitters P) (tree : FrameTree M) (K : Links c.frames r.at (live M))
      (w : ℕ) (q : Frame) (d : List Frame) (lt : w < length M.deques) (e : deque M w ≡ q ∷ d) where
    own : Recorded c.frames r.at (live M) 0 q
    own = acting_record layout r w q d lt e

    abbrev R : List Frame
    R = d ++ rest M w

    before : Permᴰ (live M) (q ∷ R)
    before = live_at_lem M w (q ∷ d) lt e

    abbrev Returns : StepResult → Type 0
    Returns s = (r' : Relates layout P (after_action M w (q ∷ d) return) s.core) × EndsInTurn layout r r' × (answer_words s.answer ≡ action_answer M w (q ∷ d) return)

    outstanding_is : (acting_in c w).outstanding ≡ child_count q.name (live M)
    outstanding_is = ap (λ (f : FrameRecord). f.outstanding) (acting-frame layout r w q d lt e) ∙ own.outstanding

    -- "A return with a live child now suspends the frame as returning"
    waits : has_child q.name (live M) ≡ true → Returns (return_on layout c w)
    unfolding return_on
    waits h =
        let t = ne_eqb (acting_in c w).outstanding 0 (λ z. parent_count q.name (live M) h (sym outstanding_is ∙ z)) in
        rw (h, t, acting-frame layout r w q d lt e) (suspends layout r w q d lt e true laws, stops (suspends_keeps layout r w q d lt e true laws), refl)

    -- ---- it ends

    module _ (h : has_child q.name (live M) ≡ false) where
      abbrev M₁ : Machine
      M₁ = with_deque M w d

      abbrev c₁ : Core
      c₁ = end_at layout (popped c w) (r.at q.name)

      left : Left layout r R (set M.deques w d) M.suspended (pop c.deques w)
      left =
          let few = worker_few layout r w q d lt e in
          let S = r.formed.shaped in
          record {
            workers = length-set M.deques w d;
            frames = live_with M w d lt;
            shaped = pop-shaped c.deques w S few;
            deques = lists_with r.at (pop c.deques w) M.deques w d lt (pop_list c.deques w S few ∙ ap tail (acting-deque layout r w q d lt e))
                (λ v b n. list_elsewhere S (pop_elsewhere c.deques w S few) v b n ∙ r.deques v b);
            running = λ f m. elim (In-cases d (In-perm (joined-set M.deques w d lt) m)) [
              | inl i ↦ (In-left (rest M w) i, above_runs layout r w q d e f i)
              | inr i ↦ (In-right d (In-right M.suspended i), in_rest M.deques w i)
            ];
            waiting = λ f m. (In-right d (In-left (joined (set M.deques w [])) m), m);
          }

      E : (r' : Relates layout P M₁ c₁) × (r'.at ≡ r.at)
      E = end_relates layout r tree q R before (set M.deques w d) M.suspended (pop c.deques w) left laws (next_in layout r tree K q R before)

      ended : Ended layout r E.0 q R
      unfolding end_at
      ended = record { before = before; after = live_with M w d lt; places = λ n. ap (λ (at : Name → ℕ). at n) E.1; frames = refl; totals = refl }

      links-left : Links c₁.frames E.0.at (live M₁)
      links-left = links_end layout r tree K q R before E.0 ended h

      live-left : Permᴰ (live M₁) R
      live-left = live_with M w d lt

      tree-left : FrameTree M₁
      tree-left = record {
        disjoint = disjoint_perm (Permᴰ.symm live-left) (disjoint_perm before tree.disjoint).1;
        rooted = rooted_perm (Permᴰ.symm live-left) (rooted_without q R (has_child_perm q.name before h) (rooted_perm before tree.rooted));
      }

      above-left : Above (live M₁) q.name
      above-left = by_name q.name refl
        where
          by_name : (n : Name) → q.name ≡ n → Above (live M₁) n
          by_name [] z = elim (decided (has_frame [] (live M₁))) [
            | inl t ↦ (let g = has_frame_In [] (live M₁) t in absurd (names_apart q g.0 R (disjoint_perm before tree.disjoint) (In-perm live-left g.1) (z ∙ sym g.2)))
            | inr t ↦ t
          ]
          by_name (k ∷ p) z =
              let x = tree.rooted q (In-perm (Permᴰ.symm before) (here refl)) k p z in
              elim (In-cons (In-perm before x.1)) [
                | inl y ↦ absurd (omega (arith, ap length z, ap length x.2, ap (λ (f : Frame). length f.name) y))
                | inr i ↦ In-hasFrame p (live M₁) x.0 (In-perm (Permᴰ.symm live-left) i) x.2
              ]

      size-left : size (pop c.deques w) w ≡ length d
      size-left =
          sym (list_length (pop c.deques w) w)
          ∙ ap length (left.deques w (worker_few layout r w q d lt e) ∙ ap (places_of r.at) (get_or-set_same M.deques w d [] lt))
          ∙ length-map d (λ (f : Frame). r.at f.name)

      no_child : eqb (acting_in c w).outstanding 0 ≡ true
      no_child = eq-eqb (acting_in c w).outstanding 0 (outstanding_is ∙ childless_count q.name (live M) h)

      -- on an empty deque the ends go on upward
      bottom_is : length d ≡ 0 → end_bottom layout c w ≡ upwardOn layout (length q.name) c₁ w (parent_place r.at q.name)
      unfolding end_bottom end_at
      bottom_is z =
          rw (eq-eqb (size (pop c.deques w) w) 0 (size-left ∙ z), acting-place layout r w q d lt e, own.depth, own.parent)

      above_is : length d ≢ 0 → end_bottom layout c w ≡ returned c₁ Continued
      unfolding end_bottom end_at
      above_is z = rw (ne_eqb (size (pop c.deques w) w) 0 (λ y. z (sym size-left ∙ y)), acting-place layout r w q d lt e)

      ends_is : return_on layout c w ≡ end_bottom layout c w
      unfolding return_on
      ends_is = rw no_child

      ended_empty : d ≡ [] → after_end M w q d ≡ upward M₁ w q.name
      ended_empty z = subst (λ (l : List Frame). after_end M w q l ≡ upward (with_deque M w l) w q.name) (sym z) refl

      ended-rest : (x : Frame) (l : List Frame) → d ≡ x ∷ l → after_end M w q d ≡ M₁
      ended-rest x l z = subst (λ (y : List Frame). after_end M w q y ≡ with_deque M w y) (sym z) refl

      laws_left : TreeLaws layout c₁.head.numbers.nodes M₁.splitters P
      unfolding end_at
      laws_left = laws

      -- the result of the end is the return's
      as_return : {N : Machine} {s : StepResult} → after_end M w q d ≡ N → return_on layout c w ≡ s → (r' : Relates layout P N s.core) → EndsInTurn layout E.0 r' → answer_words s.answer ≡ (102, end_outcome (after_end M w q d) w d) → Returns (return_on layout c w)
      as_return {N} {s} is e r' T a =
          let back : (r'' : Relates layout P (after_end M w q d) s.core) × EndsInTurn layout r r'' = subst (λ (O : Machine). (r'' : Relates layout P O s.core) × EndsInTurn layout r r'') (sym is) (r', ends_then q R tree h ended T) in
          rw (h, e) (back.0, back.1, a)

      on_empty : d ≡ [] → Returns (return_on layout c w)
      on_empty z =
          let idle : deque M₁ w ≡ [] = get_or-set_same M.deques w d [] lt ∙ z in
          let lt₁ : w < length M₁.deques = omega (arith, lt, length-set M.deques w d) in
          let W = subst (λ (at : Name → ℕ). Went E.0 (upward M₁ w q.name) (outcome_upward M₁ q.name) (upwardOn layout (length q.name) c₁ w (parent_place at q.name))) E.1
          (upward_relates P q.name M₁ c₁ E.0 laws_left tree-left links-left w lt₁ idle above-left) in
          let o = outcome-upward M₁ w q.name lt₁ idle tree-left.rooted tree-left.disjoint above-left in
          let is : after_end M w q d ≡ upward M₁ w q.name = ended_empty z in
          as_return is (ends_is ∙ bottom_is (ap length z)) W.related W.ends (W.answered ∙ ap (λ (x : ℕ). (102, x)) (sym o ∙ sym (ap₂ (λ (N : Machine) (l : List Frame). end_outcome N w l) is z)))

      on_rest : (x : Frame) (l : List Frame) → d ≡ x ∷ l → Returns (return_on layout c w)
      on_rest x l z =
          let is : after_end M w q d ≡ M₁ = ended-rest x l z in
          let m : In x (live M₁) = In-perm (Permᴰ.symm live-left) (In-left (rest M w) (subst (λ (y : List Frame). In x y) (sym z) (here refl))) in
          let main = main_there (live M₁) tree-left.rooted x.name (In-hasFrame x.name (live M₁) x m refl) in
          as_return is (ends_is ∙ above_is (λ y. omega (arith, y, ap length z))) E.0 (stops (keeps_same layout E.0))
          (ap (λ (y : ℕ). (102, y)) (sym (ap₂ (λ (N : Machine) (y : List Frame). end_outcome N w y) is z ∙ rw main)))

      returns-left : Returns (return_on layout c w)
      returns-left = by_deque d refl
        where
          by_deque : (l : List Frame) → d ≡ l → Returns (return_on layout c w)
          by_deque [] z = on_empty z
          by_deque (x ∷ l) z = on_rest x l z

  -- what holds of all ends upward holds after the first
  pub ends_by : (P : Trees) (T : ℕ → Core → ℕ → Type 0) → ((c : Core) (q : ℕ) → T 0 c q)
      → ((M : Machine) (c : Core) (r : Relates layout P M c) → TreeLaws layout c.head.numbers.nodes M.splitters P → FrameTree M → (g : Frame) → In g (live M)
      → (ends_too (frame_at c.frames (r.at g.name)) ≡ true → T (length g.name) (end_at layout c (r.at g.name)) (parent_place r.at g.name))
      → T (suc (length g.name)) c (r.at g.name))
      → (M : Machine) (c : Core) (r : Relates layout P M c) → TreeLaws layout c.head.numbers.nodes M.splitters P → FrameTree M → Links c.frames r.at (live M)
      → (w : ℕ) (q : Frame) (d : List Frame) (lt : w < length M.deques) (e : deque M w ≡ q ∷ d) → has_child q.name (live M) ≡ false
      → T (length q.name) (end_at layout (popped c w) (r.at q.name)) (parent_place r.at q.name)
  ends_by P T stop turn M c r laws tree K w q d lt e h =
      let x = E r laws tree K w q d lt e h in
      let c₁ = end_at layout (popped c w) (r.at q.name) in
      subst (λ (at : Name → ℕ). T (length q.name) c₁ (parent_place at q.name)) x.1
      (upward_by P T stop turn q.name (with_deque M w d) c₁ x.0 (laws_left r laws tree K w q d lt e h) (tree-left r laws tree K w q d lt e h) (links-left r laws tree K w q d lt e h) (above-left r laws tree K w q d lt e h))

  pub sim_return : (P : Trees) (M : Machine) (c : Core) (w : ℕ) → TreeLaws layout c.head.numbers.nodes M.splitters P → FrameTree M → Passes M (acting w return) → (r : Relates layout P M c) → Links c.frames r.at (live M)
      → (r' : Relates layout P (after_turn M (acting w return)) (return_on layout c w).core) × EndsInTurn layout r r' × (answer_words (return_on layout c w).answer ≡ turn_answer M (acting w return))
  sim_return P M c w laws tree h r K =
      let x = acts M w return h in
      subst (λ (z : List Frame). (r' : Relates layout P (after_action M w z return) (return_on layout c w).core) × EndsInTurn layout r r' × (answer_words (return_on layout c w).answer ≡ action_answer M w z return)) (sym x.at)
      (elim (decided (has_child x.actor.name (live M))) [
        | inl t ↦ waits r laws tree K w x.actor x.above x.worker x.at t
        | inr t ↦ returns-left r laws tree K w x.actor x.above x.worker x.at t
      ])
