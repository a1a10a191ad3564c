-- The end of a frame: its place is the first free one, its parent has a live child less, its tree is released, and the other frames
-- stand as they stood.
use Rattle.std.specs.Prelude.{◌≡◌, refl, ◌≢◌, cond, ℕ, ◌+◌, ◌<◌, length, get_or}
use Rattle.std.proofs.Common.{sym, ap, ◌∙◌, subst, inl, inr, eq-eqb, ne_eqb, arith}
use mathlib.Core.List.Memᴰ.{cases_cons as In-cons}
use mathlib.Core.List.Memᴰ.{head as here}
use mathlib.Core.List.Memᴰ.{map as In-map}
use mathlib.Core.List.Memᴰ.{tail as there}
use mathlib.Core.List.{Memᴰ as In}
use mathlib.Core.List.Permᴰ
use mathlib.Core.List.{List, [], ◌∷◌, Permᴰ}
use Rattle.std.proofs.Math.Decide.{ℕ_discrete}
use Rattle.words.specs.Basics.{none, joined, same}
use Rattle.words.specs.Tests.{decided}
use Rattle.words.specs.Lists.{In-perm}
use Rattle.words.specs.Distinct.{same_eq, same_ne, same_refl, same_differ}
use Rattle.words.specs.Counting.{δ_other, count, count_cons, hit, miss}
use Rattle.sizes.specs.Sizes.{height}
use Rattle.frames.specs.Deques.{deque_list}
use Rattle.frames.specs.declared.Frame.{Frame as FrameRecord}
use Rattle.frames.specs.Frames.{frame_at, without_child, free_record}
use Rattle.frames.specs.Siblings.{next_after}
use Rattle.frames.specs.Steps.{remove_frame, end_frame}
use Rattle.frames.proofs.Theory.Alike.{Alike, alike_refl}
use Rattle.frames.proofs.Theory.Ends.{end_last, end_alike}
use Rattle.frames.proofs.Theory.Cells.{Shaped}
use Rattle.frames.proofs.Theory.Places.{FreePlaces}
use Rattle.frames.proofs.Theory.Summary.{Ends, end_main, end_child}
use Rattle.model.specs.Machine.{Name, Frame, Machine, live, with_frames, is_child}
use Rattle.model.proofs.Theory.LiveRun.{disjoint_perm}
use Rattle.model.proofs.Theory.FrameTree.{FrameTree, names_apart}
use Rattle.semantics.specs.Core.{Core, table_of, with_free_place, with_free_nodes, totals_after, end_at}
use Rattle.semantics.proofs.Theory.Relation.{Trees, TreeLaws, Kept, parent_place, child_count, places_of, root_of, roots_of, Recorded, TotalsKept, Relates}
use Rattle.semantics.proofs.Theory.Places.{count_perm, child_count_perm, map_cong, PlacedOnce, tree_of, same_numbers, recorded, recorded_as, recorded_kept, placed_inside, placed_taken, placed_apart}
use Rattle.semantics.proofs.Theory.AlikeTables.{relates_alike}
use Rattle.soundness.specs.Layout.{Layout}

module _ (layout : Layout) where
  -- the frame table after the end of g, the others being R
  pub record FramesAfter {P : Trees} {M : Machine} {c : Core} (r : Relates layout P M c) (g : Frame) (R : List Frame) (fs' : List FrameRecord) : Type 0 where
    pub same_length : length fs' ≡ length c.frames
    pub places : FreePlaces fs' (r.at g.name) (r.at g.name ∷ r.gs)
    pub freed : frame_at fs' (r.at g.name) ≡ free_record c.head.numbers.free_place
    pub same_free : (p : ℕ) → 0 < count p r.gs → frame_at fs' p ≡ frame_at c.frames p
    pub same_root : (f : Frame) → In f R → root_of fs' r.at f ≡ root_of c.frames r.at f
    pub kept : (L' : List Frame) → Permᴰ L' R → (f : Frame) → In f R → (s : ℕ) → Recorded c.frames r.at (live M) s f → Recorded fs' r.at L' s f

  module _ {P : Trees} {M : Machine} {c : Core} (r : Relates layout P M c) (tree : FrameTree M) (g : Frame) (R : List Frame) (before : Permᴰ (live M) (g ∷ R)) where
    abbrev own : ℕ
    own = r.at g.name

    abbrev fs' : List FrameRecord
    fs' = remove_frame c.frames c.head.numbers.free_place own

    old : (f : Frame) → In f (g ∷ R) → In f (live M)
    old f m = In-perm (Permᴰ.symm before) m

    taken : (f : Frame) → In f (g ∷ R) → count (r.at f.name) r.gs ≡ 0
    taken f m = placed_taken layout r f (old f m)

    differ : (f h : Frame) → In f (g ∷ R) → In h (g ∷ R) → f.name ≢ h.name → r.at f.name ≢ r.at h.name
    differ f h mf mh = placed_apart layout r f h (old f mf) (old h mh)

    apart : (f : Frame) → In f R → f.name ≢ g.name
    apart f i z = names_apart g f R (disjoint_perm before tree.disjoint) i (sym z)

    own_record : (s : ℕ) × Recorded c.frames r.at (live M) s g
    own_record = recorded layout r g (old g (here refl))

    counts : (n : Name) (L' : List Frame) → Permᴰ L' R → child_count n (live M) ≡ cond (is_child n g.name) 1 0 + child_count n L'
    counts n L' π = omega (arith, child_count_perm n before, child_count_perm n π)

    -- ---- Main

    module _ (main : g.name ≡ []) where
      F : Ends (table_of c) 0 own (deque_list c.deques 0) r.gs (own ∷ [])
      F = end_main (table_of c) 0 own (deque_list c.deques 0) r.gs r.formed refl own_record.1.inside (taken g (here refl)) (own_record.1.parent ∙ ap (parent_place r.at) main)

      main-same : (f : Frame) → In f R → frame_at fs' (r.at f.name) ≡ frame_at c.frames (r.at f.name)
      main-same f i = F.after.records (r.at f.name) (differ f g (there i) (here refl) (apart f i), tt)

      main-after : FramesAfter r g R fs'
      main-after = record {
        same_length = F.after.same_length;
        places = F.after.formed.places;
        freed = F.freed;
        same_free = λ p h. F.after.records p ((λ z. omega (arith, h, taken g (here refl), ap (λ (x : ℕ). count x r.gs) z)), tt);
        same_root = λ f i. ap (λ (G : FrameRecord). G.root) (main-same f i);
        kept = λ L' π f i s.
            recorded_kept c.frames fs' r.at r.at (live M) L' s f F.after.same_length refl (main-same f i) refl
            (omega (arith, counts f.name L' π, miss {b = is_child f.name g.name} (ap (is_child f.name) main)));
      }

    -- ---- a child: h is the parent

    module _ (k : ℕ) (p : Name) (eq : g.name ≡ k ∷ p) (h : Frame) (mh : In h R) (eh : h.name ≡ p) where
      abbrev upper : ℕ
      upper = r.at p

      parent_inside : upper < length c.frames
      parent_inside = subst (λ (n : Name). r.at n < length c.frames) eh (placed_inside layout r h (old h (there mh)))

      parent_taken : count upper (own ∷ r.gs) ≡ 0
      parent_taken =
          subst (λ (n : Name). count (r.at n) (own ∷ r.gs) ≡ 0) eh
          (omega (arith, count_cons (r.at h.name) own r.gs, taken h (there mh), δ_other (r.at h.name) own (differ h g (there mh) (here refl) (apart h mh))))

      X : Ends (table_of c) 0 own (deque_list c.deques 0) r.gs (upper ∷ own ∷ []) × (frame_at fs' upper ≡ without_child (frame_at c.frames upper))
      X = end_child (table_of c) 0 own (deque_list c.deques 0) r.gs r.formed refl own_record.1.inside (taken g (here refl)) upper
          (own_record.1.parent ∙ ap (parent_place r.at) eq) parent_inside parent_taken

      counts_parent : (L' : List Frame) → Permᴰ L' R → child_count p (live M) ≡ 1 + child_count p L'
      counts_parent L' π = omega (arith, counts p L' π, hit {b = is_child p g.name} (ap (is_child p) eq ∙ same_refl p))

      counts_other : (n : Name) → n ≢ p → (L' : List Frame) → Permᴰ L' R → child_count n L' ≡ child_count n (live M)
      counts_other n ne L' π = omega (arith, counts n L' π, miss {b = is_child n g.name} (ap (is_child n) eq ∙ same_differ (λ z. ne (sym z))))

      child-same : (f : Frame) → In f R → f.name ≢ p → frame_at fs' (r.at f.name) ≡ frame_at c.frames (r.at f.name)
      child-same f i ne =
          X.0.after.records (r.at f.name)
          (subst (λ (n : Name). r.at f.name ≢ r.at n) eh (differ f h (there i) (there mh) (λ z. ne (z ∙ eh))), (differ f g (there i) (here refl) (apart f i), tt))

      child_free : (z : ℕ) → 0 < count z r.gs → frame_at fs' z ≡ frame_at c.frames z
      child_free z b =
          X.0.after.records z (
            (λ y. omega (arith, b, parent_taken, count_cons upper own r.gs, ap (λ (x : ℕ). count x r.gs) y)),
            ((λ y. omega (arith, b, taken g (here refl), ap (λ (x : ℕ). count x r.gs) y)), tt),
          )

      -- the parent has the name p
      parent_kept : (L' : List Frame) → Permᴰ L' R → (f : Frame) → f.name ≡ p → (s : ℕ) → Recorded c.frames r.at (live M) s f → Recorded fs' r.at L' s f
      parent_kept L' π f z s W =
          recorded_as fs' r.at L' s f (r.at f.name) (without_child (frame_at c.frames (r.at f.name))) refl
          (subst (λ (n : Name). frame_at fs' (r.at n) ≡ without_child (frame_at c.frames (r.at n))) (sym z) X.1)
          (omega (arith, X.0.after.same_length, W.inside)) W.live W.parent W.depth
          (omega (arith, W.outstanding, subst (λ (n : Name). child_count n (live M) ≡ 1 + child_count n L') (sym z) (counts_parent L' π))) W.suspended W.returning

      child-after : FramesAfter r g R fs'
      child-after = record {
        same_length = X.0.after.same_length;
        places = X.0.after.formed.places;
        freed = X.0.freed;
        same_free = child_free;
        same_root = λ f i. elim (decided (same f.name p)) [
          | inl z ↦ subst (λ (n : Name). (frame_at fs' (r.at n)).root ≡ (frame_at c.frames (r.at n)).root) (sym (same_eq f.name p z)) (ap (λ (G : FrameRecord). G.root) X.1)
          | inr z ↦ ap (λ (G : FrameRecord). G.root) (child-same f i (same_ne z))
        ];
        kept = λ L' π f i s W. elim (decided (same f.name p)) [
          | inl z ↦ parent_kept L' π f (same_eq f.name p z) s W
          | inr z ↦ recorded_kept c.frames fs' r.at r.at (live M) L' s f X.0.after.same_length refl (child-same f i (same_ne z)) refl (counts_other f.name (same_ne z) L' π) W
        ];
      }

    -- "Every other live frame has a live parent"
    parent_lives : (k : ℕ) (p : Name) → g.name ≡ k ∷ p → (h : Frame) × In h R × (h.name ≡ p)
    parent_lives k p z =
        let x = tree.rooted g (old g (here refl)) k p z in
        elim (In-cons (In-perm before x.1)) [
          | inl y ↦ absurd (omega (arith, ap length z, ap length x.2, ap (λ (f : Frame). length f.name) y))
          | inr i ↦ (x.0, i, x.2)
        ]

    pub frames-after : FramesAfter r g R fs'
    frames-after = by_name g.name refl
      where
        by_name : (n : Name) → g.name ≡ n → FramesAfter r g R fs'
        by_name [] z = main-after z
        by_name (k ∷ p) z = let h = parent_lives k p z in child-after k p z h.0 h.1 h.2

  -- ---- the next frame in the order of the live frames

  -- the next one after g, which is not Main, is one of the others, R
  abbrev pub NextIn : {P : Trees} {M : Machine} {c : Core} (r : Relates layout P M c) (g : Frame) (R : List Frame) → Type 0
  NextIn {c = c} r g R = (k : ℕ) (p : Name) → g.name ≡ k ∷ p → (n : Frame) × In n R × (next_after c.frames (r.at g.name) ≡ r.at n.name)

  -- ---- the whole: ds and ss are the deques and the suspended frames afterwards, dsw the words of the deques

  pub record Left {P : Trees} {M : Machine} {c : Core} (r : Relates layout P M c) (R : List Frame) (ds : List (List Frame)) (ss : List Frame) (dsw : List ℕ) : Type 0 where
    pub workers : length ds ≡ length M.deques
    pub frames : Permᴰ (live (with_frames M ds ss)) R
    pub shaped : Shaped dsw
    pub deques : (v : ℕ) → v < 8 → deque_list dsw v ≡ places_of r.at (get_or ds v [])
    pub running : (f : Frame) → In f (joined ds) → In f R × In f (joined M.deques)
    pub waiting : (f : Frame) → In f ss → In f R × In f M.suspended

-- the core with other deques
abbrev pub with_deques : Core → List ℕ → Core
with_deques c ds = record { head = c.head; totals = c.totals; deques = ds; frames = c.frames; pool = c.pool }

module _ (layout : Layout) where
  module _ {P : Trees} {M : Machine} {c : Core} (r : Relates layout P M c) (tree : FrameTree M) (g : Frame) (R : List Frame) (before : Permᴰ (live M) (g ∷ R))
      (ds : List (List Frame)) (ss : List Frame) (dsw : List ℕ) (X : Left layout r R ds ss dsw) where
    abbrev M' : Machine
    M' = with_frames M ds ss

    A : FramesAfter layout r g R (fs' layout r tree g R before)
    A = frames-after layout r tree g R before

    abbrev after_table : List FrameRecord
    after_table = fs' layout r tree g R before

    -- the pool after the release of the tree of g
    abbrev pool' : List ℕ × ℕ × ℕ
    pool' = layout.release c.head.numbers.nodes c.head.height c.pool c.head.numbers.free_node c.head.free_count (root_of c.frames r.at g)

    once_left : PlacedOnce (length after_table) r.at (r.at g.name ∷ r.gs) (live M')
    once_left p b =
        let at : Frame → ℕ = λ f. r.at f.name in
        omega (arith, r.once p (omega (arith, A.same_length, b)), count_perm p (Permᴰ.map at before), count_perm p (Permᴰ.map at X.frames), count_cons p (r.at g.name) (places_of r.at R), count_cons p (r.at g.name) r.gs)

    vacant-left : (p : ℕ) → p < length after_table → 0 < count p (r.at g.name ∷ r.gs) → (x : ℕ) × (frame_at after_table p ≡ free_record x)
    vacant-left p b h =
        elim (ℕ_discrete p (r.at g.name)) [
          | yes z ↦ (c.head.numbers.free_place, ap (frame_at after_table) z ∙ A.freed)
          | no z ↦ (let h' : 0 < count p r.gs = omega (arith, h, count_cons p (r.at g.name) r.gs, δ_other p (r.at g.name) z) in
              let o = r.vacant p (omega (arith, A.same_length, b)) h' in (o.0, A.same_free p h' ∙ o.1))
        ]

    roots_left : roots_of after_table r.at R ≡ roots_of c.frames r.at R
    roots_left = map_cong (tree_of after_table r.at) (tree_of c.frames r.at) R (λ f i. ap (λ (x : ℕ). (x, f.history)) (A.same_root f i))

    module _ (laws : TreeLaws layout c.head.numbers.nodes M.splitters P) where
      pool_left : P pool'.0 pool'.1 pool'.2 (roots_of c.frames r.at R)
          × Kept layout (height M.splitters) M.splitters c.pool pool'.0 (roots_of c.frames r.at R)
      pool_left =
          subst (λ (h : ℕ). let p = layout.release c.head.numbers.nodes h c.pool c.head.numbers.free_node c.head.free_count (root_of c.frames r.at g) in
          P p.0 p.1 p.2 (roots_of c.frames r.at R) × Kept layout (height M.splitters) M.splitters c.pool p.0 (roots_of c.frames r.at R)) (sym r.numbers.height_is)
          (laws.return c.pool c.head.numbers.free_node c.head.free_count (tree_of c.frames r.at g) (roots_of c.frames r.at R)
          (laws.perm c.pool c.head.numbers.free_node c.head.free_count (roots_of c.frames r.at (live M)) (roots_of c.frames r.at (g ∷ R))
          (Permᴰ.map (tree_of c.frames r.at) before) r.trees))

      trees_left : P pool'.0 pool'.1 pool'.2 (roots_of after_table r.at (live M'))
      trees_left =
          laws.perm pool'.0 pool'.1 pool'.2
          (roots_of after_table r.at R) (roots_of after_table r.at (live M'))
          (Permᴰ.map (tree_of after_table r.at) (Permᴰ.symm X.frames))
          (subst (P pool'.0 pool'.1 pool'.2) (sym roots_left) pool_left.0)

      values-left : (f : Frame) → In f (live M') → (x : ℕ) → x < M.splitters
          → layout.read (height M.splitters) pool'.0 (root_of after_table r.at f) x ≡ get_or f.values x 0
      values-left f m x b =
          let i = In-perm X.frames m in
          ap (λ (z : ℕ). layout.read (height M.splitters) pool'.0 z x) (A.same_root f i)
          ∙ pool_left.1 (tree_of c.frames r.at f) (In-map (tree_of c.frames r.at) i) x b
          ∙ r.values f (In-perm (Permᴰ.symm before) (there i)) x b

      -- the core with the frame removed, its view not yet handed on
      abbrev removed : Core
      removed = record {
        head = with_free_nodes (with_free_place c.head (r.at g.name)) pool'.1 pool'.2;
        totals = totals_after c (frame_at c.frames (r.at g.name));
        deques = dsw;
        frames = after_table;
        pool = pool'.0;
      }

      own_parent : (frame_at c.frames (r.at g.name)).parent ≡ parent_place r.at g.name
      own_parent = (own_record layout r tree g R before).1.parent

      is_main : g.name ≡ [] → (frame_at c.frames (r.at g.name)).parent ≡ none
      is_main z = own_parent ∙ ap (parent_place r.at) z

      -- its parent is at a place
      not_main : (k : ℕ) (p : Name) → g.name ≡ k ∷ p → (frame_at c.frames (r.at g.name)).parent ≢ none
      not_main k p z m =
          let h = parent_lives layout r tree g R before k p z in
          omega (arith, m, r.formed.few, own_parent ∙ ap (parent_place r.at) z, ap r.at h.2, placed_inside layout r h.0 (old layout r tree g R before h.0 (there h.1)))

      totals_left : TotalsKept removed.totals (live M')
      totals_left = by_name g.name refl
        where
          by_name : (n : Name) → g.name ≡ n → TotalsKept removed.totals (live M')
          by_name [] z = rw (eq-eqb (frame_at c.frames (r.at g.name)).parent none (is_main z))
              (record { long = refl; zero = λ f m y. absurd (apart layout r tree g R before f (In-perm X.frames m) (y ∙ sym z)) })
          by_name (k ∷ p) z = rw (ne_eqb (frame_at c.frames (r.at g.name)).parent none (not_main k p z))
              (record { long = r.totals.long; zero = λ f m y. r.totals.zero f (old layout r tree g R before f (there (In-perm X.frames m))) y })

      abbrev relates_left : Relates layout P (with_frames M ds ss) removed
      relates_left = record {
        at = r.at;
        gs = r.at g.name ∷ r.gs;
        numbers = same_numbers M c removed ds ss X.workers r.numbers refl refl refl refl refl A.same_length;
        formed = record { shaped = X.shaped; few = omega (arith, A.same_length, r.formed.few); places = A.places };
        deques = X.deques;
        running = λ f m. (let x = X.running f m in A.kept (live M') X.frames f x.0 0 (r.running f x.1));
        waiting = λ f m. (let x = X.waiting f m in A.kept (live M') X.frames f x.0 1 (r.waiting f x.1));
        once = once_left;
        vacant = vacant-left;
        totals = totals_left;
        trees = trees_left;
        values = values-left;
      }

      -- the frame table afterwards
      abbrev ended-table : List FrameRecord
      ended-table = end_frame c.frames c.head.numbers.free_place (r.at g.name)

      alike : NextIn layout r g R → Alike after_table ended-table
      alike next = by_name g.name refl
        where
          by_name : (n : Name) → g.name ≡ n → Alike after_table ended-table
          by_name [] z = rw (end_last c.frames c.head.numbers.free_place (r.at g.name) (is_main z)) (alike_refl after_table)
          by_name (k ∷ p) z =
              let x = next k p z in
              let i = In-perm (Permᴰ.symm before) (there x.1) in
              let W = A.kept (live M') X.frames x.0 x.1 (recorded layout r x.0 i).0 (recorded layout r x.0 i).1 in
              end_alike c.frames c.head.numbers.free_place (r.at g.name) (not_main k p z)
              (subst (λ (y : ℕ). y < length c.frames) (sym x.2) (omega (arith, A.same_length, W.inside))) (subst (λ (y : ℕ). (frame_at after_table y).live ≡ 1) (sym x.2) W.live)

      -- the frames that are left keep their places
      pub end_relates : NextIn layout r g R → (r' : Relates layout P (with_frames M ds ss) (end_at layout (with_deques c dsw) (r.at g.name))) × (r'.at ≡ r.at)
      unfolding end_at
      end_relates next = (relates_alike layout relates_left ended-table (alike next), refl)
