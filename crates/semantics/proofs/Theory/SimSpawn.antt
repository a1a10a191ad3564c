-- An accepted spawn of the plain machine is matched by the engine's words: the child stands in the first free place.
use Rattle.std.specs.Prelude.{◌≡◌, refl, ◌≢◌, ◌⊎◌, false, cond, ℕ, suc, ◌<◌, get_or, set}
use Rattle.std.proofs.Math.Path.{sym, ap, subst}
use Rattle.std.proofs.Common.{ap₂, ◌∙◌, inl, inr, arith, length-set, length-append, get_or-set_same, get_or-set_other}
use mathlib.Core.List.Memᴰ.{append_cases as In-cases}
use mathlib.Core.List.Memᴰ.{append_left as In-left}
use mathlib.Core.List.Memᴰ.{append_right as In-right}
use mathlib.Core.List.Memᴰ.{cases_cons as In-cons}
use mathlib.Core.List.Memᴰ.{head as here}
use mathlib.Core.List.Memᴰ.{map as In-map}
use mathlib.Core.List.Memᴰ.{tail as there}
use mathlib.Core.List.{Memᴰ as In}
use mathlib.Core.List.Permᴰ
use mathlib.Core.List.{List, [], ◌∷◌, ◌++◌, cons≢nil, Permᴰ}
use Rattle.std.proofs.Math.Decide.{ℕ_discrete}
use Rattle.std.proofs.Math.ListN.{length}
use Rattle.std.proofs.lemmas.List.{length-map}
use Rattle.words.specs.Basics.{plus, joined, same}
use Rattle.words.specs.Tests.{decided}
use Rattle.words.specs.Lists.{In-perm, perm_length, joined-set}
use Rattle.words.specs.Distinct.{same_refl, same_differ}
use Rattle.words.specs.Counting.{δ_same, count, count_cons, hit, miss}
use Rattle.sizes.specs.Sizes.{height}
use Rattle.frames.specs.Widths.{max_places}
use Rattle.frames.specs.Deques.{deque_list}
use Rattle.frames.specs.declared.Frame.{Frame as FrameRecord}
use Rattle.frames.specs.Frames.{frame_at, free_record, child_of}
use Rattle.frames.specs.Frames.{after_spawn as continued}
use Rattle.frames.specs.Steps.{Table, link_child, add_child}
use Rattle.frames.specs.Steps.{spawn as spawnTable}
use Rattle.frames.proofs.Theory.Alike.{Alike}
use Rattle.frames.proofs.Theory.Links.{link_alike}
use Rattle.frames.proofs.Theory.Cells.{plus_one}
use Rattle.frames.proofs.Theory.Tables.{Formed}
use Rattle.frames.proofs.Theory.Summary.{Spawned, spawn_does as spawned-table}
use Rattle.model.specs.Machine.{Name, Frame, Machine, live, deque, with_deque, has_child}
use Rattle.model.specs.Steps.{spawn, acting, child, after_spawn, after_action, after_turn, action_answer, turn_answer}
use Rattle.model.proofs.Theory.LiveRun.{Disjoint, disjoint_perm}
use Rattle.model.proofs.Theory.Children.{has_child_In}
use Rattle.model.proofs.Theory.Effects.{Passes, acts, rest, live_at_lem, live_with}
use Rattle.model.proofs.Theory.FrameTree.{Rooted, rooted_perm, FrameTree, names_apart}
use Rattle.semantics.specs.Answers.{answer_words}
use Rattle.semantics.specs.Core.{Core, table_of, with_free_place, acting_in, spawn_on}
use Rattle.semantics.proofs.Theory.Relation.{Trees, TreeLaws, Kept, parent_place, child_count, places_of, root_of, roots_of, Recorded, Relates}
use Rattle.semantics.proofs.Theory.Places.{count_perm, child_count_perm, map_cong, joined_at, PlacedOnce, not_head, place-left, child_count_le, childless_count, depth_few, recorded_as, recorded_kept, placed_inside, placed_taken, placed_apart, in_deque_lem, tree_of, same_numbers, worker_few, acting-deque, acting-place, acting-frame, acting_record}
use Rattle.semantics.proofs.Theory.RelationFacts.{bottom-lives as bottom-in}
use Rattle.semantics.proofs.Theory.AlikeTables.{with_frame_table, relates_alike}
use Rattle.soundness.specs.Layout.{Layout}

-- ---- the child's place

-- `at` with the name n at the place g
abbrev placed : (Name → ℕ) → Name → ℕ → Name → ℕ
placed at n g r = cond (same r n) g (at r)

placed_new : (at : Name → ℕ) (n : Name) (g : ℕ) → placed at n g n ≡ g
placed_new at n g = rw (same_refl n)

placed_other : (at : Name → ℕ) (n : Name) (g : ℕ) (r : Name) → r ≢ n → placed at n g r ≡ at r
placed_other at n g r ne = rw (same_differ ne)

module _ (layout : Layout) where
  -- the core after the child is added to the table
  abbrev spawned_core : Core → ℕ → Core
  spawned_core c w =
      let t : Table = add_child (table_of c) w in
      record { head = with_free_place c.head t.free_place; totals = c.totals; deques = t.deques; frames = t.frames; pool = layout.retain c.pool (acting_in c w).root }

  -- what a spawn leaves of the places and records: q, at a place, spawned; fs are the records with the child's elder sibling linked, g is the child's place
  pub record Spawns {P : Trees} {M M' : Machine} {c c' : Core} (r : Relates layout P M c) (r' : Relates layout P M' c') (q : Frame) : Type 0 where
    pub same_length : length c'.frames ≡ length c.frames
    pub bottom-lives : In q (live M)
    pub child-place : r'.at (child q).name ≡ c.head.numbers.free_place
    pub inside : c.head.numbers.free_place < length c.frames
    pub vacant : (frame_at c.frames c.head.numbers.free_place).live ≡ 0
    pub places_kept : (f : Frame) → In f (live M) → r'.at f.name ≡ r.at f.name
    pub from : (f : Frame) → In f (live M') → (f.name ≡ (child q).name) ⊎ ((g : Frame) × In g (live M) × (g.name ≡ f.name))
    pub to : (f : Frame) → In f (live M) → (g : Frame) × In g (live M') × (g.name ≡ f.name)
    pub new_lives : In (child q) (live M')
    pub own : frame_at c'.frames (r.at q.name) ≡ continued (frame_at (link_child c.frames (r.at q.name) c.head.numbers.free_place) (r.at q.name))
    pub new : frame_at c'.frames c.head.numbers.free_place
        ≡ child_of (frame_at (link_child c.frames (r.at q.name) c.head.numbers.free_place) (r.at q.name)) (r.at q.name)
    pub others : (p : ℕ) → p ≢ c.head.numbers.free_place → p ≢ r.at q.name
        → frame_at c'.frames p ≡ frame_at (link_child c.frames (r.at q.name) c.head.numbers.free_place) p
    pub same_totals : c'.totals ≡ c.totals

  -- ---- the step: q spawns, g is the first free place and hs are the others

  module _ {P : Trees} {M : Machine} {c : Core} (r : Relates layout P M c) (tree : FrameTree M) (w : ℕ) (q : Frame) (d : List Frame)
      (lt : w < length M.deques) (e : deque M w ≡ q ∷ d) (few : length (live M) < length c.frames) (g : ℕ) (hs : List ℕ) (eg : r.gs ≡ g ∷ hs) where
    abbrev others : List Frame
    others = d ++ rest M w

    abbrev M' : Machine
    M' = with_deque M w (child q ∷ after_spawn q ∷ d)

    abbrev t' : Table
    t' = add_child (table_of c) w

    abbrev at' : Name → ℕ
    at' = placed r.at (child q).name g

    before : Permᴰ (live M) (q ∷ others)
    before = live_at_lem M w (q ∷ d) lt e

    after : Permᴰ (live M') (child q ∷ after_spawn q ∷ others)
    after = live_with M w (child q ∷ after_spawn q ∷ d) lt

    disjoint : Disjoint (q ∷ others)
    disjoint = disjoint_perm before tree.disjoint

    rooted : Rooted (q ∷ others)
    rooted = rooted_perm before tree.rooted

    old : (f : Frame) → In f (q ∷ others) → In f (live M)
    old f m = In-perm (Permᴰ.symm before) m

    others_few : suc (length others) < max_places
    others_few = omega (arith, few, r.formed.few, perm_length before)

    -- ---- names

    -- the child's name is new
    name_new : (f : Frame) → In f (q ∷ others) → f.name ≢ (child q).name
    name_new f m z =
        elim (In-cons m) [
          | inl y ↦ omega (arith, ap (λ (x : Frame). length x.name) y, ap length z)
          | inr i ↦ disjoint.0 f i (child q).name (inr (inl (refl, omega arith))) (inl (sym z))
        ]

    -- it has no child yet
    no_child : (f : Frame) → In f (child q ∷ after_spawn q ∷ others) → (k : ℕ) → f.name ≢ k ∷ (child q).name
    no_child f (here y) k z = omega (arith, ap (λ (x : Frame). length x.name) y, ap length z)
    no_child f (there (here y)) k z = omega (arith, ap (λ (x : Frame). length x.name) y, ap length z)
    no_child f (there (there i)) k z = let x = rooted f (there i) k (child q).name z in name_new x.0 x.1 x.2

    childless : has_child (child q).name (live M') ≡ false
    childless =
        elim (decided (has_child (child q).name (live M'))) [
          | inl t ↦ (let x = has_child_In (child q).name (live M') t in absurd (no_child x.0 (In-perm after x.1) x.2 x.3))
          | inr t ↦ t
        ]

    apart : (f : Frame) → In f others → f.name ≢ q.name
    apart f i z = names_apart q f others disjoint i (sym z)

    -- ---- places

    new_place : at' (child q).name ≡ g
    new_place = placed_new r.at (child q).name g

    same_place : (f : Frame) → In f (q ∷ others) → at' f.name ≡ r.at f.name
    same_place f m = placed_other r.at (child q).name g f.name (name_new f m)

    same_places : (l : List Frame) → ((f : Frame) → In f l → In f (q ∷ others)) → places_of at' l ≡ places_of r.at l
    same_places l h = map_cong (λ f. at' f.name) (λ f. r.at f.name) l (λ f m. same_place f (h f m))

    same_parent : (f : Frame) → In f (q ∷ others) → parent_place at' f.name ≡ parent_place r.at f.name
    same_parent f m = go f.name refl
      where
        go : (n : Name) → f.name ≡ n → parent_place at' n ≡ parent_place r.at n
        go [] z = refl
        go (k ∷ p) z = let x = rooted f m k p z in placed_other r.at (child q).name g p (λ y. name_new x.0 x.1 (x.2 ∙ y))

    formed : Formed (table_of c) (g ∷ hs)
    formed = subst (Formed (table_of c)) eg r.formed

    once : PlacedOnce (length c.frames) r.at (g ∷ hs) (live M)
    once = subst (λ (z : List ℕ). PlacedOnce (length c.frames) r.at z (live M)) eg r.once

    taken : (f : Frame) → In f (q ∷ others) → count (r.at f.name) (g ∷ hs) ≡ 0
    taken f m = subst (λ (z : List ℕ). count (r.at f.name) z ≡ 0) eg (placed_taken layout r f (old f m))

    g_once : count g hs ≡ 0
    g_once = omega (arith, once g formed.places.1, count_cons g g hs, δ_same g)

    S : Spawned (table_of c) t' w (r.at q.name) g (places_of r.at d) hs
    S =
        spawned-table (table_of c) w (r.at q.name) g (places_of r.at d) hs formed (worker_few layout r w q d lt e) (acting-deque layout r w q d lt e)
        (omega (arith, others_few, length-append d (rest M w), length-map d (λ (f : Frame). r.at f.name))) (placed_inside layout r q (old q (here refl))) (taken q (here refl)) g_once

    places_after : Permᴰ (places_of at' (live M')) (g ∷ places_of r.at (q ∷ others))
    places_after = subst (Permᴰ (places_of at' (live M'))) (ap₂ ◌∷◌ new_place (same_places (q ∷ others) (λ f m. m))) (Permᴰ.map (λ (f : Frame). at' f.name) after)

    once_after : PlacedOnce (length t'.frames) at' hs (live M')
    once_after p b =
        omega (arith, once p (omega (arith, S.after.same_length, b)), count_perm p places_after, count_perm p (Permᴰ.map (λ (f : Frame). r.at f.name) before), count_cons p g (places_of r.at (q ∷ others)), count_cons p g hs)

    vacant-after : (p : ℕ) → p < length t'.frames → 0 < count p hs → (x : ℕ) × (frame_at t'.frames p ≡ free_record x)
    vacant-after p b h =
        let o = r.vacant p (omega (arith, S.after.same_length, b)) (subst (λ (z : List ℕ). 0 < count p z) (sym eg) (omega (arith, count_cons p g hs))) in
        let not_g : p ≢ g = λ z. omega (arith, g_once, ap (λ (x : ℕ). count x hs) z) in
        let not_q : p ≢ r.at q.name = λ z. omega (arith, count_cons p g hs, taken q (here refl), ap (λ (x : ℕ). count x (g ∷ hs)) z) in
        (o.0, S.after.records p (not_g, (not_q, tt)) ∙ o.1)

    deques-after : (v : ℕ) → v < 8 → deque_list t'.deques v ≡ places_of at' (deque M' v)
    deques-after v b =
        elim (ℕ_discrete v w) [
          | yes x ↦ rw (x, get_or-set_same M.deques w (child q ∷ after_spawn q ∷ d) [] lt)
              (S.after.deque ∙ sym (ap₂ ◌∷◌ new_place (same_places (q ∷ d) (λ f m. In-left (rest M w) m))))
          | no x ↦ rw (get_or-set_other M.deques w v (child q ∷ after_spawn q ∷ d) [] x)
              (S.after.deques v b x ∙ r.deques v b ∙ sym (same_places (deque M v) (λ f m. In-perm before (In-right M.suspended (in_deque_lem M.deques v m)))))
        ]

    -- ---- records

    same_record : (f : Frame) → In f others → frame_at t'.frames (r.at f.name) ≡ frame_at c.frames (r.at f.name)
    same_record f i =
        S.after.records (r.at f.name)
        (not_head (r.at f.name) g hs (taken f (there i)), (placed_apart layout r f q (old f (there i)) (old q (here refl)) (apart f i), tt))

    kept : (f : Frame) → In f others → (s : ℕ) → Recorded c.frames r.at (live M) s f → Recorded t'.frames at' (live M') s f
    kept f i s R =
        recorded_kept c.frames t'.frames r.at at' (live M) (live M') s f S.after.same_length (same_place f (there i)) (same_record f i) (same_parent f (there i))
        (omega (arith, child_count_perm f.name after, child_count_perm f.name before, miss {b = same q.name f.name} (same_differ (λ z. apart f i (sym z))))) R

    q_record : Recorded c.frames r.at (live M) 0 q
    q_record = acting_record layout r w q d lt e

    one_more : suc (child_count q.name (live M)) ≡ child_count q.name (live M')
    one_more = omega (arith, child_count_perm q.name after, child_count_perm q.name before, hit {b = same q.name q.name} (same_refl q.name))

    parent_record : Recorded t'.frames at' (live M') 0 (after_spawn q)
    parent_record =
        recorded_as t'.frames at' (live M') 0 (after_spawn q) (r.at q.name) (continued (frame_at c.frames (r.at q.name))) (same_place q (here refl)) S.parent
        (omega (arith, S.after.same_length, q_record.inside)) q_record.live (q_record.parent ∙ sym (same_parent q (here refl))) q_record.depth
        (ap (λ (n : ℕ). plus n 1) q_record.outstanding ∙ plus_one (child_count q.name (live M)) (omega (arith, few, r.formed.few, child_count_le q.name (live M))) ∙ one_more) q_record.suspended q_record.returning

    child-depth : plus (frame_at c.frames (r.at q.name)).depth 1 ≡ suc (length q.name)
    child-depth =
        ap (λ (n : ℕ). plus n 1) q_record.depth ∙ plus_one (length q.name) (omega (arith, few, r.formed.few, depth_few (live M) tree.rooted q (old q (here refl))))

    child_record : Recorded t'.frames at' (live M') 0 (child q)
    child_record =
        recorded_as t'.frames at' (live M') 0 (child q) g (child_of (frame_at c.frames (r.at q.name)) (r.at q.name)) new_place S.child (omega (arith, S.after.same_length, formed.places.1))
        refl (sym (same_place q (here refl))) child-depth (sym (childless_count (child q).name (live M') childless)) refl refl

    running_after : (f : Frame) → In f (joined M'.deques) → Recorded t'.frames at' (live M') 0 f
    running_after f m =
        elim (In-cons (In-perm (joined-set M.deques w (child q ∷ after_spawn q ∷ d) lt) m)) [
          | inl x ↦ subst (Recorded t'.frames at' (live M') 0) (sym x) child_record
          | inr i ↦ elim (In-cons i) [
            | inl x ↦ subst (Recorded t'.frames at' (live M') 0) (sym x) parent_record
            | inr j ↦ kept f (elim (In-cases d j) [ inl x ↦ In-left (rest M w) x | inr x ↦ In-right d (In-right M.suspended x) ]) 0
                (r.running f (In-perm (Permᴰ.symm (joined_at M.deques w (q ∷ d) lt e)) (there j)))
          ]
        ]

    waiting-after : (f : Frame) → In f M.suspended → Recorded t'.frames at' (live M') 1 f
    waiting-after f m = kept f (In-right d (In-left (joined (set M.deques w [])) m)) 1 (r.waiting f m)

    named_from : (f : Frame) → In f (live M') → (f.name ≡ (child q).name) ⊎ ((h : Frame) × In h (live M) × (h.name ≡ f.name))
    named_from f m = elim (In-cons (In-perm after m)) [
      | inl y ↦ inl (ap (λ (z : Frame). z.name) y)
      | inr i ↦ elim (In-cons i) [
        | inl y ↦ inr (q, old q (here refl), ap (λ (z : Frame). z.name) (sym y))
        | inr j ↦ inr (f, old f (there j), refl)
      ]
    ]

    -- ---- trees

    same_root : (f : Frame) → In f others → root_of t'.frames at' f ≡ root_of c.frames r.at f
    same_root f i = ap (λ (p : ℕ). (frame_at t'.frames p).root) (same_place f (there i)) ∙ ap (λ (G : FrameRecord). G.root) (same_record f i)

    parent_root : root_of t'.frames at' (after_spawn q) ≡ root_of c.frames r.at q
    parent_root = ap (λ (p : ℕ). (frame_at t'.frames p).root) (same_place q (here refl)) ∙ ap (λ (G : FrameRecord). G.root) S.parent

    child_root : root_of t'.frames at' (child q) ≡ root_of c.frames r.at q
    child_root = ap (λ (p : ℕ). (frame_at t'.frames p).root) new_place ∙ ap (λ (G : FrameRecord). G.root) S.child

    roots : roots_of t'.frames at' (child q ∷ after_spawn q ∷ others) ≡ tree_of c.frames r.at q ∷ roots_of c.frames r.at (q ∷ others)
    roots =
        ap₂ ◌∷◌ (ap (λ (x : ℕ). (x, q.history)) child_root)
        (ap₂ ◌∷◌ (ap (λ (x : ℕ). (x, q.history)) parent_root)
        (map_cong (tree_of t'.frames at') (tree_of c.frames r.at) others (λ f i. ap (λ (x : ℕ). (x, f.history)) (same_root f i))))

    acting_root : (acting_in c w).root ≡ root_of c.frames r.at q
    acting_root = ap (λ (G : FrameRecord). G.root) (acting-frame layout r w q d lt e)

    module _ (laws : TreeLaws layout c.head.numbers.nodes M.splitters P) where
      retained : P (layout.retain c.pool (root_of c.frames r.at q)) c.head.numbers.free_node c.head.free_count (tree_of c.frames r.at q ∷ roots_of c.frames r.at (q ∷ others))
          × Kept layout (height M.splitters) M.splitters c.pool (layout.retain c.pool (root_of c.frames r.at q)) (roots_of c.frames r.at (q ∷ others))
      retained =
          laws.spawn c.pool c.head.numbers.free_node c.head.free_count (tree_of c.frames r.at q) (roots_of c.frames r.at others)
          (omega (arith, others_few, length-map others (tree_of c.frames r.at)))
          (laws.perm c.pool c.head.numbers.free_node c.head.free_count (roots_of c.frames r.at (live M)) (roots_of c.frames r.at (q ∷ others))
          (Permᴰ.map (tree_of c.frames r.at) before) r.trees)

      trees_after : P (layout.retain c.pool (acting_in c w).root) c.head.numbers.free_node c.head.free_count (roots_of t'.frames at' (live M'))
      trees_after =
          rw acting_root
          (laws.perm (layout.retain c.pool (root_of c.frames r.at q)) c.head.numbers.free_node c.head.free_count
          (roots_of t'.frames at' (child q ∷ after_spawn q ∷ others)) (roots_of t'.frames at' (live M')) (Permᴰ.map (tree_of t'.frames at') (Permᴰ.symm after))
          (subst (P (layout.retain c.pool (root_of c.frames r.at q)) c.head.numbers.free_node c.head.free_count) (sym roots) retained.0))

      -- f has the tree and the values of h
      reads : (f h : Frame) → In h (q ∷ others) → root_of t'.frames at' f ≡ root_of c.frames r.at h → f.values ≡ h.values
          → (x : ℕ) → x < M.splitters → layout.read (height M.splitters) (layout.retain c.pool (acting_in c w).root) (root_of t'.frames at' f) x ≡ get_or f.values x 0
      reads f h m er ev x b = rw (acting_root, er, ev) (retained.1 (tree_of c.frames r.at h) (In-map (tree_of c.frames r.at) m) x b ∙ r.values h (old h m) x b)

      values-after : (f : Frame) → In f (live M') → (x : ℕ) → x < M.splitters
          → layout.read (height M.splitters) (layout.retain c.pool (acting_in c w).root) (root_of t'.frames at' f) x ≡ get_or f.values x 0
      values-after f m =
          elim (In-cons (In-perm after m)) [
            | inl y ↦ reads f q (here refl) (ap (root_of t'.frames at') y ∙ child_root) (ap (λ (z : Frame). z.values) y)
            | inr i ↦ elim (In-cons i) [
              | inl y ↦ reads f q (here refl) (ap (root_of t'.frames at') y ∙ parent_root) (ap (λ (z : Frame). z.values) y)
              | inr j ↦ reads f f (there j) (same_root f j) refl
            ]
          ]

      spawn_relates : Relates layout P (after_action M w (q ∷ d) spawn) (spawned_core c w)
      spawn_relates = record {
        at = at';
        gs = hs;
        numbers = same_numbers M c (spawned_core c w) M'.deques M.suspended (length-set M.deques w (child q ∷ after_spawn q ∷ d)) r.numbers refl refl refl refl refl S.after.same_length;
        formed = S.after.formed;
        deques = deques-after;
        running = running_after;
        waiting = waiting-after;
        once = once_after;
        vacant = vacant-after;
        totals = record { long = r.totals.long; zero = λ f m z. elim (named_from f m) [ inl y ↦ absurd (cons≢nil (sym y ∙ z)) | inr x ↦ r.totals.zero x.0 x.1 (x.2 ∙ z) ] };
        trees = trees_after;
        values = values-after;
      }

    child-answer : plus (acting_in c w).depth 1 ≡ suc (length q.name)
    child-answer = ap (λ (G : FrameRecord). plus G.depth 1) (acting-frame layout r w q d lt e) ∙ child-depth

    first-place : c.head.numbers.free_place ≡ g
    first-place = formed.places.0

    free_live : (frame_at c.frames g).live ≡ 0
    free_live =
        ap (λ (G : FrameRecord). G.live) (r.vacant g formed.places.1 (subst (λ (z : List ℕ). 0 < count g z) (sym eg) (omega (arith, count_cons g g hs, δ_same g)))).1

    named_to : (f : Frame) → In f (live M) → (h : Frame) × In h (live M') × (h.name ≡ f.name)
    named_to f m = elim (In-cons (In-perm before m)) [
      | inl y ↦ (after_spawn q, In-perm (Permᴰ.symm after) (there (here refl)), ap (λ (z : Frame). z.name) (sym y))
      | inr j ↦ (f, In-perm (Permᴰ.symm after) (there (there j)), refl)
    ]

  -- ---- with the youngest of the other children linked to the new one

  module _ {P : Trees} {M : Machine} {c : Core} (r : Relates layout P M c) (tree : FrameTree M) (w : ℕ) (q : Frame) (d : List Frame)
      (lt : w < length M.deques) (e : deque M w ≡ q ∷ d) (few : length (live M) < length c.frames) (g : ℕ) (hs : List ℕ) (eg : r.gs ≡ g ∷ hs)
      (laws : TreeLaws layout c.head.numbers.nodes M.splitters P) where
    abbrev own_place : ℕ
    own_place = r.at q.name

    -- the records with the new link
    abbrev linked : List FrameRecord
    linked = link_child c.frames own_place c.head.numbers.free_place

    abbrev c₀ : Core
    c₀ = with_frame_table c linked

    alike : Alike c.frames linked
    alike = link_alike c.frames own_place c.head.numbers.free_place

    abbrev r₀ : Relates layout P M c₀
    r₀ = relates_alike layout r linked alike

    few₀ : length (live M) < length linked
    few₀ = omega (arith, few, alike.same_length)

    -- the step is that of the core with the new link
    spawn-core : (spawn_on layout c w).core ≡ spawned_core c₀ w
    unfolding spawn_on spawnTable
    spawn-core = rw (acting-place layout r w q d lt e, (alike.same own_place).root)

    related : Relates layout P (after_action M w (q ∷ d) spawn) (spawned_core c₀ w)
    related = spawn_relates r₀ tree w q d lt e few₀ g hs eg laws

    same_free : c.head.numbers.free_place ≡ g
    same_free = first-place r₀ tree w q d lt e few₀ g hs eg

    spawns : Spawns r related q
    unfolding related spawn_relates
    spawns =
        let S₀ = S r₀ tree w q d lt e few₀ g hs eg in
        record {
          same_length = S₀.after.same_length ∙ alike.same_length;
          bottom-lives = bottom-in layout r w q d e;
          child-place = new_place r₀ tree w q d lt e few₀ g hs eg ∙ sym same_free;
          inside = subst (λ (z : ℕ). z < length c.frames) (sym same_free) (omega (arith, alike.same_length, (formed r₀ tree w q d lt e few₀ g hs eg).places.1));
          vacant = subst (λ (z : ℕ). (frame_at c.frames z).live ≡ 0) (sym same_free) (free_live r tree w q d lt e few g hs eg);
          places_kept = λ f m. same_place r₀ tree w q d lt e few₀ g hs eg f (In-perm (live_at_lem M w (q ∷ d) lt e) m);
          from = named_from r₀ tree w q d lt e few₀ g hs eg;
          to = named_to r₀ tree w q d lt e few₀ g hs eg;
          new_lives = In-perm (Permᴰ.symm (after r₀ tree w q d lt e few₀ g hs eg)) (here refl);
          own = S₀.parent;
          new = subst (λ (z : ℕ). frame_at (add_child (table_of c₀) w).frames z ≡ child_of (frame_at linked own_place) own_place) (sym same_free) S₀.child;
          others = λ p n m. S₀.after.records p (subst (λ (z : ℕ). p ≢ z) same_free n, (m, tt));
          same_totals = refl;
        }

    spawn-answer : answer_words (spawn_on layout c w).answer ≡ action_answer M w (q ∷ d) spawn
    unfolding spawn_on
    spawn-answer = ap (λ (n : ℕ). (101, n)) (child-answer r tree w q d lt e few g hs eg)

    spawned_by : (r' : Relates layout P (after_turn M (acting w spawn)) (spawn_on layout c w).core) × Spawns r r' q × (answer_words (spawn_on layout c w).answer ≡ turn_answer M (acting w spawn))
    spawned_by = rw (e, spawn-core) (related, spawns, spawn-answer)

  pub sim_spawn : (P : Trees) (M : Machine) (c : Core) (w : ℕ) → TreeLaws layout c.head.numbers.nodes M.splitters P → FrameTree M → (h : Passes M (acting w spawn)) → (r : Relates layout P M c)
      → (r' : Relates layout P (after_turn M (acting w spawn)) (spawn_on layout c w).core) × Spawns r r' (acts M w spawn h).actor × (answer_words (spawn_on layout c w).answer ≡ turn_answer M (acting w spawn))
  sim_spawn P M c w laws tree h r =
      let x = acts M w spawn h in
      let q = x.actor in
      let d = x.above in
      let few : length (live M) < length c.frames = subst (λ z. length (live M) < z) r.numbers.table (subst (λ z. z < M.places) (sym (perm_length x.before)) x.allowed) in
      let y = first_free_lem r.gs (place-left (length c.frames) r.at r.gs (live M) r.once few) in
      spawned_by r tree w q d x.worker x.at few y.0 y.1 y.2 laws
    where
      first_free_lem : (gs : List ℕ) → 0 < length gs → (g : ℕ) × (hs : List ℕ) × (gs ≡ g ∷ hs)
      first_free_lem [] b = absurd (omega arith)
      first_free_lem (g ∷ hs) b = (g, hs, refl)
