-- A sound state and pool, however obtained, relate to a plain machine that has what a run's machines have.
use Rattle.std.specs.Prelude.{◌≡◌, refl, ◌⊎◌, true, false, ℕ, zero, suc, ◌+◌, ◌≤◌, ◌<◌, length, get_or, eqb}
use Rattle.std.proofs.Common.{sym, ap, ◌∙◌, subst, inl, inr, arith, eq-eqb, ne_eqb}
use mathlib.Core.List.Memᴰ.{eq_of_singleton as In-one}
use mathlib.Core.List.Memᴰ.{head as here}
use mathlib.Core.List.Memᴰ.{map as In-map}
use mathlib.Core.List.Memᴰ.{not-nil as not-in-nil}
use mathlib.Core.List.Memᴰ.{of_map as In-unmap}
use mathlib.Core.List.{Memᴰ as In}
use mathlib.Core.List.{List, [], ◌∷◌, ◌++◌, map, cons≢nil}
use Rattle.std.proofs.Math.Decide.{dec_lt}
use Rattle.std.proofs.lemmas.List.{length-map}
use Rattle.std.proofs.Math.ListN.{get_or-map, get_or-eq_default}
use Rattle.words.specs.Basics.{joined, count}
use Rattle.words.specs.Counting.{range}
use Rattle.sizes.specs.Sizes.{height, tree_nodes}
use Rattle.pool.specs.Theory.Sharing.{roots_of as treeRoots}
use Rattle.frames.specs.declared.Frame.{Frame as FrameRecord}
use Rattle.frames.specs.Widths.{deque_words}
use Rattle.frames.specs.Deques.{deque_list}
use Rattle.frames.specs.Siblings.{younger, Children}
use Rattle.soundness.specs.Numbers.{total_count}
use Rattle.frames.specs.Frames.{frame_at}
use Rattle.frames.proofs.Theory.Lists.{list_empty}
use Rattle.soundness.specs.declared.Numbers.{Numbers}
use Rattle.soundness.specs.Soundness.{children, count_of_free, sound}
use Rattle.model.specs.Machine.{Frame, Machine, live, deque, main, free_nodes, in_use}
use Rattle.model.proofs.Theory.Bounds.{Sized, Bounded}
use Rattle.model.proofs.Theory.DequeShape.{DequeShape, DequeInvariant}
use Rattle.model.proofs.Theory.FrameTree.{FrameTree}
use Rattle.model.proofs.Theory.FreshMarks.{MarkInvariant}
use Rattle.model.proofs.Theory.Histories.{in_use_within, in_use-none}
use Rattle.model.proofs.Theory.PoolBound.{in_use-main}
use Rattle.semantics.specs.Core.{Core}
use Rattle.semantics.specs.Entries.{head_of}
use Rattle.semantics.proofs.Theory.Relation.{child_count, roots_of, places_of, bit, Recorded, Relates, Links, TotalsKept}
use Rattle.semantics.proofs.Theory.Places.{in_deque_lem}
use Rattle.soundness.proofs.Theory.Sentences.{Lives, FramesFacts, few_places, SoundFacts, sound_facts}
use Rattle.semantics.specs.SoundMachine.{name_of, place_of, frame_of, frames_of, waiting_places, running_places, live_places, machine_of, name_from}
use Rattle.semantics.proofs.Theory.FromSoundNames.{Rooted, rooted_facts, length_name, place_name, parent_name}
use Rattle.semantics.proofs.Theory.FromSoundPlaces.{deque-live, running_of, waiting_of, live_of, of_live, live_one, live-none, live_once, live_short, live_roots_lem, live-children}
use Rattle.semantics.proofs.Theory.FromSoundTree.{AllLive, places_frames, roots_frames, children-frames, disjoint_frames, rooted_frames, waits_frames, shape_frames}
use Rattle.soundness.specs.Layout.{Layout}
use Rattle.semantics.proofs.Theory.Pools.{PoolLaws}

-- ---- lists

length-range : (c a : ℕ) → length (range c a) ≡ c
unfolding range
length-range zero a = refl
length-range (suc c) a = ap suc (length-range c (suc a))

get_d_range : {A : Type 0} (h : ℕ → A) (d : A) (c a x : ℕ) → x < c → get_or (map h (range c a)) x d ≡ h (a + x)
unfolding range
get_d_range h d zero a x b = absurd (omega arith)
get_d_range h d (suc c) a zero b = (let e : a ≡ a + 0 = omega arith in ap h e)
get_d_range h d (suc c) a (suc x) b = (let e : suc a + x ≡ a + suc x = omega arith in get_d_range h d c (suc a) x (omega arith) ∙ ap h e)

pub map-append : {A B : Type 0} (h : A → B) (l m : List A) → map h (l ++ m) ≡ map h l ++ map h m
map-append h [] m = refl
map-append h (x ∷ l) m = ap (λ z. h x ∷ z) (map-append h l m)

joined-map : {A B : Type 0} (h : A → B) (ls : List (List A)) → joined (map (map h) ls) ≡ map h (joined ls)
joined-map h [] = refl
joined-map h (l ∷ ls) = ap (λ z. map h l ++ z) (joined-map h ls) ∙ sym (map-append h l (joined ls))

-- ---- a word that is 0 or 1

word_bit : (x : ℕ) → (x ≡ 0) ⊎ (x ≡ 1) → x ≡ bit (eqb x 1)
word_bit x (inl e) = e ∙ ap bit (sym (ne_eqb x 1 (λ d. omega arith)))
word_bit x (inr e) = e ∙ ap bit (sym (eq-eqb x 1 e))

module _ (layout : Layout) where
  -- ---- the core of numbers, words and records, with the free nodes counted

  abbrev pub counted_core : Numbers → List ℕ → List ℕ → List FrameRecord → List ℕ → Core
  counted_core s ts ds fs ws = record { head = head_of s (count_of_free layout s ws); totals = ts; deques = ds; frames = fs; pool = ws }

-- a frame without a name's number is of depth 0
flat_from : (d : ℕ) (fs : List FrameRecord) (p : ℕ) → name_from d fs p ≡ [] → d ≡ 0
unfolding name_from
flat_from zero fs p e = refl
flat_from (suc d) fs p e = absurd (cons≢nil e)

flat : (fs : List FrameRecord) (p : ℕ) → name_of fs p ≡ [] → (frame_at fs p).depth ≡ 0
flat fs p e = flat_from (frame_at fs p).depth fs p e

module _ (layout : Layout) (pools : PoolLaws layout) where
  -- ---- the machine's lists

  module _ (s : Numbers) (ds : List ℕ) (fs : List FrameRecord) (ws : List ℕ) where
    abbrev M : Machine
    M = machine_of layout s ds fs ws

    abbrev L : List ℕ
    L = live_places s.workers ds fs

    abbrev framed : ℕ → Frame
    framed = frame_of layout s.splitters fs ws

    live-frames : live M ≡ map framed L
    live-frames = ap (λ z. map framed (waiting_places ds fs) ++ z) (joined-map framed (running_places s.workers ds)) ∙ sym (map-append framed (waiting_places ds fs) (joined (running_places s.workers ds)))

    deques_many : length M.deques ≡ s.workers
    deques_many = length-map (running_places s.workers ds) (map framed) ∙ length-map (range s.workers 0) (deque_list ds) ∙ length-range s.workers 0

    deque-some : (w : ℕ) → w < s.workers → deque M w ≡ map framed (deque_list ds w)
    deque-some w b =
        let e : 0 + w ≡ w = omega arith in
        get_or-map (map framed) (running_places s.workers ds) w [] ∙ ap (map framed) (get_d_range (deque_list ds) [] s.workers 0 w b ∙ ap (deque_list ds) e)

    deque-none : (w : ℕ) → s.workers ≤ w → deque M w ≡ []
    deque-none w h = get_or-eq_default M.deques [] {n = w} (omega (arith, deques_many))

    -- ---- what soundness gives

    module _ (ts : List ℕ) (S : SoundFacts layout s ts ds fs ws) where
      abbrev F : FramesFacts s.workers s.free_place ds fs
      F = S.frames

      few : s.workers ≤ 8
      few = S.numbers.workers_le

      R : Rooted fs
      R = rooted_facts (few_places S.numbers) F

      abbrev at : List ℕ → ℕ
      at = place_of R.main

      live_there : AllLive fs L
      live_there p m = live_of F few p m

      recorded : (p z : ℕ) → p < length fs → Lives fs p → (frame_at fs p).suspended ≡ z → Recorded fs at (live M) z (framed p)
      recorded p z b l e =
          let q = place_name fs R p b l in
          record {
            inside = omega (arith, q);
            live = ap (λ k. (frame_at fs k).live) q ∙ l;
            parent = ap (λ k. (frame_at fs k).parent) q ∙ parent_name fs R p b l;
            depth = ap (λ k. (frame_at fs k).depth) q ∙ sym (length_name fs p);
            outstanding =
                ap (λ k. (frame_at fs k).outstanding) q ∙ F.outstanding p b l
                ∙ sym (ap (child_count (name_of fs p)) live-frames ∙ children-frames layout s.splitters fs ws R L live_there p b l ∙ live-children F few p);
            suspended = ap (λ k. (frame_at fs k).suspended) q ∙ e;
            returning = ap (λ k. (frame_at fs k).returning) q ∙ word_bit (frame_at fs p).returning (elim (F.returning p b l) [ inl r ↦ inl r | inr r ↦ inr r.0 ]);
          }

      running_recorded : (f : Frame) → In f (joined M.deques) → Recorded fs at (live M) 0 f
      running_recorded f m =
          let x = In-unmap framed (joined (running_places s.workers ds)) (subst (In f) (joined-map framed (running_places s.workers ds)) m) in
          let l = running_of F few x.0 x.1 in
          subst (Recorded fs at (live M) 0) x.2 (recorded x.0 0 l.0 l.1 (elim (F.placed x.0 l.0 l.1) [ inl r ↦ r.1 | inr r ↦ absurd (omega (arith, l.2, r.0)) ]))

      waiting_recorded : (f : Frame) → In f M.suspended → Recorded fs at (live M) 1 f
      waiting_recorded f m =
          let x = In-unmap framed (waiting_places ds fs) m in
          let l = waiting_of ds fs x.0 x.1 in
          subst (Recorded fs at (live M) 1) x.2 (recorded x.0 1 l.0 l.1 (elim (F.placed x.0 l.0 l.1) [ inl r ↦ absurd (omega (arith, l.2, r.0)) | inr r ↦ r.1 ]))

      deques_places : (w : ℕ) → w < 8 → deque_list ds w ≡ places_of at (deque M w)
      deques_places w b = elim (dec_lt w s.workers) [
        | yes h ↦ sym (ap (places_of at) (deque-some w h) ∙ places_frames layout s.splitters fs ws R (deque_list ds w) (λ p m. deque-live F few w p b m))
        | no h ↦ list_empty ds w (F.absent w b (omega arith)) ∙ ap (places_of at) (sym (deque-none w (omega arith)))
      ]

      once_there : (p : ℕ) → p < length fs → count p F.places.gs + count p (places_of at (live M)) ≡ 1
      once_there p b =
          let e : places_of at (live M) ≡ L = ap (places_of at) live-frames ∙ places_frames layout s.splitters fs ws R L live_there in
          elim (F.places.each p b) [
            | inl h ↦ omega (arith, h.1, ap (count p) e, live_one F few p b h.0)
            | inr h ↦ omega (arith, h.1, ap (count p) e, live-none F few p (λ l. omega (arith, l, ap (λ f. f.live) h.0.1)))
          ]

      trees_there : pools.LiveTrees s.nodes s.splitters ws s.free_node (count_of_free layout s ws) (roots_of fs at (live M))
      trees_there =
          pools.pool_live s.splitters s.nodes S.numbers.nodes_le S.numbers.splitters_positive ws s.free_node _ (roots_of fs at (live M))
          (λ i. live_roots_lem F few i ∙ ap (count i) (sym (ap (λ z. treeRoots (roots_of fs at z)) live-frames ∙ roots_frames layout s.splitters fs ws R L live_there)))
          S.numbers.room S.pool

      values_there : (f : Frame) → In f (live M) → (x : ℕ) → x < s.splitters → layout.read (height s.splitters) ws (frame_at fs (at f.name)).root x ≡ get_or f.values x 0
      values_there f m x b =
          let y = In-unmap framed L (subst (In f) live-frames m) in
          let l = live_there y.0 y.1 in
          let e : 0 + x ≡ x = omega arith in
          let read : ℕ → ℕ = layout.read (height s.splitters) ws (frame_at fs y.0).root in
          subst (λ (g : Frame). layout.read (height s.splitters) ws (frame_at fs (at g.name)).root x ≡ get_or g.values x 0) y.2
          (ap (λ q. layout.read (height s.splitters) ws (frame_at fs q).root x) (place_name fs R y.0 l.0 l.1) ∙ sym (get_d_range read 0 s.splitters 0 x b ∙ ap read e))

      -- the totals are zero while a frame lives
      totals_there : length ts ≡ total_count → TotalsKept ts (live M)
      totals_there tlen = record {
        long = tlen;
        zero = λ f m e.
            let x = In-unmap framed L (subst (In f) live-frames m) in
            let l = live_there x.0 x.1 in
            S.totals x.0 l.0 l.1;
      }

      relates_there : length ts ≡ total_count → length ds ≡ deque_words → Relates layout (pools.LiveTrees s.nodes s.splitters) M (counted_core layout s ts ds fs ws)
      relates_there tlen dlen = record {
        at = at;
        gs = F.places.gs;
        numbers = record {
          workers = sym deques_many;
          workers_positive = omega (arith, deques_many, S.numbers.workers_positive);
          workers_le = omega (arith, deques_many, few);
          splitters = refl;
          splitters_positive = S.numbers.splitters_positive;
          splitters_le = S.numbers.splitters_le;
          height_is = refl;
          enough = S.numbers.enough;
          nodes_le = S.numbers.nodes_le;
          places = sym S.numbers.table;
          places_positive = omega (arith, S.numbers.places_positive, S.numbers.table);
          table = refl;
        };
        formed = record { shaped = record { long = dlen; within = λ w b. omega (arith, F.within w b, few_places S.numbers); zeros = F.zeros }; few = few_places S.numbers; places = F.places.chain };
        deques = deques_places;
        running = running_recorded;
        waiting = waiting_recorded;
        once = once_there;
        vacant = λ p b h. elim (F.places.each p b) [ inl r ↦ absurd (omega (arith, r.1)) | inr r ↦ r.0 ];
        totals = totals_there tlen;
        trees = trees_there;
        values = values_there;
      }

      -- R-5: the links chain the live children of each frame
      links_there : Links fs at (live M)
      links_there = record {
        children = λ f m.
            let x = In-unmap framed L (subst (In f) live-frames m) in
            let l = live_there x.0 x.1 in
            let C = F.siblings x.0 l.0 l.1 in
            (C.0, subst (λ (q : ℕ). Children fs q C.0) (sym (ap (λ (g : Frame). at g.name) (sym x.2) ∙ place_name fs R x.0 l.0 l.1)) C.1);
        main-link = λ f m e.
            let x = In-unmap framed L (subst (In f) live-frames m) in
            let l = live_there x.0 x.1 in
            let there : at f.name ≡ x.0 = ap (λ (g : Frame). at g.name) (sym x.2) ∙ place_name fs R x.0 l.0 l.1 in
            ap (younger fs) there ∙ F.main-link x.0 l.0 l.1 (flat fs x.0 (ap (λ (g : Frame). g.name) x.2 ∙ e));
      }

      tree_there : FrameTree M
      tree_there = record {
        disjoint = rw live-frames (disjoint_frames layout s.splitters fs ws R L live_there (live_once F few));
        rooted = rw live-frames (rooted_frames layout s.splitters fs ws R L live_there (of_live F few));
      }

      shape_there : (v : ℕ) → DequeShape (live M) (deque M v)
      shape_there v = elim (dec_lt v s.workers) [
        | yes h ↦ rw (live-frames, deque-some v h) (shape_frames layout s.splitters fs ws R L live_there (of_live F few) F v (omega (arith, few)))
        | no h ↦ subst (DequeShape (live M)) (sym (deque-none v (omega arith))) (tt, tt)
      ]

      -- a frame in a deque is not suspended, so that it is not returning
      active_there : (v : ℕ) (f : Frame) → In f (deque M v) → f.returning ≡ false
      active_there v f m =
          let i = subst (In f) (joined-map framed (running_places s.workers ds)) (in_deque_lem M.deques v m) in
          let x = In-unmap framed (joined (running_places s.workers ds)) i in
          let l = running_of F few x.0 x.1 in
          let z : (frame_at fs x.0).suspended ≡ 0 = elim (F.placed x.0 l.0 l.1) [ inl r ↦ r.1 | inr r ↦ absurd (omega (arith, l.2, r.0)) ] in
          ap (λ (g : Frame). g.returning) (sym x.2) ∙ ne_eqb (frame_at fs x.0).returning 1 (λ e. elim (F.returning x.0 l.0 l.1) [ inl r ↦ omega arith | inr r ↦ omega (arith, r.1) ])

      deques_there : DequeInvariant M
      deques_there = record {
        shape = shape_there;
        active = active_there;
        waits = λ f m.
            let x = In-unmap framed (waiting_places ds fs) m in
            let l = waiting_of ds fs x.0 x.1 in
            let c : 0 < children fs x.0 = elim (F.placed x.0 l.0 l.1) [ inl r ↦ absurd (omega (arith, l.2, r.0)) | inr r ↦ r.2 ] in
            rw (live-frames, ← x.2) (waits_frames layout s.splitters fs ws R L live_there (of_live F few) x.0 l.0 c);
      }

      marks_there : MarkInvariant (live M)
      marks_there f m v i g k = (let x = In-unmap framed L (subst (In f) live-frames m) in absurd (not-in-nil (subst (λ (g : Frame). In v g.history) (sym x.2) i)))

      bounds_there : Bounded s.splitters (length fs) (live M)
      bounds_there = rw live-frames (
        omega (arith, length-map L framed, live_short F few),
        λ f m.
            let x = In-unmap framed L m in
            let read : ℕ → ℕ = layout.read (height s.splitters) ws (frame_at fs x.0).root in
            subst (Sized s.splitters) x.2 (record { values = length-map (range s.splitters 0) read ∙ length-range s.splitters 0; writes = λ v i. absurd (not-in-nil i) }),
      )

      -- the nodes in use and those on the chain are all that the machine has
      free_count_there : count_of_free layout s ws ≡ free_nodes M
      free_count_there = omega (arith, ap (in_use s.splitters) live-frames)

  -- ---- the theorem

  pub from_sound_lem : (s : Numbers) (ts ds : List ℕ) (fs : List FrameRecord) (ws : List ℕ) → sound layout s ts ds fs ws ≡ true → length ts ≡ total_count → length ds ≡ deque_words
      → let M : Machine = machine_of layout s ds fs ws in
      let c : Core = counted_core layout s ts ds fs ws in
      (r : Relates layout (pools.LiveTrees s.nodes s.splitters) M c) × Links fs r.at (live M) × FrameTree M × DequeInvariant M × MarkInvariant (live M) × Bounded M.splitters M.places (live M) × (c.head.free_count ≡ free_nodes M)
  unfolding relates_there
  from_sound_lem s ts ds fs ws e tlen dlen =
      let S = sound_facts layout s ts ds fs ws e in
      (relates_there s ds fs ws ts S tlen dlen, links_there s ds fs ws ts S, tree_there s ds fs ws ts S, deques_there s ds fs ws ts S, marks_there s ds fs ws ts S, bounds_there s ds fs ws ts S, free_count_there s ds fs ws ts S)

  -- ---- the machine's nodes: a tree's worth while a frame lives, and those on the free chain

  module _ (s : Numbers) (ts ds : List ℕ) (fs : List FrameRecord) (ws : List ℕ) (S : SoundFacts layout s ts ds fs ws) where
    framed_history : (L : List ℕ) (f : Frame) → In f (frames_of layout s.splitters fs ws L) → f.history ≡ []
    framed_history L f m = (let x = In-unmap (frame_of layout s.splitters fs ws) L m in ap (λ (g : Frame). g.history) (sym x.2))

    pub nodes_alive : (p : ℕ) → p < length fs → Lives fs p → (machine_of layout s ds fs ws).nodes ≡ tree_nodes s.splitters + count_of_free layout s ws
    nodes_alive p b l =
        let n = s.splitters in
        let A : List Frame = frames_of layout n fs ws (live_places s.workers ds fs) in
        let vs : List ℕ = range n 0 in
        let B : List Frame = main vs ∷ [] in
        let mine : In (frame_of layout n fs ws p) A = In-map (frame_of layout n fs ws) (of_live S.frames S.numbers.workers_le p b l) in
        omega (
          arith,
          in_use_within n A B (λ f m. (main vs, here refl, framed_history (live_places s.workers ds fs) f m)),
          in_use_within n B A (λ f m. (frame_of layout n fs ws p, mine, ap (λ (g : Frame). g.history) (In-one m))),
          subst (λ k. in_use k B ≡ tree_nodes k) (length-range n 0) (in_use-main vs),
        )

    pub nodes-ended : ((p : ℕ) → p < length fs → Lives fs p → ⊥) → (machine_of layout s ds fs ws).nodes ≡ count_of_free layout s ws
    nodes-ended h = go (live_places s.workers ds fs) (live_of S.frames S.numbers.workers_le)
      where
        go : (L : List ℕ) → AllLive fs L → in_use s.splitters (frames_of layout s.splitters fs ws L) + count_of_free layout s ws ≡ count_of_free layout s ws
        go [] a = omega (arith, in_use-none s.splitters)
        go (p ∷ L) a = absurd (h p (a p (here refl)).0 (a p (here refl)).1)
