-- A step of a sound core: what it leaves relates to the next plain machine, is sound, and the words beyond the nodes stand.
use Rattle.std.specs.Prelude.{◌≡◌, Bool, true, List, ◌∷◌, ◌++◌, ℕ, zero, suc, ◌+◌, ◌-◌, ◌≤◌, ◌<◌, ltb, length, Some}
use Rattle.std.proofs.Math.Path.{refl, subst}
use Rattle.std.proofs.Common.{sym, ap, ap₂, ◌∙◌, inl, inr, arith}
use Rattle.std.proofs.lemmas.List.{length-map}
use Rattle.words.specs.Tests.{decided, ltb_of, nltb_of}
use Rattle.words.specs.Lists.{perm_length}
use Rattle.sizes.specs.Sizes.{height}
use Rattle.frames.specs.declared.Frame.{Frame as FrameRecord}
use Rattle.frames.specs.Widths.{max_places, deque_words}
use Rattle.soundness.specs.declared.Numbers.{Numbers}
use Rattle.soundness.specs.Numbers.{total_count}
use Rattle.soundness.specs.Soundness.{sound, count_of_free}
use Rattle.model.specs.declared.Step.{Step}
use Rattle.model.specs.declared.Step.TheVariants.{Spawn, Return, Steal, Sync, Read, Write, Fold}
use Rattle.model.specs.Machine.{Frame, Machine, live, deque, in_use, free_nodes}
use Rattle.model.specs.Steps.{Action, spawn, return, write, Turn, turn_of, written, after_write, refusal, after_turn, step, answer}
use Rattle.model.proofs.Theory.Effects.{Passes, rest, live_at_lem, live_with, Acts, acts}
use Rattle.model.proofs.Theory.Histories.{in_use_perm, in_use_positive}
use Rattle.model.proofs.Theory.PoolBound.{in_use-written}
use Rattle.model.proofs.Theory.RunSteps.{accepted_or_refused, step_kept, sizes_turn, sizes_step}
use Rattle.model.proofs.Theory.FrameTree.{FrameTree, tree_turn}
use Rattle.model.proofs.Theory.DequeShape.{DequeInvariant}
use Rattle.model.proofs.Theory.Deques.{deques_turn}
use Rattle.model.proofs.Theory.FreshMarks.{MarkInvariant, marks_turn}
use Rattle.model.proofs.Theory.Bounds.{Bounded, bounded_turn}
use Rattle.semantics.specs.Core.{Core, StepResult, acting_in, spawn_on, steal_on, sync_on, read_on, write_on, fold_on, step_on, done_by}
use Rattle.semantics.specs.Entries.{state_of, is_sound, chain_free}
use Rattle.semantics.specs.SoundMachine.{machine_of}
use Rattle.semantics.specs.Calls.{rest_in}
use Rattle.semantics.specs.Demands.{with_nodes, with_free, with_room}
use Rattle.semantics.proofs.Theory.Relation.{Trees, Relates, Links, root_of, roots_of}
use Rattle.semantics.proofs.Theory.Places.{acting-frame, live_few, tree_of}
use Rattle.semantics.proofs.Theory.RelationFacts.{trees_perm}
use Rattle.semantics.proofs.Theory.Pools.{Beyond}
use Rattle.semantics.proofs.Theory.Returning.{return_keeps_beyond}
use Rattle.semantics.proofs.Theory.Refusals.{SameRoom, enough, refused_alike}
use Rattle.semantics.proofs.Theory.Simulation.{Simulates, simulates, numbers_kept}
use Rattle.semantics.proofs.Theory.NumberWords.{numbers_in_lem, totals_in_lem}
use Rattle.semantics.proofs.Theory.ToSound.{to_sound}
use Rattle.semantics.proofs.Theory.Words.{refusal_low}
use Rattle.semantics.proofs.Theory.FromSoundRelates.{counted_core, from_sound_lem}
use Rattle.soundness.specs.Layout.{Layout}
use Rattle.semantics.proofs.Theory.Pools.{PoolLaws}

module _ (layout : Layout) (pools : PoolLaws layout) where
  module _ (M : Machine) (c : Core) (r : Relates layout (pools.LiveTrees c.head.numbers.nodes M.splitters) M c) (K : Links c.frames r.at (live M)) (tree : FrameTree M) (shape : DequeInvariant M) where
    -- ---- the words beyond the nodes

    -- the trees with the acting frame's in front
    front_trees : (a : Action) (w : ℕ) (x : Acts M w a) → pools.LiveTrees c.head.numbers.nodes M.splitters c.pool c.head.numbers.free_node c.head.free_count (roots_of c.frames r.at (x.actor ∷ (x.above ++ rest M w)))
    front_trees a w x = trees_perm layout c.frames r.at (pools.live_laws c.head.numbers.nodes M.splitters r.numbers.nodes_le r.numbers.splitters_positive) x.before r.trees

    root_is : (a : Action) (w : ℕ) (x : Acts M w a) → (acting_in c w).root ≡ root_of c.frames r.at x.actor
    root_is a w x = ap (λ f. f.root) (acting-frame layout r w x.actor x.above x.worker x.at)

    few : (a : Action) (w : ℕ) (x : Acts M w a) → length (roots_of c.frames r.at (x.above ++ rest M w)) < max_places
    few a w x = omega (arith, length-map (x.above ++ rest M w) (tree_of c.frames r.at), perm_length x.before, live_few layout r, r.formed.few)

    done_beyond : (st : Step) → SameRoom layout M c st → Passes M (turn_of st) → Beyond layout c.head.numbers.nodes c.pool (done_by layout c st).core.pool
    unfolding spawn_on steal_on sync_on read_on write_on fold_on
    done_beyond (Spawn w) same h =
        let x = acts M w spawn h in
        subst (λ (z : ℕ). Beyond layout c.head.numbers.nodes c.pool (layout.retain c.pool z)) (sym (root_is spawn w x))
        (pools.spawn_beyond c.head.numbers.nodes M.splitters r.numbers.nodes_le r.numbers.splitters_positive c.pool c.head.numbers.free_node c.head.free_count (tree_of c.frames r.at x.actor)
        (roots_of c.frames r.at (x.above ++ rest M w)) (few spawn w x) (front_trees spawn w x))
    done_beyond (Return w) same h =
        let x = acts M w return h in
        return_keeps_beyond layout pools c.head.numbers.nodes M.splitters r.numbers.nodes_le r.numbers.splitters_positive M c r
        (pools.live_laws c.head.numbers.nodes M.splitters r.numbers.nodes_le r.numbers.splitters_positive) tree K refl r.numbers.height_is w x.actor x.above x.worker x.at
    done_beyond (Steal w v) same h = (refl, refl)
    done_beyond (Sync w) same h = (refl, refl)
    done_beyond (Read w x) same h = (refl, refl)
    done_beyond (Fold w i x) same h = (refl, refl)
    done_beyond (Write w y v) same h =
        let x = acts M w (write y v) h in
        subst (λ (z : ℕ). Beyond layout c.head.numbers.nodes c.pool (layout.write c.head.height c.pool c.head.numbers.free_node c.head.free_count z y v).0) (sym (root_is (write y v) w x))
        (subst (λ (t : ℕ). Beyond layout c.head.numbers.nodes c.pool (layout.write t c.pool c.head.numbers.free_node c.head.free_count (root_of c.frames r.at x.actor) y v).0) (sym r.numbers.height_is)
        (pools.write_beyond c.head.numbers.nodes M.splitters r.numbers.nodes_le r.numbers.splitters_positive c.pool c.head.numbers.free_node c.head.free_count (root_of c.frames r.at x.actor) x.actor.history
        (roots_of c.frames r.at (x.above ++ rest M w)) y v (few (write y v) w x) x.allowed.0 (enough layout r w y v same h) (front_trees (write y v) w x)))

    -- a write takes as many nodes as the rest of its path has
    done_takes : (w y v : ℕ) → SameRoom layout M c (Write w y v) → Passes M (turn_of (Write w y v)) → (write_on layout c w y v).core.head.free_count + rest_in layout c (Some (Write w y v)) ≡ c.head.free_count
    unfolding write_on
    done_takes w y v same h =
        let x = acts M w (write y v) h in
        let k = c.head.free_count in
        let free = c.head.numbers.free_node in
        let root = root_of c.frames r.at x.actor in
        let e = pools.write_takes c.head.numbers.nodes M.splitters r.numbers.nodes_le r.numbers.splitters_positive c.pool free k root x.actor.history
        (roots_of c.frames r.at (x.above ++ rest M w)) y v (few (write y v) w x) x.allowed.0 (enough layout r w y v same h) (front_trees (write y v) w x) in
        subst (λ (z : ℕ). (layout.write c.head.height c.pool free k z y v).2 + layout.rest (height c.head.numbers.splitters) c.pool z y ≡ k) (sym (root_is (write y v) w x))
        (subst (λ (t : ℕ). (layout.write t c.pool free k root y v).2 + layout.rest (height c.head.numbers.splitters) c.pool root y ≡ k) (sym r.numbers.height_is)
        (subst (λ (n : ℕ). (layout.write (height M.splitters) c.pool free k root y v).2 + layout.rest (height n) c.pool root y ≡ k) (sym r.numbers.splitters) e))

    -- ---- refused or accepted

    unchanged : (st : Step) → SameRoom layout M c st → 0 < refusal M st → (step_on layout c st).core ≡ c
    unchanged st same = go (refusal M st) refl
      where
        go : (k : ℕ) → refusal M st ≡ k → 0 < k → (step_on layout c st).core ≡ c
        go zero e h = absurd (omega arith)
        go (suc k) e h = ap (λ d. d.core) ((refused_alike layout r tree shape st same).1 k e).1

    judged_beyond : (st : Step) → SameRoom layout M c st → Beyond layout c.head.numbers.nodes c.pool (step_on layout c st).core.pool
    judged_beyond st same = elim (accepted_or_refused M st) [
      | inl a ↦ subst (λ d. Beyond layout c.head.numbers.nodes c.pool d.core.pool) (sym ((refused_alike layout r tree shape st same).0 a.zero_refusal)) (done_beyond st same a.passes)
      | inr a ↦ subst (λ (d : Core). Beyond layout c.head.numbers.nodes c.pool d.pool) (sym (unchanged st same a.some-refusal)) (refl, refl)
    ]

  -- ---- a core that the machine M follows

  pub record Carried (M : Machine) (c : Core) : Type 0 where
    pub related : Relates layout (pools.LiveTrees c.head.numbers.nodes M.splitters) M c
    pub links : Links c.frames related.at (live M)
    pub tree : FrameTree M
    pub deques : DequeInvariant M
    pub marks : MarkInvariant (live M)
    pub bounds : Bounded M.splitters M.places (live M)
    pub same_free : c.head.free_count ≡ free_nodes M

  -- its numbers, words and records are sound; so is its state
  pub core-sound : {M : Machine} {c : Core} → Carried M c → (sound layout c.head.numbers c.totals c.deques c.frames c.pool ≡ true) × (count_of_free layout c.head.numbers c.pool ≡ c.head.free_count)
  core-sound {M} {c} K = to_sound layout pools M c K.related K.tree K.deques K.links

  pub is_sound_lem : {M : Machine} {c : Core} → Carried M c → (is_sound layout (state_of c) c.pool ≡ true) × (chain_free layout (state_of c) c.pool ≡ c.head.free_count)
  is_sound_lem {M} {c} K =
      let s = c.head.numbers in
      let long = K.related.totals.long in
      rw (numbers_in_lem s c.totals long, totals_in_lem s c.totals long) (core-sound K)

  -- the plain machine of a sound state follows it
  pub sound_carried : (s : Numbers) (ts ds : List ℕ) (fs : List FrameRecord) (ws : List ℕ) → length ts ≡ total_count → length ds ≡ deque_words → sound layout s ts ds fs ws ≡ true → Carried (machine_of layout s ds fs ws) (counted_core layout s ts ds fs ws)
  sound_carried s ts ds fs ws tlen dlen e =
      let F = from_sound_lem layout pools s ts ds fs ws e tlen dlen in
      record { related = F.0; links = F.1; tree = F.2; deques = F.3; marks = F.4; bounds = F.5; same_free = F.6 }

module _ (layout : Layout) where
  -- ---- the machine with other nodes

  -- nothing but refusal 16 and the free nodes speaks of the machine's nodes
  module _ (M : Machine) (N : ℕ) where
    pub relates_nodes : {P : Trees} {c : Core} → Relates layout P M c → Relates layout P (with_nodes M N) c
    relates_nodes r = record {
      at = r.at;
      gs = r.gs;
      numbers = record {
        workers = r.numbers.workers;
        workers_positive = r.numbers.workers_positive;
        workers_le = r.numbers.workers_le;
        splitters = r.numbers.splitters;
        splitters_positive = r.numbers.splitters_positive;
        splitters_le = r.numbers.splitters_le;
        height_is = r.numbers.height_is;
        enough = r.numbers.enough;
        nodes_le = r.numbers.nodes_le;
        places = r.numbers.places;
        places_positive = r.numbers.places_positive;
        table = r.numbers.table;
      };
      formed = r.formed;
      deques = r.deques;
      running = r.running;
      waiting = r.waiting;
      once = r.once;
      vacant = r.vacant;
      totals = r.totals;
      trees = r.trees;
      values = r.values;
    }

    tree-nodes : FrameTree M → FrameTree (with_nodes M N)
    tree-nodes t = record { disjoint = t.disjoint; rooted = t.rooted }

    deques-nodes : DequeInvariant M → DequeInvariant (with_nodes M N)
    deques-nodes d = record { shape = d.shape; active = d.active; waits = d.waits }

module _ (layout : Layout) (pools : PoolLaws layout) where
  pub rebased : (M : Machine) (c : Core) (k : ℕ) (r : Relates layout (pools.LiveTrees c.head.numbers.nodes M.splitters) M c) → Links c.frames r.at (live M) → FrameTree M → DequeInvariant M → MarkInvariant (live M)
      → Bounded M.splitters M.places (live M) → c.head.free_count ≡ k → Carried layout pools (with_free M k) c
  unfolding relates_nodes
  rebased M c k r l t d m b e =
      let N = in_use M.splitters (live M) + k in
      record { related = relates_nodes layout M N r; links = l; tree = tree-nodes layout M N t; deques = deques-nodes layout M N d; marks = m; bounds = b; same_free = omega (arith, e) }

  -- ---- 16: the machine has room for a write just when the pool has it

  module _ (M : Machine) (c : Core) (K : Carried layout pools M c) where
    -- a write adds a path's worth at most, and a frame has some node
    write_adds : (w x v : ℕ) (q : Frame) (d : List Frame) → w < length M.deques → deque M w ≡ q ∷ d
        → (0 < in_use M.splitters (live (after_write M w q d x v))) × (in_use M.splitters (live (after_write M w q d x v)) ≤ in_use M.splitters (live M) + suc (height M.splitters))
    write_adds w x v q d lt e =
        let n = M.splitters in
        let after = in_use_perm n (live_with M w (written q x v ∷ d) lt) in
        let before = in_use_perm n (live_at_lem M w (q ∷ d) lt e) in
        (omega (arith, after, in_use_positive n (written q x v) (d ++ rest M w) K.related.numbers.splitters_positive), omega (arith, after, before, in_use-written n x v q (d ++ rest M w)))

    -- the engine's own number of levels is that of n
    pub own_rest : (w x v : ℕ) → layout.rest c.head.height c.pool (acting_in c w).root x ≡ rest_in layout c (Some (Write w x v))
    own_rest w x v = ap (λ (t : ℕ). layout.rest t c.pool (acting_in c w).root x) (K.related.numbers.height_is ∙ ap height (sym K.related.numbers.splitters))

    -- fewer nodes are free than a write takes
    abbrev pub lacks : Step → Bool
    lacks st = ltb (free_nodes M) (rest_in layout c (Some st))

    same_room : (st : Step) → SameRoom layout (with_room M (lacks st)) c st
    same_room (Spawn w) = tt
    same_room (Return w) = tt
    same_room (Steal w v) = tt
    same_room (Sync w) = tt
    same_room (Read w x) = tt
    same_room (Fold w i x) = tt
    same_room (Write w x v) = λ q d lt e b.
        let g = write_adds w x v q d lt e in
        ap₂ ltb K.same_free (own_rest w x v)
        ∙ elim (decided (lacks (Write w x v))) [
          | inl s ↦ rw s (sym (ltb_of g.0))
          | inr s ↦ rw s (sym (nltb_of g.1))
        ]

    -- the relation and the links with that room
    abbrev pub related_roomed : (st : Step) → Relates layout (pools.LiveTrees c.head.numbers.nodes M.splitters) (with_room M (lacks st)) c
    related_roomed st = relates_nodes layout M (with_room M (lacks st)).nodes K.related

    links-roomed : (st : Step) → Links c.frames (related_roomed st).at (live M)
    unfolding relates_nodes
    links-roomed st = K.links

    pub step_beyond : (st : Step) → Beyond layout c.head.numbers.nodes c.pool (step_on layout c st).core.pool
    step_beyond st =
        let N = (with_room M (lacks st)).nodes in
        judged_beyond layout pools (with_nodes M N) c (related_roomed st) (links-roomed st) (tree-nodes layout M N K.tree) (deques-nodes layout M N K.deques) st (same_room st)

-- ---- a step

-- what is kept of the machine
abbrev Invariants : Machine → Type 0
Invariants M = FrameTree M × DequeInvariant M × MarkInvariant (live M) × Bounded M.splitters M.places (live M)

kept_turn : (M : Machine) (t : Turn) → Passes M t → Invariants M → Invariants (after_turn M t)
kept_turn M t h i =
    (tree_turn M t h i.0, deques_turn M t h i.0 i.1, marks_turn M t h i.0 i.2, rw ((sizes_turn M t).splitters, (sizes_turn M t).places) (bounded_turn M t h i.3))

module _ (layout : Layout) (pools : PoolLaws layout) where
  -- the relation, with the links
  abbrev Linked : ℕ → ℕ → Machine → Core → Type 0
  Linked N n M c = (r : Relates layout (pools.LiveTrees N n) M c) × Links c.frames r.at (live M)

  module _ (M : Machine) (c : Core) (st : Step) (K : Carried layout pools M c) where
    -- with room for a write as the pool has it
    abbrev pub roomed : Machine
    roomed = with_room M (lacks layout pools M c K st)

    pub simulated : Simulates layout (related_roomed layout pools M c K st) st
    simulated =
        let r = K.related in
        let N = roomed.nodes in
        simulates layout (pools.LiveTrees c.head.numbers.nodes M.splitters) roomed c (related_roomed layout pools M c K st) (links-roomed layout pools M c K st) (pools.live_laws c.head.numbers.nodes M.splitters r.numbers.nodes_le r.numbers.splitters_positive) (tree-nodes layout M N K.tree) (deques-nodes layout M N K.deques)
        K.marks K.bounds st (same_room layout pools M c K st)

    -- with the engine's own number of free nodes
    pub step_carried : Carried layout pools (with_free (step roomed st) (step_on layout c st).core.head.free_count) (step_on layout c st).core
    step_carried =
        let c' = (step_on layout c st).core in
        let M' = step roomed st in
        let N = roomed.nodes in
        let i = step_kept Invariants roomed (kept_turn roomed) st (tree-nodes layout M N K.tree, deques-nodes layout M N K.deques, K.marks, K.bounds) in
        let r : Linked c'.head.numbers.nodes M'.splitters M' c' =
        subst (λ N. Linked N M'.splitters M' c') (sym (numbers_kept layout c st).nodes) (subst (λ n. Linked c.head.numbers.nodes n M' c') (sym (sizes_step roomed st).splitters) (simulated.related, simulated.follows.links (links-roomed layout pools M c K st))) in
        rebased layout pools M' c' c'.head.free_count r.0 r.1 i.0 i.1 i.2 i.3 refl

  -- ---- what a write takes

  pub takes : (M : Machine) (c : Core) (w x v : ℕ) (K : Carried layout pools M c) → let st = Write w x v in
      (answer (roomed M c st K) st).0 ≡ 106 → (step_on layout c st).core.head.free_count ≡ free_nodes M - rest_in layout c (Some st)
  takes M c w x v K e = elim (accepted_or_refused M₁ (Write w x v)) [
    | inl a ↦ subst (λ (d : StepResult). d.core.head.free_count ≡ free_nodes M - rest_in layout c (Some (Write w x v))) (sym ((refused_alike layout r tree deques (Write w x v) room).0 a.zero_refusal))
        (omega (arith, done_takes layout pools M₁ c r links tree deques w x v room a.passes, K.same_free))
    | inr f ↦ absurd (omega (arith, e, ap (λ (z : ℕ × ℕ). z.0) f.answered, refusal_low M₁ (Write w x v)))
  ]
    where
      M₁ : Machine
      M₁ = roomed M c (Write w x v) K

      r : Relates layout (pools.LiveTrees c.head.numbers.nodes M.splitters) M₁ c
      r = related_roomed layout pools M c K (Write w x v)

      links : Links c.frames r.at (live M₁)
      links = links-roomed layout pools M c K (Write w x v)

      tree : FrameTree M₁
      tree = tree-nodes layout M M₁.nodes K.tree

      deques : DequeInvariant M₁
      deques = deques-nodes layout M M₁.nodes K.deques

      room : SameRoom layout M₁ c (Write w x v)
      room = same_room layout pools M c K (Write w x v)
