-- What a sound core gives to code that indexes the deques, the frame table and the pool without a test.
use Rattle.std.specs.Prelude.{◌≡◌, refl, ◌≢◌, Bool, true, false, cond, List, [], ◌∷◌, drop}
use Rattle.std.proofs.Common.{sym, ◌∙◌, subst, inl, inr, length-append, eq-eqb}
use Rattle.std.proofs.Math.Path.{ap}
use Prim.Native.Nat.{ℕ, zero, suc, ◌-◌, ◌*◌, ◌≤◌, ◌<◌}
use native.Mathlib.Omega.{arith}
use Rattle.std.proofs.Math.Decide.{ℕ_discrete}
use Rattle.std.proofs.Math.ListN.{length}
use Rattle.words.specs.Basics.{none, Chain, δ, count, how_many}
use Rattle.words.specs.Chains.{chain_start}
use Rattle.words.specs.Counting.{hit, δ_same, δ_other, δ_le, count_cons, sum_ge}
use Rattle.words.specs.Tallies.{and_of}
use Rattle.words.specs.Tests.{ltb_of}
use Rattle.sizes.specs.Sizes.{height, width, tree_nodes}
use Rattle.sizes.specs.Heights.{height_covers, height_le}
use Rattle.sizes.specs.Widths.{width_pos}
use Rattle.pool.specs.Pool as Four
use Rattle.pool.specs.Theory.Operations.{Live}
use Rattle.pool.specs.Theory.Soundness.{link_level, link_size, sound-live}
use Rattle.pool.specs.Theory.LiveLinks.{live_free}
use Rattle.packed.specs.Pool.{first_shared, rest}
use Rattle.packed.specs.Links.{PathIn, WriteIn}
use Rattle.packed.proofs.Theory.Unpacks.{Unpacks}
use Rattle.packed.proofs.Theory.Reads.{unpacks_rest}
use Rattle.packed.proofs.Theory.Ranges.{unpacks_path, unpacks_writes}
use Rattle.frames.specs.declared.Frame.{Frame as FrameRecord}
use Rattle.frames.specs.Widths.{max_places, deque_places}
use Rattle.frames.specs.Frames.{frame_at}
use Rattle.frames.specs.Deques.{size, place, bottom, deque_list}
use Rattle.frames.specs.Ranges.{ParentOf, ParentCounts}
use Rattle.frames.proofs.Theory.Lists.{list_length}
use Rattle.frames.proofs.Theory.Places.{next_free}
use Rattle.soundness.specs.Soundness.{lives, is_child, roots_below, live_roots}
use Rattle.soundness.specs.Trees.{free_nodes}
use Rattle.soundness.specs.Layout.{two_words}
use Rattle.soundness.specs.Unpacked.{unpacked}
use Rattle.semantics.specs.Core.{Core, acting_in, popped, end_at}
use Rattle.soundness.proofs.Theory.FreeLists.{once_short}
use Rattle.soundness.proofs.Theory.Facts.{Lives, FramesFacts, SoundFacts}
use Rattle.soundness.proofs.Theory.Sentences.{few_places, sound_facts}
use Rattle.soundness.proofs.Theory.PoolSentences.{pool_fact}
use Rattle.soundness.proofs.Theory.PackedSound.{packed_four}
use Rattle.semantics.proofs.Theory.FromSoundPlaces.{count_In, below_of, roots_below_lem, deque-live}
use Rattle.semantics.specs.SoundMachine.{machine_of}
use Rattle.semantics.proofs.Theory.TwoPools.{two_pools}
use Rattle.semantics.proofs.Theory.EndsUpward.{ends_upward}
use Rattle.semantics.proofs.Theory.FromSoundRelates.{counted_core}
use Rattle.semantics.proofs.Theory.SoundSteps.{sound_carried}
use Rattle.semantics.proofs.Theory.Kept.{core-counted}
use Rattle.semantics.specs.Ranges.{EndsUpward, Kept, Ready}

-- a tree has a node
tree_positive : (n : ℕ) → 0 < n → 0 < tree_nodes n
unfolding tree_nodes
tree_positive n p = omega (arith, sum_ge (suc (height n)) 0 (width n) (omega arith), width_pos n 0 p)

-- ---- frames and deques

-- a number that counts p
counted : (n p : ℕ) (f : ℕ → Bool) {k : ℕ} → p < n → f p ≡ true → k ≡ how_many n f → 0 < k
counted n p f b t e = omega (arith, e, sum_ge n p (λ d. cond (f d) 1 0) b, hit t)

module _ {workers first : ℕ} {ds : List ℕ} {fs : List FrameRecord} (F : FramesFacts workers first ds fs) (few : workers ≤ 8) (most : length fs ≤ max_places) where
  -- a frame stands at most once in a deque, and only if it lives
  deque_once : (w : ℕ) → w < 8 → (p : ℕ) → p < length fs → count p (deque_list ds w) ≤ 1
  deque_once w b p h = elim (ℕ_discrete (frame_at fs p).live 1) [
    | yes l ↦ (let g = sum_ge 8 w (λ v. count p (deque_list ds v)) b in elim (F.placed p h l) [ inl r ↦ omega (arith, g, r.0) | inr r ↦ omega (arith, g, r.0) ])
    | no l ↦ elim (ℕ_discrete (count p (deque_list ds w)) 0) [ yes z ↦ omega arith | no z ↦ absurd (l (deque-live F few w p b (count_In p (deque_list ds w) (omega arith))).1) ]
  ]

  -- the first free place is in no deque
  first_out : first < length fs → (w : ℕ) → w < 8 → count first (deque_list ds w) ≡ 0
  first_out h w b = elim (ℕ_discrete (count first (deque_list ds w)) 0) [
    | yes z ↦ z
    | no z ↦ (let l = (deque-live F few w first b (count_In first (deque_list ds w) (omega arith))).1 in elim (F.places.each first h) [
      | inl r ↦ absurd (listed F.places.gs F.places.chain r.1)
      | inr r ↦ absurd (omega (arith, l, ap (λ f. f.live) r.0.1))
    ])
  ]
    where
      listed : (gs : List ℕ) → Chain (next_free fs) (length fs) first gs → count first gs ≡ 0 → ⊥
      listed [] c o = omega (arith, c, most)
      listed (g ∷ gs) c o = omega (arith, count_cons first g gs, ap (δ first) c.0, δ_same first)

  -- with it they are at most as many as there are places
  deque_room : first < length fs → (w : ℕ) → w < 8 → size ds w < deque_places
  deque_room h w b =
      let L = deque_list ds w in
      let short = once_short (λ x. x) (length fs) (first ∷ L) (and_of (ltb_of h) (below_of (length fs) L (λ p m. (deque-live F few w p b m).0)))
      (λ p i. elim (ℕ_discrete p first) [
        | yes e ↦ omega (arith, count_cons p first L, ap (λ q. count q L) e, first_out h w b, δ_le p first)
        | no e ↦ omega (arith, count_cons p first L, δ_other p first e, deque_once w b p i)
      ]) in
      omega (arith, short, most, list_length ds w)

  -- the bottom frame of a deque
  bottom-lives : (w : ℕ) → w < 8 → 0 < size ds w → (bottom ds w < length fs) × Lives fs (bottom ds w)
  unfolding bottom
  bottom-lives w b h = F.hold_live_lem w b (size ds w - 1) (omega arith)

  -- it is a child of the one above it
  bottom-below : (w : ℕ) → w < 8 → 1 < size ds w → (frame_at fs (bottom ds w)).parent ≢ none
  unfolding bottom
  bottom-below w b h e =
      let k : ℕ = size ds w - 2 in
      let i : size ds w - 1 ≡ suc k = omega arith in
      let above : (frame_at fs (place ds w (size ds w - 1))).parent ≡ place ds w k = ap (λ (j : ℕ). (frame_at fs (place ds w j)).parent) i ∙ F.child_of_above w b k (omega arith) in
      let inside : place ds w k < length fs = (F.hold_live_lem w b k (omega arith)).0 in
      omega (arith, e, above, inside, most)

  live_parent : (p : ℕ) → p < length fs → Lives fs p → ParentOf fs p (frame_at fs p)
  live_parent p b l = elim (ℕ_discrete (frame_at fs p).depth 0) [
    | yes e ↦ elim F.one_main_lem [ inl h ↦ absurd (h.0 p b l) | inr m ↦ inr (e, ap (λ q. (frame_at fs q).parent) (m.only p b l e) ∙ m.orphan) ]
    | no e ↦ inl (omega arith, (F.parents p b l e).0, λ q. omega (arith, (F.parents p b l e).2, ap (λ z. (frame_at fs z).depth) q))
  ]

  -- the parent of a live frame lives, and has it as a child
  live_counts : (p : ℕ) → p < length fs → Lives fs p → ParentCounts fs (frame_at fs p)
  live_counts p b l h = elim (ℕ_discrete (frame_at fs p).depth 0) [
    | yes e ↦ elim F.one_main_lem [ inl n ↦ absurd (n.0 p b l) | inr m ↦ absurd (omega (arith, h, most, ap (λ q. (frame_at fs q).parent) (m.only p b l e), m.orphan)) ]
    | no e ↦ (let q = (frame_at fs p).parent in
        let r = F.parents p b l e in
        counted (length fs) p (is_child fs q) b (and_of (eq-eqb (frame_at fs p).live 1 l) (eq-eqb q q refl)) (F.outstanding q r.0 r.1))
  ]

-- a live frame's root is one of the roots
root_counted : (fs : List FrameRecord) (c p : ℕ) → p < c → Lives fs p → 0 < count (frame_at fs p).root (roots_below fs c)
root_counted fs c p b l =
    let i = (frame_at fs p).root in
    let one : cond (lives fs p) (δ i (frame_at fs p).root) 0 ≡ 1 = rw (eq-eqb (frame_at fs p).live 1 l) (δ_same i) in
    omega (arith, roots_below_lem i c fs, sum_ge c p (λ q. cond (lives fs q) (δ i (frame_at fs q).root) 0) b, one)

roots_few : (fs : List FrameRecord) (c : ℕ) → length (roots_below fs c) ≤ c
unfolding roots_below
roots_few fs zero = omega arith
roots_few fs (suc c) = omega (arith, length-append (roots_below fs c) (cond (lives fs c) ((frame_at fs c).root ∷ []) []), one (lives fs c), roots_few fs c)
  where
    one : (b : Bool) → length (cond b ((frame_at fs c).root ∷ []) []) ≤ 1
    one true = omega arith
    one false = omega arith

-- ---- the whole

module _ (c : Core) (K : Kept two_words c) where
  abbrev n : ℕ
  n = c.head.numbers.splitters

  abbrev N : ℕ
  N = c.head.numbers.nodes

  abbrev first : ℕ
  first = c.head.numbers.free_node

  S : SoundFacts two_words c.head.numbers c.totals c.deques c.frames c.pool
  S = sound_facts two_words c.head.numbers c.totals c.deques c.frames c.pool K.is_sound_lem

  most_places : length c.frames ≤ max_places
  most_places = few_places S.numbers

  few_nodes : N ≤ 16384
  few_nodes = S.numbers.nodes_le

  small : N ≤ none
  small = omega (arith, few_nodes)

  -- the four-word pool that the pool unpacks to

  abbrev ws₄ : List ℕ
  ws₄ = unpacked n (live_roots c.frames) N c.pool

  unpacks : Unpacks N (drop (2 * N) c.pool) c.pool ws₄
  unpacks = (packed_four n N S.numbers.splitters_positive few_nodes c.pool first (live_roots c.frames) S.numbers.room S.pool).0

  same_free : c.head.free_count ≡ length (free_nodes N ws₄ first)
  same_free = K.counted ∙ ap length (packed_four n N S.numbers.splitters_positive few_nodes c.pool first (live_roots c.frames) S.numbers.room S.pool).2

  trees : Live N (height n) n (link_level (height n) ws₄) (link_size (height n) ws₄) ws₄ first (free_nodes N ws₄ first) (live_roots c.frames)
  trees =
      let F = packed_four n N S.numbers.splitters_positive few_nodes c.pool first (live_roots c.frames) S.numbers.room S.pool in
      sound-live N (height n) n small S.numbers.splitters_positive (height_covers n) (pool_fact n N ws₄ first (live_roots c.frames) F.0.room F.1)

  acting_root : (w : ℕ) → w < 8 → 0 < size c.deques w → 0 < count (acting_in c w).root (live_roots c.frames)
  acting_root w b h = (let r = bottom-lives S.frames S.numbers.workers_le most_places w b h in root_counted c.frames (length c.frames) (bottom c.deques w) r.0 r.1)

  -- the ends upward, by the plain machine that follows the core
  upward_ready : (w : ℕ) → 0 < size c.deques w → (acting_in c w).outstanding ≡ 0 → EndsUpward (acting_in c w).depth (end_at two_words (popped c w) (bottom c.deques w)) (acting_in c w).parent
  upward_ready =
      let s = c.head.numbers in
      let M = machine_of two_words s c.deques c.frames c.pool in
      let c₀ = counted_core two_words s c.totals c.deques c.frames c.pool in
      let C = sound_carried two_words two_pools s c.totals c.deques c.frames c.pool K.long_totals K.long_deques K.is_sound_lem in
      let G = C.related.numbers in
      subst (λ (x : Core). (w : ℕ) → 0 < size x.deques w → (acting_in x w).outstanding ≡ 0 → EndsUpward (acting_in x w).depth (end_at two_words (popped x w) (bottom x.deques w)) (acting_in x w).parent) (core-counted two_words c K)
      (λ w h z. ends_upward s.nodes M.splitters G.nodes_le G.splitters_positive M c₀ C.related (two_pools.live_laws s.nodes M.splitters G.nodes_le G.splitters_positive) C.tree C.links refl w h z)

  path_ready : (w x : ℕ) → w < 8 → 0 < size c.deques w → x < n → PathIn N c.pool c.head.height (acting_in c w).root x
  path_ready w x b h i =
      subst (λ (t : ℕ). PathIn N c.pool t (acting_in c w).root x) (sym K.height_is)
      (unpacks_path N (height n) n few_nodes (height_covers n) trees unpacks (acting_in c w).root x (acting_root w b h) i)

  writes_ready : (w x : ℕ) → w < 8 → 0 < size c.deques w → x < n → rest c.head.height c.pool (acting_in c w).root x ≤ c.head.free_count
      → WriteIn N c.head.height c.pool first x (first_shared c.head.height c.pool (acting_in c w).root (acting_in c w).root x)
  writes_ready w x b h i enough =
      let e = (acting_in c w).root in
      let same : rest c.head.height c.pool e x ≡ Four.rest (height n) ws₄ e x =
      ap (λ (t : ℕ). rest t c.pool e x) K.height_is ∙ unpacks_rest N (height n) n few_nodes (height_covers n) trees unpacks e x (acting_root w b h) i in
      subst (λ (t : ℕ). WriteIn N t c.pool first x (first_shared t c.pool e e x)) (sym K.height_is)
      (unpacks_writes N (height n) n few_nodes (height_covers n) trees unpacks c.head.free_count e x same_free (omega (arith, roots_few c.frames (length c.frames), most_places, few_nodes)) (acting_root w b h) i
      (omega (arith, same, enough)))

  pub kept_ready : Ready c
  kept_ready =
      let F = S.frames in
      let few = S.numbers.workers_le in
      record {
        workers_le = few;
        splitters_le = S.numbers.splitters_le;
        low = omega (arith, K.height_is, height_le n 8 (omega (arith, S.numbers.splitters_le)));
        nodes_positive = omega (arith, S.numbers.enough, tree_positive n S.numbers.splitters_positive);
        long_deques = K.long_deques;
        table = S.numbers.table;
        few_places = most_places;
        nodes_le = few_nodes;
        pool_room = S.numbers.room;
        free_node_lem = live_free N (height n) n small (height_covers n) trees;
        free_place_lem = chain_start (length c.frames) (next_free c.frames) c.head.numbers.free_place F.places.gs F.places.chain;
        sizes = λ w b. omega (arith, F.within w b, most_places);
        absent = F.absent;
        held = λ w k b h. (F.hold_live_lem w b k h).0;
        room = λ w b h. deque_room F few most_places h w b;
        root = λ w b h. (trees.roots (acting_in c w).root (acting_root w b h)).inside;
        parent = λ w b h. (let r = bottom-lives F few most_places w b h in live_parent F few most_places (bottom c.deques w) r.0 r.1);
        counts = λ w b h. (let r = bottom-lives F few most_places w b h in live_counts F few most_places (bottom c.deques w) r.0 r.1);
        below = λ w b h. bottom-below F few most_places w b h;
        upward = λ w b h z. upward_ready w h z;
        path = path_ready;
        writes = writes_ready;
      }
