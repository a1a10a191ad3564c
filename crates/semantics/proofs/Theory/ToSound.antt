-- A state and pool that relate to a plain machine are sound, and the check counts the free nodes that the relation says.
use Rattle.std.specs.Prelude.{◌≡◌, refl, true, List, [], ℕ, ◌≤◌, ◌<◌}
use Rattle.std.proofs.Common.{sym, ap, subst, arith}
use Rattle.words.specs.Basics.{count}
use Rattle.sizes.specs.Sizes.{tree_nodes}
use Rattle.pool.specs.Theory.Sharing.{roots_of as treeRoots}
use Rattle.model.specs.Machine.{Machine, Frame, live}
use Rattle.model.proofs.Theory.FrameTree.{FrameTree, main-lives}
use Rattle.model.proofs.Theory.DequeShape.{DequeInvariant}
use Rattle.soundness.specs.Soundness.{sound, live_roots, count_of_free}
use Rattle.soundness.specs.Layout.{pool_sound}
use Rattle.semantics.specs.Core.{Core}
use Rattle.semantics.proofs.Theory.Relation.{Trees, Relates, roots_of, Links}
use Rattle.soundness.proofs.Theory.Facts.{TotalsZero, NumbersFacts}
use Rattle.soundness.proofs.Theory.Sentences.{facts_sound}
use Rattle.semantics.proofs.Theory.ToSoundFrames.{live-frame, roots_count}
use Rattle.semantics.proofs.Theory.ToSoundDeques.{frames_hold}
use Rattle.soundness.specs.Layout.{Layout}
use Rattle.semantics.proofs.Theory.Pools.{PoolLaws}

module _ (layout : Layout) where
  -- ---- the relation over another predicate on the pool

  pub relates_over : {P Q : Trees} {M : Machine} {c : Core} (R : Relates layout P M c) → Q c.pool c.head.numbers.free_node c.head.free_count (roots_of c.frames R.at (live M)) → Relates layout Q M c
  relates_over R q = record {
    at = R.at;
    gs = R.gs;
    numbers = R.numbers;
    formed = R.formed;
    deques = R.deques;
    running = R.running;
    waiting = R.waiting;
    once = R.once;
    vacant = R.vacant;
    totals = R.totals;
    trees = q;
    values = R.values;
  }

module _ (layout : Layout) (pools : PoolLaws layout) where
  -- so what relates in a run from a start relates as a live pool
  pub good_relates : {N n : ℕ} {M : Machine} {c : Core} → Relates layout (pools.GoodTrees N n) M c → Relates layout (pools.LiveTrees N n) M c
  good_relates R = relates_over layout R (pools.good_live R.trees)

  -- ---- the whole

  module _ (M : Machine) (c : Core) (R : Relates layout (pools.LiveTrees c.head.numbers.nodes M.splitters) M c) where
    numbers_hold : NumbersFacts layout c.head.numbers c.frames c.pool
    numbers_hold =
        let n = R.numbers in
        record {
          workers_positive = omega (arith, n.workers, n.workers_positive);
          workers_le = omega (arith, n.workers, n.workers_le);
          splitters_positive = omega (arith, n.splitters, n.splitters_positive);
          splitters_le = omega (arith, n.splitters, n.splitters_le);
          enough = subst (λ m. tree_nodes m ≤ c.head.numbers.nodes) (sym n.splitters) n.enough;
          nodes_le = n.nodes_le;
          room = pools.live_room R.trees;
          places_positive = omega (arith, n.places, n.places_positive);
          places_le = omega (arith, n.places, n.table, R.formed.few);
          table = omega (arith, n.places, n.table);
        }

    -- the trees are sound, and the chain is as long as the relation says
    pool_holds : (pool_sound layout c.head.numbers.splitters c.head.numbers.nodes c.pool c.head.numbers.free_node (live_roots c.frames) ≡ true) × (count_of_free layout c.head.numbers c.pool ≡ c.head.free_count)
    pool_holds =
        let n = R.numbers in
        let p = pools.live_pool M.splitters c.head.numbers.nodes n.nodes_le n.splitters_positive c.pool c.head.numbers.free_node (live_roots c.frames) (roots_of c.frames R.at (live M))
        (roots_count layout R) c.head.free_count R.trees in
        (subst (λ m. pool_sound layout m c.head.numbers.nodes c.pool c.head.numbers.free_node (live_roots c.frames) ≡ true) (sym n.splitters) p.0, p.1)

    -- "zero while Main lives": where a frame lives Main does
    totals_hold : FrameTree M → TotalsZero c.totals c.frames
    totals_hold tree p b l =
        let f = live-frame layout R p b l in
        let m = main-lives (live M) tree.rooted f.0.name f.0 f.1 refl in
        R.totals.zero m.0 m.1 m.2

    pub to_sound : FrameTree M → DequeInvariant M → Links c.frames R.at (live M)
        → (sound layout c.head.numbers c.totals c.deques c.frames c.pool ≡ true) × (count_of_free layout c.head.numbers c.pool ≡ c.head.free_count)
    to_sound tree inv K = (
      facts_sound layout c.head.numbers c.totals c.deques c.frames c.pool (record { numbers = numbers_hold; totals = totals_hold tree; frames = frames_hold layout R tree inv K; pool = pool_holds.0 }),
      pool_holds.1,
    )

    -- without a live frame every node is free, and stands once on the chain
    pub all_free : live M ≡ [] → (i : ℕ) → i < c.head.numbers.nodes → count i (layout.free_nodes c.head.numbers.nodes c.pool c.head.numbers.free_node) ≡ 1
    all_free e =
        (pools.trees_all_free c.head.numbers.nodes M.splitters R.numbers.nodes_le R.numbers.splitters_positive c.pool c.head.numbers.free_node c.head.free_count (roots_of c.frames R.at (live M)) R.trees
        (ap (λ (K : List Frame). treeRoots (roots_of c.frames R.at K)) e)).1
