-- The same nodes in another slice: the words past the nodes, and how many there are, may be others. Nothing depends on those.
use Rattle.std.specs.Prelude.{◌≡◌, List, ℕ, ◌+◌, ◌*◌, ◌≤◌, ◌<◌, ◌^◌, length, get_or}
use Rattle.std.proofs.Common.{ap, arith}
use Rattle.words.specs.Basics.{none, count}
use Rattle.words.specs.Counting.{δ₀}
use Rattle.sizes.specs.Heights.{height_covers}
use Rattle.sizes.specs.Sizes.{height}
use Rattle.pool.specs.Pool.{refcount, left, right, value}
use Rattle.pool.specs.Theory.Good.{Good}
use Rattle.pool.specs.Theory.Invariant.{inv_refcounts}
use Rattle.pool.specs.Theory.Nodes.{SameNode}
use Rattle.pool.specs.Theory.Operations.{Live, SameTree, same-tree}
use Rattle.pool.specs.Theory.Sharing.{Frame, root_of_lem}

pub record SameNodes (N : ℕ) (ws ws' : List ℕ) : Type 0 where
  pub room : 4 * N ≤ length ws'
  pub same : (i : ℕ) → i < 4 * N → get_or ws' i 0 ≡ get_or ws i 0

pub nodes-same : {N : ℕ} {ws ws' : List ℕ} → SameNodes N ws ws' → (j : ℕ) → j < N → SameNode ws ws' j
unfolding refcount left right value
nodes-same S j b = record {
  same-refcount = S.same (4 * j) (omega arith);
  content = record { same_left = S.same (4 * j + 1) (omega arith); same-right = S.same (4 * j + 2) (omega arith); same-value = S.same (4 * j + 3) (omega arith) };
}

-- a live pool is one there too
pub live_elsewhere : {N H n : ℕ} {level size : ℕ → ℕ} {ws ws' : List ℕ} {free : ℕ} {fs E : List ℕ} → Live N H n level size ws free fs E → SameNodes N ws ws' → Live N H n level size ws' free fs E
live_elsewhere {N} {H} {level = level} {size} {ws} {ws'} {E = E} L S = record {
  inv = inv_refcounts N H level size ws ws' S.room E (λ j b. ap δ₀ (nodes-same S j b).same-refcount) (λ j b. (nodes-same S j b).content)
      (λ i b. ap (λ q. q + count i E) (nodes-same S i b).same-refcount) L.inv;
  roots = L.roots;
}

-- and its roots have the trees that they have here
pub tree_elsewhere : (N H n : ℕ) → N ≤ none → n ≤ 2 ^ H → {level size : ℕ → ℕ} {ws ws' : List ℕ} {free : ℕ} {fs E : List ℕ} → Live N H n level size ws free fs E → SameNodes N ws ws'
    → (e : ℕ) → 0 < count e E → SameTree H n ws ws' e
tree_elsewhere N H n small cover {ws' = ws'} L S = same-tree N H n small cover L ws' (λ j b _. (nodes-same S j b).content)

-- the pool of a run from a start is one there too
pub good_elsewhere : (N n : ℕ) → N ≤ 16384 → {ws ws' : List ℕ} {free k : ℕ} {Fs : List Frame} → Good N n ws free k Fs → SameNodes N ws ws' → Good N n ws' free k Fs
good_elsewhere N n most {Fs = Fs} G S = record {
  level = G.level;
  size = G.size;
  fs = G.fs;
  counted = G.counted;
  live = live_elsewhere G.live S;
  share = record {
    stamp = G.share.stamp;
    group = G.share.group;
    stamped = λ F m k y h b. rw ((tree_elsewhere N (height n) n (omega arith) (height_covers n) G.live S F.0 (root_of_lem F Fs m)).nodes k y h b) (G.share.stamped F m k y h b);
    injective = λ i j bi bj pi pj. G.share.injective i j bi bj (omega (arith, pi, (nodes-same S i bi).same-refcount)) (omega (arith, pj, (nodes-same S j bj).same-refcount));
  };
}
