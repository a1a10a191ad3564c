-- Another pool, in which the frames read the same: what relates to a plain machine does so there too; so with the same nodes in another slice.
use Rattle.std.specs.Prelude.{◌≡◌, refl, List, ℕ, ◌<◌}
use Rattle.std.proofs.Common.{◌∙◌}
use mathlib.Core.List.Memᴰ.{map as In-map}
use mathlib.Core.List.{Memᴰ as In}
use Rattle.sizes.specs.Sizes.{height}
use Rattle.model.specs.History.{History}
use Rattle.model.specs.Machine.{Machine, live}
use Rattle.semantics.specs.Core.{Core}
use Rattle.semantics.proofs.Theory.Relation.{Trees, Relates, roots_of}
use Rattle.semantics.proofs.Theory.Places.{same_numbers, tree_of}
use Rattle.semantics.proofs.Theory.Pools.{SameNodes}
use Rattle.semantics.proofs.Theory.SoundSteps.{Carried}
use Rattle.soundness.specs.Layout.{Layout}
use Rattle.semantics.proofs.Theory.Pools.{PoolLaws}

-- the core with another pool
abbrev pub with_pool : Core → List ℕ → Core
with_pool c ws = record { head = c.head; totals = c.totals; deques = c.deques; frames = c.frames; pool = ws }

module _ (L L' : Layout) where
  -- these frames read in ws', of the layout L', what they read in ws, of L
  abbrev pub SameReads : ℕ → List ℕ → List ℕ → List (ℕ × History) → Type 0
  SameReads n ws ws' Fs = (F : ℕ × History) → In F Fs → (y : ℕ) → y < n → L'.read (height n) ws' F.0 y ≡ L.read (height n) ws F.0 y

  -- the frames keep their places, so that the links and the views beside the relation stand as they are
  unfoldable pub relates_in : {P P' : Trees} {M : Machine} {c : Core} (ws' : List ℕ) (r : Relates L P M c) → let Fs = roots_of c.frames r.at (live M) in
      P' ws' c.head.numbers.free_node c.head.free_count Fs → SameReads M.splitters c.pool ws' Fs → Relates L' P' M (with_pool c ws')
  relates_in {M = M} {c} ws' r T S = record {
    at = r.at;
    gs = r.gs;
    numbers = same_numbers M c (with_pool c ws') M.deques M.suspended refl r.numbers refl refl refl refl refl refl;
    formed = r.formed;
    deques = r.deques;
    running = r.running;
    waiting = r.waiting;
    once = r.once;
    vacant = r.vacant;
    totals = r.totals;
    trees = T;
    values = λ f m x b. S (tree_of c.frames r.at f) (In-map (tree_of c.frames r.at) m) x b ∙ r.values f m x b;
  }

module _ (layout : Layout) (pools : PoolLaws layout) where
  pub carried_elsewhere : (M : Machine) (c : Core) (ws' : List ℕ) → Carried layout pools M c → SameNodes layout c.head.numbers.nodes c.pool ws' → Carried layout pools M (with_pool c ws')
  unfolding relates_in
  carried_elsewhere M c ws' K S =
      let T = pools.live_trees c.head.numbers.nodes M.splitters K.related.numbers.nodes_le c.pool ws' _ _ _ K.related.trees S in
      record {
        related = relates_in layout layout ws' K.related T.0 T.1;
        links = K.links;
        tree = K.tree;
        deques = K.deques;
        marks = K.marks;
        bounds = K.bounds;
        same_free = K.same_free;
      }
