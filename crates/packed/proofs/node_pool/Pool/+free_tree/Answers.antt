-- The left link's node is freed or kept, and so is the right one's.
use Rattle.std.proofs.Common.{◌≡◌, ◌-◌, refl}
use Rattle.words.specs.Basics.{plus}
use Rattle.packed.specs.Links.{Released}
use Rattle.packed.specs.Pool.{release}
use Rattle.packed.proofs.Laws.{parts₃, release_leaf, release_inner}
use Rattle.packed.proofs.Freeing.{freed_now, kept_now}
use Rattle.packed.proofs.node_pool.Pool.+free_tree.Goals as goal
use Rattle.packed.proofs.node_pool.Pool.+free_tree.Goals.{then-let_go, else-let_go}

pub returns-then-level-eq0-clause-words : goal.returns-then-level-eq0-clause-words
returns-then-level-eq0-clause-words t c = rw c.store.ensures.words (parts₃ (release_leaf _ _ _ _ _ _ c.requires.0 c.requires.1 c.if-level-eq0.true))

pub returns-then-let_go-2-clause-words : goal.returns-then-let_go-2-clause-words
returns-then-let_go-2-clause-words t c =
    let left : (c.if-let_go.self.nodes ≡ c.args.self.now.nodes)
    × Released (release c.args.self.now.nodes (c.args.level - 1) c.store.new.self.words.now c.args.i (plus c.args.free.count 1) c.links-links.result.left) c.if-let_go.self.words.now c.if-let_go.freed.first c.if-let_go.freed.count =
    elim c.if-let_go.branch [
      | then-let_go w ↦ rw (w.self-is, w.freed-is) (freed_now _ _ _ _ _ _ _ _ _ _ _ w.if-let_go.true c.store.ensures.nodes c.let_go.ensures.nodes c.let_go.ensures.words w.free_tree-freed.ensures.nodes w.free_tree-freed.ensures.words)
      | else-let_go w ↦ rw (w.self-is, w.freed-is) (kept_now _ _ _ _ _ _ _ _ _ _ w.if-let_go.false c.store.ensures.nodes c.let_go.ensures.nodes c.let_go.ensures.words)
    ] in
    release_inner _ _ _ _ _ _ _ _ (c.args.self.now.few, c.requires.0, c.requires.1) c.if-level-eq0.false c.links-links.ensures.0 c.links-links.ensures.1 c.store.ensures.words refl left.1
    (freed_now _ _ _ _ _ _ _ _ _ _ _ c.if-let_go-2.true left.0 c.let_go-2.ensures.nodes c.let_go-2.ensures.words c.free_tree.ensures.nodes c.free_tree.ensures.words).1

pub returns-clause-words : goal.returns-clause-words
returns-clause-words t c =
    let left : (c.if-let_go.self.nodes ≡ c.args.self.now.nodes)
    × Released (release c.args.self.now.nodes (c.args.level - 1) c.store.new.self.words.now c.args.i (plus c.args.free.count 1) c.links-links.result.left) c.if-let_go.self.words.now c.if-let_go.freed.first c.if-let_go.freed.count =
    elim c.if-let_go.branch [
      | then-let_go w ↦ rw (w.self-is, w.freed-is) (freed_now _ _ _ _ _ _ _ _ _ _ _ w.if-let_go.true c.store.ensures.nodes c.let_go.ensures.nodes c.let_go.ensures.words w.free_tree-freed.ensures.nodes w.free_tree-freed.ensures.words)
      | else-let_go w ↦ rw (w.self-is, w.freed-is) (kept_now _ _ _ _ _ _ _ _ _ _ w.if-let_go.false c.store.ensures.nodes c.let_go.ensures.nodes c.let_go.ensures.words)
    ] in
    release_inner _ _ _ _ _ _ _ _ (c.args.self.now.few, c.requires.0, c.requires.1) c.if-level-eq0.false c.links-links.ensures.0 c.links-links.ensures.1 c.store.ensures.words refl left.1
    (kept_now _ _ _ _ _ _ _ _ _ _ c.if-let_go-2.false left.0 c.let_go-2.ensures.nodes c.let_go-2.ensures.words).1
