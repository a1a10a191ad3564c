-- The two ways out: the root is shared, or a node below it. The laws are in `proofs.Writing`.
use Rattle.std.proofs.Common.{arith}
use Rattle.packed.proofs.Writing.{level_in, free_in_lem, above_in, write_root, write_below}
use Rattle.packed.proofs.node_pool.Pool.write_shared.Goals as goal

pub returns-then-level-height-clause-words : goal.returns-then-level-height-clause-words
returns-then-level-height-clause-words c =
    let low = level_in _ _ c.args.free.first c.args.free.count _ _ c.args.v c.requires.2 c.requires.3 in
    write_root _ _ _ _ _ _ _ c.requires.2 (omega (arith, low, c.if-level-height.true)) c.renew-first.ensures.words

pub set_link-requires : goal.set_link-requires
set_link-requires c = rw c.renew-first.ensures.nodes (
  above_in _ _ c.args.free.first c.args.free.count _ _ c.args.v c.requires.2 c.requires.3 c.if-level-height.false,
  omega arith,
  free_in_lem _ _ c.args.free.first c.args.free.count _ _ c.args.v c.requires.2 c.requires.3,
)

pub returns-clause-words : goal.returns-clause-words
returns-clause-words c = write_below _ _ _ _ _ _ _ c.requires.2 c.if-level-height.false c.renew-first.ensures.words c.set_link.ensures.words
