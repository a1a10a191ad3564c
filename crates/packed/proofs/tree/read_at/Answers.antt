use Rattle.std.proofs.Common.{rules}
use Rattle.packed.proofs.Walk.{next_path, next_leaf, leaf_value}
use Rattle.packed.proofs.tree.read_at.Goals as goal

pub loop-l-preserved : goal.loop-l-preserved
loop-l-preserved c = (
  next_path c.args.nodes c.loop-l.l c.args.pool.now c.loop-l.i c.args.x c.child_in-i.result c.loop-l.invariant.0 c.loop-l-test.true (search rules) c.child_in-i.ensures,
  next_leaf c.args.nodes c.loop-l.l c.args.pool.now c.loop-l.i c.args.x c.child_in-i.result c.loop-l.invariant.0 c.loop-l-test.true (search rules) c.child_in-i.ensures c.loop-l.invariant.1,
)

pub returns : goal.returns
returns c = leaf_value _ _ _ _ _ _ c.loop-l.invariant.1 c.loop-l-test.false c.content_in.ensures
