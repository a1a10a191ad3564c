use Rattle.std.proofs.Common.{◌∙◌, rules, arith}
use Rattle.packed.proofs.Writing.{copy_here, copy_on, copy_next, copy_turn, copy_end}
use Rattle.packed.proofs.node_pool.Pool.copy_path.Goals as goal

pub content-next-requires : goal.content-next-requires
content-next-requires c = copy_here _ _ _ _ _ _ c.loop-l.invariant.meets

pub child-down-requires : goal.child-down-requires
child-down-requires c = ((copy_on _ _ _ _ _ _ c.loop-l-test.true c.loop-l.invariant.meets).1, omega arith)

pub copy_node-requires : goal.copy_node-requires
copy_node-requires c =
    let t = copy_on _ _ _ _ _ _ c.loop-l-test.true c.loop-l.invariant.meets in (
      t.0,
      t.1,
      omega arith,
      copy_next _ _ _ _ _ _ c.loop-l-test.true c.loop-l.invariant.meets c.content-next.ensures,
      t.2,
    )

pub loop-l-preserved : goal.loop-l-preserved
loop-l-preserved c =
    let t = copy_turn c.loop-l.self.nodes _ _ _ _ _ c.args.v c.child-down.result (search rules) c.loop-l-test.true c.loop-l.invariant.meets c.content-next.ensures c.child-down.ensures c.copy_node.ensures.words in
    record {
      nodes = c.copy_node.ensures.nodes ∙ c.loop-l.invariant.nodes;
      same = c.copy_node.ensures.same_reference ∙ c.loop-l.invariant.same;
      meets = rw c.copy_node.ensures.nodes t.0;
      makes = t.1 ∙ c.loop-l.invariant.makes;
    }

pub content-next-requires-2 : goal.content-next-requires-2
content-next-requires-2 c = copy_here _ _ _ _ _ _ c.loop-l.invariant.meets

pub store-requires : goal.store-requires
store-requires c = copy_here _ _ _ _ _ _ c.loop-l.invariant.meets

pub returns-clause-words : goal.returns-clause-words
returns-clause-words c = copy_end _ _ _ _ _ _ c.loop-l-test.false c.store.ensures.words c.content-next-2.ensures c.loop-l.invariant.makes
