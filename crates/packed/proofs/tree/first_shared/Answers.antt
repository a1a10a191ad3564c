-- The laws are in `proofs.Writing`.
use Rattle.std.proofs.Common.{◌-◌, rules, arith}
use Rattle.packed.proofs.Walk.{path_here, next_path}
use Rattle.packed.proofs.Writing.{root_shared_lem, goes_on_lem, next_shared, leaf_alone}
use Rattle.packed.proofs.tree.first_shared.Goals as goal

pub returns-then-holders_in-gt1 : goal.returns-then-holders_in-gt1
returns-then-holders_in-gt1 c = root_shared_lem _ _ _ _ c.holders_in.ensures c.if-holders_in-gt1.true

pub holders_in-requires-in-loop-level : goal.holders_in-requires-in-loop-level
holders_in-requires-in-loop-level c =
    let P = next_path c.args.nodes c.loop-level.level c.args.pool.now c.loop-level.node c.args.x c.child_in-node.result c.loop-level.invariant.path c.loop-level-test.true (search rules) c.child_in-node.ensures in
    (c.requires.0, path_here c.args.nodes c.args.pool.now (c.loop-level.level - 1) c.child_in-node.result c.args.x P)

pub overflow_cast-result : goal.overflow_cast-result
overflow_cast-result c =
    let P = next_path c.args.nodes c.loop-level.level c.args.pool.now c.loop-level.node c.args.x c.child_in-node.result c.loop-level.invariant.path c.loop-level-test.true (search rules) c.child_in-node.ensures in
    record { fits = omega (arith, path_here c.args.nodes c.args.pool.now (c.loop-level.level - 1) c.child_in-node.result c.args.x P) }

pub returns-then-holders_in-gt1-2 : goal.returns-then-holders_in-gt1-2
returns-then-holders_in-gt1-2 c = next_shared c.loop-level.invariant c.loop-level-test.true (search rules) c.child_in-node.result c.child_in-node.ensures c.holders_in-in-loop-level.ensures c.if-holders_in-gt1-2.true

pub loop-level-preserved : goal.loop-level-preserved
loop-level-preserved c = goes_on_lem c.loop-level.invariant c.loop-level-test.true (search rules) c.child_in-node.result c.child_in-node.ensures c.holders_in-in-loop-level.ensures c.if-holders_in-gt1-2.false

pub returns : goal.returns
returns c = leaf_alone c.loop-level.invariant c.loop-level-test.false
