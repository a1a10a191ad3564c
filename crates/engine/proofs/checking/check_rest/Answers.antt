use Rattle.std.proofs.Common.{◌≡◌, ◌≤◌, ℕ, List, Option}
use Rattle.frames.specs.declared.Frame.{Frame}
use Rattle.soundness.specs.declared.Numbers.{Numbers}
use Rattle.soundness.specs.Layout.{Layout}
use Rattle.pool_check.specs.Answer.{pool_checked}
use Rattle.engine.specs.Promises.{tables_checked}
use Rattle.engine.proofs.Checks.{tables_unsound, totals_unsound, pool_asks, judged_pool}
use Rattle.engine.proofs.checking.check_rest.Goals as goal

-- the numbers n that the function read are m, of which the contract speaks
roomy : (n m : Numbers) (k : ℕ) → n ≡ m → m.nodes ≤ k → n.nodes ≤ k
roomy n m k e r = rw e r

same_tables : (L : Layout) (n m : Numbers) (ds : List ℕ) (fs : List Frame) (ws : List ℕ) (t : Option ℕ) → n ≡ m → t ≡ tables_checked L m ds fs ws → t ≡ tables_checked L n ds fs ws
same_tables L n m ds fs ws t e q = rw e q

pub returns-in_default : goal.returns-in_default
returns-in_default g c =
    let s = c.args.state in
    tables_unsound g.L.NodeLayout.reading.layout s.numbers.now s.deques.now s.frames.now c.args.pool.now c.args.work.now c.numbers_in-n.result c.numbers_in-n.ensures (roomy _ _ _ c.numbers_in-n.ensures c.requires.0) _ (same_tables g.L.NodeLayout.reading.layout _ _ _ _ _ _ c.numbers_in-n.ensures c.requires.1) c.in_default.is _ c.clear.ensures

pub returns-then-not-totals_right : goal.returns-then-not-totals_right
returns-then-not-totals_right g c =
    let s = c.args.state in
    totals_unsound g.L.NodeLayout.reading.layout s.numbers.now s.deques.now s.frames.now c.args.pool.now c.args.work.now c.numbers_in-n.result c.numbers_in-n.ensures (roomy _ _ _ c.numbers_in-n.ensures c.requires.0) _ (same_tables g.L.NodeLayout.reading.layout _ _ _ _ _ _ c.numbers_in-n.ensures c.requires.1) _ c.in-Some.is _ c.totals_right.ensures c.if-not-totals_right.true _ c.clear-then-not-totals_right.ensures

pub check_pool-requires : goal.check_pool-requires
check_pool-requires g c =
    let s = c.args.state in
    pool_asks g.L.NodeLayout.reading.layout s.numbers.now s.deques.now s.frames.now c.args.pool.now c.args.work.now c.numbers_in-n.result c.numbers_in-n.ensures (roomy _ _ _ c.numbers_in-n.ensures c.requires.0) _ (same_tables g.L.NodeLayout.reading.layout _ _ _ _ _ _ c.numbers_in-n.ensures c.requires.1) _ c.in-Some.is

pub returns : goal.returns
unfolding pool_checked
returns g c =
    let s = c.args.state in
    judged_pool g.L.NodeLayout.reading.layout s.numbers.now s.deques.now s.frames.now c.args.pool.now c.args.work.now c.numbers_in-n.result c.numbers_in-n.ensures (roomy _ _ _ c.numbers_in-n.ensures c.requires.0) _ (same_tables g.L.NodeLayout.reading.layout _ _ _ _ _ _ c.numbers_in-n.ensures c.requires.1) _ c.in-Some.is _ c.totals_right.ensures c.if-not-totals_right.false _ _ c.check_pool.ensures.0 c.check_pool.ensures.1 _ c.ok_or.ensures.value
