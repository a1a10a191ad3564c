-- A run from its parts, and back to them: `proofs.RunParts`.
use Rattle.std.proofs.Common.{◌≡◌, ◌∙◌, sym, ap, rules, arith}
use Rattle.packed.specs.declared.node_pool.Pool.{Pool}
use Rattle.soundness.specs.Layout.{two_words}
use Rattle.semantics.specs.Core.{Core}
use Rattle.semantics.specs.Entries.{records_result, records_of, run_on}
use Rattle.engine.proofs.RunParts.{nodes_are, pool_asks, core_is, run_done, parts_are}
use Rattle.engine.proofs.runs.run_timed.Goals as goal

pub invariant_of-pool : goal.invariant_of-pool
invariant_of-pool c =
    let a = c.args in
    let e = nodes_are a.numbers.now a.deques.now a.frames.now a.pool.now c.numbers_in.result c.head_of-head.result a.free_count c.numbers_in.ensures c.head_of-head.ensures in
    let p = pool_asks a.numbers.now a.deques.now a.frames.now a.pool.now a.free_count c.requires.0 in
    record { held = omega (arith, e, p.0); few = omega (arith, e, p.1) }

pub returns-clause-runs : goal.returns-clause-runs
returns-clause-runs c =
    let a = c.args in
    let n = c.turns-t in
    let s = n.new.self in
    let runs = n.ensures.runs ∙ ap (λ (q : Core). run_on two_words (records_result q a.answers.now) 0 (records_of a.tape.now)) (core_is a.numbers.now a.deques.now a.frames.now a.pool.now c.numbers_in.result c.head_of-head.result a.free_count c.numbers_in.ensures c.head_of-head.ensures) in
    let done = run_done a.numbers.now a.deques.now a.frames.now a.pool.now c.numbers_in.result c.head_of-head.result a.free_count c.numbers_in.ensures c.head_of-head.ensures _ s.numbers.now s.deques.now s.frames.now s.pool.now.words.now n.new.answers c.put_free.new.numbers s.head (search rules) n.ensures.same.words n.ensures.same.head runs c.put_free.ensures in
    let q : c.pool-4-1.given.0 ≡ s.pool.now = c.pool-4-1.given.1 (sym n.ensures.same.pool) in
    parts_are _ _ _ _ _ _ _ _ _ _ done (c.numbers-1.given.1 (sym n.ensures.same.numbers)) (c.deques-1.given.1 (sym n.ensures.same.deques)) (c.frames-1.given.1.1 (sym n.ensures.same.frames)) (c.pool-5-1.given.1.1 (sym n.ensures.same.pool_words ∙ sym (ap (λ (p : Pool). p.words.ghost_name) q)) ∙ ap (λ (p : Pool). p.words.now) q)
