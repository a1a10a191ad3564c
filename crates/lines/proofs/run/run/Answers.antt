-- The start is refused, or the tape is, or its lines follow.
use Rattle.std.proofs.Common.{◌∙◌, arith}
use Rattle.semantics.specs.Promises.{parts}
use Rattle.semantics.specs.Entries.{tape_on}
use Rattle.soundness.specs.Layout.{two_words}
use Rattle.lines.proofs.Calls.{run_refused, run-accepted, tape_refused_lem, tape-accepted}
use Rattle.lines.proofs.Writes.{more_room, up_to_same}
use Rattle.lines.proofs.run.run.Goals as goal

pub returns-then-refused-ne0 : goal.returns-then-refused-ne0
returns-then-refused-ne0 c =
    let s = c.splitter_start-refused in
    up_to_same (run_refused s.result _ _ _ _ _ _ _ s.ensures.result c.if-refused-ne0.true) (more_room (omega arith) c.put_refused.ensures)

pub returns-then-refused-ne0-2 : goal.returns-then-refused-ne0-2
returns-then-refused-ne0-2 c =
    let m = c.args.memory in
    let s = c.splitter_start-refused in
    let t = c.splitter_tape-refused in
    let state = parts s.new.numbers s.new.deques s.new.frames in
    let tape = tape_on two_words state s.new.pool m.work.now c.args.records.now m.answers.now in
    up_to_same
    (tape_refused_lem t.result tape t.ensures.result c.if-refused-ne0-2.true
    ∙ run-accepted s.result _ _ _ _ _ _ _ s.ensures.result state s.new.pool c.if-refused-ne0.false s.ensures.state s.ensures.pool)
    (more_room (omega arith) c.put_refused-then-refused-ne0-2.ensures)

pub returns : goal.returns
returns c =
    let m = c.args.memory in
    let s = c.splitter_start-refused in
    let t = c.splitter_tape-refused in
    let state = parts s.new.numbers s.new.deques s.new.frames in
    let tape = tape_on two_words state s.new.pool m.work.now c.args.records.now m.answers.now in
    up_to_same
    (tape-accepted t.result tape t.new.answers (parts t.new.numbers t.new.deques t.new.frames) t.new.pool t.ensures.result c.if-refused-ne0-2.false t.ensures.answers t.ensures.state t.ensures.pool
    ∙ run-accepted s.result _ _ _ _ _ _ _ s.ensures.result state s.new.pool c.if-refused-ne0.false s.ensures.state s.ensures.pool)
    (more_room (omega arith) c.put_accepted.ensures)
