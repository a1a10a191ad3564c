-- The ways out: `proofs/Ways.antt`.
use mathlib.Core.Path.{ap}
use Rattle.engine.specs.Promises.{result_number}
use Rattle.engine.proofs.Numbered.{handed}
use Rattle.conversion.proofs.Ways.{convert_refused_lem, convert_asks, convert_done}
use Rattle.conversion.proofs.convert_on.Goals as goal

pub returns-in_err-check_state : goal.returns-in_err-check_state
returns-in_err-check_state c =
    let s = c.args.state in
    let h = c.from_residual in
    convert_refused_lem s.numbers.now s.deques.now s.frames.now _ _ _ _ c.check_state.ensures _ c.in_err-check_state.was _ (ap result_number (handed h.result _ h.ensures))

pub pack_nodes-requires : goal.pack_nodes-requires
pack_nodes-requires c =
    let s = c.args.state in
    convert_asks s.numbers.now s.deques.now s.frames.now _ _ _ _ c.check_state.ensures _ c.in_ok-check_state.was c.numbers_in.result c.numbers_in.ensures

pub returns : goal.returns
returns c =
    let s = c.args.state in
    convert_done s.numbers.now s.deques.now s.frames.now _ _ _ _ c.check_state.ensures _ c.in_ok-check_state.was c.numbers_in.result c.numbers_in.ensures _ c.pack_nodes.ensures
