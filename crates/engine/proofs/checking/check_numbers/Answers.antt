use Rattle.soundness.specs.Soundness.{numbers_sound}
use Rattle.engine.proofs.checking.check_numbers.Goals as goal

pub returns : goal.returns
unfolding numbers_sound
returns g c = λ fs e. rw (e, c.tree_nodes.ensures, c.has_room.ensures)
