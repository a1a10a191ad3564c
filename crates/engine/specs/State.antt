-- The lent state in the terms of crate semantics. Definitions only.
use Rattle.std.specs.Prelude.{◌≡◌}
use Rattle.semantics.specs.Entries.{State}
use Rattle.semantics.specs.Promises.{parts}
use Rattle.engine.specs.declared.state.State.{State as LentState}
use Rattle.engine.specs.declared.state_ref.StateRef.{StateRef}

-- the state that is lent
abbrev pub parts_in : LentState → State
parts_in s = parts s.numbers.now s.deques.now s.frames.now

abbrev pub parts_at : StateRef → State
parts_at s = parts s.numbers.now s.deques.now s.frames.now

-- the parts are the lent ones still: what is stored in them is stored in the host's memory
pub record SameParts (s t : LentState) : Type 0 where
  pub numbers : t.numbers.ghost_name ≡ s.numbers.ghost_name
  pub deques : t.deques.ghost_name ≡ s.deques.ghost_name
  pub frames : t.frames.ghost_name ≡ s.frames.ghost_name
