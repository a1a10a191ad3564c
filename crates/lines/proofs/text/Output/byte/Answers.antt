-- A byte that fits, and one that does not.
use Rattle.std.proofs.Common.{refl}
use Rattle.lines.proofs.Theory.{stores_byte, stores_none}
use Rattle.lines.proofs.text.Output.byte.Goals as goal

pub returns-then-self : goal.returns-then-self
returns-then-self c = record { same = refl; stored = stores_byte _ _ _ c.if-self.true }

pub returns-else-self : goal.returns-else-self
returns-else-self c = record { same = refl; stored = stores_none _ _ _ c.if-self.false }
