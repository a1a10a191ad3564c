-- The values before the place are read.
use Rattle.std.proofs.Common.{◌≡◌, ◌++◌, ◌+◌, ◌-◌, ◌*◌, length, take}
use Rattle.lines.specs.Lines.{numbers_at}
use Rattle.lines.proofs.input.read_values.Given as goal

abbrev pub invariant-loop-i : goal.invariant-loop-i
invariant-loop-i l = take l.i l.values ++ numbers_at (length l.fn.values - l.i) l.input (8 + 4 * l.i) ≡ numbers_at (length l.fn.values) l.input 8
