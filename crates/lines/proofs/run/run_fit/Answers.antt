-- The parts of the arrays are zeros, and the part of the input is the records.
use Rattle.std.proofs.Common.{ℕ, sym, ap, ◌∙◌, arith}
use Rattle.lines.specs.Lines.{numbers_at}
use Rattle.lines.proofs.Whole.{fit_written, length_part}
use Rattle.lines.proofs.run.run_fit.Goals as goal

pub returns : goal.returns
returns c =
    let a = c.args in
    fit_written a.workers a.n a.nodes a.input.now _ _ 2048 1024 4096
    (c.read_values.ensures ∙ ap (λ (k : ℕ). numbers_at k a.input.now 8) (sym (length_part a.n 256 c.requires.0))) c.free-frames.ensures
    (omega (arith, c.requires.1)) c.requires.1 (omega (arith, c.requires.3)) c.run.ensures
