-- The code's tests are the definition's.
use Rattle.std.proofs.Common.{inl, inr, lt-ltb, le-ltb, true, ◌≡◌, ℕ, ◌<◌, ◌≤◌}
use mathlib.Core.Logic.{◌⊎◌}
use Rattle.lines.specs.Lines.{records_start, unfit}
use Rattle.lines.proofs.input.is_unfit.Goals as goal

unfit_by : (size n nodes : ℕ) → size < 8 ⊎ ((8 ≤ size × 256 < n) ⊎ ((8 ≤ size × n ≤ 256 × 1024 < nodes) ⊎ (8 ≤ size × n ≤ 256 × nodes ≤ 1024 × size < records_start n)))
    → true ≡ unfit size n nodes
unfolding unfit
unfit_by size n nodes (inl a) = rw (lt-ltb size 8 a)
unfit_by size n nodes (inr (inl h)) = rw (le-ltb size 8 h.0, lt-ltb 256 n h.1)
unfit_by size n nodes (inr (inr (inl h))) = rw (le-ltb size 8 h.0, le-ltb 256 n h.1, lt-ltb 1024 nodes h.2)
unfit_by size n nodes (inr (inr (inr h))) = rw (le-ltb size 8 h.0, le-ltb 256 n h.1, le-ltb 1024 nodes h.2, lt-ltb size (records_start n) h.3)

pub returns-then-size-lt8 : goal.returns-then-size-lt8
returns-then-size-lt8 c = unfit_by c.args.size c.args.n c.args.nodes c.then-size-lt8.either

pub returns : goal.returns
unfolding unfit
returns c =
    rw (
      le-ltb c.args.size 8 c.if-size-lt8.false,
      le-ltb 256 c.args.n c.if-n-gt256.false,
      le-ltb 1024 c.args.nodes c.if-nodes-gt1024.false,
      le-ltb c.args.size _ c.if-size-start.false,
    )
