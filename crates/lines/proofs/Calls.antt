-- The lines of a start and of a tape, by the call's result.
use mathlib.Core.Path.{◌≡◌}
use mathlib.Core.Logic.{◌≢◌}
use mathlib.Core.List.{List}
use Prim.Native.Nat.{ℕ}
use borrow.Author.Tests.{eq-eqb, ne_eqb}
use Rattle.semantics.specs.Entries.{State, totals_of, chain_free, start_on, TapeResult, tape_on}
use Rattle.lines.specs.Lines.{refused_line, accepted_lines, tape_lines, run_lines}
use Rattle.soundness.specs.Layout.{two_words}

module _ (r : ℕ) where
  pub tape_refused_lem : (p : TapeResult) → r ≡ p.result → r ≢ 0 → refused_line r ≡ tape_lines p
  tape_refused_lem p e d = rw (← e, ne_eqb r 0 d)

  pub tape-accepted : (p : TapeResult) (answers : List ℕ) (state : State) (ws : List ℕ) → r ≡ p.result → r ≡ 0 → answers ≡ p.answers → state ≡ p.state → ws ≡ p.pool
      → accepted_lines answers (chain_free two_words state ws) (totals_of state) ≡ tape_lines p
  tape-accepted p answers state ws e d an st po = rw (← e, eq-eqb r 0 d, ← an, ← st, ← po)

  module _ (s : State) (workers : ℕ) (vs ws work records answers : List ℕ) (e : r ≡ (start_on two_words s workers vs ws).result) where
    pub run_refused : r ≢ 0 → refused_line r ≡ run_lines s workers vs ws work records answers
    unfolding run_lines
    run_refused d = rw (← e, ne_eqb r 0 d)

    pub run-accepted : (state : State) (ws' : List ℕ) → r ≡ 0 → state ≡ (start_on two_words s workers vs ws).state → ws' ≡ (start_on two_words s workers vs ws).pool
        → tape_lines (tape_on two_words state ws' work records answers) ≡ run_lines s workers vs ws work records answers
    unfolding run_lines
    run-accepted state ws' d st po = rw (← e, eq-eqb r 0 d, ← st, ← po)
