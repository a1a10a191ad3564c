-- "Empty tape: no answers, only the work slice changed", for every state, pool and slices.
use Rattle.soundness.specs.Soundness.{Checked}
use Rattle.soundness.specs.declared.CheckError.{CheckError}
use Rattle.soundness.specs.declared.CheckError.TheVariants.{NoRoom}
use Rattle.std.specs.Prelude.{◌≡◌, ℕ, length, Err, Ok}
use Rattle.std.proofs.Math.Path.{refl}
use Rattle.std.proofs.Math.Logic.{inl, inr}
use Rattle.std.proofs.Math.Bool.{false}
use mathlib.Core.List.{List, []}
use Rattle.std.proofs.Common.{arith}
use borrow.Author.Tests.{le-ltb}
use Rattle.words.specs.Tests.{decided}
use Rattle.semantics.specs.Entries.{State, fits, checked_state, records_from, run_on, unfit_tape, TapeResult, tape_checked, tape_with, tape_on}
use Rattle.semantics.specs.Promises.{Fits}
use Rattle.semantics.proofs.Theory.Fitting.{true_fits, state_back}
use Rattle.soundness.specs.Layout.{Layout}

-- of a tape's result
pub record Untouched (s : State) (ws answers : List ℕ) (o : TapeResult) : Type 0 where
  pub state : o.state ≡ s
  pub pool : o.pool ≡ ws
  pub same-answers : o.answers ≡ answers

module _ (layout : Layout) where
  pub empty_tape : (s : State) (ws work answers : List ℕ) → Untouched s ws answers (tape_on layout s ws work [] answers)
  unfolding tape_on tape_with
  empty_tape s ws work answers = elim (decided (fits s)) [ inl e ↦ rw (e, unfit) (after (true_fits s e) (checked_state layout s ws work)) | inr e ↦ rw e left ]
    where
      unfit : unfit_tape [] answers ≡ false
      unfit = le-ltb (length answers) 0 (omega arith)

      left : {work : List ℕ} {r : ℕ} → Untouched s ws answers (record { state = s; pool = ws; work = work; answers = answers; result = r })
      left = record { state = refl; pool = refl; same-answers = refl }

      after : Fits s → (k : Checked) → Untouched s ws answers (tape_checked layout k s ws work [] answers)
      after F (Err NoRoom) = left
      after F (Err CheckError.Unsound) = left
      after F (Ok n) = unfold run_on records_from in record { state = state_back s ws n F; pool = refl; same-answers = refl }
