-- The number of a call's result, from what it tested.
use Rattle.std.specs.Prelude.{Result, Ok, Err, ⊤, is_err, IsErr, IsErrAnd}
use mathlib.Core.Path.{◌≡◌, refl, sym, ap, ◌∙◌}
use mathlib.Core.Logic.{◌≢◌}
use mathlib.Core.Bool.{Bool, true, false, cond}
use mathlib.Core.List.{List, [], ◌∷◌}
use Prim.Native.Nat.{ℕ}
use native.Mathlib.Omega.{arith}
use Rattle.words.specs.Tests.{true≢false}
use Rattle.soundness.specs.Soundness.{Checked}
use Rattle.soundness.specs.declared.CheckError.{CheckError}
use Rattle.image.specs.Image.{ImageCheck}
use Rattle.image.specs.declared.ImageError.{ImageError}
use Rattle.semantics.specs.declared.Refusal.{Refusal}
use Rattle.semantics.specs.declared.Refusal.TheVariants.{Values, Workers, Nodes, Tape, Work, Record, NoWorker, MainReturned, WorkerIdle, ThiefBusy, NoVictim, FramesFull, NoSplitter, PoolFull, Blocks, BlockCheck, Target, NoReducer, Places, Span, Lengths}
use Rattle.semantics.specs.Answers.{refusal_number, check_refusal, image_refusal}
use Rattle.engine.specs.Promises.{result_number, tested}

-- no refusal has the number 0
pub refusal-some : (r : Refusal) → refusal_number r ≢ 0
refusal-some Values e = omega arith
refusal-some Workers e = omega arith
refusal-some Nodes e = omega arith
refusal-some Tape e = omega arith
refusal-some Work e = omega arith
refusal-some Refusal.Unsound e = omega arith
refusal-some Record e = omega arith
refusal-some NoWorker e = omega arith
refusal-some MainReturned e = omega arith
refusal-some WorkerIdle e = omega arith
refusal-some ThiefBusy e = omega arith
refusal-some NoVictim e = omega arith
refusal-some FramesFull e = omega arith
refusal-some NoSplitter e = omega arith
refusal-some PoolFull e = omega arith
refusal-some Blocks e = omega arith
refusal-some BlockCheck e = omega arith
refusal-some Target e = omega arith
refusal-some NoReducer e = omega arith
refusal-some Places e = omega arith
refusal-some Span e = omega arith
refusal-some Lengths e = omega arith

-- the number of the first test that holds, or 0
abbrev pub refusal_by : List (Bool × Refusal) → ℕ
refusal_by [] = 0
refusal_by (t ∷ ts) = cond t.0 (refusal_number t.1) (refusal_by ts)

pub number_of : (b : Bool) (r : Refusal) (x : Result ⊤ Refusal) → result_number (cond b (Err r) x) ≡ cond b (refusal_number r) (result_number x)
number_of true r x = refl
number_of false r x = refl

pub number_tested : (ts : List (Bool × Refusal)) → result_number (tested ts) ≡ refusal_by ts
number_tested [] = refl
number_tested (t ∷ ts) = number_of t.0 t.1 (tested ts) ∙ ap (cond t.0 (refusal_number t.1)) (number_tested ts)

-- of the check of a state, and of an image's bytes
abbrev pub check_number : Checked → ℕ
check_number (Err e) = refusal_number (check_refusal e)
check_number (Ok k) = 0

abbrev pub image_number : ImageCheck → ℕ
image_number (Err e) = refusal_number (image_refusal e)
image_number (Ok _) = 0

-- ---- a result and its number

pub some_refused : (x : Result ⊤ Refusal) → is_err x ≡ true → result_number x ≢ 0
some_refused (Ok _) t = absurd (true≢false (sym t))
some_refused (Err r) t = refusal-some r

pub none_refused : (x : Result ⊤ Refusal) → is_err x ≡ false → result_number x ≡ 0
none_refused (Ok _) f = refl
none_refused (Err r) f = absurd (true≢false f)

pub err_refused : (x : Result ⊤ Refusal) (r : Refusal) → x ≡ Err r → result_number x ≢ 0
err_refused x r e = some_refused x (ap is_err e)

-- ---- what a `?` hands on

pub handed : (x : Result ⊤ Refusal) (r : Refusal) → IsErr x × IsErrAnd x (λ t. t ≡ r) → x ≡ Err r
handed (Ok _) r h = absurd h.1
handed (Err t) r h = ap Err h.1

-- of the check of a state, of that of an image, and of a test
module _ (x : Result ⊤ Refusal) where
  pub some_handed : (r : Refusal) → IsErr x × IsErrAnd x (λ t. t ≡ r) → result_number x ≢ 0
  some_handed r h = err_refused x r (handed x r h)

  pub check_handed : (k : Checked) (e : CheckError) → k ≡ Err e → IsErr x × IsErrAnd x (λ t. t ≡ check_refusal e) → result_number x ≡ check_number k
  check_handed k e q h = ap result_number (handed x (check_refusal e) h) ∙ sym (ap check_number q)

  pub image_handed : (k : ImageCheck) (e : ImageError) → k ≡ Err e → IsErr x × IsErrAnd x (λ t. t ≡ image_refusal e) → result_number x ≡ image_number k
  image_handed k e q h = ap result_number (handed x (image_refusal e) h) ∙ sym (ap image_number q)

  pub test_handed : (b : Bool) (t r : Refusal) (y : Result ⊤ Refusal) → y ≡ cond b (Err t) (Ok tt) → y ≡ Err r → IsErr x × IsErrAnd x (λ t. t ≡ r) → result_number x ≡ cond b (refusal_number t) 0
  test_handed b t r y e q h = ap result_number (handed x r h) ∙ sym (ap result_number q) ∙ ap result_number e ∙ number_of b t (Ok tt)

pub test_passed : (b : Bool) (t : Refusal) (y : Result ⊤ Refusal) (u : ⊤) → y ≡ cond b (Err t) (Ok tt) → y ≡ Ok u → 0 ≡ cond b (refusal_number t) 0
test_passed b t y u e q = sym (ap result_number q) ∙ ap result_number e ∙ number_of b t (Ok tt)

pub check_some : (k : Checked) → is_err k ≡ true → check_number k ≢ 0
check_some (Ok _) t = absurd (true≢false (sym t))
check_some (Err e) t = refusal-some (check_refusal e)

pub check_none : (k : Checked) → is_err k ≡ false → check_number k ≡ 0
check_none (Ok _) f = refl
check_none (Err e) f = absurd (true≢false f)
