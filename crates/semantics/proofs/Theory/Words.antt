-- The answer words: which answers refuse a whole call, and which accept a step; the two words in one number.
use Rattle.semantics.specs.Answers.{Answer}
use Rattle.model.specs.Record.{Decoded}
use Rattle.std.specs.Prelude.{◌≡◌, Bool, true, false, List, [], ◌∷◌, ℕ, ◌+◌, ◌*◌, ◌/◌, ◌%◌, ◌^◌, ◌<◌, Err, None, Ok, Some}
use Rattle.std.proofs.Math.Path.{refl, ap}
use Rattle.std.proofs.Common.{sym, ap₂, ◌∙◌, inl, inr, arith}
use Rattle.std.proofs.lemmas.Bool.{lt-leb}
use Rattle.words.specs.Tests.{decided, true≢false}
use Rattle.model.specs.declared.Step.{Step}
use Rattle.model.specs.declared.Step.TheVariants.{Spawn, Return, Steal, Sync, Read, Write, Fold}
use Rattle.model.specs.Machine.{Frame, Machine, deque}
use Rattle.model.specs.Steps.{Action, spawn, return, sync, read, write, fold, Turn, acting, stealing, turn_of, first_true, turn_tests, refusal, action_answer, turn_answer}
use Rattle.model.specs.Run.{bottom_entry as plainBottom, turn_entry as plainEntry}
use Rattle.model.proofs.Theory.Effects.{Passes, acts}
use Rattle.semantics.specs.declared.Done.TheVariants.{Spawned, Ended, Stolen, Waited, Value, Written, Folded}
use Rattle.semantics.specs.declared.Refusal.{Refusal}
use Rattle.semantics.specs.Answers.{refusal_number, answer_words, both_words, words_in}
use Rattle.frames.specs.declared.Returned.{Returned}
use Rattle.semantics.proofs.Theory.Returning.{return_answers}
use Rattle.semantics.specs.Core.{Core, StepResult, judged, spawn_on, steal_on, sync_on, read_on, write_on, fold_on, step_on, tests_of, done_by}
use Rattle.semantics.specs.Entries.{record_on}
use Rattle.semantics.specs.Calls.{refused_whole, says_accepted, bottom_entry, turn_entry}
use Rattle.semantics.proofs.Theory.Refusals.{number_range}
use Rattle.soundness.specs.Layout.{Layout}

-- ---- the two words of an answer, in one number

-- the first word fits the low half
pub words_low : (a : Answer) → (answer_words a).0 < 2 ^ 32
words_low (Ok (Spawned k)) = omega arith
words_low (Ok (Ended o)) = omega arith
words_low (Ok (Stolen k)) = omega arith
words_low (Ok (Waited o)) = omega arith
words_low (Ok (Value v)) = omega arith
words_low (Ok (Written k)) = omega arith
words_low (Ok Folded) = omega arith
words_low (Err r) = omega (arith, (number_range r).1)

-- the two words go into one number and come back
pub words_back : (w : ℕ × ℕ) → w.0 < 2 ^ 32 → words_in (both_words w) ≡ w
words_back w low =
    let first : (w.0 + 4294967296 * w.1) % 4294967296 ≡ w.0 = omega arith in
    let second : (w.0 + 4294967296 * w.1) / 4294967296 ≡ w.1 = omega arith in
    ap₂ (λ (x y : ℕ). (x, y)) first second

-- ---- a record is never refused as a whole call is

abbrev NotWhole : List (Bool × Refusal) → Type 0
NotWhole [] = Unit {0}
NotWhole (t ∷ ts) = (refused_whole (refusal_number t.1, 0) ≡ false) × NotWhole ts

judged_not_whole : (ts : List (Bool × Refusal)) (c : Core) (d : StepResult) → NotWhole ts → refused_whole (answer_words d.answer) ≡ false → refused_whole (answer_words (judged ts c d).answer) ≡ false
judged_not_whole [] c d h k = k
judged_not_whole (t ∷ ts) c d h k = elim (decided t.0) [ inl e ↦ rw e h.0 | inr e ↦ rw e (judged_not_whole ts c d h.1 k) ]

ended_whole : (o : Returned) → refused_whole (answer_words (Ok (Ended o))) ≡ false
ended_whole o = refl

module _ (layout : Layout) where
  step_not_whole : (c : Core) (st : Step) → refused_whole (answer_words (step_on layout c st).answer) ≡ false
  unfolding step_on
  step_not_whole c st = judged_not_whole (tests_of layout c st) c (done_by layout c st) (tests st) (done st)
    where
      tests : (st : Step) → NotWhole (tests_of layout c st)
      tests (Spawn w) = (refl, (refl, (refl, (refl, tt))))
      tests (Return w) = (refl, (refl, (refl, tt)))
      tests (Steal w v) = (refl, (refl, (refl, (refl, tt))))
      tests (Sync w) = (refl, (refl, (refl, tt)))
      tests (Read w x) = (refl, (refl, (refl, (refl, tt))))
      tests (Write w x v) = (refl, (refl, (refl, (refl, (refl, tt)))))
      tests (Fold w r v) = (refl, (refl, (refl, (refl, tt))))

      done : (st : Step) → refused_whole (answer_words (done_by layout c st).answer) ≡ false
      done (Spawn w) = unfold spawn_on in refl
      done (Return w) = let a = return_answers layout c w in ap (λ z. refused_whole (answer_words z)) a.1 ∙ ended_whole a.0
      done (Steal w v) = unfold steal_on in refl
      done (Sync w) = unfold sync_on in refl
      done (Read w x) = unfold read_on in refl
      done (Write w x v) = unfold write_on in refl
      done (Fold w r v) = unfold fold_on in refl

  pub not_whole : (c : Core) (d : Decoded) → refused_whole (answer_words (record_on layout c d).answer) ≡ false
  not_whole c (Some st) = step_not_whole c st
  not_whole c None = refl

-- ---- a record that is refused changes nothing

abbrev accepts : Answer → Bool
accepts a = says_accepted (answer_words a)

judged_keeps : (ts : List (Bool × Refusal)) (c : Core) (d : StepResult) → accepts d.answer ≡ true → accepts (judged ts c d).answer ≡ false → (judged ts c d).core ≡ c
judged_keeps [] c d a e = absurd (true≢false (sym a ∙ e))
judged_keeps (t ∷ ts) c d a e = elim (decided t.0) [ inl b ↦ rw b | inr b ↦ rw b (judged_keeps ts c d a (rw b at e)) ]

module _ (layout : Layout) where
  done_accepts : (c : Core) (st : Step) → accepts (done_by layout c st).answer ≡ true
  done_accepts c (Spawn w) = unfold spawn_on in refl
  done_accepts c (Return w) = ap accepts (return_answers layout c w).1
  done_accepts c (Steal w v) = unfold steal_on in refl
  done_accepts c (Sync w) = unfold sync_on in refl
  done_accepts c (Read w x) = unfold read_on in refl
  done_accepts c (Write w x v) = unfold write_on in refl
  done_accepts c (Fold w r v) = unfold fold_on in refl

  step_keeps : (c : Core) (st : Step) → accepts (step_on layout c st).answer ≡ false → (step_on layout c st).core ≡ c
  unfolding step_on
  step_keeps c st e = judged_keeps (tests_of layout c st) c (done_by layout c st) (done_accepts c st) e

  pub refused_keeps : (c : Core) (d : Decoded) → (answer_words (record_on layout c d).answer).0 < 100 → (record_on layout c d).core ≡ c
  refused_keeps c (Some st) h = step_keeps c st (lt-leb 100 (answer_words (step_on layout c st).answer).0 h)
  refused_keeps c None h = refl

-- ---- the plain machine's refusals are 8 to 16, and 20

abbrev Low : List (Bool × ℕ) → Type 0
Low [] = Unit {0}
Low (t ∷ ts) = (t.1 < 100) × Low ts

first_low : (ts : List (Bool × ℕ)) → Low ts → first_true 0 ts < 100
first_low [] h = omega arith
first_low (t ∷ ts) h = elim (decided t.0) [ inl e ↦ rw e h.0 | inr e ↦ rw e (first_low ts h.1) ]

tests_low : (M : Machine) (t : Turn) → Low (turn_tests M t)
tests_low M (stealing w v) = omega arith
tests_low M (acting w a) = (omega arith, (omega arith, (omega arith, own (deque M w) a)))
  where
    own : (d : List Frame) (a : Action) → Low (Rattle.model.specs.Steps.action_tests M w d a)
    own [] a = tt
    own (q ∷ d) spawn = omega arith
    own (q ∷ d) return = omega arith
    own (q ∷ d) sync = tt
    own (q ∷ d) (read x) = omega arith
    own (q ∷ d) (write x v) = omega arith
    own (q ∷ d) (fold r v) = omega arith

pub refusal_low : (M : Machine) (st : Step) → refusal M st < 100
unfolding refusal
refusal_low M st = first_low (turn_tests M (turn_of st)) (tests_low M (turn_of st))

-- ---- an accepted turn's answer says so, and what its frame did and read is told by it

pub turn_same : (M : Machine) (t : Turn) → Passes M t → (says_accepted (turn_answer M t) ≡ true) × (turn_entry M t (turn_answer M t) ≡ plainEntry M t)
turn_same M (stealing w v) h = (refl, refl)
turn_same M (acting w a) h = let x = acts M w a h in rw x.at (own x.actor x.above a)
  where
    own : (q : Frame) (d : List Frame) (a : Action) → (says_accepted (action_answer M w (q ∷ d) a) ≡ true) × (bottom_entry (q ∷ d) a (action_answer M w (q ∷ d) a) ≡ plainBottom (q ∷ d) a)
    own q d spawn = (refl, refl)
    own q d return = (refl, refl)
    own q d sync = (refl, refl)
    own q d (read x) = (refl, refl)
    own q d (write x v) = (refl, refl)
    own q d (fold r v) = (refl, refl)
