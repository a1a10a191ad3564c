-- A state whose parts have their lengths: the entries' test, and its words are those of its core.
use Rattle.std.specs.Prelude.{◌≡◌, true, List, ℕ, length, drop, eqb}
use Rattle.std.proofs.Common.{ap, arith, length-drop, length-take-le, eqb-true, eq-eqb}
use Rattle.words.specs.Tests.{both}
use Rattle.frames.specs.Widths.{deque_words}
use Rattle.soundness.specs.Numbers.{head_count, total_count, number_count}
use Rattle.semantics.specs.Entries.{State, fits, totals_of, core_of, state_of}
use Rattle.semantics.specs.Promises.{Fits}
use Rattle.semantics.proofs.Theory.NumberWords.{numbers_back}

pub fits_true : (s : State) → Fits s → fits s ≡ true
fits_true s F = rw (eq-eqb (length s.numbers) number_count F.numbers, eq-eqb (length s.deques) deque_words F.deques)

pub true_fits : (s : State) → fits s ≡ true → Fits s
true_fits s e =
    let x = both (eqb (length s.numbers) number_count) (eqb (length s.deques) deque_words) e in
    record { numbers = eqb-true (length s.numbers) number_count x.0; deques = eqb-true (length s.deques) deque_words x.1 }

pub state_back : (s : State) (ws : List ℕ) (k : ℕ) → Fits s → state_of (core_of s ws k) ≡ s
state_back s ws k F = ap (λ (ns : List ℕ). record { numbers = ns; deques = s.deques; frames = s.frames }) (numbers_back s.numbers F.numbers)

-- the words of its totals
pub totals_long : (s : State) → Fits s → length (totals_of s) ≡ total_count
totals_long s F = length-take-le total_count (drop head_count s.numbers) (omega (arith, length-drop head_count s.numbers, F.numbers))
