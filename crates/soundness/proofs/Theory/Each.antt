-- `all_of` a list of sentences is true if and only if each of them holds: the rows of a list, one by one, and back.
use Rattle.std.specs.Prelude.{◌≡◌, refl, ℕ, zero, suc, Bool, true, ◌&&◌, List, [], ◌∷◌, ◌++◌}
use Rattle.std.proofs.Common.{sym, ap, ◌∙◌}
use Rattle.std.proofs.Math.Bool.{and-true, and_assoc}
use Rattle.words.specs.Tests.{both}
use Rattle.words.specs.Tallies.{and_of}
use Rattle.soundness.specs.Sentence.{Sentence, holds, all_of}

abbrev pub Each : List Sentence → Type 0
Each [] = Unit {0}
Each (s ∷ ss) = (holds s ≡ true) × Each ss

pub all_of_cons : (s : Sentence) (ss : List Sentence) → all_of (s ∷ ss) ≡ holds s && all_of ss
all_of_cons s [] = sym (and-true (holds s))
all_of_cons s (t ∷ ss) = refl

pub each_of : (ss : List Sentence) → all_of ss ≡ true → Each ss
each_of [] e = tt
each_of (s ∷ ss) e = let r = both (holds s) (all_of ss) (sym (all_of_cons s ss) ∙ e) in (r.0, each_of ss r.1)

pub of_each : (ss : List Sentence) → Each ss → all_of ss ≡ true
of_each [] h = refl
of_each (s ∷ ss) h = all_of_cons s ss ∙ and_of h.0 (of_each ss h.1)

-- the test of row k, counted from 0
abbrev pub row : List Sentence → ℕ → Bool
row [] k = true
row (s ∷ ss) zero = holds s
row (s ∷ ss) (suc k) = row ss k

pub row_of : (ss : List Sentence) → all_of ss ≡ true → (k : ℕ) → row ss k ≡ true
row_of [] e k = refl
row_of (s ∷ ss) e zero = (each_of (s ∷ ss) e).0
row_of (s ∷ ss) e (suc k) = row_of ss (both (holds s) (all_of ss) (sym (all_of_cons s ss) ∙ e)).1 k

-- two lists, one after the other
pub all_of-append : (ss ts : List Sentence) → all_of (ss ++ ts) ≡ all_of ss && all_of ts
all_of-append [] ts = refl
all_of-append (s ∷ ss) ts =
    all_of_cons s (ss ++ ts) ∙ ap (λ b. holds s && b) (all_of-append ss ts) ∙ sym (and_assoc (holds s) (all_of ss) (all_of ts)) ∙ ap (λ b. b && all_of ts) (sym (all_of_cons s ss))
