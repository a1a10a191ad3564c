-- A step as a tape of one record. Definitions only.
use Rattle.std.specs.Prelude.{cond, List, [], ◌∷◌, ℕ, ◌/◌, ◌%◌, ◌^◌, eqb}
use Rattle.semantics.specs.Answers.{both_words}

-- a record's bytes, the lowest first
abbrev pub bytes_of : ℕ → ℕ → ℕ → ℕ → List ℕ
bytes_of k w x v =
    k % 2 ^ 8 ∷ w % 2 ^ 8 ∷ x % 2 ^ 8 ∷ x / 2 ^ 8 % 2 ^ 8 ∷ v % 2 ^ 8 ∷ v / 2 ^ 8 % 2 ^ 8 ∷ v / 2 ^ 16 % 2 ^ 8 ∷ v / 2 ^ 24 % 2 ^ 8 ∷ []

-- the number that the tape was refused by, or both answer words
abbrev pub result_words : ℕ → ℕ → ℕ → ℕ
result_words refused a b = cond (eqb refused 0) (both_words (a, b)) refused
