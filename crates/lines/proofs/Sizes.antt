-- How many bytes the lines have at most: a word has at most ten digits.
use mathlib.Core.Path.{ap}
use mathlib.Core.Logic.{inl, inr}
use mathlib.Core.List.{List, [], ◌∷◌, ◌++◌}
use Prim.Native.Nat.{ℕ, zero, suc, ◌*◌, ◌/◌, ◌≤◌, ◌<◌}
use native.Mathlib.Omega.{arith}
use lib.ListN.{length, get_or, length-append}
use lib.Dec.{eqb, ltb}
use Rattle.words.specs.Basics.{none, follow}
use Rattle.words.specs.Tests.{decided, lt_of, ge_of}
use Rattle.packed.specs.Pool.{next_free}
use Rattle.soundness.specs.PackedTrees.{free_nodes}
use Rattle.lines.specs.Lines.{refused_line, digit, decimal, line, answer_lines, free_line}
use Rattle.lines.proofs.Numbers.{decimal_one, decimal_more}

-- 10, 100, ..
abbrev tens : ℕ → ℕ
tens zero = 10
tens (suc k) = 10 * tens k

digits_short : (k n : ℕ) → n < tens k → length (decimal n) ≤ suc k
digits_short zero n h = omega (arith, ap length (decimal_one n h))
digits_short (suc k) n h = elim (decided (ltb n 10)) [
  | inl e ↦ omega (arith, ap length (decimal_one n (lt_of e)))
  | inr e ↦ omega (arith, ap length (decimal_more n (ge_of e)), length-append (decimal (n / 10)) (digit n ∷ []), digits_short k (n / 10) (omega arith))
]

pub word_short : (n : ℕ) → n ≤ 4294967296 → length (decimal n) ≤ 10
word_short n h = digits_short 9 n (omega arith)

pub two_short : (a b : ℕ) → a < 4294967296 → b < 4294967296 → length (line (decimal a ∷ decimal b ∷ [])) ≤ 22
two_short a b p q =
    omega (arith, length-append (decimal a) (32 ∷ (decimal b ++ 10 ∷ [])), length-append (decimal b) (10 ∷ []), word_short a (omega arith), word_short b (omega arith))

pub three_short : (a b c : ℕ) → a < 4294967296 → b < 4294967296 → c < 4294967296 → length (line (decimal a ∷ decimal b ∷ decimal c ∷ [])) ≤ 33
three_short a b c p q r = omega (arith, length-append (decimal a) (32 ∷ line (decimal b ∷ decimal c ∷ [])), two_short b c q r, word_short a (omega arith))

pub four_short : (a b c d : ℕ) → a < 4294967296 → b < 4294967296 → c < 4294967296 → d < 4294967296 → length (line (decimal a ∷ decimal b ∷ decimal c ∷ decimal d ∷ [])) ≤ 44
four_short a b c d p q r s = omega (arith, length-append (decimal a) (32 ∷ line (decimal b ∷ decimal c ∷ decimal d ∷ [])), three_short b c d q r s, word_short a (omega arith))

pub answers_short : (ws : List ℕ) → ((i : ℕ) → get_or ws i 0 < 4294967296) → length (answer_lines ws) ≤ 11 * length ws
unfolding answer_lines
answers_short [] h = omega arith
answers_short (a ∷ []) h = omega arith
answers_short (a ∷ b ∷ ws) h =
    omega (arith, length-append (line (decimal a ∷ decimal b ∷ [])) (answer_lines ws), two_short a b (h 0) (h 1), answers_short ws (λ i. h (suc (suc i))))

follow_short : (c : ℕ) (next : ℕ → ℕ) (a : ℕ) → length (follow c next a) ≤ c
follow_short zero next a = omega arith
follow_short (suc c) next a = elim (decided (eqb a none)) [
  | inl e ↦ rw (e, follow) (omega arith)
  | inr e ↦ rw (e, follow) (omega (arith, follow_short c next (next a)))
]

pub refused_short : (k : ℕ) → k < 4294967296 → length (refused_line k) ≤ 19
refused_short k h = omega (arith, length-append (decimal k) (10 ∷ []), word_short k (omega arith))

pub free_short : (nodes : ℕ) (pool : List ℕ) (first : ℕ) → nodes < 4294967296 → length (free_line (length (free_nodes nodes pool first))) ≤ 19
free_short nodes pool first n =
    let free : ℕ = length (free_nodes nodes pool first) in
    let f : free ≤ suc nodes = follow_short (suc nodes) (next_free pool) first in
    omega (arith, length-append (decimal free) (10 ∷ []), word_short free (omega arith))
