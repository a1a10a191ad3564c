-- The words of the numbers and of the totals behind them, stored one by one.
use mathlib.Core.Path.{◌≡◌, refl}
use mathlib.Core.Bool.{◌&&◌}
use mathlib.Core.List.{List, [], ◌∷◌}
use Prim.Native.Nat.{ℕ}
use native.Mathlib.Omega.{arith}
use lib.Dec.{eqb}
use lib.ListN.{length, get_or, set, replicate}
use Rattle.words.specs.Basics.{all}
use Rattle.soundness.specs.Numbers.{total_count, number_count, numbers_in, number_words, totals_in, set_free_node, set_free_place}

-- four words stored in the place of the totals
pub totals_stored : (l : List ℕ) (a b d e : ℕ) → length l ≡ number_count → (totals_in (set (set (set (set l 5 a) 6 b) 7 d) 8 e) ≡ a ∷ b ∷ d ∷ e ∷ []) × (numbers_in (set (set (set (set l 5 a) 6 b) 7 d) 8 e) ≡ numbers_in l)
totals_stored [] a b d e ln = absurd (omega arith)
totals_stored (x0 ∷ []) a b d e ln = absurd (omega arith)
totals_stored (x0 ∷ x1 ∷ []) a b d e ln = absurd (omega arith)
totals_stored (x0 ∷ x1 ∷ x2 ∷ []) a b d e ln = absurd (omega arith)
totals_stored (x0 ∷ x1 ∷ x2 ∷ x3 ∷ []) a b d e ln = absurd (omega arith)
totals_stored (x0 ∷ x1 ∷ x2 ∷ x3 ∷ x4 ∷ []) a b d e ln = absurd (omega arith)
totals_stored (x0 ∷ x1 ∷ x2 ∷ x3 ∷ x4 ∷ x5 ∷ []) a b d e ln = absurd (omega arith)
totals_stored (x0 ∷ x1 ∷ x2 ∷ x3 ∷ x4 ∷ x5 ∷ x6 ∷ []) a b d e ln = absurd (omega arith)
totals_stored (x0 ∷ x1 ∷ x2 ∷ x3 ∷ x4 ∷ x5 ∷ x6 ∷ x7 ∷ []) a b d e ln = absurd (omega arith)
totals_stored (x0 ∷ x1 ∷ x2 ∷ x3 ∷ x4 ∷ x5 ∷ x6 ∷ x7 ∷ x8 ∷ []) a b d e ln = absurd (omega arith)
totals_stored (x0 ∷ x1 ∷ x2 ∷ x3 ∷ x4 ∷ x5 ∷ x6 ∷ x7 ∷ x8 ∷ x9 ∷ []) a b d e ln = (refl, refl)
totals_stored (x0 ∷ x1 ∷ x2 ∷ x3 ∷ x4 ∷ x5 ∷ x6 ∷ x7 ∷ x8 ∷ x9 ∷ x10 ∷ l) a b d e ln = absurd (omega arith)

-- five words, four zeros behind them, and one more
pub ten_words : (l : List ℕ) (a b d e f k : ℕ) → length l ≡ number_count → set (set (set (set (set (set (set (set (set (set l 0 a) 1 b) 2 d) 3 e) 4 f) 5 0) 6 0) 7 0) 8 0) 9 k ≡ number_words (record { workers = a; splitters = b; nodes = d; free_node = e; free_place = f; places = k }) (replicate total_count 0)
ten_words [] a b d e f k ln = absurd (omega arith)
ten_words (x0 ∷ []) a b d e f k ln = absurd (omega arith)
ten_words (x0 ∷ x1 ∷ []) a b d e f k ln = absurd (omega arith)
ten_words (x0 ∷ x1 ∷ x2 ∷ []) a b d e f k ln = absurd (omega arith)
ten_words (x0 ∷ x1 ∷ x2 ∷ x3 ∷ []) a b d e f k ln = absurd (omega arith)
ten_words (x0 ∷ x1 ∷ x2 ∷ x3 ∷ x4 ∷ []) a b d e f k ln = absurd (omega arith)
ten_words (x0 ∷ x1 ∷ x2 ∷ x3 ∷ x4 ∷ x5 ∷ []) a b d e f k ln = absurd (omega arith)
ten_words (x0 ∷ x1 ∷ x2 ∷ x3 ∷ x4 ∷ x5 ∷ x6 ∷ []) a b d e f k ln = absurd (omega arith)
ten_words (x0 ∷ x1 ∷ x2 ∷ x3 ∷ x4 ∷ x5 ∷ x6 ∷ x7 ∷ []) a b d e f k ln = absurd (omega arith)
ten_words (x0 ∷ x1 ∷ x2 ∷ x3 ∷ x4 ∷ x5 ∷ x6 ∷ x7 ∷ x8 ∷ []) a b d e f k ln = absurd (omega arith)
ten_words (x0 ∷ x1 ∷ x2 ∷ x3 ∷ x4 ∷ x5 ∷ x6 ∷ x7 ∷ x8 ∷ x9 ∷ []) a b d e f k ln = refl
ten_words (x0 ∷ x1 ∷ x2 ∷ x3 ∷ x4 ∷ x5 ∷ x6 ∷ x7 ∷ x8 ∷ x9 ∷ x10 ∷ l) a b d e f k ln = absurd (omega arith)

-- all of them, by what they say
pub words_are : (l : List ℕ) → length l ≡ number_count → l ≡ number_words (numbers_in l) (totals_in l)
words_are [] ln = absurd (omega arith)
words_are (x0 ∷ []) ln = absurd (omega arith)
words_are (x0 ∷ x1 ∷ []) ln = absurd (omega arith)
words_are (x0 ∷ x1 ∷ x2 ∷ []) ln = absurd (omega arith)
words_are (x0 ∷ x1 ∷ x2 ∷ x3 ∷ []) ln = absurd (omega arith)
words_are (x0 ∷ x1 ∷ x2 ∷ x3 ∷ x4 ∷ []) ln = absurd (omega arith)
words_are (x0 ∷ x1 ∷ x2 ∷ x3 ∷ x4 ∷ x5 ∷ []) ln = absurd (omega arith)
words_are (x0 ∷ x1 ∷ x2 ∷ x3 ∷ x4 ∷ x5 ∷ x6 ∷ []) ln = absurd (omega arith)
words_are (x0 ∷ x1 ∷ x2 ∷ x3 ∷ x4 ∷ x5 ∷ x6 ∷ x7 ∷ []) ln = absurd (omega arith)
words_are (x0 ∷ x1 ∷ x2 ∷ x3 ∷ x4 ∷ x5 ∷ x6 ∷ x7 ∷ x8 ∷ []) ln = absurd (omega arith)
words_are (x0 ∷ x1 ∷ x2 ∷ x3 ∷ x4 ∷ x5 ∷ x6 ∷ x7 ∷ x8 ∷ x9 ∷ []) ln = refl
words_are (x0 ∷ x1 ∷ x2 ∷ x3 ∷ x4 ∷ x5 ∷ x6 ∷ x7 ∷ x8 ∷ x9 ∷ x10 ∷ l) ln = absurd (omega arith)

-- the first free node and place stored
pub words-after : (l : List ℕ) (e f : ℕ) → length l ≡ number_count → set (set l 3 e) 4 f ≡ number_words (set_free_place (set_free_node (numbers_in l) e) f) (totals_in l)
words-after [] e f ln = absurd (omega arith)
words-after (x0 ∷ []) e f ln = absurd (omega arith)
words-after (x0 ∷ x1 ∷ []) e f ln = absurd (omega arith)
words-after (x0 ∷ x1 ∷ x2 ∷ []) e f ln = absurd (omega arith)
words-after (x0 ∷ x1 ∷ x2 ∷ x3 ∷ []) e f ln = absurd (omega arith)
words-after (x0 ∷ x1 ∷ x2 ∷ x3 ∷ x4 ∷ []) e f ln = absurd (omega arith)
words-after (x0 ∷ x1 ∷ x2 ∷ x3 ∷ x4 ∷ x5 ∷ []) e f ln = absurd (omega arith)
words-after (x0 ∷ x1 ∷ x2 ∷ x3 ∷ x4 ∷ x5 ∷ x6 ∷ []) e f ln = absurd (omega arith)
words-after (x0 ∷ x1 ∷ x2 ∷ x3 ∷ x4 ∷ x5 ∷ x6 ∷ x7 ∷ []) e f ln = absurd (omega arith)
words-after (x0 ∷ x1 ∷ x2 ∷ x3 ∷ x4 ∷ x5 ∷ x6 ∷ x7 ∷ x8 ∷ []) e f ln = absurd (omega arith)
words-after (x0 ∷ x1 ∷ x2 ∷ x3 ∷ x4 ∷ x5 ∷ x6 ∷ x7 ∷ x8 ∷ x9 ∷ []) e f ln = refl
words-after (x0 ∷ x1 ∷ x2 ∷ x3 ∷ x4 ∷ x5 ∷ x6 ∷ x7 ∷ x8 ∷ x9 ∷ x10 ∷ l) e f ln = absurd (omega arith)

-- the totals are zero, word by word
pub zero_totals_lem : (l : List ℕ) → length l ≡ number_count → ((eqb (get_or l 5 0) 0 && eqb (get_or l 6 0) 0) && eqb (get_or l 7 0) 0) && eqb (get_or l 8 0) 0 ≡ all total_count (λ i. eqb (get_or (totals_in l) i 0) 0)
zero_totals_lem [] ln = absurd (omega arith)
zero_totals_lem (x0 ∷ []) ln = absurd (omega arith)
zero_totals_lem (x0 ∷ x1 ∷ []) ln = absurd (omega arith)
zero_totals_lem (x0 ∷ x1 ∷ x2 ∷ []) ln = absurd (omega arith)
zero_totals_lem (x0 ∷ x1 ∷ x2 ∷ x3 ∷ []) ln = absurd (omega arith)
zero_totals_lem (x0 ∷ x1 ∷ x2 ∷ x3 ∷ x4 ∷ []) ln = absurd (omega arith)
zero_totals_lem (x0 ∷ x1 ∷ x2 ∷ x3 ∷ x4 ∷ x5 ∷ []) ln = absurd (omega arith)
zero_totals_lem (x0 ∷ x1 ∷ x2 ∷ x3 ∷ x4 ∷ x5 ∷ x6 ∷ []) ln = absurd (omega arith)
zero_totals_lem (x0 ∷ x1 ∷ x2 ∷ x3 ∷ x4 ∷ x5 ∷ x6 ∷ x7 ∷ []) ln = absurd (omega arith)
zero_totals_lem (x0 ∷ x1 ∷ x2 ∷ x3 ∷ x4 ∷ x5 ∷ x6 ∷ x7 ∷ x8 ∷ []) ln = absurd (omega arith)
zero_totals_lem (x0 ∷ x1 ∷ x2 ∷ x3 ∷ x4 ∷ x5 ∷ x6 ∷ x7 ∷ x8 ∷ x9 ∷ []) ln = refl
zero_totals_lem (x0 ∷ x1 ∷ x2 ∷ x3 ∷ x4 ∷ x5 ∷ x6 ∷ x7 ∷ x8 ∷ x9 ∷ x10 ∷ l) ln = absurd (omega arith)
