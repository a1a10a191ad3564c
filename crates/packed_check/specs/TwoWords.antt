-- R-8: nodes of two words as the check reads them. Definitions only.
use Rattle.std.specs.Prelude.{Bool, true, List, ℕ, ◌/◌, ◌%◌, eqb, get_or}
use Rattle.words.specs.Basics.{none}
use Rattle.packed.specs.Pool.{content, refcount, left, right, next_free}
use Rattle.soundness.specs.Layout.{two_words}
use Rattle.pool_check.specs.Reading.{Reading}

-- node i was not visited
abbrev pub vacant : List ℕ → ℕ → Bool
vacant w i = eqb (get_or w i 0) 0

-- by its links; a node has the same words on every level
abbrev pub two : Reading
two =
    record {
      layout = two_words;
      left = left;
      right = right;
      none = none;
      holders = refcount;
      next_free = next_free;
      shaped = λ ws l i. true;
      vacant = λ ws w i. vacant w i;
    }

-- ---- as the code reads the links of an inner node: halves of its word, and 65,535 is none

abbrev pub left_half : List ℕ → ℕ → ℕ
left_half ws i = content ws i % 65536

abbrev pub right_half : List ℕ → ℕ → ℕ
right_half ws i = content ws i / 65536 % 65536

abbrev pub halves : Reading
halves =
    record {
      layout = two_words;
      left = left_half;
      right = right_half;
      none = 65535;
      holders = refcount;
      next_free = next_free;
      shaped = λ ws l i. true;
      vacant = λ ws w i. vacant w i;
    }
