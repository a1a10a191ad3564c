-- Examples, worked by computing. (The tape of document 01 is what the program is run on.)
use Rattle.std.specs.Prelude.{◌≡◌, refl, List, [], ◌∷◌, ◌++◌, ℕ}
use Rattle.words.specs.Basics.{none}
use Rattle.lines.specs.Lines.{decimal_by, decimal, lines_of, workers_in, splitters_in, number32_at, numbers_at, unfit, answer_lines, main_returned, accepted_lines, run_lines, fit_lines, refused_word}
use Rattle.semantics.specs.Entries.{start_on, start_with}

zero_digits : decimal 0 ≡ 48 ∷ []
unfolding decimal decimal_by
zero_digits = refl

ten_digits : decimal 10 ≡ 49 ∷ 48 ∷ []
unfolding decimal decimal_by
ten_digits = refl

most_digits : decimal 4294967295 ≡ 52 ∷ 50 ∷ 57 ∷ 52 ∷ 57 ∷ 54 ∷ 55 ∷ 50 ∷ 57 ∷ 53 ∷ []
unfolding decimal decimal_by
most_digits = refl

-- 7 bytes are unfit
seven_bytes : lines_of (1 ∷ 0 ∷ 1 ∷ 0 ∷ 1 ∷ 0 ∷ 0 ∷ []) ≡ 117 ∷ 110 ∷ 102 ∷ 105 ∷ 116 ∷ 10 ∷ []
unfolding lines_of unfit
seven_bytes = refl

-- "0 1 1", "refused 2": no workers
no_workers : lines_of (0 ∷ 0 ∷ 1 ∷ 0 ∷ 1 ∷ 0 ∷ 0 ∷ 0 ∷ 7 ∷ 0 ∷ 0 ∷ 0 ∷ []) ≡ (48 ∷ 32 ∷ 49 ∷ 32 ∷ 49 ∷ 10 ∷ []) ++ (refused_word ++ 32 ∷ 50 ∷ 10 ∷ [])
unfolding lines_of unfit workers_in splitters_in number32_at numbers_at run_lines fit_lines start_on start_with decimal decimal_by
no_workers = refl

-- ---- R-5

-- document 01's example, of its answer words, free nodes and totals (crate starred computes these): "document 01's example gains `reduced 0 4294967295 1 0`"
abbrev example_text : List ℕ
example_text =
    -- "101 1"
    (49 ∷ 48 ∷ 49 ∷ 32 ∷ 49 ∷ 10 ∷ [])
    -- "103 0"
    ++ (49 ∷ 48 ∷ 51 ∷ 32 ∷ 48 ∷ 10 ∷ [])
    -- "106 5"
    ++ (49 ∷ 48 ∷ 54 ∷ 32 ∷ 53 ∷ 10 ∷ [])
    -- "105 50"
    ++ (49 ∷ 48 ∷ 53 ∷ 32 ∷ 53 ∷ 48 ∷ 10 ∷ [])
    -- "104 1"
    ++ (49 ∷ 48 ∷ 52 ∷ 32 ∷ 49 ∷ 10 ∷ [])
    -- "10 0"
    ++ (49 ∷ 48 ∷ 32 ∷ 48 ∷ 10 ∷ [])
    -- "102 2"
    ++ (49 ∷ 48 ∷ 50 ∷ 32 ∷ 50 ∷ 10 ∷ [])
    -- "105 99"
    ++ (49 ∷ 48 ∷ 53 ∷ 32 ∷ 57 ∷ 57 ∷ 10 ∷ [])
    -- "102 3"
    ++ (49 ∷ 48 ∷ 50 ∷ 32 ∷ 51 ∷ 10 ∷ [])
    -- "free 20"
    ++ (102 ∷ 114 ∷ 101 ∷ 101 ∷ 32 ∷ 50 ∷ 48 ∷ 10 ∷ [])
    -- "reduced 0 4294967295 1 0"
    ++ (114 ∷ 101 ∷ 100 ∷ 117 ∷ 99 ∷ 101 ∷ 100 ∷ 32 ∷ 48 ∷ 32 ∷ 52 ∷ 50 ∷ 57 ∷ 52 ∷ 57 ∷ 54 ∷ 55 ∷ 50 ∷ 57 ∷ 53 ∷ 32 ∷ 49 ∷ 32 ∷ 48 ∷ 10 ∷ [])

example_lines : accepted_lines (101 ∷ 1 ∷ 103 ∷ 0 ∷ 106 ∷ 5 ∷ 105 ∷ 50 ∷ 104 ∷ 1 ∷ 10 ∷ 0 ∷ 102 ∷ 2 ∷ 105 ∷ 99 ∷ 102 ∷ 3 ∷ []) 20 (0 ∷ none ∷ 1 ∷ 0 ∷ []) ≡ example_text
unfolding answer_lines main_returned decimal decimal_by
example_lines = refl

-- "Only then splitrun prints": not while Main lives or waits in its return, whatever the totals
main-lives : accepted_lines (101 ∷ 3 ∷ []) 5 (7 ∷ 7 ∷ 7 ∷ 7 ∷ []) ≡ (49 ∷ 48 ∷ 49 ∷ 32 ∷ 51 ∷ 10 ∷ []) ++ (102 ∷ 114 ∷ 101 ∷ 101 ∷ 32 ∷ 53 ∷ 10 ∷ [])
unfolding answer_lines main_returned decimal decimal_by
main-lives = refl

main_waits_lem : accepted_lines (102 ∷ 4 ∷ []) 5 (7 ∷ 7 ∷ 7 ∷ 7 ∷ []) ≡ (49 ∷ 48 ∷ 50 ∷ 32 ∷ 52 ∷ 10 ∷ []) ++ (102 ∷ 114 ∷ 101 ∷ 101 ∷ 32 ∷ 53 ∷ 10 ∷ [])
unfolding answer_lines main_returned decimal decimal_by
main_waits_lem = refl
