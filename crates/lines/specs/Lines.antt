-- Document 01's "The program splitrun and its lines": the whole output of an input, as bytes. Definitions only.
use Rattle.std.specs.Prelude.{Bool, true, false, cond, ◌||◌, ◌&&◌, List, [], ◌∷◌, ◌++◌, ℕ, zero, suc, ◌+◌, ◌-◌, ◌*◌, ◌/◌, ◌%◌, length, get_or, drop, replicate, flat_map, eqb, ltb}
use Rattle.frames.specs.declared.Frame.{Frame}
use Rattle.frames.specs.Frames.{free_record}
use Rattle.model.specs.Record.{little}
use Rattle.semantics.specs.Entries.{State, zeros, totals_of, chain_free, StartResult, start_on, TapeResult, tape_on}
use Rattle.soundness.specs.Layout.{two_words}

-- ---- text

-- the byte of the last decimal digit
abbrev pub digit : ℕ → ℕ
digit n = 48 + n % 10

-- the decimal digits of n, most significant first, by at most k divisions
unfoldable pub decimal_by : ℕ → ℕ → List ℕ
decimal_by zero n = digit n ∷ []
decimal_by (suc k) n = elim (ltb n 10) [ true ↦ digit n ∷ [] | false ↦ decimal_by k (n / 10) ++ digit n ∷ [] ]

-- "written in decimal"; n divisions are enough
unfoldable pub decimal : ℕ → List ℕ
decimal n = decimal_by n n

-- "Fields are parted by one space", and a line is ended by the byte 10
abbrev pub line : List (List ℕ) → List ℕ
line [] = 10 ∷ []
line (f ∷ []) = f ++ 10 ∷ []
line (f ∷ g ∷ fs) = f ++ 32 ∷ line (g ∷ fs)

-- numbers that are not the first of their line
abbrev pub spaced : List ℕ → List ℕ
spaced ns = flat_map (λ n. 32 ∷ decimal n) ns

-- `unfit`, `refused`, `free`, and R-5's `reduced`
abbrev pub unfit_word : List ℕ
unfit_word = 117 ∷ 110 ∷ 102 ∷ 105 ∷ 116 ∷ []

abbrev pub refused_word : List ℕ
refused_word = 114 ∷ 101 ∷ 102 ∷ 117 ∷ 115 ∷ 101 ∷ 100 ∷ []

abbrev pub free_word : List ℕ
free_word = 102 ∷ 114 ∷ 101 ∷ 101 ∷ []

abbrev pub reduced_word : List ℕ
reduced_word = 114 ∷ 101 ∷ 100 ∷ 117 ∷ 99 ∷ 101 ∷ 100 ∷ []

-- ---- the input

-- "workers and n (16 bits each), nodes (32 bits)", little-endian
abbrev pub number16_at : List ℕ → ℕ → ℕ
number16_at input at = little (get_or input at 0 ∷ get_or input (at + 1) 0 ∷ [])

unfoldable pub workers_in : List ℕ → ℕ
workers_in input = number16_at input 0

unfoldable pub splitters_in : List ℕ → ℕ
splitters_in input = number16_at input 2

-- the 32-bit number at a place
unfoldable pub number32_at : List ℕ → ℕ → ℕ
number32_at input at = little (get_or input at 0 ∷ get_or input (at + 1) 0 ∷ get_or input (at + 2) 0 ∷ get_or input (at + 3) 0 ∷ [])

abbrev pub nodes_in : List ℕ → ℕ
nodes_in input = number32_at input 4

-- k numbers from a place on: "n initial values" from 8 on
unfoldable pub numbers_at : ℕ → List ℕ → ℕ → List ℕ
numbers_at zero input at = []
numbers_at (suc k) input at = number32_at input at ∷ numbers_at k input (at + 4)

-- "The records begin after the initial values and run to the end."
abbrev pub records_start : ℕ → ℕ
records_start n = 8 + 4 * n

abbrev pub records_in : ℕ → List ℕ → List ℕ
records_in n input = drop (records_start n) input

-- "A header or values cut short, n over 256, nodes over 1,024 or more than 16,384 bytes of records": by the input's length, n
-- and the nodes
unfoldable pub unfit : ℕ → ℕ → ℕ → Bool
unfit size n nodes = ltb size 8 || (ltb 256 n || (ltb 1024 nodes || (ltb size (records_start n) || ltb 16384 (size - records_start n))))

-- ---- the output

-- "one line per record with its two answer words"
unfoldable pub answer_lines : List ℕ → List ℕ
answer_lines [] = []
answer_lines (a ∷ []) = []
answer_lines (a ∷ b ∷ ws) = line (decimal a ∷ decimal b ∷ []) ++ answer_lines ws

-- "A call refused whole prints `refused` and the number after the first line, and no more."
abbrev pub refused_line : ℕ → List ℕ
refused_line k = line (refused_word ∷ decimal k ∷ [])

-- of a call with the result k, which is 0 or its refusal, the lines ls or that one
abbrev pub call_lines : ℕ → List ℕ → List ℕ
call_lines k ls = cond (eqb k 0) ls (refused_line k)

-- "Main has returned once a return of the run was answered with outcome 3.": the two words of such an answer, among the answer words
abbrev pub is_end : ℕ → ℕ → Bool
is_end a b = eqb a 102 && eqb b 3

unfoldable pub main_returned : List ℕ → Bool
main_returned [] = false
main_returned (a ∷ []) = false
main_returned (a ∷ b ∷ ws) = is_end a b || main_returned ws

-- R-5: "Only then splitrun prints, as a line after `free`, `reduced`, the sum, the minimum, the multiplier and the addend", of the totals ts
abbrev pub reduced_line : List ℕ → List ℕ
reduced_line ts = line (reduced_word ∷ decimal (get_or ts 0 0) ∷ decimal (get_or ts 1 0) ∷ decimal (get_or ts 2 0) ∷ decimal (get_or ts 3 0) ∷ [])

-- "last `free` and the free nodes"
abbrev pub free_line : ℕ → List ℕ
free_line free = line (free_word ∷ decimal free ∷ [])

-- the lines of the answer words, that line and the totals
abbrev pub accepted_lines : List ℕ → ℕ → List ℕ → List ℕ
accepted_lines answers free ts = answer_lines answers ++ (free_line free ++ cond (main_returned answers) (reduced_line ts) [])

abbrev pub tape_lines : TapeResult → List ℕ
tape_lines p = call_lines p.result (accepted_lines p.answers (chain_free two_words p.state p.pool) (totals_of p.state))

-- what follows the first line: of the start, over the parts s, then of the tape
unfoldable pub run_lines : State → ℕ → List ℕ → List ℕ → List ℕ → List ℕ → List ℕ → List ℕ
run_lines s workers values pool work records answers =
    let b : StartResult = start_on two_words s workers values pool in
    call_lines b.result (tape_lines (tape_on two_words b.state b.pool work records answers))

-- R-6: "splitrun lends 64 places."
abbrev pub lent_table : List Frame
lent_table = replicate 64 (free_record 0)

-- with a pool of as many whole nodes, a work slice that is long enough and two answer words per record; all that is lent is zero
unfoldable pub fit_lines : ℕ → ℕ → ℕ → List ℕ → List ℕ
fit_lines workers n nodes input =
    run_lines (zeros lent_table) workers (numbers_at n input 8) (replicate (two_words.words * nodes) 0) (replicate nodes 0) (records_in n input) (replicate (2 * (length (records_in n input) / 8)) 0)

-- the whole output: an unfit input prints "only `unfit`"; "Else the first line is workers, n, nodes"
unfoldable pub lines_of : List ℕ → List ℕ
lines_of input =
    cond (unfit (length input) (splitters_in input) (nodes_in input)) (line (unfit_word ∷ []))
    (line (decimal (workers_in input) ∷ decimal (splitters_in input) ∷ decimal (nodes_in input) ∷ []) ++ fit_lines (workers_in input) (splitters_in input) (nodes_in input) input)
