-- The state's numbers: as words, with R-5's totals among them, and with one of them replaced. Definitions only.
use Rattle.std.specs.Prelude.{List, [], ◌∷◌, ◌++◌, ℕ, ◌+◌, get_or, take, drop}
use Rattle.soundness.specs.declared.Numbers.{Numbers}

-- document 02: "workers, splitters, nodes, first free node, first free frame place"
abbrev pub head_count : ℕ
head_count = 5

-- R-5: "the four totals, in that order, after the first free frame place"
abbrev pub total_count : ℕ
total_count = 4

-- the words of a state's numbers; R-6: "with the length as a word before the deques", the frame table's
abbrev pub number_count : ℕ
number_count = head_count + total_count + 1

abbrev pub numbers_in : List ℕ → Numbers
numbers_in ks = record { workers = get_or ks 0 0; splitters = get_or ks 1 0; nodes = get_or ks 2 0; free_node = get_or ks 3 0; free_place = get_or ks 4 0; places = get_or ks (head_count + total_count) 0 }

-- the words of the totals: "the sum, the minimum, the multiplier and the addend"
abbrev pub totals_in : List ℕ → List ℕ
totals_in ks = take total_count (drop head_count ks)

-- the numbers s with the totals ts
abbrev pub number_words : Numbers → List ℕ → List ℕ
number_words s ts = s.workers ∷ s.splitters ∷ s.nodes ∷ s.free_node ∷ s.free_place ∷ (ts ++ (s.places ∷ []))

abbrev pub set_free_node : Numbers → ℕ → Numbers
set_free_node s i = record { workers = s.workers; splitters = s.splitters; nodes = s.nodes; free_node = i; free_place = s.free_place; places = s.places }

abbrev pub set_free_place : Numbers → ℕ → Numbers
set_free_place s p = record { workers = s.workers; splitters = s.splitters; nodes = s.nodes; free_node = s.free_node; free_place = p; places = s.places }
