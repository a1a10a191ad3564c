-- Computed.
use Rattle.std.specs.Prelude.{◌≡◌, refl, List, [], ◌∷◌, ℕ}
use Rattle.words.specs.Basics.{none}
use Rattle.packed.specs.Pool.{content}
use Rattle.splitter.specs.Queries.{free_on}

-- one worker, one splitter, three nodes: 0 is Main's leaf, 1 and 2 are free
abbrev three_nodes : List ℕ
three_nodes = 1 ∷ 7 ∷ 0 ∷ 2 ∷ 0 ∷ none ∷ []

-- the nodes, the first free one, R-5's totals, which are zero, and R-6's length, of a table of two places
abbrev numbers : ℕ → ℕ → List ℕ
numbers nodes first = 1 ∷ 1 ∷ nodes ∷ first ∷ 1 ∷ 0 ∷ 0 ∷ 0 ∷ 0 ∷ 2 ∷ []

two_free : free_on (numbers 3 1) three_nodes ≡ 2
unfolding free_on content
two_free = refl

-- no free node; a pool that holds fewer nodes than recorded; numbers that are not ten
none_free : free_on (numbers 3 none) three_nodes ≡ 0
unfolding free_on content
none_free = refl

short_pool : free_on (numbers 4 1) three_nodes ≡ 0
unfolding free_on content
short_pool = refl

five_numbers : free_on (1 ∷ 1 ∷ 3 ∷ 1 ∷ 1 ∷ []) three_nodes ≡ 0
unfolding free_on content
five_numbers = refl
