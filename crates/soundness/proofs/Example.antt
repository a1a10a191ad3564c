-- Document 01's "Soundness" with R-3's, R-5's and R-6's sentences on small states, computed: a few sound ones, and for each sentence changes of a
-- sound one after which this sentence alone is false.
use Rattle.std.specs.Prelude.{◌≡◌, refl, Bool, true, cond, ◌||◌, ◌&&◌, List, [], ◌∷◌, map, ℕ, zero, suc, ◌+◌, ◌*◌, length, get_or, set, drop, replicate, eqb, leb, ltb}
use Rattle.std.proofs.Common.{sym, ap, ◌∙◌, inl, inr, arith, get_or-drop}
use Prim.Native.String.{String}
use Rattle.words.specs.Basics.{none, all, δ, count, below}
use Rattle.words.specs.Tests.{decided}
use Rattle.words.specs.Counting.{all_of}
use Rattle.sizes.specs.Sizes.{height, width, tree_nodes}
use Rattle.pool.specs.Pool.{refcount, left, right, value, set_node, init_level, init_inner, init_leaves, init_free, init_pool}
use Rattle.frames.specs.Widths.{max_workers, deque_places, deque_stride, deque_words}
use Rattle.frames.specs.declared.Frame.{Frame}
use Rattle.frames.specs.Frames.{record_in, words_of, frame_at, set_frame, as_returning, free_record, main_frame, init_places, init_frames}
use Rattle.frames.specs.Deques.{size, set_size, place, set_place, bottom, top, push, pop, shift_up, drop_top, init_deques}
use Rattle.frames.specs.Siblings.{chained, relink_from}
use Rattle.frames.specs.Steps.{Table, acting, add_child, spawn, suspend, steal, sync}
use Rattle.soundness.specs.declared.Numbers.{Numbers}
use Rattle.soundness.specs.Layout.{Layout, four_words}
use Rattle.soundness.specs.Numbers.{head_count, numbers_in, totals_in}
use Rattle.soundness.specs.Soundness.{one_main, parents_live, counts_right, placed_once, returning_right, links_right, totals_right, hold_live, absent_empty, rest_zero, linked, only_below, places_free, roots_below}
use Rattle.soundness.specs.Trees.{tree_at, nodes_at}
use Rattle.soundness.specs.Soundness.{number_sentences, free_places, view_zero, sentences}
use Rattle.soundness.specs.Sentence.{Sentence, says, words, holds}

-- ---- sound states

-- the numbers (workers, splitters, nodes, first free node, first free place, the four totals, the table's length), the deques, the table and the lent pool
record State : Type 0 where
  numbers : List ℕ
  deques : List ℕ
  frames : List Frame
  pool : List ℕ

-- two workers, two splitters, five nodes; the lent pool has a sixth
with : ℕ → ℕ → Table → State
with holders free_node t =
    record {
      numbers = 2 ∷ 2 ∷ 5 ∷ free_node ∷ t.free_place ∷ 0 ∷ 0 ∷ 0 ∷ 0 ∷ length t.frames ∷ [];
      deques = t.deques;
      frames = t.frames;
      pool = set (init_pool (replicate 24 7) 2 5 (10 ∷ 20 ∷ [])).0 0 holders;
    }

-- c free places in rising order, the second being p
rising : ℕ → ℕ → List Frame
rising zero p = []
rising (suc c) p = free_record (cond (eqb c 0) none p) ∷ rising c (suc p)

-- Main's record: no view has anything folded into it yet
first : Frame
first = record_in (1 ∷ none ∷ 0 ∷ 0 ∷ 0 ∷ 0 ∷ 0 ∷ 0 ∷ none ∷ 1 ∷ 0 ∷ none ∷ [])

table : Table
table = record { deques = 1 ∷ replicate 2055 0; frames = first ∷ rising 7 2; free_place = 1 }

-- the tables at a start, whatever the lent one held
table-first : (init_deques (replicate deque_words 0) ≡ table.deques) × (init_frames (replicate 8 (main_frame 5)) ≡ table.frames)
unfolding table first rising init_deques push set_size set_place size init_frames init_places set_frame
table-first = (refl, refl)

-- Main alone, on worker 0's deque: the start. Node 0 is the root, 1 and 2 are its leaves, 3 and 4 are free
start : State
start = with 1 3 table

-- Main, on worker 1's deque, and its child 1, on worker 0's
stolen : State
stolen = with 2 3 (steal (spawn table 0) 1 0)

-- Main, suspended, and its child 1, on worker 0's deque
waiting : State
waiting = with 2 3 (sync (steal (spawn table 0) 1 0) 1)

-- R-3: the same, with Main waiting in its return
leaving : State
leaving = let t : Table = steal (spawn table 0) 1 0 in with 2 3 (suspend t 1 (as_returning (acting t 1)))

-- Main, its child 1 and the child 2 of 1, on worker 0's deque
stacked : State
stacked = with 3 3 (spawn (spawn table 0) 0)

-- the same, with Main on worker 1's
grown : State
grown = with 3 3 (steal (spawn (spawn table 0) 0) 1 0)

-- Main and its child 2 on worker 1's deque, its child 1 on worker 0's: 1 names 2 as its next younger sibling
twins : State
twins = with 3 3 (spawn (steal (spawn table 0) 1 0) 1)

-- Main has returned: no frame, any totals, and n nodes free in a lent pool of n
ended : ℕ → State
ended n = record { numbers = 2 ∷ 2 ∷ n ∷ 0 ∷ 0 ∷ 70 ∷ 7 ∷ 6 ∷ 5 ∷ 8 ∷ []; deques = replicate deque_words 0; frames = rising 8 1; pool = init_free n (replicate (4 * n) 0) 0 }

-- three splitters: node 0, under it 1 and 2, the leaves 3, 4 under 1 and 5 under 2, which has no right half; 6 is free
three : State
three = record { numbers = 2 ∷ 3 ∷ 7 ∷ 6 ∷ 1 ∷ 0 ∷ 0 ∷ 0 ∷ 0 ∷ 8 ∷ []; deques = table.deques; frames = table.frames; pool = (init_pool (replicate 28 7) 3 7 (10 ∷ 20 ∷ 30 ∷ [])).0 }

-- Main alone, in a table of one place
lone : State
lone = with 1 3 (record { deques = table.deques; frames = first ∷ []; free_place = none })

-- Main has returned, in a table of n places
small : ℕ → State
small n = record { numbers = 2 ∷ 2 ∷ 5 ∷ 0 ∷ cond (eqb n 0) none 0 ∷ 0 ∷ 0 ∷ 0 ∷ 0 ∷ n ∷ []; deques = replicate deque_words 0; frames = rising n 1; pool = (ended 5).pool }

-- ---- changes

-- another word in one place: one of the numbers; a total; worker w's deque's length, or its place k; a word of the frame record at place p;
-- a word of node i
data Change : Type 0 where
  workers : ℕ → Change
  splitters : ℕ → Change
  nodes : ℕ → Change
  free_node : ℕ → Change
  first_place : ℕ → Change
  places : ℕ → Change
  total : ℕ → ℕ → Change
  in_deque : ℕ → ℕ → Change
  at_place : ℕ → ℕ → ℕ → Change
  live : ℕ → ℕ → Change
  parent : ℕ → ℕ → Change
  depth : ℕ → ℕ → Change
  outstanding : ℕ → ℕ → Change
  suspended : ℕ → ℕ → Change
  root : ℕ → ℕ → Change
  returning : ℕ → ℕ → Change
  view_word : ℕ → ℕ → ℕ → Change
  next : ℕ → ℕ → Change
  node : ℕ → List ℕ → Change
  node_holders : ℕ → ℕ → Change
  node_left : ℕ → ℕ → Change
  node_right : ℕ → ℕ → Change
  node_value : ℕ → ℕ → Change

set_number : State → ℕ → ℕ → State
set_number s i v = record { numbers = set s.numbers i v; deques = s.deques; frames = s.frames; pool = s.pool }

set_deques : State → List ℕ → State
set_deques s ds = record { numbers = s.numbers; deques = ds; frames = s.frames; pool = s.pool }

set_field : State → ℕ → ℕ → ℕ → State
set_field s p k v = record { numbers = s.numbers; deques = s.deques; frames = set_frame s.frames p (record_in (set (words_of (frame_at s.frames p)) k v)); pool = s.pool }

set_pool : State → List ℕ → State
set_pool s ws = record { numbers = s.numbers; deques = s.deques; frames = s.frames; pool = ws }

changed : State → Change → State
changed s (workers v) = set_number s 0 v
changed s (splitters v) = set_number s 1 v
changed s (nodes v) = set_number s 2 v
changed s (free_node v) = set_number s 3 v
changed s (first_place v) = set_number s 4 v
changed s (places v) = set_number s 9 v
changed s (total i v) = set_number s (head_count + i) v
changed s (in_deque w v) = set_deques s (set_size s.deques w v)
changed s (at_place w k v) = set_deques s (set_place s.deques w k v)
changed s (live p v) = set_field s p 0 v
changed s (parent p v) = set_field s p 1 v
changed s (depth p v) = set_field s p 2 v
changed s (outstanding p v) = set_field s p 3 v
changed s (suspended p v) = set_field s p 4 v
changed s (root p v) = set_field s p 5 v
changed s (returning p v) = set_field s p 6 v
changed s (view_word k p v) = set_field s p (7 + k) v
changed s (next p v) = set_field s p 11 v
changed s (node i vs) = set_pool s (set_node s.pool i (get_or vs 0 0) (get_or vs 1 0) (get_or vs 2 0) (get_or vs 3 0))
changed s (node_holders i v) = set_pool s (set s.pool (4 * i) v)
changed s (node_left i v) = set_pool s (set s.pool (4 * i + 1) v)
changed s (node_right i v) = set_pool s (set s.pool (4 * i + 2) v)
changed s (node_value i v) = set_pool s (set s.pool (4 * i + 3) v)

infixl 90 ◌but◌
◌but◌ : State → List Change → State
s but [] = s
s but (c ∷ cs) = changed s c but cs

-- three children of Main, whose workers are three: 1 on worker 0's deque, 2 on worker 1's, Main and 3 on worker 2's
triplets : State
triplets = with 4 3 (spawn (steal (spawn (steal (spawn table 0) 1 0) 1) 2 1) 2) but (workers 3 ∷ [])

sounds : List State
sounds =
    start ∷ stolen ∷ waiting ∷ leaving ∷ stacked ∷ grown ∷ twins ∷ triplets ∷ ended 5 ∷ three ∷
    -- a live frame's view is any four words
    start but (view_word 0 0 5 ∷ view_word 1 0 6 ∷ view_word 2 0 7 ∷ view_word 3 0 8 ∷ []) ∷
    -- so are the totals when no frame lives
    ended 5 but (total 0 0 ∷ total 1 none ∷ []) ∷
    -- a table of one place
    lone ∷ small 1 ∷
    []

-- ---- one sentence alone is false

record Row : Type 0 where
  sentence : String
  states : List State

infixl 80 ◌alone◌
◌alone◌ : String → List State → Row
t alone ss = record { sentence = t; states = ss }

number_rows : List Row
number_rows =
    ("Workers are 1 .." alone (ended 5 but (workers 0 ∷ []) ∷ [])) ∷
    (".. to 8" alone (start but (workers 9 ∷ []) ∷ [])) ∷
    ("n is 1 .." alone (ended 5 but (splitters 0 ∷ []) ∷ [])) ∷
    -- T(2) is 3
    ("The recorded node count is T(n) .." alone (ended 2 ∷ [])) ∷
    -- the words past the pool read as zeros: node 5 as a free one before node 0
    ("and at most what the lent pool holds." alone (ended 5 but (nodes 6 ∷ free_node 5 ∷ []) ∷ [])) ∷
    ("a recorded length not 1 .." alone (small 0 ∷ [])) ∷
    ("or a table of another length, is unsound." alone (start but (places 7 ∷ []) ∷ start but (places 9 ∷ []) ∷ small 0 but (places 1 ∷ []) ∷ [])) ∷
    []

total_rows : List Row
total_rows =
    ("zero while Main lives" alone (start but (total 0 1 ∷ []) ∷ start but (total 1 none ∷ []) ∷ leaving but (total 2 1 ∷ []) ∷ start but (total 3 1 ∷ []) ∷ [])) ∷
    []

frame_rows : List Row
frame_rows =
    ("Either no frame lives and all deques are empty, or just one live frame has depth 0, with parent none." alone (
    -- two Mains
    start but (live 1 1 ∷ parent 1 none ∷ next 1 none ∷ first_place 2 ∷ in_deque 1 1 ∷ at_place 1 0 1 ∷ node_holders 0 2 ∷ []) ∷
    -- Main has a parent
    start but (parent 0 5 ∷ []) ∷
    [])) ∷
    -- not alone: no frame lives and a deque has one (it holds a dead one); frames live and all deques are empty (the deepest has no
    -- child to wait for); frames live and none has depth 0 (the shallowest has no parent)
    ("Every other live frame has a live parent one shallower." alone (
    -- the parent is dead
    stolen but (parent 1 5 ∷ outstanding 0 0 ∷ []) ∷
    -- the parent is past the table, which reads as a dead one: its range alone cannot be wrong
    stolen but (parent 1 8 ∷ outstanding 0 0 ∷ []) ∷
    -- not one shallower
    stolen but (depth 1 2 ∷ []) ∷
    [])) ∷
    ("Outstanding counts are right." alone (stolen but (outstanding 0 0 ∷ []) ∷ stolen but (outstanding 0 2 ∷ []) ∷ stolen but (outstanding 1 1 ∷ []) ∷ [])) ∷
    ("Each live frame is either in just one place of one deque and not suspended, or in none and suspended with a live child." alone (
    -- in two places (place 0 of worker 1's deque is 0 already: Main)
    start but (in_deque 1 1 ∷ []) ∷
    -- in a deque and suspended
    stolen but (suspended 0 1 ∷ []) ∷
    -- in none and not suspended
    waiting but (suspended 0 0 ∷ []) ∷
    -- the word is not 0 or 1
    waiting but (suspended 0 2 ∷ []) ∷
    stolen but (suspended 0 2 ∷ []) ∷
    -- suspended without a child
    start but (in_deque 0 0 ∷ suspended 0 1 ∷ []) ∷
    [])) ∷
    ("1 on a frame waiting so, which is suspended, else 0; anything else there is unsound." alone (
    -- 1 on a frame in a deque: Main, and a child
    start but (returning 0 1 ∷ []) ∷
    leaving but (returning 1 1 ∷ []) ∷
    -- the word is not 0 or 1: on a suspended frame, and on one in a deque
    waiting but (returning 0 2 ∷ []) ∷
    start but (returning 0 2 ∷ []) ∷
    [])) ∷
    ("these links chain the live children of each frame, each once, Main's being none" alone (
    -- no end: an only child, two siblings
    stolen but (next 1 1 ∷ []) ∷
    twins but (next 2 1 ∷ []) ∷
    -- two heads
    twins but (next 1 none ∷ []) ∷
    -- to a frame that is no sibling, to a free place, past the table, which reads as a dead frame
    twins but (next 2 0 ∷ []) ∷
    twins but (next 2 5 ∷ []) ∷
    stolen but (next 1 8 ∷ []) ∷
    -- a chain of one and beside it a cycle of two
    triplets but (next 1 none ∷ next 3 2 ∷ []) ∷
    -- two name the same
    triplets but (next 1 3 ∷ []) ∷
    -- Main's is not none
    start but (next 0 0 ∷ []) ∷
    stolen but (next 0 1 ∷ []) ∷
    [])) ∷
    ("Deques hold live frames only;" alone (
    start but (in_deque 1 1 ∷ at_place 1 0 5 ∷ []) ∷
    -- past the table, which reads as a dead frame: the range alone cannot be wrong
    start but (in_deque 1 1 ∷ at_place 1 0 8 ∷ []) ∷
    [])) ∷
    ("a worker that does not exist has an empty one;" alone (stolen but (workers 1 ∷ []) ∷ [])) ∷
    ("deque places past a deque's frames are zero." alone (start but (at_place 0 1 7 ∷ []) ∷ start but (at_place 7 255 1 ∷ []) ∷ [])) ∷
    -- not alone: a length over the table's, since nine places of live frames hold one of eight twice (placed_once)
    ("Each frame in a deque is a child of the one above it." alone (
    -- 1 and 2 on one deque, both children of Main
    grown but (parent 2 0 ∷ depth 2 1 ∷ next 1 2 ∷ outstanding 1 0 ∷ outstanding 0 2 ∷ []) ∷
    [])) ∷
    ("A frame that is not a top has only the child below it, if any." alone (
    -- a middle frame has a second child, on another deque
    stacked but (live 3 1 ∷ parent 3 1 ∷ depth 3 2 ∷ next 2 3 ∷ next 3 none ∷ outstanding 1 2 ∷ first_place 4 ∷ in_deque 1 1 ∷ at_place 1 0 3 ∷ node_holders 0 4 ∷ []) ∷
    -- a bottom frame has one; it is in place 0, the word past the deque's frames
    grown but (parent 1 none ∷ depth 1 0 ∷ depth 2 1 ∷ outstanding 2 1 ∷ parent 0 2 ∷ depth 0 2 ∷ outstanding 0 0 ∷ []) ∷
    [])) ∷
    ("Free frame places lie once on theirs, all but the link to the next being zero." alone (
    -- live is not 0 or 1
    start but (live 5 2 ∷ []) ∷
    start but (depth 5 1 ∷ []) ∷
    start but (outstanding 5 1 ∷ []) ∷
    start but (suspended 5 1 ∷ []) ∷
    start but (root 5 1 ∷ []) ∷
    start but (returning 5 1 ∷ []) ∷
    start but (view_word 0 5 1 ∷ []) ∷
    start but (view_word 1 5 none ∷ []) ∷
    start but (view_word 2 5 1 ∷ []) ∷
    start but (view_word 3 5 1 ∷ []) ∷
    start but (next 5 none ∷ []) ∷
    -- not on the chain
    start but (first_place 2 ∷ []) ∷
    -- twice
    start but (parent 7 1 ∷ []) ∷
    -- into a live place
    start but (parent 7 0 ∷ []) ∷
    -- out of the table and back, as the words past it read as zeros
    ended 5 but (first_place 1 ∷ parent 7 8 ∷ parent 0 none ∷ []) ∷
    [])) ∷
    []

pool_rows : List Row
pool_rows =
    ("Walking from each live frame gives a tree of the shape above, in which a node may stand in several places;" alone (
    -- a leaf, a root past the nodes; the lent pool has a sixth
    start but (node_left 0 5 ∷ node 5 (1 ∷ none ∷ none ∷ 10 ∷ []) ∷ node 1 (0 ∷ 3 ∷ 0 ∷ 0 ∷ []) ∷ free_node 1 ∷ []) ∷
    start but (root 0 5 ∷ node 5 (1 ∷ 1 ∷ 2 ∷ 0 ∷ []) ∷ node 0 (0 ∷ 3 ∷ 0 ∷ 0 ∷ []) ∷ free_node 0 ∷ node_holders 1 0 ∷ node_holders 2 0 ∷ []) ∷
    -- "Inner nodes have value 0"
    start but (node_value 0 5 ∷ []) ∷
    -- "leaves have no links"
    start but (node_left 1 5 ∷ []) ∷
    start but (node_right 1 5 ∷ []) ∷
    -- a right link where the group has no right half
    three but (node_right 2 5 ∷ node_holders 5 2 ∷ []) ∷
    -- none where it has one
    start but (node_right 0 none ∷ node 2 (0 ∷ 3 ∷ 0 ∷ 0 ∷ []) ∷ free_node 2 ∷ []) ∷
    [])) ∷
    ("(the free chain is one of nodes)" alone (start but (node_left 4 5 ∷ node_left 5 none ∷ []) ∷ [])) ∷
    ("nodes reached have right holders; all others are free and lie once on the free chain." alone (
    -- holders, one more and one less
    start but (node_holders 0 2 ∷ []) ∷
    start but (node_holders 0 0 ∷ []) ∷
    -- "A free node holds 0, the next free node or none, 0, 0."
    start but (node_holders 3 1 ∷ []) ∷
    start but (node_right 3 1 ∷ []) ∷
    start but (node_value 3 1 ∷ []) ∷
    -- not on the chain
    start but (free_node 4 ∷ []) ∷
    -- twice
    start but (node_left 4 3 ∷ []) ∷
    -- into a node in use
    start but (node_left 4 1 ∷ []) ∷
    [])) ∷
    -- not alone: a node reached that holds 0 and lies on the chain (so does its left link then, down to a leaf, whose right is none)
    []

-- the sentences that are false
failing : List Sentence → List String
failing [] = []
failing (s ∷ ss) = cond (holds s) (failing ss) (words s ∷ failing ss)

failing_in : State → List String
failing_in s = failing (sentences four_words (numbers_in s.numbers) (totals_in s.numbers) s.deques s.frames s.pool)

-- ---- the same in fewer steps (crate starred computes with it too)

-- "deque places past a deque's frames are zero": c words, the first in place k, of a deque with n frames
abbrev rest_from : ℕ → ℕ → ℕ → List ℕ → Bool
rest_from zero k n xs = true
rest_from (suc c) k n [] = true
rest_from (suc c) k n (x ∷ xs) = (ltb k n || eqb x 0) && rest_from c (suc k) n xs

abbrev pub rest_quick : List ℕ → List Frame → Bool
rest_quick ds fs = all max_workers (λ w. let d : List ℕ = drop (deque_stride * w) ds in leb (get_or d 0 0) (length fs) && rest_from deque_places 0 (get_or d 0 0) (drop 1 d))

all_first : (n : ℕ) (f : ℕ → Bool) → all (suc n) f ≡ f 0 && all n (λ k. f (suc k))
all_first zero f = elim (decided (f 0)) [ inl e ↦ rw e refl | inr e ↦ rw e refl ]
all_first (suc n) f = elim (decided (f 0)) [
  | inl e ↦ ap (λ b. b && f (suc n)) (all_first n f) ∙ rw e refl
  | inr e ↦ ap (λ b. b && f (suc n)) (all_first n f) ∙ rw e refl
]

rest_from_lem : (c k n : ℕ) (xs : List ℕ) → all c (λ j. ltb (k + j) n || eqb (get_or xs j 0) 0) ≡ rest_from c k n xs
rest_from_lem zero k n xs = refl
rest_from_lem (suc c) k n [] = all_of (suc c) (λ j. ltb (k + j) n || eqb 0 0) (λ j h. elim (decided (ltb (k + j) n)) [ inl e ↦ rw e refl | inr e ↦ rw e refl ])
rest_from_lem (suc c) k n (x ∷ xs) =
    all_first c (λ j. ltb (k + j) n || eqb (get_or (x ∷ xs) j 0) 0)
    ∙ (λ i. (ltb (now i) n || eqb x 0) && all c (λ j. ltb (later j i) n || eqb (get_or xs j 0) 0))
    ∙ ap (λ b. (ltb k n || eqb x 0) && b) (rest_from_lem c (suc k) n xs)
  where
    now : k + 0 ≡ k
    now = omega arith

    later : (j : ℕ) → k + suc j ≡ suc k + j
    later j = omega arith

pub rest_quick_lem : (ds : List ℕ) (fs : List Frame) → rest_zero ds fs ≡ rest_quick ds fs
unfolding rest_zero size place
rest_quick_lem ds fs = (λ i. all max_workers (λ w. leb (first w i) (length fs) && all deque_places (λ k. ltb k (first w i) || eqb (at w k i) 0)))
    ∙ (λ i. all max_workers (λ w. let d : List ℕ = drop (deque_stride * w) ds in leb (get_or d 0 0) (length fs) && from d i))
  where
    first : (w : ℕ) → get_or ds (deque_stride * w) 0 ≡ get_or (drop (deque_stride * w) ds) 0 0
    first w = ap (λ z. get_or ds z 0) (omega arith) ∙ sym (get_or-drop (deque_stride * w) ds 0 0)

    at : (w k : ℕ) → get_or ds (deque_stride * w + (1 + k)) 0 ≡ get_or (drop 1 (drop (deque_stride * w) ds)) k 0
    at w k = sym (get_or-drop (deque_stride * w) ds (1 + k) 0) ∙ sym (get_or-drop 1 (drop (deque_stride * w) ds) k 0)

    zero_plus : (k : ℕ) → k ≡ 0 + k
    zero_plus k = omega arith

    from : (d : List ℕ) → all deque_places (λ k. ltb k (get_or d 0 0) || eqb (get_or (drop 1 d) k 0) 0) ≡ rest_from deque_places 0 (get_or d 0 0) (drop 1 d)
    from d = (λ i. all deque_places (λ k. ltb (zero_plus k i) (get_or d 0 0) || eqb (get_or (drop 1 d) k 0) 0)) ∙ rest_from_lem deque_places 0 (get_or d 0 0) (drop 1 d)

-- "Free frame places lie once on theirs, all but the link to the next being zero": the chain followed once, each record read once
abbrev pub free_quick : List Frame → ℕ → Bool
free_quick fs first =
    let c : List ℕ = free_places fs first in
    below (length fs) c && all (length fs) (λ p.
    let f : Frame = frame_at fs p in
    (eqb f.live 1 && eqb (count p c) 0) ||
    ((eqb f.live 0 && (eqb f.depth 0 && (eqb f.outstanding 0 && (eqb f.suspended 0 && (eqb f.root 0 && (eqb f.returning 0 && (view_zero f.view && eqb f.younger 0))))))) && eqb (count p c) 1))

pub free_quick_lem : (fs : List Frame) (first : ℕ) → places_free fs first ≡ free_quick fs first
unfolding places_free
free_quick_lem fs first = refl

-- with another test for the sentence k
abbrev tested : ℕ → Bool → List Sentence → List Sentence
tested k b [] = []
tested zero b (s ∷ ss) = says (words s) b ∷ ss
tested (suc k) b (s ∷ ss) = s ∷ tested k b ss

-- with others for the two
abbrev pub sentences_by : Layout → Bool → Bool → Numbers → List ℕ → List ℕ → List Frame → List ℕ → List Sentence
sentences_by L rest free s ts ds fs ws = tested 19 rest (tested 22 free (sentences L s ts ds fs ws))

abbrev tested_by : Bool → Bool → State → List Sentence
tested_by rest free s = sentences_by four_words rest free (numbers_in s.numbers) (totals_in s.numbers) s.deques s.frames s.pool

quick_in : State → List String
quick_in s = failing (tested_by (rest_quick s.deques s.frames) (free_quick s.frames (numbers_in s.numbers).free_place) s)

quick : (s : State) → failing_in s ≡ quick_in s
unfolding failing_in quick_in
quick s i = failing (tested_by (rest_quick_lem s.deques s.frames i) (free_quick_lem s.frames (numbers_in s.numbers).free_place i) s)

-- ---- the tables

found : Row → List (List String)
found r = map failing_in r.states

said : Row → List (List String)
said r = map (λ s. r.sentence ∷ []) r.states

found_quick : Row → List (List String)
found_quick r = map quick_in r.states

-- all of them at once, for what the states have in common is computed once then
at_once : ◌≡◌ {A = List (List String) × List (List (List String)) × List (List (List String)) × List (List (List String)) × List (List (List String))}
    (map quick_in sounds, map found_quick number_rows, map found_quick total_rows, map found_quick frame_rows, map found_quick pool_rows)
    (map (λ s. []) sounds, map said number_rows, map said total_rows, map said frame_rows, map said pool_rows)
unfolding found_quick quick_in first rising table start stolen waiting leaving stacked grown twins triplets ended three lone small with set_number set_deques set_field set_pool changed ◌but◌ ◌alone◌ sounds number_rows total_rows frame_rows pool_rows failing said bottom top pop shift_up drop_top add_child relink_from spawn steal sync init_pool init_free init_leaves init_inner init_level set_node height width tree_nodes push set_size set_place size place set_frame frame_at roots_below one_main parents_live counts_right placed_once returning_right links_right chained totals_right hold_live absent_empty linked only_below tree_at nodes_at refcount left right value δ count
at_once = refl

quickly : (ts : List Row) → map found_quick ts ≡ map said ts → map found ts ≡ map said ts
unfolding found found_quick
quickly ts e = (λ i. map (λ (r : Row). map (λ s. quick s i) r.states) ts) ∙ e

computed : map failing_in sounds ≡ map (λ s. []) sounds
computed = (λ i. map (λ s. quick s i) sounds) ∙ ap (λ t. t.0) at_once

numbers_computed : map found number_rows ≡ map said number_rows
numbers_computed = quickly number_rows (ap (λ t. t.1) at_once)

totals_computed : map found total_rows ≡ map said total_rows
totals_computed = quickly total_rows (ap (λ t. t.2) at_once)

frames_computed : map found frame_rows ≡ map said frame_rows
frames_computed = quickly frame_rows (ap (λ t. t.3) at_once)

pools_computed : map found pool_rows ≡ map said pool_rows
pools_computed = quickly pool_rows (ap (λ t. t.4) at_once)

-- those that need many nodes, 521 (which is T(257)) and 16,385, or many places, 257: of the numbers' sentences this one alone is false; the sentences on
-- trees and frames are not computed
few : List ℕ → ℕ → List String
few ks N = let s = numbers_in ks in failing (number_sentences four_words s (rising s.places 1) (replicate (4 * N) 0))

many_computed : (few (2 ∷ 257 ∷ 521 ∷ 0 ∷ 0 ∷ 0 ∷ 0 ∷ 0 ∷ 0 ∷ 8 ∷ []) 521 ≡ ".. to 256." ∷ [])
    × (few (2 ∷ 2 ∷ 16385 ∷ 0 ∷ 0 ∷ 0 ∷ 0 ∷ 0 ∷ 0 ∷ 8 ∷ []) 16385 ≡ ".. to 16,384" ∷ [])
    × (few (2 ∷ 2 ∷ 5 ∷ 0 ∷ 0 ∷ 0 ∷ 0 ∷ 0 ∷ 0 ∷ 257 ∷ []) 5 ≡ ".. to 256," ∷ [])
unfolding few failing rising height width tree_nodes
many_computed = (refl, refl, refl)
