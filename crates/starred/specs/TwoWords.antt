-- R-8, computed: the words of two-word nodes after starts and what they unpack to; tapes in both layouts, with equal answers and matching pools; and
-- soundness' sentences on trees for two-word nodes: small sound pools, and for each sentence changes of a sound one after which it alone is false.
use Rattle.std.specs.Prelude.{◌≡◌, refl, Bool, true, cond, List, [], ◌∷◌, ◌++◌, map, ℕ, ◌+◌, ◌*◌, length, take, set, replicate}
use Prim.Native.String.{String}
use Rattle.words.specs.Basics.{none, same, joined, δ, count}
use Rattle.sizes.specs.Sizes.{height, width, tree_nodes, bit}
use Rattle.pool.specs.Pool.{side}
use Rattle.pool.specs.Pool as Four
use Rattle.packed.specs.Pool as Two
use Rattle.frames.specs.Frames.{frame_at, set_frame, init_places, init_frames}
use Rattle.frames.specs.Deques.{size, set_size, place, set_place, bottom, top, push, pop, shift_up, drop_top, init_deques}
use Rattle.frames.specs.Siblings.{chained, relink_from, eldest_to, first_from, next_after}
use Rattle.frames.specs.Steps.{add_child, spawn, remove_frame, end_frame, go_on, went_on, steal}
use Rattle.soundness.specs.Layout.{Layout, pool_sound, four_words, two_words}
use Rattle.soundness.specs.Sentence.{Sentence, words, holds}
use Rattle.soundness.specs.Soundness.{one_main, parents_live, counts_right, placed_once, returning_right, links_right, totals_right, hold_live, absent_empty, rest_zero, linked, only_below, places_free, numbers_sound, frames_sound, roots_below, sound, checked, cleared}
use Rattle.soundness.specs.Trees as FourTrees
use Rattle.soundness.specs.PackedTrees.{tree_at, nodes_on, is_on, pool_sentences}
use Rattle.soundness.specs.Unpacked.{unpacked_from, unpacked}
use Rattle.model.specs.Record.{record_of, decode_at}
use Rattle.semantics.specs.Core.{spawn_on, end_at, upward, end_bottom, return_on, steal_on, write_on, step_on}
use Rattle.semantics.specs.Entries.{start_on, start_with, records_from, run_on, TapeResult, tape_on, tape_with}
use Rattle.semantics.specs.Calls.{Start, after_start, tape_result}
use Rattle.semantics.specs.Matching.{unpacked_pool}
use Rattle.starred.specs.Tapes.{spawns, returns, steals, writes, parts_with, words_of}

-- "left plus 65,536 times right"
abbrev pub both : ℕ → ℕ → ℕ
both l r = l + 65536 * r

-- ---- starts: two workers, so many nodes, a word more, and a table of 8 places

abbrev pub starts_with : Layout → List ℕ → ℕ → Start
starts_with L values nodes = record { parts = parts_with 8; workers = 2; values = values; pool = replicate (L.words * nodes + 1) 7 }

-- "A node becomes two words: holders, then left plus 65,536 times right for inner nodes with 65,535 for none, the value for a leaf, the next free node or
-- none for a free one."; "root first": the root, two leaves, and two free nodes
abbrev pub two_splitters : List ℕ
two_splitters = 1 ∷ both 1 2 ∷ 1 ∷ 10 ∷ 1 ∷ 20 ∷ 0 ∷ 4 ∷ 0 ∷ none ∷ []

-- the root, two inner nodes, of which the second has no right half, three leaves, and a free node
abbrev pub three_splitters : List ℕ
three_splitters = 1 ∷ both 1 2 ∷ 1 ∷ both 3 4 ∷ 1 ∷ both 5 65535 ∷ 1 ∷ 10 ∷ 1 ∷ 20 ∷ 1 ∷ 30 ∷ 0 ∷ none ∷ []

-- the same in four words: "holders, left, right, value"
abbrev pub two_in_four : List ℕ
two_in_four = 1 ∷ 1 ∷ 2 ∷ 0 ∷ 1 ∷ none ∷ none ∷ 10 ∷ 1 ∷ none ∷ none ∷ 20 ∷ 0 ∷ 4 ∷ 0 ∷ 0 ∷ 0 ∷ none ∷ 0 ∷ 0 ∷ []

abbrev pub three_in_four : List ℕ
three_in_four =
    1 ∷ 1 ∷ 2 ∷ 0 ∷ 1 ∷ 3 ∷ 4 ∷ 0 ∷ 1 ∷ 5 ∷ none ∷ 0 ∷ 1 ∷ none ∷ none ∷ 10 ∷ 1 ∷ none ∷ none ∷ 20 ∷ 1 ∷ none ∷ none ∷ 30 ∷ 0 ∷ none ∷ 0 ∷ 0 ∷ []

-- the words of the pool after it; the word past the nodes is as it was
abbrev started_pool : Layout → List ℕ → ℕ → List ℕ
started_pool L values nodes = (after_start L (starts_with L values nodes)).pool

pub started_two : (started_pool two_words (10 ∷ 20 ∷ []) 5 ≡ two_splitters ++ (7 ∷ [])) × (started_pool two_words (10 ∷ 20 ∷ 30 ∷ []) 7 ≡ three_splitters ++ (7 ∷ []))
unfolding start_on start_with Two.init_pool Two.init_free Two.init_leaves Two.init_inner Two.init_level Two.set_node Two.links height width tree_nodes
started_two = (refl, refl)

pub started_four : (started_pool four_words (10 ∷ 20 ∷ []) 5 ≡ two_in_four ++ (7 ∷ [])) × (started_pool four_words (10 ∷ 20 ∷ 30 ∷ []) 7 ≡ three_in_four ++ (7 ∷ []))
unfolding start_on start_with Four.init_pool Four.init_free Four.init_leaves Four.init_inner Four.init_level Four.set_node height width tree_nodes
started_four = (refl, refl)

-- "After starts with as many nodes, unpacking the new pool gives the old one node for node."
pub starts_unpacked : (unpacked 2 (0 ∷ []) 5 two_splitters ≡ (Four.init_pool (replicate 20 7) 2 5 (10 ∷ 20 ∷ [])).0)
    × (unpacked 3 (0 ∷ []) 7 three_splitters ≡ (Four.init_pool (replicate 28 7) 3 7 (10 ∷ 20 ∷ 30 ∷ [])).0)
unfolding unpacked unpacked_from nodes_on is_on Two.refcount Two.content Two.left Two.right Four.init_pool Four.init_free Four.init_leaves Four.init_inner Four.init_level Four.set_node height width δ count
starts_unpacked = (refl, refl)

-- ---- tapes in both layouts

-- the initial values, the nodes and the records; the answers, and the words of the nodes afterwards in two words and in four
pub record TapeRow : Type 0 where
  pub values : List ℕ
  pub nodes : ℕ
  pub records : List (List ℕ)
  pub answers : List ℕ
  pub two : List ℕ
  pub four : List ℕ

abbrev runs : List ℕ → ℕ → List (List ℕ) → (answers two four : List ℕ) → TapeRow
runs values nodes records answers two four = record { values = values; nodes = nodes; records = records; answers = answers; two = two; four = four }

unfoldable pub tape_rows : List TapeRow
tape_rows =
    -- worker 0 spawns, 1 steals Main; the child writes 91 on the left, in new nodes 3 and 4, and 92 on the right, in 5
    runs (10 ∷ 20 ∷ []) 7 (spawns 0 ∷ steals 1 0 ∷ writes 0 0 91 ∷ writes 0 1 92 ∷ [])
    (101 ∷ 1 ∷ 103 ∷ 0 ∷ 106 ∷ 2 ∷ 106 ∷ 1 ∷ [])
    (1 ∷ both 1 2 ∷ 1 ∷ 10 ∷ 1 ∷ 20 ∷ 1 ∷ both 4 5 ∷ 1 ∷ 91 ∷ 1 ∷ 92 ∷ 0 ∷ none ∷ [])
    (1 ∷ 1 ∷ 2 ∷ 0 ∷ 1 ∷ none ∷ none ∷ 10 ∷ 1 ∷ none ∷ none ∷ 20 ∷ 1 ∷ 4 ∷ 5 ∷ 0 ∷ 1 ∷ none ∷ none ∷ 91 ∷ 1 ∷ none ∷ none ∷ 92 ∷ 0 ∷ none ∷ 0 ∷ 0 ∷ [])
    -- Main writes 81 where its leaf is; the child returns, and 3, 4, 5 are freed in this order
    ∷ runs (10 ∷ 20 ∷ []) 7 (spawns 0 ∷ steals 1 0 ∷ writes 0 0 91 ∷ writes 0 1 92 ∷ writes 1 0 81 ∷ returns 0 ∷ [])
    (101 ∷ 1 ∷ 103 ∷ 0 ∷ 106 ∷ 2 ∷ 106 ∷ 1 ∷ 106 ∷ 1 ∷ 102 ∷ 1 ∷ [])
    (1 ∷ both 1 2 ∷ 1 ∷ 81 ∷ 1 ∷ 20 ∷ 0 ∷ 6 ∷ 0 ∷ 3 ∷ 0 ∷ 4 ∷ 0 ∷ none ∷ [])
    (1 ∷ 1 ∷ 2 ∷ 0 ∷ 1 ∷ none ∷ none ∷ 81 ∷ 1 ∷ none ∷ none ∷ 20 ∷ 0 ∷ 6 ∷ 0 ∷ 0 ∷ 0 ∷ 3 ∷ 0 ∷ 0 ∷ 0 ∷ 4 ∷ 0 ∷ 0 ∷ 0 ∷ none ∷ 0 ∷ 0 ∷ [])
    -- three splitters: the child's new path to splitter 2 has a node without a right half, 7; all nodes are in use
    ∷ runs (10 ∷ 20 ∷ 30 ∷ []) 9 (spawns 0 ∷ steals 1 0 ∷ writes 0 2 91 ∷ [])
    (101 ∷ 1 ∷ 103 ∷ 0 ∷ 106 ∷ 0 ∷ [])
    (1 ∷ both 1 2 ∷ 2 ∷ both 3 4 ∷ 1 ∷ both 5 65535 ∷ 1 ∷ 10 ∷ 1 ∷ 20 ∷ 1 ∷ 30 ∷ 1 ∷ both 1 7 ∷ 1 ∷ both 8 65535 ∷ 1 ∷ 91 ∷ [])
    (1 ∷ 1 ∷ 2 ∷ 0 ∷ 2 ∷ 3 ∷ 4 ∷ 0 ∷ 1 ∷ 5 ∷ none ∷ 0 ∷ 1 ∷ none ∷ none ∷ 10 ∷ 1 ∷ none ∷ none ∷ 20 ∷ 1 ∷ none ∷ none ∷ 30 ∷
    1 ∷ 1 ∷ 7 ∷ 0 ∷ 1 ∷ 8 ∷ none ∷ 0 ∷ 1 ∷ none ∷ none ∷ 91 ∷ [])
    ∷ []

abbrev played_on : Layout → TapeRow → TapeResult
played_on L r =
    tape_result L (after_start L (starts_with L r.values r.nodes)) (joined r.records) (replicate r.nodes 5) (replicate (2 * length r.records) 9)

-- the answers in both layouts, the words of the nodes in two, what they unpack to, those in four; and whether the states are the same
pub record TapesSeen : Type 0 where
  pub answers_two : List ℕ
  pub answers_four : List ℕ
  pub two : List ℕ
  pub unpacks : List ℕ
  pub four : List ℕ
  pub same_state : Bool

abbrev compared : TapeRow → TapeResult → TapeResult → TapesSeen
compared r o₂ o₄ =
    record {
      answers_two = o₂.answers;
      answers_four = o₄.answers;
      two = take (2 * r.nodes) o₂.pool;
      unpacks = unpacked_pool o₂.state o₂.pool;
      four = take (4 * r.nodes) o₄.pool;
      same_state = same (words_of o₂.state) (words_of o₄.state);
    }

abbrev tapes_seen : TapeRow → TapesSeen
tapes_seen r = let o₂ : TapeResult = played_on two_words r in let o₄ : TapeResult = played_on four_words r in compared r o₂ o₄

abbrev tapes_said : TapeRow → TapesSeen
tapes_said r = record { answers_two = r.answers; answers_four = r.answers; two = r.two; unpacks = r.four; four = r.four; same_state = true }

-- "every tape must give the same answer words in both layouts and leave them matching"
pub tapes_match : map tapes_seen tape_rows ≡ map tapes_said tape_rows
unfolding tape_rows tape_on tape_with checked sound numbers_sound frames_sound pool_sound one_main parents_live counts_right placed_once returning_right links_right totals_right chained hold_live absent_empty rest_zero linked only_below places_free roots_below cleared tree_at nodes_on is_on FourTrees.tree_at FourTrees.nodes_at unpacked unpacked_from start_on start_with records_from run_on record_of decode_at spawn_on end_at upward end_bottom return_on steal_on write_on step_on add_child spawn remove_frame end_frame go_on went_on steal relink_from eldest_to first_from next_after shift_up drop_top pop top bottom side bit height width tree_nodes init_deques init_frames init_places push set_size set_place size place set_frame frame_at δ count Two.refcount Two.content Two.left Two.right Two.links Two.set_node Two.set_refcount Two.set_content Two.child Two.sibling Two.retain Two.release Two.path_node Two.copy_path Two.set_value Two.set_link Two.renew Two.first_shared Two.rest Two.write_from Two.write Two.init_level Two.init_inner Two.init_leaves Two.init_free Two.init_pool Four.refcount Four.left Four.right Four.value Four.set_node Four.set_refcount Four.child Four.sibling Four.retain Four.release Four.path_node Four.copy_path Four.set_value Four.set_link Four.renew Four.first_shared Four.rest Four.write_from Four.write Four.init_level Four.init_inner Four.init_leaves Four.init_free Four.init_pool
tapes_match = refl

-- ---- soundness, the sentences on trees

-- the splitters, the recorded nodes, the words of the pool, the first free node, and the roots of the live frames
pub record Pool : Type 0 where
  pub splitters : ℕ
  pub nodes : ℕ
  pub pool : List ℕ
  pub first : ℕ
  pub roots : List ℕ

-- two splitters, five nodes
abbrev two : List ℕ → ℕ → List ℕ → Pool
two ws first rs = record { splitters = 2; nodes = 5; pool = ws; first = first; roots = rs }

-- three splitters, seven nodes
abbrev three : List ℕ → ℕ → Pool
three ws first = record { splitters = 3; nodes = 7; pool = ws; first = first; roots = 0 ∷ [] }

-- with other words of node i
abbrev node : ℕ → ℕ → ℕ → List ℕ → List ℕ
node i holders w ws = set (set ws (2 * i) holders) (2 * i + 1) w

pub sound_pools : List Pool
sound_pools =
    -- the starts
    two two_splitters 3 (0 ∷ []) ∷ three three_splitters 6 ∷
    -- two frames with the same root; with one leaf in common; no frame
    two (node 0 2 (both 1 2) two_splitters) 3 (0 ∷ 0 ∷ []) ∷
    two (1 ∷ both 1 2 ∷ 1 ∷ 10 ∷ 2 ∷ 20 ∷ 1 ∷ both 4 2 ∷ 1 ∷ 91 ∷ []) none (0 ∷ 3 ∷ []) ∷
    two (0 ∷ 1 ∷ 0 ∷ 2 ∷ 0 ∷ 3 ∷ 0 ∷ 4 ∷ 0 ∷ none ∷ []) 0 [] ∷
    -- a node stands in two places of a tree, on one level
    two (1 ∷ both 1 1 ∷ 2 ∷ 10 ∷ 0 ∷ 3 ∷ 0 ∷ 4 ∷ 0 ∷ none ∷ []) 2 (0 ∷ []) ∷
    -- a leaf's value that looks like links: the root's, to itself and the root, to free nodes, to none
    two (node 1 1 (both 1 2) two_splitters) 3 (0 ∷ []) ∷
    two (node 1 1 (both 1 0) two_splitters) 3 (0 ∷ []) ∷
    two (node 2 1 (both 3 4) two_splitters) 3 (0 ∷ []) ∷
    two (node 2 1 none two_splitters) 3 (0 ∷ []) ∷
    three (node 5 1 (both 6 65535) three_splitters) 6 ∷
    []

-- the sentences that are false
abbrev failing : List Sentence → List String
failing [] = []
failing (s ∷ ss) = cond (holds s) (failing ss) (words s ∷ failing ss)

abbrev failing_in : Pool → List String
failing_in p = failing (pool_sentences p.splitters p.nodes p.pool p.first p.roots)

pub record PoolRow : Type 0 where
  pub sentence : String
  pub pools : List Pool

abbrev alone : String → List Pool → PoolRow
alone t ps = record { sentence = t; pools = ps }

pub pool_rows : List PoolRow
pool_rows =
    alone "Walking from each live frame gives a tree of the shape above, in which a node may stand in several places;" (
    -- 65,535 where a child is due, on the right and on the left: the leaf that was there is free
    two (node 2 0 3 (node 0 1 (both 1 65535) two_splitters)) 2 (0 ∷ []) ∷
    two (node 1 0 3 (node 0 1 (both 65535 2) two_splitters)) 1 (0 ∷ []) ∷
    -- a leaf, a root past the nodes; the lent pool has a sixth
    two (node 1 0 3 (node 0 1 (both 5 2) two_splitters) ++ (1 ∷ 10 ∷ [])) 1 (0 ∷ []) ∷
    two (node 0 0 3 (node 1 0 10 (node 2 0 20 two_splitters)) ++ (1 ∷ both 1 2 ∷ [])) 0 (5 ∷ []) ∷
    -- a right link where the group has no right half
    three (node 2 1 (both 5 5) (node 5 2 30 three_splitters)) 6 ∷
    []) ∷
    alone "no node is reached on two levels" (
    -- a leaf of one tree that is an inner node of another: 0 is a root, and the left leaf under the root 3
    two (2 ∷ both 1 2 ∷ 1 ∷ 10 ∷ 2 ∷ 20 ∷ 1 ∷ both 0 2 ∷ 0 ∷ none ∷ []) 4 (0 ∷ 3 ∷ []) ∷
    -- in one tree: a root that is its own leaf; under 2 an inner node, 1, in the place of a leaf
    two (node 1 0 3 (node 0 2 (both 0 2) two_splitters)) 1 (0 ∷ []) ∷
    three (node 1 2 (both 3 4) (node 2 1 (both 1 65535) (node 5 0 6 three_splitters))) 5 ∷
    []) ∷
    alone "(the free chain is one of nodes)" (
    -- it goes on to a sixth
    two (node 4 0 5 two_splitters ++ (0 ∷ none ∷ [])) 3 (0 ∷ []) ∷
    []) ∷
    alone "nodes reached have right holders; all others are free and lie once on the free chain." (
    -- holders of the root, one more and one less; of a leaf, one more; of a free node
    two (node 0 2 (both 1 2) two_splitters) 3 (0 ∷ []) ∷
    two (node 0 0 (both 1 2) two_splitters) 3 (0 ∷ []) ∷
    two (node 1 2 10 two_splitters) 3 (0 ∷ []) ∷
    two (node 3 1 4 two_splitters) 3 (0 ∷ []) ∷
    -- what looks like a link in a leaf's value holds nothing
    two (node 1 1 (both 2 2) (node 2 3 20 two_splitters)) 3 (0 ∷ []) ∷
    -- not on the chain; twice; into a node in use, whose value ends it
    two two_splitters 4 (0 ∷ []) ∷
    two (node 4 0 3 two_splitters) 3 (0 ∷ []) ∷
    two (node 4 0 1 (node 1 1 none two_splitters)) 3 (0 ∷ []) ∷
    []) ∷
    []

pub sound_pools_lem : map failing_in sound_pools ≡ map (λ (p : Pool). []) sound_pools
unfolding sound_pools tree_at nodes_on is_on Two.refcount Two.content Two.left Two.right height width δ count
sound_pools_lem = refl

pub one_false : map (λ (r : PoolRow). map failing_in r.pools) pool_rows ≡ map (λ (r : PoolRow). map (λ (p : Pool). r.sentence ∷ []) r.pools) pool_rows
unfolding pool_rows tree_at nodes_on is_on Two.refcount Two.content Two.left Two.right height width δ count
one_false = refl
