-- The images of R-1 as R-3, R-5, R-6 and R-8 change them, word by word, and their refusals, each at its condition and beside an accepted call or the next
-- refusal, with what they leave: saves of short states, and readings of their images into other memory. (That an image reads back as the state is
-- shown for every sound one: reads-back of semantics.)
use Rattle.image.specs.Image.{ImageCheck}
use Rattle.image.specs.declared.ImageError.TheVariants.{WrongLength, WrongCheck}
use Rattle.std.specs.Prelude.{◌≡◌, refl, Bool, true, cond, not, ◌||◌, ◌&&◌, List, [], ◌∷◌, ◌++◌, map, ℕ, zero, suc, ◌+◌, ◌-◌, ◌*◌, ◌%◌, ◌^◌, length, get_or, take, drop, set, replicate, eqb, ltb, Err, Ok}
use Rattle.std.proofs.Common.{ap, ap₂, ◌∙◌, arith}
use Rattle.words.specs.Basics.{none, same, sum, δ, count}
use Rattle.words.specs.Counting.{sum_cong, sum_first}
use Rattle.sizes.specs.Sizes.{height, width, tree_nodes}
use Rattle.packed.specs.Pool.{refcount, links, content, left, right}
use Rattle.frames.specs.declared.Frame.{Frame}
use Rattle.frames.specs.Frames.{frame_at, free_record}
use Rattle.frames.specs.Siblings.{chained}
use Rattle.frames.specs.Deques.{size, place}
use Rattle.soundness.specs.Soundness.{one_main, parents_live, counts_right, placed_once, returning_right, links_right, totals_right, hold_live, absent_empty, linked, only_below, roots_below, checked, cleared}
use Rattle.soundness.specs.PackedTrees.{tree_at, nodes_on, is_on}
use Rattle.image.specs.Image.{deques_of, table_words, image_words, word_bytes, bytes_of, words_of, word_at, check, blocks_of, filled, as_blocks, nodes_in, places_in, blocks_called, wrong_length, data_of, checks_hold, all_zero, rest_of, wrong_check, image_check, lent_deques, records_in}
use Rattle.semantics.specs.declared.Refusal.{Refusal}
use Rattle.semantics.specs.declared.Refusal.TheVariants.{Work, Lengths, Blocks, BlockCheck}
use Rattle.semantics.specs.Entries.{State, fits, is_sound}
use Rattle.semantics.specs.Images.{saved_image, SaveResult, save_refused, save_checked, save_with, save_on, LoadResult, state_in, pool_with, load_refused, records_zero, nodes_zero, load_checked, load_with, load_on}
use Rattle.starred.specs.Tapes.{any_table, parts_with, records_of, deques, frame, live, waiting, frames_in}
use Rattle.starred.specs.Quick.{sound_quick, sound_quick_lem, checked_by}
use Rattle.soundness.specs.Layout.{two_words}

-- ---- R-1's check in one pass over the bytes, for computing

-- of the bytes from the offset o on
abbrev summed_from : ℕ → List ℕ → ℕ
summed_from o [] = 0
summed_from o (b ∷ bs) = b * 256 ^ (o % 4) + summed_from (suc o) bs

summed_from_lem : (bs : List ℕ) (o : ℕ) → sum (length bs) (λ i. get_or bs i 0 * 256 ^ ((o + i) % 4)) ≡ summed_from o bs
summed_from_lem [] o = refl
summed_from_lem (b ∷ bs) o =
    sum_first (length bs) (λ i. get_or (b ∷ bs) i 0 * 256 ^ ((o + i) % 4))
    ∙ ap₂ (λ x y. b * 256 ^ (x % 4) + y) (omega arith)
    (sum_cong (length bs) (λ i. get_or bs i 0 * 256 ^ ((o + suc i) % 4)) (λ i. get_or bs i 0 * 256 ^ ((suc o + i) % 4)) (λ i l. ap (λ x. get_or bs i 0 * 256 ^ (x % 4)) (omega arith)) ∙ summed_from_lem bs (suc o))

abbrev check_quick : List ℕ → ℕ
check_quick bytes = summed_from 0 bytes % 4294967296

check_quick_lem : (bytes : List ℕ) → check bytes ≡ check_quick bytes
unfolding check
check_quick_lem bytes =
    ap (λ x. x % 4294967296)
    (sum_cong (length bytes) (λ i. get_or bytes i 0 * 256 ^ (i % 4)) (λ i. get_or bytes i 0 * 256 ^ ((0 + i) % 4)) (λ i l. ap (λ x. get_or bytes i 0 * 256 ^ (x % 4)) (omega arith)) ∙ summed_from_lem bytes 0)

abbrev blocks_quick : ℕ → List ℕ → List ℕ
blocks_quick zero bytes = []
blocks_quick (suc n) bytes = (take 508 bytes ++ word_bytes (check_quick (take 508 bytes))) ++ blocks_quick n (drop 508 bytes)

blocks_quick_lem : (n : ℕ) (bytes : List ℕ) → blocks_of n bytes ≡ blocks_quick n bytes
unfolding blocks_of
blocks_quick_lem zero bytes = refl
blocks_quick_lem (suc n) bytes = ap₂ (λ k bs. (take 508 bytes ++ word_bytes k) ++ bs) (check_quick_lem (take 508 bytes)) (blocks_quick_lem n (drop 508 bytes))

abbrev checks_quick : ℕ → List ℕ → Bool
checks_quick zero image = true
checks_quick (suc n) image = eqb (word_at image 508) (check_quick (take 508 image)) && checks_quick n (drop 512 image)

checks_quick_lem : (n : ℕ) (image : List ℕ) → checks_hold n image ≡ checks_quick n image
unfolding checks_hold
checks_quick_lem zero image = refl
checks_quick_lem (suc n) image = ap₂ (λ k b. eqb (word_at image 508) k && b) (check_quick_lem (take 508 image)) (checks_quick_lem n (drop 512 image))

-- ---- states: one splitter of value 7 in one node, a table of 8 places

-- the numbers and the length of the table, the deques and the table
abbrev state_of : List ℕ → ℕ → List ℕ → List Frame → State
state_of ns places ds fs = record { numbers = ns ++ (places ∷ []); deques = ds; frames = fs }

-- a leaf with so many holders
abbrev held_by : ℕ → List ℕ
held_by k = k ∷ 7 ∷ []

-- one worker, Main lives, and no node is free
abbrev main_frames : List Frame
main_frames = frames_in 8 (live none 0 0 0 0 ∷ [])

-- with these numbers
abbrev numbered : List ℕ → State
numbered ns = state_of ns 8 (deques (0 ∷ []) []) main_frames

abbrev state : State
state = numbered (1 ∷ 1 ∷ 1 ∷ none ∷ 1 ∷ 0 ∷ 0 ∷ 0 ∷ 0 ∷ [])

-- R-3: Main waits in its return, and its child, with the same leaf, is on the deque: "1 on a frame waiting so"
abbrev waiting_frames : List Frame
waiting_frames = frames_in 8 (waiting none 0 1 0 ∷ live 0 1 0 0 0 ∷ [])

abbrev waits : State
waits = state_of (1 ∷ 1 ∷ 1 ∷ none ∷ 2 ∷ 0 ∷ 0 ∷ 0 ∷ 0 ∷ []) 8 (deques (1 ∷ []) []) waiting_frames

-- R-5: Main waits at its sync, with a view, and has two children, on two workers: "the four view words and the next younger live sibling or none"
abbrev sibling_frames : List Frame
sibling_frames = frames_in 8 (frame none 0 2 1 0 0 (0 ∷ none ∷ 7 ∷ 0 ∷ []) none ∷ frame 0 1 0 0 0 0 (0 ∷ none ∷ 2 ∷ 1 ∷ []) 2 ∷ live 0 1 0 0 0 ∷ [])

abbrev siblings : State
siblings = state_of (2 ∷ 1 ∷ 1 ∷ none ∷ 3 ∷ 0 ∷ 0 ∷ 0 ∷ 0 ∷ []) 8 (deques (1 ∷ []) (2 ∷ [])) sibling_frames

-- Main has returned: "the four totals, in that order, after the first free frame place"
abbrev free_frames : List Frame
free_frames = frames_in 8 (free_record 1 ∷ [])

abbrev ended : State
ended = state_of (1 ∷ 1 ∷ 1 ∷ 0 ∷ 0 ∷ 10 ∷ 9 ∷ 2 ∷ 1 ∷ []) 8 (deques [] []) free_frames

abbrev free_leaf : List ℕ
free_leaf = 0 ∷ none ∷ []

-- R-6: Main and its child in a table of 2 places
abbrev full_frames : List Frame
full_frames = live none 0 1 0 0 ∷ live 0 1 0 0 0 ∷ []

abbrev full : State
full = state_of (1 ∷ 1 ∷ 1 ∷ none ∷ none ∷ 0 ∷ 0 ∷ 0 ∷ 0 ∷ []) 2 (deques (0 ∷ 1 ∷ []) []) full_frames

-- Main in a table of 1
abbrev lone : State
lone = state_of (1 ∷ 1 ∷ 1 ∷ none ∷ none ∷ 0 ∷ 0 ∷ 0 ∷ 0 ∷ []) 1 (deques (0 ∷ []) []) (live none 0 0 0 0 ∷ [])

-- R-8: Main with two splitters and five nodes, of which 3 and 4 are free: "left plus 65,536 times right"
abbrev grown : State
grown = numbered (1 ∷ 2 ∷ 5 ∷ 3 ∷ 1 ∷ 0 ∷ 0 ∷ 0 ∷ 0 ∷ [])

abbrev five_nodes : List ℕ
five_nodes = 1 ∷ (1 + 65536 * 2) ∷ 1 ∷ 10 ∷ 1 ∷ 20 ∷ 0 ∷ 4 ∷ 0 ∷ none ∷ []

-- ---- images

-- "508 of data, then a 32-bit check": blocks of these words, 127 each, with these checks
abbrev blocks_with : List ℕ → List ℕ → List ℕ
blocks_with [] words = []
blocks_with (k ∷ ks) words = (bytes_of (take 127 words) ++ word_bytes k) ++ blocks_with ks (drop 127 words)

-- a deque with so many places; those of 8 workers, of whom two have frames
abbrev deque_in : ℕ → List ℕ → List ℕ
deque_in places ps = length ps ∷ (ps ++ replicate (places - length ps) 0)

abbrev deques_in : ℕ → List ℕ → List ℕ → List ℕ
deques_in places ps qs = deque_in places ps ++ deque_in places qs ++ replicate (6 * suc places) 0

-- R-1's words of a state, 1,024 added to the first ("The first word of an image has 256 added", "Each later change of the image adds 256 again"), and as the
-- rest of the last block 74 words. R-6: "images hold that many records and deque places, with the length as a word before the deques". R-8: "Images have the new nodes."
pub image : List ℕ
image = blocks_with (1044 ∷ 25 ∷ []) ((1025 ∷ 1 ∷ 1 ∷ none ∷ 1 ∷ 0 ∷ 0 ∷ 0 ∷ 0 ∷ 8 ∷ []) ++ deques_in 8 (0 ∷ []) [] ++ records_of main_frames ++ held_by 1 ++ replicate 74 0)

pub waiting_image : List ℕ
waiting_image = blocks_with (1048 ∷ 26 ∷ []) ((1025 ∷ 1 ∷ 1 ∷ none ∷ 2 ∷ 0 ∷ 0 ∷ 0 ∷ 0 ∷ 8 ∷ []) ++ deques_in 8 (1 ∷ []) [] ++ records_of waiting_frames ++ held_by 2 ++ replicate 74 0)

pub siblings_image : List ℕ
siblings_image = blocks_with (1062 ∷ 27 ∷ []) ((1026 ∷ 1 ∷ 1 ∷ none ∷ 3 ∷ 0 ∷ 0 ∷ 0 ∷ 0 ∷ 8 ∷ []) ++ deques_in 8 (1 ∷ []) (2 ∷ []) ++ records_of sibling_frames ++ held_by 3 ++ replicate 74 0)

pub ended_image : List ℕ
ended_image = blocks_with (1067 ∷ 16 ∷ []) ((1025 ∷ 1 ∷ 1 ∷ 0 ∷ 0 ∷ 10 ∷ 9 ∷ 2 ∷ 1 ∷ 8 ∷ []) ++ deques_in 8 [] [] ++ records_of free_frames ++ free_leaf ++ replicate 74 0)

pub full_image : List ℕ
full_image = blocks_with (1040 ∷ []) ((1025 ∷ 1 ∷ 1 ∷ none ∷ none ∷ 0 ∷ 0 ∷ 0 ∷ 0 ∷ 2 ∷ []) ++ deques_in 2 (0 ∷ 1 ∷ []) [] ++ records_of full_frames ++ held_by 2 ++ replicate 67 0)

pub lone_image : List ℕ
lone_image = blocks_with (1034 ∷ []) ((1025 ∷ 1 ∷ 1 ∷ none ∷ none ∷ 0 ∷ 0 ∷ 0 ∷ 0 ∷ 1 ∷ []) ++ deques_in 1 (0 ∷ []) [] ++ records_of (live none 0 0 0 0 ∷ []) ++ held_by 1 ++ replicate 87 0)

pub grown_image : List ℕ
grown_image = blocks_with (1053 ∷ 131126 ∷ []) ((1025 ∷ 2 ∷ 5 ∷ 3 ∷ 1 ∷ 0 ∷ 0 ∷ 0 ∷ 0 ∷ 8 ∷ []) ++ deques_in 8 (0 ∷ []) [] ++ records_of main_frames ++ five_nodes ++ replicate 66 0)

-- of a table without places, where no frame lives
pub empty_image : List ℕ
empty_image = blocks_with (1025 ∷ []) ((1025 ∷ 1 ∷ 1 ∷ 0 ∷ none ∷ 0 ∷ 0 ∷ 0 ∷ 0 ∷ 0 ∷ []) ++ deques_in 0 [] [] ++ free_leaf ++ replicate 107 0)

-- of the first state with 257 places
pub many_image : List ℕ
many_image =
    blocks_with
    ((1285 ∷ replicate 15 0) ++ (26 ∷ 143 ∷ 264 ∷ 345 ∷ 495 ∷ 555 ∷ 726 ∷ 847 ∷ 875 ∷ 1078 ∷ 1085 ∷ 1309 ∷ 1295 ∷ 1540 ∷ 1661 ∷ 1615 ∷ 1892 ∷ 1825 ∷ 2123 ∷ 2244 ∷ 2145 ∷ 2475 ∷ 2355 ∷ 2706 ∷ 1277 ∷ []))
    ((1025 ∷ 1 ∷ 1 ∷ none ∷ 1 ∷ 0 ∷ 0 ∷ 0 ∷ 0 ∷ 257 ∷ []) ++ deques_in 257 (0 ∷ []) [] ++ records_of (frames_in 257 (live none 0 0 0 0 ∷ [])) ++ held_by 1 ++ replicate 47 0)

-- the first of them as R-6 wrote it: 768 added, the node of four words, 72 words of rest
pub image_of_r6 : List ℕ
image_of_r6 = blocks_with (788 ∷ 23 ∷ []) ((769 ∷ 1 ∷ 1 ∷ none ∷ 1 ∷ 0 ∷ 0 ∷ 0 ∷ 0 ∷ 8 ∷ []) ++ deques_in 8 (0 ∷ []) [] ++ records_of main_frames ++ (1 ∷ none ∷ none ∷ 7 ∷ []) ++ replicate 72 0)

-- as R-5 wrote it: 512 added, no length, 64 places, 96 words of rest
pub image_of_r5 : List ℕ
image_of_r5 =
    blocks_with (516 ∷ 0 ∷ 0 ∷ 0 ∷ 43 ∷ 165 ∷ 255 ∷ 396 ∷ 517 ∷ 575 ∷ 68 ∷ [])
    ((513 ∷ 1 ∷ 1 ∷ none ∷ 1 ∷ 0 ∷ 0 ∷ 0 ∷ 0 ∷ []) ++ deques_in 64 (0 ∷ []) [] ++ records_of (frames_in 64 (live none 0 0 0 0 ∷ [])) ++ (1 ∷ none ∷ none ∷ 7 ∷ []) ++ replicate 96 0)

-- the words of n blocks
abbrev of_blocks : ℕ → List ℕ → List ℕ
of_blocks n words = bytes_of (filled n words)

abbrev saved_words : State → List ℕ → List ℕ
saved_words s ws = image_words two_words s.numbers s.deques s.frames ws

-- the blocks and the words of each
abbrev saved : List (ℕ × List ℕ)
saved =
    (2, saved_words state (held_by 1))
    ∷ (2, saved_words waits (held_by 2))
    ∷ (2, saved_words siblings (held_by 3))
    ∷ (2, saved_words ended free_leaf)
    ∷ (1, saved_words full (held_by 2))
    ∷ (1, saved_words lone (held_by 1))
    ∷ (2, saved_words grown five_nodes)
    ∷ []

pub all_images : List (List ℕ)
all_images = image ∷ waiting_image ∷ siblings_image ∷ ended_image ∷ full_image ∷ lone_image ∷ grown_image ∷ []

images_quickly : map (λ (row : ℕ × List ℕ). blocks_quick row.0 (of_blocks row.0 row.1)) saved ≡ all_images
unfolding all_images image waiting_image siblings_image ended_image full_image lone_image grown_image bytes_of table_words deques_of
images_quickly = refl

pub images :
    saved_image two_words state (held_by 1) ∷ saved_image two_words waits (held_by 2) ∷ saved_image two_words siblings (held_by 3) ∷ saved_image two_words ended free_leaf ∷ saved_image two_words full (held_by 2) ∷ saved_image two_words lone (held_by 1)
    ∷ saved_image two_words grown five_nodes ∷ [] ≡ all_images
unfolding as_blocks deques_of table_words
images = (λ i. map (λ (row : ℕ × List ℕ). blocks_quick_lem row.0 (of_blocks row.0 row.1) i) saved) ∙ images_quickly

-- what they say
pub read_as_lem : map (state_in two_words) all_images ≡ state ∷ waits ∷ siblings ∷ ended ∷ full ∷ lone ∷ grown ∷ []
unfolding all_images image waiting_image siblings_image ended_image full_image lone_image grown_image data_of words_of bytes_of lent_deques records_in
read_as_lem = refl

-- ---- saves

-- a save with this work slice and this target, and its result
pub record Saving : Type 0 where
  pub state : State
  pub pool : List ℕ
  pub work : List ℕ
  pub target : List ℕ
  pub result : ℕ

abbrev saves : State → List ℕ → ℕ → ℕ → Saving
saves s ws bytes k = record { state = s; pool = ws; work = 5 ∷ []; target = replicate bytes 9; result = k }

-- without work
abbrev saves_not : State → List ℕ → ℕ → ℕ → Saving
saves_not s ws bytes k = record { state = s; pool = ws; work = []; target = replicate bytes 9; result = k }

-- with the table of a state of another length
abbrev tabled : State → List Frame → State
tabled s fs = record { numbers = s.numbers; deques = s.deques; frames = fs }

pub savings : List Saving
savings =
    -- "19, the target is too short": a target of 1,024 bytes and one of 1,023; the other states
    saves state (held_by 1) 1024 0
    ∷ saves state (held_by 1) 1023 19
    ∷ saves waits (held_by 2) 1024 0
    ∷ saves siblings (held_by 3) 1024 0
    ∷ saves ended free_leaf 1024 0
    -- R-6: shorter tables, of which the image has one block
    ∷ saves full (held_by 2) 512 0
    ∷ saves full (held_by 2) 511 19
    ∷ saves lone (held_by 1) 512 0
    ∷ saves lone (held_by 1) 511 19
    -- 5, then 6, then 19: no work; another first free place, totals while Main lives
    ∷ saves_not state (held_by 1) 1023 5
    ∷ saves (numbered (1 ∷ 1 ∷ 1 ∷ none ∷ 2 ∷ 0 ∷ 0 ∷ 0 ∷ 0 ∷ [])) (held_by 1) 0 6
    ∷ saves (numbered (1 ∷ 1 ∷ 1 ∷ none ∷ 1 ∷ 10 ∷ 9 ∷ 2 ∷ 1 ∷ [])) (held_by 1) 0 6
    -- R-6: "a recorded length not 1 to 256, or a table of another length, is unsound"
    ∷ saves (tabled state (frames_in 7 (live none 0 0 0 0 ∷ []))) (held_by 1) 1024 6
    ∷ saves (tabled state (frames_in 9 (live none 0 0 0 0 ∷ []))) (held_by 1) 1024 6
    ∷ saves (tabled full main_frames) (held_by 1) 512 6
    ∷ saves (state_of (1 ∷ 1 ∷ 1 ∷ 0 ∷ none ∷ 0 ∷ 0 ∷ 0 ∷ 0 ∷ []) 0 (deques [] []) []) free_leaf 512 6
    -- 99 before them: a part of another length
    ∷ saves_not (numbered []) (held_by 1) 0 99
    ∷ []

-- the result, and whether it left the target if it was refused
abbrev saved_by : Saving → SaveResult → ℕ × Bool
saved_by r o = (o.result, eqb o.result 0 || same o.target r.target)

abbrev save_quick : Saving → SaveResult
save_quick r =
    cond (fits r.state) (save_checked two_words (checked_by (sound_quick r.state r.pool) (record { state = r.state; pool = r.pool }) r.work) r.state r.pool r.work r.target)
    (save_refused r.work r.target Lengths)

save_quick_lem : (r : Saving) → save_on two_words r.state r.pool r.work r.target ≡ save_quick r
unfolding save_on save_with checked
save_quick_lem r i =
    cond (fits r.state) (save_checked two_words (checked_by (sound_quick_lem r.state r.pool i) (record { state = r.state; pool = r.pool }) r.work) r.state r.pool r.work r.target)
    (save_refused r.work r.target Lengths)

savings_quickly : map (λ (r : Saving). saved_by r (save_quick r)) savings ≡ map (λ (r : Saving). (r.result, true)) savings
unfolding savings cleared one_main parents_live counts_right placed_once returning_right links_right totals_right chained hold_live absent_empty linked only_below tree_at nodes_on is_on roots_below refcount left right frame_at size place height width tree_nodes δ count content links
savings_quickly = refl

pub save_refusals : map (λ (r : Saving). saved_by r (save_on two_words r.state r.pool r.work r.target)) savings ≡ map (λ (r : Saving). (r.result, true)) savings
save_refusals = (λ i. map (λ (r : Saving). saved_by r (save_quick_lem r i)) savings) ∙ savings_quickly

-- ---- readings

-- with the checks in one pass
abbrev image_quick : List ℕ → ImageCheck
image_quick i = cond (wrong_length two_words i) (Err WrongLength) (cond (not (checks_quick (blocks_called two_words i) i) || not (all_zero (rest_of two_words i))) (Err WrongCheck) (Ok tt))

image_quick_lem : (i : List ℕ) → image_check two_words i ≡ image_quick i
unfolding image_check wrong_check
image_quick_lem i = ap (λ b. cond (wrong_length two_words i) (Err WrongLength) (cond (not b || not (all_zero (rest_of two_words i))) (Err WrongCheck) (Ok tt))) (checks_quick_lem (blocks_called two_words i) i)

-- given whether what is read is sound
abbrev load_by : Bool → ImageCheck → List Frame → List ℕ → List ℕ → List ℕ → LoadResult
load_by b (Err WrongLength) fs ws work i = load_refused fs ws work Blocks
load_by b (Err WrongCheck) fs ws work i = load_refused fs ws work BlockCheck
load_by b (Ok _) fs ws work i =
    cond (ltb (length work) (nodes_in i)) (load_refused fs ws work Work)
    (cond (eqb (length fs) (places_in i) && b) (record { state = state_in two_words i; pool = pool_with two_words ws i; work = cleared (nodes_in i) work; result = 0 })
    (load_refused (records_zero fs) (nodes_zero two_words ws) (cleared (nodes_in i) work) Refusal.Unsound))

load_by_lem : (k : ImageCheck) (fs : List Frame) (ws work i : List ℕ) → load_checked two_words k fs ws work i ≡ load_by (is_sound two_words (state_in two_words i) (pool_with two_words ws i)) k fs ws work i
load_by_lem (Err WrongLength) fs ws work i = refl
load_by_lem (Err WrongCheck) fs ws work i = refl
load_by_lem (Ok _) fs ws work i = refl

abbrev or_lengths : State → List ℕ → List ℕ → LoadResult → LoadResult
or_lengths s ws work o = cond (fits s) o (record { state = s; pool = ws; work = work; result = 99 })

abbrev load_quick : State → List ℕ → List ℕ → List ℕ → LoadResult
load_quick s ws work i = or_lengths s ws work (load_by (sound_quick (state_in two_words i) (pool_with two_words ws i)) (image_quick i) s.frames ws work i)

load_quick_lem : (s : State) (ws work i : List ℕ) → load_on two_words s ws work i ≡ load_quick s ws work i
unfolding load_on load_with
load_quick_lem s ws work i =
    ap (or_lengths s ws work)
    (load_by_lem (image_check two_words i) s.frames ws work i ∙ (λ j. load_by (sound_quick_lem (state_in two_words i) (pool_with two_words ws i) j) (image_quick_lem i j) s.frames ws work i))

-- an image read into these parts with this work slice, and the result
pub record Reading : Type 0 where
  pub parts : State
  pub work : List ℕ
  pub image : List ℕ
  pub result : ℕ

-- into a table of so many places
abbrev gives_in : ℕ → List ℕ → ℕ → Reading
gives_in places i k = record { parts = parts_with places; work = 5 ∷ []; image = i; result = k }

-- without work
abbrev lacks_in : ℕ → List ℕ → ℕ → Reading
lacks_in places i k = record { parts = parts_with places; work = []; image = i; result = k }

-- 8 places
abbrev gives : List ℕ → ℕ → Reading
gives i k = gives_in 8 i k

abbrev lacks : List ℕ → ℕ → Reading
lacks i k = lacks_in 8 i k

-- the pool that is lent: two nodes, and a word
abbrev lent_pool : List ℕ
lent_pool = replicate 5 7

-- what a refused reading leaves. 17, 18 and 5: the table, the pool and the work as they were. "6 when reading leaves every whole node of the pool zero",
-- R-6: "every record of the table zero too", and the work slice as the check does. "A refused reading hands out a state of zeros." 99 leaves the parts
abbrev left_by : Reading → LoadResult → Bool
left_by r o =
    same o.state.numbers (cond (eqb o.result 99) r.parts.numbers (replicate 10 0))
    && same o.state.deques (cond (eqb o.result 99) r.parts.deques (replicate 2056 0))
    && same (records_of o.state.frames) (cond (eqb o.result 6) (replicate (12 * length r.parts.frames) 0) (records_of r.parts.frames))
    && same o.pool (cond (eqb o.result 6) (0 ∷ 0 ∷ 0 ∷ 0 ∷ 7 ∷ []) lent_pool)
    && same o.work (cond (eqb o.result 6) (0 ∷ []) r.work)

-- an accepted one: what the image says (read_as_lem) in a table of as many places, and the words past its node as they were
abbrev kept_by : Reading → LoadResult → Bool
kept_by r o = eqb (length o.state.frames) (length r.parts.frames) && same (drop 2 o.pool) (7 ∷ 7 ∷ 7 ∷ []) && same o.work (0 ∷ [])

abbrev read_by : Reading → LoadResult → ℕ × Bool
read_by r o = (o.result, cond (eqb o.result 0) (kept_by r o) (left_by r o))

-- with another first word, of the bytes a, b, 0, 0, and as the first block's check c, d, 0, 0: 19 more
abbrev begins : ℕ → ℕ → ℕ → ℕ → List ℕ → List ℕ
begins a b c d i = set (set (set (set i 0 a) 1 b) 508 c) 509 d

-- with another byte in the first block, and another lowest byte of its check, 20 before
abbrev first_block : ℕ → ℕ → ℕ → List ℕ → List ℕ
first_block p b k i = set (set i p b) 508 k

-- another first free place, with the check put right
abbrev other_place : List ℕ → List ℕ
other_place i = first_block 16 2 21 i

-- 1 as the sum's total, and as the addend's
abbrev other_sum : List ℕ → List ℕ
other_sum i = first_block 20 1 21 i

abbrev other_addend : List ℕ → List ℕ
other_addend i = first_block 32 1 21 i

-- Main names place 0 as its next younger sibling
abbrev other_link : List ℕ → List ℕ
other_link i = first_block 372 0 21 (set (set (set i 373 0) 374 0) 375 0)

-- R-6: another length, below 20
abbrev other_length : ℕ → List ℕ → List ℕ
other_length k i = first_block 36 k (12 + k) i

-- another byte in the last block, and that block's check
abbrev last_block : ℕ → ℕ → ℕ → List ℕ → List ℕ
last_block p b k i = set (set i (512 + p) b) 1020 k

pub readings : List Reading
readings =
    -- "17, the image is not just as many whole blocks as its first block calls for, or has no whole block": a block less, a block more, a byte
    -- less, no whole block, nothing
    gives (take 512 image) 17
    ∷ gives (image ++ replicate 512 0) 17
    ∷ gives (take 1023 image) 17
    ∷ gives (take 511 image) 17
    ∷ gives [] 17
    -- 2 blocks hold 38 nodes
    ∷ gives (set image 8 38) 18
    ∷ gives (set image 8 39) 17
    -- R-6: or, with one node, 6 to 11 places; 16,777,216 more
    ∷ gives (set image 36 5) 17
    ∷ gives (set image 36 6) 18
    ∷ gives (set image 36 11) 18
    ∷ gives (set image 36 12) 17
    ∷ gives (set image 39 1) 17
    -- R-3: "Each later change of the image adds 256 again and reads only its own form. A first word of no readable form gives 17.": the forms of R-6 and R-5, and their
    -- first words, R-3's, R-1's, and a later one's in these blocks, each with its check; 1,023, 0, 65,536 more and 16,777,216 more
    ∷ gives image_of_r6 17
    ∷ gives image_of_r5 17
    ∷ gives (begins 1 3 20 3 image) 17
    ∷ gives (begins 1 2 20 2 image) 17
    ∷ gives (begins 1 1 20 1 image) 17
    ∷ gives (begins 1 0 20 0 image) 17
    ∷ gives (begins 0 5 19 5 image) 17
    ∷ gives (begins 1 5 20 5 image) 17
    ∷ gives (begins 255 3 18 4 image) 17
    ∷ gives (begins 0 0 19 0 image) 17
    ∷ gives (set image 2 1) 17
    ∷ gives (set image 3 1) 17
    -- accepted
    ∷ gives image 0
    ∷ gives waiting_image 0
    ∷ gives siblings_image 0
    ∷ gives ended_image 0
    ∷ gives_in 2 full_image 0
    ∷ gives_in 1 lone_image 0
    -- 1,279 and 1,024 have this form: the check is wrong then, and where it is put right there are not 1 to 8 workers
    ∷ gives (set image 0 255) 18
    ∷ gives (set image 0 0) 18
    ∷ gives (begins 255 4 18 5 image) 6
    ∷ gives (begins 0 4 19 4 image) 6
    -- "18, a check is wrong or the rest of the last block is not zero": a byte changed, a check changed, the first byte of the rest and the check
    -- with it
    ∷ gives (set image 20 2) 18
    ∷ gives (set image 511 1) 18
    ∷ gives (last_block 212 1 26 image) 18
    -- R-5: the totals are "zero while Main lives"; the links, "Main's being none"
    ∷ gives (other_sum image) 6
    ∷ gives (other_addend image) 6
    ∷ gives (other_link image) 6
    -- R-6: "a table of another length, is unsound": the lent one has a place less, a place more, none, the most, or is the shortest
    ∷ gives_in 7 image 6
    ∷ gives_in 9 image 6
    ∷ gives_in 0 image 6
    ∷ gives_in 256 image 6
    ∷ gives_in 1 full_image 6
    ∷ gives_in 3 full_image 6
    ∷ gives_in 2 lone_image 6
    -- "a recorded length not 1 to 256": 0 and 257, also with a lent table of as many
    ∷ gives_in 0 empty_image 6
    ∷ gives_in 1 empty_image 6
    ∷ gives_in 257 many_image 6
    -- another length in the image, with the lent table of the one or of the other; the words past a shorter table's are not zero
    ∷ gives (other_length 9 image) 6
    ∷ gives_in 9 (other_length 9 image) 6
    ∷ gives (other_length 7 image) 18
    ∷ gives_in 7 (other_length 7 image) 18
    -- 17 before 18, 18 before 5, 5 before 6
    ∷ gives (take 512 (set image 20 2)) 17
    ∷ gives (set (set image 1 5) 20 2) 17
    ∷ lacks (set image 20 2) 18
    ∷ lacks (other_place image) 5
    ∷ gives (other_place image) 6
    ∷ gives_in 7 (take 512 image) 17
    ∷ gives_in 7 (set image 20 2) 18
    ∷ lacks_in 7 image 5
    ∷ lacks_in 0 empty_image 5
    -- 99, a part of words of another length, before them
    ∷ record { parts = record { numbers = replicate 9 3; deques = replicate 2056 3; frames = any_table 8 }; work = []; image = []; result = 99 }
    ∷ record { parts = record { numbers = replicate 10 3; deques = replicate 2057 3; frames = any_table 7 }; work = 5 ∷ []; image = image; result = 99 }
    ∷ []

readings_quickly : map (λ (r : Reading). read_by r (load_quick r.parts lent_pool r.work r.image)) readings ≡ map (λ (r : Reading). (r.result, true)) readings
unfolding readings image waiting_image siblings_image ended_image full_image lone_image empty_image many_image image_of_r6 image_of_r5 wrong_length all_zero data_of word_at words_of bytes_of lent_deques records_in cleared one_main parents_live counts_right placed_once returning_right links_right totals_right chained hold_live absent_empty linked only_below tree_at nodes_on is_on roots_below refcount left right frame_at size place height width tree_nodes δ count content links
readings_quickly = refl

pub load_refusals : map (λ (r : Reading). read_by r (load_on two_words r.parts lent_pool r.work r.image)) readings ≡ map (λ (r : Reading). (r.result, true)) readings
load_refusals = (λ i. map (λ (r : Reading). read_by r (load_quick_lem r.parts lent_pool r.work r.image i)) readings) ∙ readings_quickly
