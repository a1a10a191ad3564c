-- The definitions on small data, computed.
use Rattle.image.specs.declared.ImageError.TheVariants.{WrongLength}
use Rattle.std.specs.Prelude.{◌≡◌, refl, true, false, List, [], ◌∷◌, ◌++◌, map, ℕ, ◌+◌, length, take, drop, set, replicate, Err}
use Rattle.words.specs.Basics.{none}
use Rattle.frames.specs.declared.Frame.{Frame}
use Rattle.frames.specs.Widths.{deque_words, max_places}
use Rattle.frames.specs.Frames.{free_record, set_frame, init_places, init_frames}
use Rattle.frames.specs.Deques.{size, set_size, set_place, push, init_deques}
use Rattle.soundness.specs.Numbers.{number_count}
use Rattle.image.specs.Widths.{deques_words, state_words}
use Rattle.image.specs.Image.{word_bytes, bytes_of, words_of, word_at, check, block, blocks_of, blocks_for, as_blocks, deques_of, table_words, image_words, image_bytes, no_form, blocks_called, wrong_length, checks_hold, image_check, unversioned, data_of, lent_deques, records_in, deques_in, frames_in, pool_in}
use Rattle.soundness.specs.Layout.{two_words}

-- ---- bytes and checks

-- the lowest byte first
low_first : word_bytes 16909060 ≡ 4 ∷ 3 ∷ 2 ∷ 1 ∷ []
low_first = refl

back : words_of (4 ∷ 3 ∷ 2 ∷ 1 ∷ []) ≡ 16909060 ∷ []
unfolding words_of
back = refl

-- offsets 0, 1, 2, 3, 0: 1 + 2 * 256 + 3 * 65536 + 255 * 16777216 + 5
check-five : check (1 ∷ 2 ∷ 3 ∷ 255 ∷ 5 ∷ []) ≡ 4278387206
unfolding check
check-five = refl

check_wraps : check (255 ∷ 255 ∷ 255 ∷ 255 ∷ 2 ∷ []) ≡ 1
unfolding check
check_wraps = refl

-- a block of ones: 127 * (1 + 256 + 65536 + 16777216)
check_ones : check (replicate 508 1) ≡ 2139062143
unfolding check
check_ones = refl

-- with its check; with another data byte; with another check
checks : map (checks_hold 1) (block (replicate 508 1) ∷ set (block (replicate 508 1)) 7 2 ∷ set (block (replicate 508 1)) 511 1 ∷ []) ≡ true ∷ false ∷ false ∷ []
unfolding checks_hold word_at check
checks = refl

-- ---- sizes

-- with a table of 64 places, as splitrun lends it, and with the shortest and the longest
state_words_lem : map state_words (64 ∷ 1 ∷ max_places ∷ []) ≡ 1298 ∷ 38 ∷ 5138 ∷ []
state_words_lem = refl

-- 127 words are just one block, 128 are two
just_one : blocks_for 127 ≡ 1
just_one = refl

one_more : blocks_for 128 ≡ 2
one_more = refl

-- 64 places and one node: 1,300 words; 256 places and 16,384 nodes; as many as words can say
bytes_1 : image_bytes two_words 64 1 ≡ 5632
bytes_1 = refl

bytes_16384 : image_bytes two_words max_places 16384 ≡ 153088
bytes_16384 = refl

bytes_most : image_bytes two_words 4294967295 4294967295 ≡ 380933162496
bytes_most = refl

-- ---- the image of a start with one worker and one splitter, of value 7, in one node, with a table of 8 places

-- "At the start Main, depth 0, is alone on worker 0's deque"; the totals are "zero while Main lives"
deques : List ℕ
deques = init_deques (replicate deque_words 0)

table : List Frame
table = init_frames (replicate 8 (free_record 0))

words : List ℕ
words = image_words two_words (1 ∷ 1 ∷ 1 ∷ none ∷ 1 ∷ 0 ∷ 0 ∷ 0 ∷ 0 ∷ 8 ∷ []) deques table (1 ∷ 7 ∷ [])

image : List ℕ
image = as_blocks words

-- the numbers, the first with 1,024 added, the totals and "the length as a word before the deques", then worker 0's deque of length 1, with Main in place 0
first-words : take 12 words ≡ 1025 ∷ 1 ∷ 1 ∷ none ∷ 1 ∷ 0 ∷ 0 ∷ 0 ∷ 0 ∷ 8 ∷ 1 ∷ 0 ∷ []
unfolding words deques table deques_of table_words init_deques push size set_size set_place init_frames init_places set_frame
first-words = refl

-- Main's record: live, parent none, depth, outstanding, suspended, root, returning, "last, the four view words", which begin as the identities, "and
-- the next younger live sibling or none"; then the first free place, which links to place 2
records : take 14 (drop (number_count + deques_words 8) words) ≡ 1 ∷ none ∷ 0 ∷ 0 ∷ 0 ∷ 0 ∷ 0 ∷ 0 ∷ none ∷ 1 ∷ 0 ∷ none ∷ 0 ∷ 2 ∷ []
unfolding words deques table deques_of table_words init_deques push size set_size set_place init_frames init_places set_frame
records = refl

-- the nodes come last
last-words : drop (state_words 8) words ≡ 1 ∷ 7 ∷ []
unfolding words deques table deques_of table_words init_deques push size set_size set_place init_frames init_places set_frame
last-words = refl

begins : take 16 image ≡ 1 ∷ 4 ∷ 0 ∷ 0 ∷ 1 ∷ 0 ∷ 0 ∷ 0 ∷ 1 ∷ 0 ∷ 0 ∷ 0 ∷ 255 ∷ 255 ∷ 255 ∷ 255 ∷ []
unfolding image words deques table deques_of table_words as_blocks blocks_of bytes_of check init_deques push size set_size set_place init_frames init_places set_frame
begins = refl

-- its length; the first block's check: the numbers, 1,025 + 1 + 1 + none + 1 + 8, the deque, 1, Main, 1 + none + none + 1 + none, and the links 2, 3 and 4; and
-- the last one's: the links 5, 6, 7 and none, then the node, 1 + 7
known : length image ∷ word_at image 508 ∷ word_at image (512 + 508) ∷ [] ≡ 1024 ∷ 1044 ∷ 25 ∷ []
unfolding image words deques table deques_of table_words as_blocks blocks_of bytes_of word_at check init_deques push size set_size set_place init_frames init_places set_frame
known = refl

-- what it says: the lent deques, zero past 8 places, the table and the node
says_deques : deques_in two_words image ≡ deques
unfolding image words deques table deques_of table_words as_blocks blocks_of bytes_of words_of data_of lent_deques check init_deques push size set_size set_place init_frames init_places set_frame
says_deques = refl

says_table : frames_in two_words image ≡ table
unfolding image words deques table deques_of table_words as_blocks blocks_of bytes_of words_of data_of records_in check init_deques push size set_size set_place init_frames init_places set_frame
says_table = refl

says_node : pool_in two_words image ≡ 1 ∷ 7 ∷ []
unfolding image words deques table deques_of table_words as_blocks blocks_of bytes_of words_of data_of check init_deques push size set_size set_place init_frames init_places set_frame
says_node = refl

-- a block less or more, a byte less, nothing
wrong_lengths : map (image_check two_words) (take 512 image ∷ (image ++ replicate 512 0) ∷ take 1023 image ∷ [] ∷ []) ≡ (Err WrongLength) ∷ (Err WrongLength) ∷ (Err WrongLength) ∷ (Err WrongLength) ∷ []
unfolding image words deques table deques_of table_words as_blocks blocks_of bytes_of words_of check wrong_length image_check init_deques push size set_size set_place init_frames init_places set_frame
wrong_lengths = refl

-- the totals once Main has returned: "the sum, the minimum, the multiplier and the addend"; then the length
totals : take number_count (image_words two_words (1 ∷ 1 ∷ 1 ∷ 0 ∷ 0 ∷ 12 ∷ 5 ∷ 6 ∷ 7 ∷ 2 ∷ []) [] [] []) ≡ 1025 ∷ 1 ∷ 1 ∷ 0 ∷ 0 ∷ 12 ∷ 5 ∷ 6 ∷ 7 ∷ 2 ∷ []
totals = refl

-- ---- the first word

-- the same words with another first word, as blocks
with_first : ℕ → List ℕ
with_first w = as_blocks (set words 0 w)

-- one worker in R-1's form, in R-3's, in R-5's, in R-6's, and in one that is not known yet: as many blocks as are called for, and right checks
other_forms : map (image_check two_words) (with_first 1 ∷ with_first 257 ∷ with_first 513 ∷ with_first 769 ∷ with_first 1281 ∷ []) ≡ (Err WrongLength) ∷ (Err WrongLength) ∷ (Err WrongLength) ∷ (Err WrongLength) ∷ (Err WrongLength) ∷ []
unfolding with_first words deques table deques_of table_words as_blocks blocks_of bytes_of words_of check wrong_length image_check init_deques push size set_size set_place init_frames init_places set_frame
other_forms = refl

-- a first block with this first word, 52 nodes and k places: 122 words and 20 for each place
first_block : ℕ → ℕ → List ℕ
first_block k w = bytes_of (w ∷ 1 ∷ 52 ∷ 0 ∷ 0 ∷ 0 ∷ 0 ∷ 0 ∷ 0 ∷ k ∷ []) ++ replicate 472 0

firsts : List (List ℕ)
firsts = map (first_block 1) (0 ∷ 255 ∷ 256 ∷ 511 ∷ 512 ∷ 767 ∷ 768 ∷ 1023 ∷ 1024 ∷ 1279 ∷ 1280 ∷ [])

-- "reads only its own form"
no_forms : map (no_form two_words) firsts ≡ true ∷ true ∷ true ∷ true ∷ true ∷ true ∷ true ∷ true ∷ false ∷ false ∷ true ∷ []
unfolding firsts first_block bytes_of words_of
no_forms = refl

-- what is called for follows the length as it stands: 17 does not ask that it is 1 to 256
blocks_called_lem : map (λ (k : ℕ). blocks_called two_words (first_block k 1024)) (0 ∷ 1 ∷ 64 ∷ 256 ∷ 257 ∷ 4294967295 ∷ []) ≡ 1 ∷ 2 ∷ 12 ∷ 42 ∷ 42 ∷ 676372804 ∷ []
unfolding first_block bytes_of words_of
blocks_called_lem = refl

-- as many blocks as are called for pass 17, one less does not; the checks are not looked at
seventeen : map (wrong_length two_words) ((first_block 1 1024 ++ replicate 512 0) ∷ (first_block 1 1279 ++ replicate 512 0) ∷ first_block 0 1024 ∷ first_block 1 1024 ∷ []) ≡ false ∷ false ∷ false ∷ true ∷ []
unfolding first_block bytes_of words_of wrong_length
seventeen = refl

-- images of the forms before, as many blocks as 52 nodes had there: 9, from R-3 on 10, from R-5 on 12, and with R-6's table of no place 2
seventeen_before : map (wrong_length two_words) ((first_block 0 1 ++ replicate 4096 0) ∷ (first_block 0 257 ++ replicate 4608 0) ∷ (first_block 0 513 ++ replicate 5632 0) ∷ (first_block 0 769 ++ replicate 512 0) ∷ []) ≡ true ∷ true ∷ true ∷ true ∷ []
unfolding first_block bytes_of words_of wrong_length
seventeen_before = refl

-- the workers that are read
workers_read : map unversioned ((1024 ∷ []) ∷ (1032 ∷ []) ∷ (1279 ∷ []) ∷ []) ≡ (0 ∷ []) ∷ (8 ∷ []) ∷ (255 ∷ []) ∷ []
workers_read = refl
