-- Document 02's R-1, as R-3, R-5 and R-6 change it: a state and a pool as blocks of bytes, what an image is refused for, and what an accepted one says.
-- Definitions only.
-- A state is lent in three parts: the words ns of its numbers and ds of its deques, and fs, its frame table. ws are the pool's words.
use Rattle.std.specs.Prelude.{◌≡◌, Bool, true, cond, not, ◌||◌, ◌&&◌, List, [], ◌∷◌, ◌++◌, ℕ, zero, suc, ◌+◌, ◌-◌, ◌*◌, ◌/◌, ◌%◌, ◌^◌, ◌<◌, ◌≤◌, length, get_or, take, drop, set, replicate, eqb, ltb, Result, Ok, Err, ⊤}
use Rattle.words.specs.Basics.{plus, sum}
use Rattle.model.specs.Record.{little}
use Rattle.frames.specs.declared.Frame.{Frame}
use Rattle.frames.specs.Widths.{max_workers, max_places, record_words, deque_places, deque_stride, deque_words}
use Rattle.frames.specs.Frames.{words_of as wordsOfRecord, record_in}
use Rattle.frames.specs.Deques.{place}
use Rattle.soundness.specs.Numbers.{number_count, numbers_in}
use Rattle.image.specs.declared.ImageError.{ImageError}
use Rattle.image.specs.declared.ImageError.TheVariants.{WrongLength, WrongCheck}
use Rattle.image.specs.Widths.{block_bytes, data_bytes, data_words, deques_words, state_words, words_for, version, version_step}
use Rattle.soundness.specs.Layout.{Layout}

-- ---- the words of an image

-- the nodes that the numbers record
abbrev pub node_count : List ℕ → ℕ
node_count ns = (numbers_in ns).nodes

-- R-6: "Its length": the places of the frame table that they record
abbrev pub place_count : List ℕ → ℕ
place_count ns = (numbers_in ns).places

-- R-3: "The first word of an image has 256 added .. Each later change of the image adds 256 again"
abbrev pub versioned : Layout → List ℕ → List ℕ
versioned L ns = set ns 0 (plus (get_or ns 0 0) (version L))

-- n workers' deques, each with its length and the first k of its lent places
unfoldable pub deques_of : ℕ → ℕ → List ℕ → List ℕ
deques_of zero k ds = []
deques_of (suc n) k ds = take (1 + k) ds ++ deques_of n k (drop deque_stride ds)

-- "for each of 8 workers its deque length and .. places for its frames from the top", by R-6 k of them
abbrev pub deques_for : ℕ → List ℕ → List ℕ
deques_for k ds = deques_of max_workers k ds

-- "frame records of ..": the words of one after those of the other
unfoldable pub table_words : List Frame → List ℕ
table_words [] = []
table_words (f ∷ fs) = wordsOfRecord f ++ table_words fs

-- "workers, splitters, nodes, first free node, first free frame place", by R-5 "the four totals, in that order, after the first free frame
-- place", by R-6 "the length as a word before the deques"; "for each of 8 workers its deque length and .. places ..; .. frame records ..; then the
-- pool's nodes", and "that many records and deque places"
abbrev pub image_words : Layout → List ℕ → List ℕ → List Frame → List ℕ → List ℕ
image_words L ns ds fs ws = versioned L ns ++ deques_for (place_count ns) ds ++ table_words fs ++ take (L.words * node_count ns) ws

-- ---- bytes

-- a word's bytes, the lowest first
abbrev pub word_bytes : ℕ → List ℕ
word_bytes w = w % 256 ∷ w / 256 % 256 ∷ w / 65536 % 256 ∷ w / 16777216 % 256 ∷ []

-- "The data is little-endian words"
unfoldable pub bytes_of : List ℕ → List ℕ
bytes_of [] = []
bytes_of (w ∷ ws) = word_bytes w ++ bytes_of ws

-- the words that these are the bytes of
unfoldable pub words_of : List ℕ → List ℕ
words_of [] = []
words_of (a ∷ []) = []
words_of (a ∷ b ∷ []) = []
words_of (a ∷ b ∷ c ∷ []) = []
words_of (a ∷ b ∷ c ∷ d ∷ bs) = little (a ∷ b ∷ c ∷ d ∷ []) ∷ words_of bs

-- the word of the four bytes from a place on
unfoldable pub word_at : List ℕ → ℕ → ℕ
word_at bs at = little (get_or bs at 0 ∷ get_or bs (at + 1) 0 ∷ get_or bs (at + 2) 0 ∷ get_or bs (at + 3) 0 ∷ [])

-- ---- blocks

-- "the sum modulo 4,294,967,296 of each data byte times 256 raised to its offset modulo 4"
unfoldable pub check : List ℕ → ℕ
check bytes = sum (length bytes) (λ i. get_or bytes i 0 * 256 ^ (i % 4)) % 4294967296

-- "508 of data, then a 32-bit check"
abbrev pub block : List ℕ → List ℕ
block bytes = bytes ++ word_bytes (check bytes)

-- data cut into n blocks
unfoldable pub blocks_of : ℕ → List ℕ → List ℕ
blocks_of zero bytes = []
blocks_of (suc n) bytes = block (take data_bytes bytes) ++ blocks_of n (drop data_bytes bytes)

-- the blocks that so many words need, the last one perhaps in part
abbrev pub blocks_for : ℕ → ℕ
blocks_for words = (words + (data_words - 1)) / data_words

-- "the rest of the last block [is] zero": the words of n blocks
abbrev pub filled : ℕ → List ℕ → List ℕ
filled n words = words ++ replicate (data_words * n - length words) 0

-- words as blocks
unfoldable pub as_blocks : List ℕ → List ℕ
as_blocks words = let n = blocks_for (length words) in blocks_of n (bytes_of (filled n words))

-- "Write a whole run as blocks"
abbrev pub image_of : Layout → List ℕ → List ℕ → List Frame → List ℕ → List ℕ
image_of L ns ds fs ws = as_blocks (image_words L ns ds fs ws)

-- the blocks and the bytes of an image of k places and so many nodes
abbrev pub image_blocks : Layout → ℕ → ℕ → ℕ
image_blocks L k nodes = blocks_for (words_for L k nodes)

abbrev pub image_bytes : Layout → ℕ → ℕ → ℕ
image_bytes L k nodes = block_bytes * image_blocks L k nodes

-- ---- what an image is refused for

-- the first word of its first block
abbrev pub first_in : List ℕ → ℕ
first_in image = get_or (words_of (take data_bytes image)) 0 0

-- the nodes and the places that its first block records
abbrev pub nodes_in : List ℕ → ℕ
nodes_in image = node_count (words_of (take data_bytes image))

abbrev pub places_in : List ℕ → ℕ
places_in image = place_count (words_of (take data_bytes image))

-- R-3: "Each later change of the image adds 256 again and reads only its own form. A first word of no readable form gives 17."
abbrev pub no_form : Layout → List ℕ → Bool
no_form L image = ltb (first_in image) (version L) || not (ltb (first_in image) (version L + version_step))

-- the words and the blocks that "its first block calls for"
abbrev pub words_called : Layout → List ℕ → ℕ
words_called L image = words_for L (places_in image) (nodes_in image)

abbrev pub blocks_called : Layout → List ℕ → ℕ
blocks_called L image = blocks_for (words_called L image)

-- "17, the image is not just as many whole blocks as its first block calls for, or has no whole block", or has no readable form
unfoldable pub wrong_length : Layout → List ℕ → Bool
wrong_length L image = ltb (length image) block_bytes || no_form L image || not (eqb (length image) (block_bytes * blocks_called L image))

-- the data of the first n blocks
unfoldable pub data_of : ℕ → List ℕ → List ℕ
data_of zero image = []
data_of (suc n) image = take data_bytes image ++ data_of n (drop block_bytes image)

-- the checks of the first n blocks are right
unfoldable pub checks_hold : ℕ → List ℕ → Bool
checks_hold zero image = true
checks_hold (suc n) image = eqb (word_at image data_bytes) (check (take data_bytes image)) && checks_hold n (drop block_bytes image)

unfoldable pub all_zero : List ℕ → Bool
all_zero [] = true
all_zero (b ∷ bs) = eqb b 0 && all_zero bs

-- "the rest of the last block": the data past the words that are called for
abbrev pub rest_of : Layout → List ℕ → List ℕ
rest_of L image = drop (4 * words_called L image) (data_of (blocks_called L image) image)

-- "18, a check is wrong or the rest of the last block is not zero"
unfoldable pub wrong_check : Layout → List ℕ → Bool
wrong_check L image = not (checks_hold (blocks_called L image) image) || not (all_zero (rest_of L image))

-- nothing, or what the bytes are refused for
abbrev pub ImageCheck : Type 0
ImageCheck = Result ⊤ ImageError

-- "reading checks 17, 18"
unfoldable pub image_check : Layout → List ℕ → ImageCheck
image_check L image = cond (wrong_length L image) (Err WrongLength) (cond (wrong_check L image) (Err WrongCheck) (Ok tt))

-- ---- what an accepted image says

-- the words of its data
abbrev pub words_in : Layout → List ℕ → List ℕ
words_in L image = words_of (data_of (blocks_called L image) image)

-- the numbers without the version
abbrev pub unversioned : List ℕ → List ℕ
unversioned ns = set ns 0 (get_or ns 0 0 % version_step)

-- n workers' deques as they are lent, from words with k places for each: past these its places are zero
unfoldable pub lent_deques : ℕ → ℕ → List ℕ → List ℕ
lent_deques zero k ks = []
lent_deques (suc n) k ks = take (1 + k) ks ++ replicate (deque_places - k) 0 ++ lent_deques n k (drop (1 + k) ks)

-- n frame records
unfoldable pub records_in : ℕ → List ℕ → List Frame
records_in zero ks = []
records_in (suc n) ks = record_in (take record_words ks) ∷ records_in n (drop record_words ks)

-- the words of the numbers, the deques, the frame table and the words of the nodes
abbrev pub number_words_in : Layout → List ℕ → List ℕ
number_words_in L image = unversioned (take number_count (words_in L image))

abbrev pub deques_in : Layout → List ℕ → List ℕ
deques_in L image = lent_deques max_workers (places_in image) (drop number_count (words_in L image))

abbrev pub frames_in : Layout → List ℕ → List Frame
frames_in L image = records_in (places_in image) (drop (number_count + deques_words (places_in image)) (words_in L image))

abbrev pub pool_in : Layout → List ℕ → List ℕ
pool_in L image = take (L.words * nodes_in image) (drop (state_words (places_in image)) (words_in L image))

-- ---- lent slices

-- each part of a state has its length; the table has as many places as the numbers record, and not more than there can be
pub record Lengths (ns ds : List ℕ) (fs : List Frame) : Type 0 where
  pub numbers : length ns ≡ number_count
  pub deques : length ds ≡ deque_words
  pub frames : length fs ≡ place_count ns
  pub most : length fs ≤ max_places

-- the places of each deque past its first k are zero: so it is in a sound state of k frame places, since "deque places past a deque's frames are zero"
abbrev pub ZeroPast : ℕ → List ℕ → Type 0
ZeroPast k ds = (w j : ℕ) → w < max_workers → k ≤ j → j < deque_places → place ds w j ≡ 0

-- stored in the front of a slice: "Target bytes past the image never change."
abbrev pub stored : List ℕ → List ℕ → List ℕ
stored new old = new ++ drop (length new) old

-- ns, ds, fs and ws' are the parts and the pool after a reading into the pool ws
pub record IsRead (L : Layout) (image ns ds : List ℕ) (fs : List Frame) (ws ws' : List ℕ) : Type 0 where
  pub numbers : ns ≡ number_words_in L image
  pub deques : ds ≡ deques_in L image
  pub frames : fs ≡ frames_in L image
  pub pool : ws' ≡ stored (pool_in L image) ws
