-- How many words and bytes an image is made of, beside the widths of deques and frame records (crate frames) and of the numbers (crate
-- soundness). Definitions only.
use Rattle.std.specs.Prelude.{ℕ, ◌+◌, ◌*◌}
use Rattle.frames.specs.Widths.{max_workers, record_words}
use Rattle.soundness.specs.Numbers.{number_count}
use Rattle.soundness.specs.Layout.{Layout, two_words}

-- R-8: "A node becomes two words"
abbrev pub node_words : ℕ
node_words = two_words.words

-- document 02: "blocks of 512 bytes: 508 of data, then a 32-bit check"
abbrev pub block_bytes : ℕ
block_bytes = 512

abbrev pub data_bytes : ℕ
data_bytes = 508

-- the words of a block's data
abbrev pub data_words : ℕ
data_words = 127

-- the words of the deques in an image: for each worker its length and k places
abbrev pub deques_words : ℕ → ℕ
deques_words k = max_workers * (1 + k)

-- R-6: "images hold that many records and deque places, with the length as a word before the deques": the words of a state whose table has k places
abbrev pub state_words : ℕ → ℕ
state_words k = number_count + deques_words k + record_words * k

-- the words of an image of k places and so many nodes
abbrev pub words_for : Layout → ℕ → ℕ → ℕ
words_for L k nodes = state_words k + L.words * nodes

-- R-3: "The first word of an image has 256 added"
abbrev pub version_step : ℕ
version_step = 256

-- "Each later change of the image adds 256 again": what is added for the images of a layout
abbrev pub version : Layout → ℕ
version L = L.version * version_step
