-- What the contracts of inner functions are said in. No promise of an exported function cites it. Definitions only.
use Rattle.std.specs.Prelude.{cond, List, [], ◌∷◌, ◌++◌, ℕ, zero, suc, ◌+◌, ◌-◌, ◌*◌, ◌/◌, ◌%◌, take, drop, replicate, eqb}
use Rattle.std.proofs.lemmas.List.Edits.{sets}
use Rattle.image.specs.Widths.{block_bytes, data_bytes, data_words, words_for}
use Rattle.image.specs.Image.{word_bytes, word_at, check, image_blocks}
use Rattle.soundness.specs.Layout.{Layout}

-- where the word i of the data stands: the checks of the blocks before lie between
abbrev pub place_of : ℕ → ℕ
place_of i = block_bytes * (i / data_words) + 4 * (i % data_words)

-- the check of the data that the word i's block has before this word
unfoldable pub sum_before : List ℕ → ℕ → ℕ
sum_before t i = check (take (4 * (i % data_words)) (drop (block_bytes * (i / data_words)) t))

-- the check stored in the block at a place
unfoldable pub with_check : List ℕ → ℕ → List ℕ
with_check t at = sets t (at + data_bytes) (word_bytes (check (take data_bytes (drop at t))))

-- once the word i is stored: after the last word of a block comes its check
unfoldable pub after_word : List ℕ → ℕ → List ℕ
after_word t i = cond (eqb (i % data_words) (data_words - 1)) (with_check t (block_bytes * (i / data_words))) t

-- words stored as the data's words from i on, with the checks of the blocks that they fill
unfoldable pub put_words : List ℕ → ℕ → List ℕ → List ℕ
put_words t i [] = t
put_words t i (w ∷ ws) = put_words (after_word (sets t (place_of i) (word_bytes w)) i) (suc i) ws

-- the words of an image of k places after its table: the nodes, and zeros up to the end of the last block
abbrev pub last_words : Layout → ℕ → ℕ → List ℕ → List ℕ
last_words L k nodes ws = take (L.words * nodes) ws ++ replicate (data_words * image_blocks L k nodes - words_for L k nodes) 0

-- n words side by side from a place on
unfoldable pub words_at : ℕ → List ℕ → ℕ → List ℕ
words_at zero bs at = []
words_at (suc n) bs at = word_at bs at ∷ words_at n bs (at + 4)

-- n words of the data, from its word i on
unfoldable pub read_words : ℕ → List ℕ → ℕ → List ℕ
read_words zero image i = []
read_words (suc n) image i = word_at image (place_of i) ∷ read_words n image (suc i)
