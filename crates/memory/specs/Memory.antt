-- R-10: what the workers remember, in a list of words: for each of 8 workers a row of entries, one for each of 256 splitters; then a base for each worker. Definitions only.
use Rattle.std.specs.Prelude.{cond, List, ℕ, zero, suc, ◌+◌, ◌-◌, ◌*◌, get_or, set, replicate, leb}
use Rattle.words.specs.Basics.{plus}
use Rattle.frames.specs.Widths.{max_workers}

-- ---- widths

-- document 01: "n splitters (1 to 256)"
abbrev pub max_splitters : ℕ
max_splitters = 256

-- a row of entries and a base for each worker
abbrev pub memory_words : ℕ
memory_words = max_workers * max_splitters + max_workers

-- where worker w's row begins, and where its base stands
abbrev pub row_at : ℕ → ℕ
row_at w = max_splitters * w

abbrev pub base_at : ℕ → ℕ
base_at w = max_workers * max_splitters + w

-- document 01: "Up to 16,384 nodes"
abbrev pub max_nodes : ℕ
max_nodes = 16384

-- the greatest base: with a leaf's number plus one it is still a word
abbrev pub last_base : ℕ
last_base = 4294950911

-- ---- what is remembered

unfoldable pub base : List ℕ → ℕ → ℕ
base ms w = get_or ms (base_at w) 0

unfoldable pub entry : List ℕ → ℕ → ℕ → ℕ
entry ms w x = get_or ms (row_at w + x) 0

-- of splitter x, by worker w: 0 for none, else the leaf's number plus one; an entry that is not above the base remembers none
abbrev pub remembered : List ℕ → ℕ → ℕ → ℕ
remembered ms w x = entry ms w x - base ms w

-- no worker remembers anything
abbrev pub no_memory : List ℕ
no_memory = replicate memory_words 0

-- "Each worker remembers the leaf of each splitter it has read or written"
unfoldable pub remember : List ℕ → ℕ → ℕ → ℕ → List ℕ
remember ms w x leaf = set ms (row_at w + x) (plus (base ms w) (plus leaf 1))

-- c words from i on are zero
unfoldable pub zeroed_from : ℕ → List ℕ → ℕ → List ℕ
zeroed_from zero ms i = ms
zeroed_from (suc c) ms i = zeroed_from c (set ms i 0) (suc i)

-- "empties that memory", of worker w: its base goes past its entries, in one store; after the last base it begins again, with zeros in its row
unfoldable pub emptied : List ℕ → ℕ → List ℕ
emptied ms w = cond (leb (base ms w + max_nodes) last_base) (set ms (base_at w) (base ms w + max_nodes)) (zeroed_from max_splitters (set ms (base_at w) 0) (row_at w))
