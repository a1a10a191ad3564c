-- Bytes stored in a lent buffer, one after another, as far as they fit. Definitions only.
use Rattle.std.specs.Prelude.{◌≡◌, cond, List, [], ◌∷◌, ℕ, suc, ◌≤◌, length, take, set, ltb}
use Rattle.lines.specs.declared.text.Output.{Output}
use Rattle.lines.specs.Lines.{lines_of}

-- a buffer and the place of its next byte
abbrev pub Buffer : Type 0
Buffer = List ℕ × ℕ

-- one byte; past the end nothing is stored, and the place stays
unfoldable pub store_byte : Buffer → ℕ → Buffer
store_byte o b = (set o.0 o.1 b, cond (ltb o.1 (length o.0)) (suc o.1) o.1)

unfoldable pub store_all : Buffer → List ℕ → Buffer
store_all o [] = o
store_all o (b ∷ bs) = store_all (store_byte o b) bs

-- storing bs from the place `at` on turns the buffer `old` into `new`, with the next place r
abbrev pub Stores : List ℕ → ℕ → List ℕ → List ℕ → ℕ → Type 0
Stores old at bs new r = ◌≡◌ {A = Buffer} (new, r) (store_all (old, at) bs)

-- the same, of at most so many bytes
abbrev pub StoresUpTo : ℕ → List ℕ → ℕ → List ℕ → List ℕ → ℕ → Type 0
StoresUpTo most old at bs new r = Stores old at bs new r × (length bs ≤ most)

-- an output becomes p by storing bs from its place on, in the same lent bytes
pub record Writes (o : Output) (bs : List ℕ) (p : Output) : Type 0 where
  pub same : p.bytes.ghost_name ≡ o.bytes.ghost_name
  pub stored : Stores o.bytes.now o.at bs p.bytes.now p.at

-- the same, of at most so many bytes
abbrev pub WritesUpTo : ℕ → Output → List ℕ → Output → Type 0
WritesUpTo most o bs p = Writes o bs p × (length bs ≤ most)

-- what is promised of the whole: the buffer `old` becomes `new`, with the next place r
pub record IsOutput (input old new : List ℕ) (r : ℕ) : Type 0 where
  -- the lines are stored from place 0 on, as far as they fit
  pub stored : Stores old 0 (lines_of input) new r
  -- 49,152 bytes are enough: then the first r are the lines
  pub whole : 49152 ≤ length old → take r new ≡ lines_of input
  -- r bytes are there (both parts are what lending them asks)
  pub within : r ≤ length new
  pub counted : r ≡ length (take r new)
