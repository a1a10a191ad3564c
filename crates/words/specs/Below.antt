-- Lists whose elements are all below a bound: words are below 2^32, bytes below 256.
use Rattle.std.specs.Prelude.{ℕ, zero, suc, ◌+◌, ◌-◌, ◌<◌, Bool, true, false, cond, List, [], ◌∷◌, ◌++◌, take, drop, replicate, slice_index, slice_set}
use Rattle.std.proofs.Common.{arith, get_or-drop}
use Rattle.words.specs.Basics.{plus}

-- past the end there is a zero, so N is not 0
abbrev pub Below : ℕ → List ℕ → Type 0
Below N xs = (i : ℕ) → slice_index xs i < N

abbrev pub Words : List ℕ → Type 0
Words ws = Below 4294967296 ws

abbrev pub Bytes : List ℕ → Type 0
Bytes bs = Below 256 bs

-- ---- lists

pub below_set : (N : ℕ) (xs : List ℕ) (k v : ℕ) → Below N xs → v < N → Below N (slice_set xs k v)
below_set N [] k v h p i = h i
below_set N (x ∷ xs) zero v h p zero = p
below_set N (x ∷ xs) zero v h p (suc i) = h (suc i)
below_set N (x ∷ xs) (suc k) v h p zero = h 0
below_set N (x ∷ xs) (suc k) v h p (suc i) = below_set N xs k v (λ j. h (suc j)) p i

pub below-drop : (N n : ℕ) (xs : List ℕ) → Below N xs → Below N (drop n xs)
below-drop N n xs h i = rw (get_or-drop n xs i 0) (h (n + i))

pub below-take : (N n : ℕ) (xs : List ℕ) → 0 < N → Below N xs → Below N (take n xs)
below-take N zero xs p h i = p
below-take N (suc n) [] p h i = p
below-take N (suc n) (x ∷ xs) p h zero = h 0
below-take N (suc n) (x ∷ xs) p h (suc i) = below-take N n xs p (λ j. h (suc j)) i

pub below-append : (N : ℕ) (xs ys : List ℕ) → Below N xs → Below N ys → Below N (xs ++ ys)
below-append N [] ys h k i = k i
below-append N (x ∷ xs) ys h k zero = h 0
below-append N (x ∷ xs) ys h k (suc i) = below-append N xs ys (λ j. h (suc j)) k i

pub below-replicate : (N n : ℕ) → 0 < N → Below N (replicate n 0)
below-replicate N zero p i = p
below-replicate N (suc n) p zero = p
below-replicate N (suc n) p (suc i) = below-replicate N n p i

-- ---- words

pub words-set : (ws : List ℕ) (k v : ℕ) → Words ws → v < 4294967296 → Words (slice_set ws k v)
words-set ws k v h p = below_set 4294967296 ws k v h p

pub words-zeros : (n : ℕ) → Words (replicate n 0)
words-zeros n = below-replicate 4294967296 n (omega arith)

-- every sum is a word
pub plus_word : (a b : ℕ) → plus a b < 4294967296
plus_word a b = omega arith

-- one less, or zero
pub minus_word : (a b : ℕ) → a < 4294967296 → a - b < 4294967296
minus_word a b h = omega arith

pub cond_word : (b : Bool) (x y : ℕ) → x < 4294967296 → y < 4294967296 → cond b x y < 4294967296
cond_word true x y h k = h
cond_word false x y h k = k
