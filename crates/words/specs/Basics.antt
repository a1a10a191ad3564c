-- Numbers and lists that the definitions of every crate are made of. Definitions only.
use Rattle.std.specs.Prelude.{◌≡◌, ℕ, zero, suc, ◌+◌, ◌-◌, ◌*◌, ◌%◌, ◌^◌, ◌<◌, Bool, true, false, cond, not, ◌&&◌, ◌||◌, List, [], ◌∷◌, ◌++◌, ◌==◌, nat_lt}

-- document 01: "None is 4,294,967,295"
abbrev pub none : ℕ
none = 4294967295

-- a + b in a word
abbrev pub plus : ℕ → ℕ → ℕ
plus a b = (a + b) % 2 ^ 32

-- a - b in a word
abbrev pub minus : ℕ → ℕ → ℕ
minus a b = (a + (2 ^ 32 - b)) % 2 ^ 32

-- a * b in a word
abbrev pub times : ℕ → ℕ → ℕ
times a b = (a * b) % 2 ^ 32

-- f 0 + .. + f (k - 1)
abbrev pub sum : ℕ → (ℕ → ℕ) → ℕ
sum zero f = zero
sum (suc k) f = sum k f + f k

abbrev pub joined {ℓ} : {A : Type ℓ} → List (List A) → List A
joined [] = []
joined (l ∷ ls) = l ++ joined ls

abbrev pub same : List ℕ → List ℕ → Bool
same [] [] = true
same [] (y ∷ ys) = false
same (x ∷ xs) [] = false
same (x ∷ xs) (y ∷ ys) = x == y && same xs ys

abbrev pub among : List ℕ → List (List ℕ) → Bool
among x [] = false
among x (y ∷ ys) = same x y || among x ys

-- how many different ones
abbrev pub distinct : List (List ℕ) → ℕ
distinct [] = zero
distinct (x ∷ xs) = let r = distinct xs in let r' = suc r in cond (among x xs) r r'

-- the list that starts at a and goes on by next until none, all of it below N
abbrev pub Chain : (ℕ → ℕ) → ℕ → ℕ → List ℕ → Type 0
Chain next N a [] = a ≡ none
Chain next N a (x ∷ xs) = (a ≡ x) × (x < N) × Chain next N (next x) xs

-- f holds of every number below n
abbrev pub all : ℕ → (ℕ → Bool) → Bool
all zero f = true
all (suc n) f = all n f && f n

-- f holds of some number below n
abbrev pub some : ℕ → (ℕ → Bool) → Bool
some zero f = false
some (suc n) f = some n f || f n

-- of how many numbers below n it holds
abbrev pub how_many : ℕ → (ℕ → Bool) → ℕ
how_many n f = sum n (λ i. cond (f i) 1 0)

-- b, where a
abbrev pub implies : Bool → Bool → Bool
implies a b = not a || b

-- 1 where the two are equal, else 0
unfoldable pub δ : ℕ → ℕ → ℕ
δ i j = cond (i == j) 1 0

-- how often i stands in a list
unfoldable pub count : ℕ → List ℕ → ℕ
count i [] = 0
count i (x ∷ xs) = δ i x + count i xs

-- the chain from a on by next until none, c elements at most
abbrev pub follow : ℕ → (ℕ → ℕ) → ℕ → List ℕ
follow zero next a = []
follow (suc c) next a = elim (a == none) [ true ↦ [] | false ↦ a ∷ follow c next (next a) ]

-- every element is below N
abbrev pub below : ℕ → List ℕ → Bool
below N [] = true
below N (x ∷ xs) = nat_lt x N && below N xs

-- the numbers a, a + 1, .., a + c - 1
unfoldable pub range : ℕ → ℕ → List ℕ
range zero a = []
range (suc c) a = a ∷ range c (suc a)
