-- A memory computed: remembering, renewing and emptying, and the last base.
use Rattle.std.specs.Prelude.{◌≡◌, refl, List, [], ◌∷◌, ℕ, ◌+◌, set, take}
use Rattle.memory.specs.Memory.{memory_words, base_at, max_nodes, last_base, base, entry, remembered, no_memory, remember, zeroed_from, emptied}

-- the words of a memory
words_are : memory_words ≡ 2056
words_are = refl

-- a base and the greatest leaf's number plus one make a word
last-base : last_base + max_nodes ≡ 4294967295
last-base = refl

-- leaf 7 of splitter 1, then a write makes it leaf 9
remembers : List ℕ
remembers = remember no_memory 0 1 7

renews : List ℕ
renews = remember remembers 0 1 9

one_more : take 3 remembers ≡ 0 ∷ 8 ∷ 0 ∷ []
unfolding remembers remember base
one_more = refl

renewed : take 3 renews ≡ 0 ∷ 10 ∷ 0 ∷ []
unfolding renews remembers remember base
renewed = refl

its_leaf : remembered renews 0 1 ≡ 10
unfolding renews remembers remember base entry
its_leaf = refl

-- "empties that memory": no entry is above the base, and a leaf remembered afterwards is
empties : List ℕ
empties = emptied renews 0

above-all : (take 3 empties ≡ 0 ∷ 10 ∷ 0 ∷ []) × (base empties 0 ≡ 16384) × (base empties 1 ≡ 0)
unfolding empties emptied renews remembers remember base
above-all = (refl, refl, refl)

forgotten : remembered empties 0 1 ≡ 0
unfolding empties emptied renews remembers remember base entry
forgotten = refl

again : take 3 (remember empties 0 2 3) ≡ 0 ∷ 10 ∷ 16388 ∷ []
unfolding empties emptied renews remembers remember base
again = refl

its_leaf_again : remembered (remember empties 0 2 3) 0 2 ≡ 4
unfolding empties emptied renews remembers remember base entry
its_leaf_again = refl

-- worker 0 with this base; after the last base its row begins again with zeros, and worker 1's stays
with_base : ℕ → List ℕ
with_base b = remember (remember (set no_memory (base_at 0) b) 0 1 2) 1 0 5

at_last : (entry (emptied (with_base 4294934527) 0) 0 1 ≡ 4294934530) × (base (emptied (with_base 4294934527) 0) 0 ≡ last_base)
unfolding with_base emptied remember base entry
at_last = (refl, refl)

begins_again : (entry (emptied (with_base last_base) 0) 0 1 ≡ 0) × (base (emptied (with_base last_base) 0) 0 ≡ 0) × (remembered (emptied (with_base last_base) 0) 1 0 ≡ 6)
unfolding with_base emptied remember base entry zeroed_from
begins_again = (refl, refl, refl)
