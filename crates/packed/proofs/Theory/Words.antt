-- Every change keeps a pool of words one: sums and products wrap, and all else that is stored is a copy of a word, a constant or a smaller number.
use Rattle.std.specs.Prelude.{cond, List, ℕ, zero, suc, ◌+◌, ◌-◌, ◌*◌, ◌/◌, ◌%◌, ◌<◌, get_or, set, eqb, ltb}
use Rattle.std.proofs.Math.Logic.{inl, inr}
use Rattle.std.proofs.Common.{arith}
use Rattle.words.specs.Basics.{none, plus, times}
use Rattle.words.specs.Tests.{decided}
use Rattle.words.specs.Below.{Words, words-set, plus_word, minus_word, cond_word}
use Rattle.sizes.specs.Sizes.{bit, height, width}
use Rattle.pool.specs.Pool.{side}
use Rattle.packed.specs.Pool.{refcount, content, half, link_in, links, left, right, next_free, set_node, set_refcount, set_content, set_value, set_link, child, sibling, retain, freed, release, path_node, copy_path, renew, write_from, write, init_level, init_inner, init_leaves, init_free, init_pool}
use Rattle.pool.specs.Theory.Words.{PoolWords, WrittenWords}

-- ---- a node

links_word : (l r : ℕ) → links l r < 4294967296
unfolding links
links_word l r = plus_word (half l) (times 65536 (half r))

-- half a word, read as a link
link_word : (h : ℕ) → h < 65536 → link_in h < 4294967296
link_word h b = cond_word (eqb h 65535) none h (omega arith) (omega arith)

module _ (ws : List ℕ) (i : ℕ) where
  left_word : left ws i < 4294967296
  unfolding left
  left_word = link_word (content ws i % 65536) (omega arith)

  right_word : right ws i < 4294967296
  unfolding right
  right_word = link_word (content ws i / 65536 % 65536) (omega arith)

module _ (ws : List ℕ) (i : ℕ) (h : Words ws) where
  refcount_word : refcount ws i < 4294967296
  unfolding refcount
  refcount_word = h (2 * i)

  content_word : content ws i < 4294967296
  unfolding content
  content_word = h (2 * i + 1)

  pub words-set_node : (c w : ℕ) → c < 4294967296 → w < 4294967296 → Words (set_node ws i c w)
  unfolding set_node
  words-set_node c w p q = words-set (set ws (2 * i) c) (2 * i + 1) w (words-set ws (2 * i) c h p) q

  words-set_refcount : (c : ℕ) → c < 4294967296 → Words (set_refcount ws i c)
  unfolding set_refcount
  words-set_refcount c p = words-set ws (2 * i) c h p

  words-set_content : (w : ℕ) → w < 4294967296 → Words (set_content ws i w)
  unfolding set_content
  words-set_content w p = words-set ws (2 * i + 1) w h p

  pub words-retain : Words (retain ws i)
  unfolding retain
  words-retain = elim (decided (eqb i none)) [ inl e ↦ rw e h | inr e ↦ rw e (words-set_refcount (plus (refcount ws i) 1) (plus_word _ 1)) ]

  words-freed : (free : ℕ) → free < 4294967296 → Words (freed ws free i)
  words-freed free p = words-set_node 0 free (omega arith) p

  words_lowered : Words (set_refcount ws i (refcount ws i - 1))
  words_lowered = words-set_refcount (refcount ws i - 1) (minus_word _ 1 refcount_word)

-- ---- the words and the first free node, after a change

pub words-release : (N l : ℕ) (ws : List ℕ) (free k i : ℕ) → Words ws → free < 4294967296 → i < 4294967296 → PoolWords (release N l ws free k i)
unfolding release
words-release N zero ws free k i h p q =
    elim (decided (ltb i N)) [
      | inl e ↦
          elim (decided (eqb (refcount ws i - 1) 0)) [
            | inl d ↦ rw (e, d, release) (record { words = words-freed ws i h free p; free = q })
            | inr d ↦ rw (e, d, release) (record { words = words_lowered ws i h; free = p })
          ]
      | inr e ↦ rw (e, release) (record { words = h; free = p })
    ]
words-release N (suc l) ws free k i h p q =
    let o = words-release N l (freed ws free i) i (plus k 1) (left ws i) (words-freed ws i h free p) q (left_word ws i) in
    elim (decided (ltb i N)) [
      | inl e ↦
          elim (decided (eqb (refcount ws i - 1) 0)) [
            | inl d ↦ rw (e, d, release) (words-release N l _ _ _ (right ws i) o.words o.free (right_word ws i))
            | inr d ↦ rw (e, d, release) (record { words = words_lowered ws i h; free = p })
          ]
      | inr e ↦ rw (e, release) (record { words = h; free = p })
    ]

-- ---- a write

words-path_node : (ws : List ℕ) (i b next kept : ℕ) → Words ws → Words (path_node ws i b next kept)
unfolding path_node
words-path_node ws i b next kept h = words-retain _ kept (words-set_node ws i h 1 (links (side b next kept) (side b kept next)) (omega arith) (links_word _ _))

pub words-copy_path : (l : ℕ) (ws : List ℕ) (i old x v : ℕ) → Words ws → v < 4294967296 → (Words (copy_path l ws i old x v).0) × ((copy_path l ws i old x v).1 < 4294967296)
unfolding copy_path
words-copy_path zero ws i old x v h p = (words-set_node ws i h 1 v (omega arith) p, content_word ws i h)
words-copy_path (suc l) ws i old x v h p =
    words-copy_path l _ (next_free ws i) (child ws old (bit l x)) x v (words-path_node ws i (bit l x) (next_free ws i) (sibling ws old (bit l x)) h) p

words-renew : (l : ℕ) (ws : List ℕ) (free old x v : ℕ) → Words ws → v < 4294967296 → (Words (renew l ws free old x v).0) × ((renew l ws free old x v).1 < 4294967296)
unfolding renew
words-renew l ws free old x v h p = (let o = words-copy_path l ws free old x v h p in (words_lowered _ old o.0, o.1))

words-set_link : (ws : List ℕ) (i b c : ℕ) → Words ws → Words (set_link ws i b c)
unfolding set_link
words-set_link ws i b c h = words-set_content ws i h (links (side b c (left ws i)) (side b (right ws i) c)) (links_word _ _)

-- the frame's root too

words_from_lem : (r i above h : ℕ) (ws : List ℕ) (free k root x v : ℕ) → Words ws → free < 4294967296 → root < 4294967296 → v < 4294967296 → WrittenWords (write_from r i above h ws free k root x v)
unfolding write_from set_value
words_from_lem zero i above h ws free k root x v w f r q = record { words = words-set_content ws i w v q; free = f; root = r }
words_from_lem (suc m) i above h ws free k root x v w f r q =
    let o = words-renew m ws free i x v w q in
    elim (decided (eqb m h)) [
      | inl e ↦ rw (e, write_from) (record { words = o.0; free = o.1; root = f })
      | inr e ↦ rw (e, write_from) (record { words = words-set_link (renew m ws free i x v).0 above (bit m x) free o.0; free = o.1; root = r })
    ]

pub words-write : (l : ℕ) (ws : List ℕ) (free k root x v : ℕ) → Words ws → free < 4294967296 → root < 4294967296 → v < 4294967296 → WrittenWords (write l ws free k root x v)
unfolding write
words-write l ws free k root x v w f r q = words_from_lem _ _ _ l ws free k root x v w f r q

-- ---- the start

words-init_level : (c : ℕ) (ws : List ℕ) (i below k : ℕ) → Words ws → Words (init_level c ws i below k)
unfolding init_level
words-init_level zero ws i below k h = h
words-init_level (suc c) ws i below k h =
    words-init_level c _ (plus i 1) (plus below 2) (k - 2) (words-set_node ws i h 1 (links below (cond (ltb 1 k) (plus below 1) none)) (omega arith) (links_word _ _))

words-init_inner : (l : ℕ) (ws : List ℕ) (n i : ℕ) → Words ws → Words (init_inner l ws n i).0
unfolding init_inner
words-init_inner zero ws n i h = h
words-init_inner (suc l) ws n i h = words-init_inner l _ n (plus i (width n (suc l))) (words-init_level (width n (suc l)) ws i (plus i (width n (suc l))) (width n l) h)

words-init_leaves : (c : ℕ) (ws : List ℕ) (i : ℕ) (vs : List ℕ) (j : ℕ) → Words ws → Words vs → Words (init_leaves c ws i vs j)
unfolding init_leaves
words-init_leaves zero ws i vs j h p = h
words-init_leaves (suc c) ws i vs j h p = words-init_leaves c _ (plus i 1) vs (plus j 1) (words-set_node ws i h 1 (get_or vs j 0) (omega arith) (p j)) p

words-init_free : (c : ℕ) (ws : List ℕ) (i : ℕ) → Words ws → Words (init_free c ws i)
unfolding init_free
words-init_free zero ws i h = h
words-init_free (suc c) ws i h =
    words-init_free c _ (plus i 1) (words-set_node ws i h 0 (cond (eqb c 0) none (plus i 1)) (omega arith) (cond_word (eqb c 0) none (plus i 1) (omega arith) (plus_word i 1)))

pub words-init_pool : (ws : List ℕ) (n N : ℕ) (vs : List ℕ) → Words ws → Words vs → (Words (init_pool ws n N vs).0) × ((init_pool ws n N vs).1 < 4294967296)
unfolding init_pool
words-init_pool ws n N vs h p =
    let q : List ℕ × ℕ = init_inner (height n) ws n 0 in
    let i : ℕ = plus q.1 n in
    (words-init_free (N - i) _ i (words-init_leaves n q.0 q.1 vs 0 (words-init_inner (height n) ws n 0 h) p), cond_word (ltb i N) i none (plus_word q.1 n) (omega arith))
