-- R-9: the words of a pool that was changed over, and what they unpack to: the pool that it was made of.
use Rattle.std.specs.Prelude.{◌≡◌, ◌≢◌, ◌⊎◌, List, ◌++◌, take, drop, replicate, eqb}
use Rattle.std.proofs.Math.Path.{refl, sym, ap, subst}
use Rattle.std.proofs.Common.{ap₂, ◌∙◌, inl, inr, length-drop, get_or-take, ext_get_or, length-take-le, drop-drop}
use Prim.Native.Nat.{ℕ, zero, suc, ◌+◌, ◌*◌, ◌/◌, ◌%◌, ◌≤◌, ◌<◌}
use native.Mathlib.Omega.{arith}
use Rattle.std.proofs.Math.Decide.{ℕ_discrete}
use Rattle.std.proofs.Math.ListN.{length, get_or, length-append}
use Rattle.std.proofs.lemmas.List.{length-replicate}
use Rattle.std.proofs.Math.Seq.{take_at, drop_at}
use borrow.Author.Tests.{eq-eqb, ne_eqb}
use Rattle.words.specs.Basics.{none}
use Rattle.words.specs.Tests.{decided}
use Rattle.words.specs.Below.{Words, below-append, below-drop, words-zeros, plus_word}
use Rattle.pool.specs.Pool as Four
use Rattle.pool.specs.Theory.Invariant.{Links, links-left, links-right, links_leaf}
use Rattle.pool.specs.Theory.Operations.{Live}
use Rattle.packed.specs.Pool.{refcount, content, links, left, right}
use Rattle.packed.specs.Pack.{packed_content, packed_from, converted}
use Rattle.packed.proofs.Theory.Halves.{link-half_lt, links_of}
use Rattle.packed.proofs.Theory.Unpacks.{Unpacks, left_of, right_of_lem}

-- ---- the second word, by what the node is

module _ (ws : List ℕ) (i : ℕ) where
  pub content_free : Four.refcount ws i ≡ 0 → packed_content ws i ≡ Four.left ws i
  unfolding packed_content
  content_free e = rw (eq-eqb (Four.refcount ws i) 0 e) refl

  pub content_leaf : 0 < Four.refcount ws i → Four.left ws i ≡ none → packed_content ws i ≡ Four.value ws i
  unfolding packed_content
  content_leaf p e = rw (ne_eqb (Four.refcount ws i) 0 (omega arith), eq-eqb (Four.left ws i) none e) refl

  pub content-inner : 0 < Four.refcount ws i → Four.left ws i ≢ none → packed_content ws i ≡ links (Four.left ws i) (Four.right ws i)
  unfolding packed_content
  content-inner p o = rw (ne_eqb (Four.refcount ws i) 0 (omega arith), ne_eqb (Four.left ws i) none o) refl

-- ---- the words

module _ (ws : List ℕ) where
  pub length_from : (c i : ℕ) → length (packed_from c ws i) ≡ 2 * c
  unfolding packed_from
  length_from zero i = refl
  length_from (suc c) i = omega (arith, length_from c (suc i))

  first_from_lem : (c i j : ℕ) → j < c → get_or (packed_from c ws i) (2 * j) 0 ≡ Four.refcount ws (i + j)
  unfolding packed_from
  first_from_lem zero i j b = absurd (omega arith)
  first_from_lem (suc c) i zero b = (let e : i ≡ i + 0 = omega arith in ap (Four.refcount ws) e)
  first_from_lem (suc c) i (suc j) b =
      let p : 2 * suc j ≡ suc (suc (2 * j)) = omega arith in
      let e : suc i + j ≡ i + suc j = omega arith in
      ap (λ u. get_or (packed_from (suc c) ws i) u 0) p ∙ first_from_lem c (suc i) j (omega arith) ∙ ap (Four.refcount ws) e

  second_from : (c i j : ℕ) → j < c → get_or (packed_from c ws i) (2 * j + 1) 0 ≡ packed_content ws (i + j)
  unfolding packed_from
  second_from zero i j b = absurd (omega arith)
  second_from (suc c) i zero b = (let e : i ≡ i + 0 = omega arith in ap (packed_content ws) e)
  second_from (suc c) i (suc j) b =
      let p : 2 * suc j + 1 ≡ suc (suc (2 * j + 1)) = omega arith in
      let e : suc i + j ≡ i + suc j = omega arith in
      ap (λ u. get_or (packed_from (suc c) ws i) u 0) p ∙ second_from c (suc i) j (omega arith) ∙ ap (packed_content ws) e

-- what stands behind the nodes
abbrev pub behind : ℕ → List ℕ → List ℕ
behind N ws = replicate (2 * N) 0 ++ drop (4 * N) ws

module _ (N : ℕ) (ws : List ℕ) where
  pub front-converted : take (2 * N) (converted N ws) ≡ packed_from N ws 0
  unfolding converted
  front-converted = take_at (packed_from N ws 0) (behind N ws) (2 * N) (length_from ws N 0)

  pub behind-converted : drop (2 * N) (converted N ws) ≡ behind N ws
  unfolding converted
  behind-converted = drop_at (packed_from N ws 0) (behind N ws) (2 * N) (length_from ws N 0)

  pub converted_remaining : take (2 * N) (drop (2 * N) (converted N ws)) ≡ replicate (2 * N) 0
  converted_remaining = ap (take (2 * N)) behind-converted ∙ take_at (replicate (2 * N) 0) (drop (4 * N) ws) (2 * N) (length-replicate (2 * N) 0)

  pub converted_beyond : drop (4 * N) (converted N ws) ≡ drop (4 * N) ws
  converted_beyond =
      let e : 4 * N ≡ 2 * N + 2 * N = omega arith in
      ap (λ k. drop k (converted N ws)) e ∙ sym (drop-drop (2 * N) (2 * N) (converted N ws)) ∙ ap (drop (2 * N)) behind-converted
      ∙ drop_at (replicate (2 * N) 0) (drop (4 * N) ws) (2 * N) (length-replicate (2 * N) 0)

  long_converted : length (converted N ws) ≡ 2 * N + length (behind N ws)
  unfolding converted
  long_converted = length-append (packed_from N ws 0) (behind N ws) ∙ ap (λ k. k + length (behind N ws)) (length_from ws N 0)

  pub length-converted : 4 * N ≤ length ws → length (converted N ws) ≡ length ws
  length-converted room = omega (arith, long_converted, length-append (replicate (2 * N) 0) (drop (4 * N) ws), length-replicate {A = ℕ} (2 * N) 0, length-drop (4 * N) ws)

  module _ (i : ℕ) (b : i < N) where
    front : (k : ℕ) → k < 2 * N → get_or (converted N ws) k 0 ≡ get_or (packed_from N ws 0) k 0
    front k h = sym (get_or-take (2 * N) (converted N ws) k 0 h) ∙ ap (λ (l : List ℕ). get_or l k 0) front-converted

    pub converted-refcount : refcount (converted N ws) i ≡ Four.refcount ws i
    unfolding refcount
    converted-refcount = (let e : 0 + i ≡ i = omega arith in front (2 * i) (omega arith) ∙ first_from_lem ws N 0 i b ∙ ap (Four.refcount ws) e)

    pub converted-content : content (converted N ws) i ≡ packed_content ws i
    unfolding content
    converted-content = (let e : 0 + i ≡ i = omega arith in front (2 * i + 1) (omega arith) ∙ second_from ws N 0 i b ∙ ap (packed_content ws) e)

-- ---- words stay words

words-content : (ws : List ℕ) (i : ℕ) → Words ws → packed_content ws i < 4294967296
unfolding packed_content Four.left Four.right Four.value links
words-content ws i w = elim (decided (eqb (Four.refcount ws i) 0)) [
  | inl e ↦ rw e (w (4 * i + 1))
  | inr e ↦ elim (decided (eqb (Four.left ws i) none)) [ inl f ↦ rw (e, f) (w (4 * i + 3)) | inr f ↦ rw (e, f) (plus_word _ _) ]
]

words_from_lem : (ws : List ℕ) → Words ws → (c i : ℕ) → Words (packed_from c ws i)
unfolding packed_from Four.refcount
words_from_lem ws w zero i j = omega arith
words_from_lem ws w (suc c) i zero = w (4 * i)
words_from_lem ws w (suc c) i (suc zero) = words-content ws i w
words_from_lem ws w (suc c) i (suc (suc j)) = words_from_lem ws w c (suc i) j

pub words-converted : (N : ℕ) (ws : List ℕ) → Words ws → Words (converted N ws)
unfolding converted
words-converted N ws w =
    below-append 4294967296 (packed_from N ws 0) (behind N ws) (words_from_lem ws w N 0) (below-append 4294967296 (replicate (2 * N) 0) (drop (4 * N) ws) (words-zeros (2 * N)) (below-drop 4294967296 (4 * N) ws w))

-- ---- of a live pool: it unpacks to it

-- the links of an inner node are nodes, the right one or none
inner-links : (N : ℕ) (level size : ℕ → ℕ) → N ≤ 16384 → (l s a b : ℕ) → a ≢ none → Links N level size l s a b → (a < 65535) × ((b < 65535) ⊎ (b ≡ none))
inner-links N level size most zero s a b o k = absurd (o (links_leaf N level size s a b k).0)
inner-links N level size most (suc l) s a b o k = (
  omega (arith, (links-left N level size l s a b k).0),
  elim (ℕ_discrete b none) [ yes e ↦ inr e | no e ↦ inl (omega (arith, (links-right N level size l s a b k e).0)) ],
)

pub pack_unpacks : (N h n : ℕ) → N ≤ 16384 → {level size : ℕ → ℕ} {ws : List ℕ} {first : ℕ} {fs rs : List ℕ} → Live N h n level size ws first fs rs → 4 * N ≤ length ws
    → Unpacks N (replicate (2 * N) 0 ++ drop (4 * N) ws) (converted N ws) ws
pack_unpacks N h n most {level} {size} {ws} L room = record {
  room = room;
  long = long_converted N ws;
  past = behind-converted N ws;
  counts = converted-refcount N ws;
  inner = λ i b p o.
      let e = converted-content N ws i b ∙ content-inner ws i p o in
      let k = inner-links N level size most (level i) (size i) (Four.left ws i) (Four.right ws i) o (L.inv.shape i b p) in
      (left_of (converted N ws) i (Four.left ws i) (Four.right ws i) e k.0 (link-half_lt (Four.right ws i) k.1), right_of_lem (converted N ws) i (Four.left ws i) (Four.right ws i) e k.0 k.1);
  leaf = λ i b p e. converted-content N ws i b ∙ content_leaf ws i p e;
  free = λ i b e. converted-content N ws i b ∙ content_free ws i e;
}

-- ---- two pools of words that unpack to the same

-- a word is known by its two links
same-links : (ws ws' : List ℕ) (i : ℕ) → content ws i < 4294967296 → content ws' i < 4294967296 → left ws i ≡ left ws' i → right ws i ≡ right ws' i → content ws i ≡ content ws' i
unfolding left right
same-links ws ws' i a b e f = sym (links_of (content ws i) a) ∙ ap₂ links e f ∙ links_of (content ws' i) b

module _ {N : ℕ} {tail tail' ws₂ ws₂' ws₄ : List ℕ} (w : Words ws₂) (w' : Words ws₂') (U : Unpacks N tail ws₂ ws₄) (U' : Unpacks N tail' ws₂' ws₄) where
  same-content : (i : ℕ) → i < N → content ws₂ i ≡ content ws₂' i
  unfolding content
  same-content i b = elim (ℕ_discrete (Four.refcount ws₄ i) 0) [
    | yes z ↦ U.free i b z ∙ sym (U'.free i b z)
    | no z ↦ elim (ℕ_discrete (Four.left ws₄ i) none) [
      | yes e ↦ U.leaf i b (omega arith) e ∙ sym (U'.leaf i b (omega arith) e)
      | no o ↦ (
          let m = U.inner i b (omega arith) o in
          let m' = U'.inner i b (omega arith) o in
          same-links ws₂ ws₂' i (w (2 * i + 1)) (w' (2 * i + 1)) (m.0 ∙ sym m'.0) (m.1 ∙ sym m'.1))
    ]
  ]

  same_word : (k : ℕ) → k < 2 * N → get_or ws₂ k 0 ≡ get_or ws₂' k 0
  unfolding refcount content
  same_word k b = elim (ℕ_discrete (k % 2) 0) [
    | yes e ↦ subst (λ q. get_or ws₂ q 0 ≡ get_or ws₂' q 0) (omega arith) (U.counts (k / 2) (omega arith) ∙ sym (U'.counts (k / 2) (omega arith)))
    | no e ↦ subst (λ q. get_or ws₂ q 0 ≡ get_or ws₂' q 0) (omega arith) (same-content (k / 2) (omega arith))
  ]

  pub unpacks_same : take (2 * N) ws₂ ≡ take (2 * N) ws₂'
  unpacks_same =
      let a : length (take (2 * N) ws₂) ≡ 2 * N = length-take-le (2 * N) ws₂ (omega (arith, U.long)) in
      let b : length (take (2 * N) ws₂') ≡ 2 * N = length-take-le (2 * N) ws₂' (omega (arith, U'.long)) in
      ext_get_or 0 (take (2 * N) ws₂) (take (2 * N) ws₂') (a ∙ sym b)
      (λ k h. get_or-take (2 * N) ws₂ k 0 (omega (arith, a)) ∙ same_word k (omega (arith, a)) ∙ sym (get_or-take (2 * N) ws₂' k 0 (omega (arith, a))))
