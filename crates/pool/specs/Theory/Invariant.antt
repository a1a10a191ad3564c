-- The invariant of the reference counts, and one lemma for each kind of store that keeps it. What counts is linear in δ,
-- count and sum.
use Rattle.std.specs.Prelude.{◌≡◌, refl, ◌≢◌, List, ◌∷◌, length}
use Rattle.std.proofs.Common.{sym, ap, ◌∙◌, subst}
use Prim.Native.Nat.{ℕ, zero, suc, ◌+◌, ◌-◌, ◌*◌, ◌≤◌, ◌<◌, ◌^◌, min}
use native.Mathlib.Omega.{arith}
use Rattle.std.proofs.Math.Decide.{ℕ_discrete}
use Rattle.words.specs.Basics.{none, sum, Chain, δ, count}
use Rattle.words.specs.Chains.{chain_cong}
use Rattle.words.specs.Counting.{δ_same, δ_other, δ_le, δ₀, δ₀_zero, δ₀_pos, δ₀_inv, when, when_zero, when_pos, when_le, when_inv, count_cons, count_le, sum_cong, sum_upd, sum_ge, sum_le}
use Rattle.pool.specs.Pool.{refcount, left, right, value}
use Rattle.pool.specs.Theory.Nodes.{NodeIs, SameContent, SameNode}

-- ---- the shape of the trees, by two labels of each node: its level and its size, the leaves below it

-- c is a node of level l with s leaves
pub record NodeAt (N : ℕ) (level size : ℕ → ℕ) (l s c : ℕ) : Type 0 where
  pub inside : c < N
  pub at_level : level c ≡ l
  pub of_size : size c ≡ s

-- the same for a right link, which is none where there are no leaves
unfoldable pub RightAt : ℕ → (ℕ → ℕ) → (ℕ → ℕ) → ℕ → ℕ → ℕ → Type 0
RightAt N level size l zero c = c ≡ none
RightAt N level size l (suc s) c = NodeAt N level size l (suc s) c

-- a node of level l with s leaves has the links a and b
unfoldable pub Links : ℕ → (ℕ → ℕ) → (ℕ → ℕ) → ℕ → ℕ → ℕ → ℕ → Type 0
Links N level size zero s a b = (s ≡ 1) × (a ≡ none) × (b ≡ none)
Links N level size (suc l) s a b = NodeAt N level size l (min s (2 ^ l)) a × RightAt N level size l (s - 2 ^ l) b

-- ---- links counted

-- the links from j to i, if j is in use
unfoldable pub link : List ℕ → ℕ → ℕ → ℕ
link ws i j = when (refcount ws j) (δ i (left ws j) + δ i (right ws j))

-- the links to i from nodes in use
unfoldable pub indegree : ℕ → List ℕ → ℕ → ℕ
indegree N ws i = sum N (link ws i)

-- ---- the invariant

-- N nodes, height H, labels level and size; free the first free node and fs the free list; E the links from outside (the
-- roots of live frames, and links that are still to be released); c a node that is linked to and not yet taken, or none
pub record Invariant (N H : ℕ) (level size : ℕ → ℕ) (ws : List ℕ) (free : ℕ) (fs : List ℕ) (c : ℕ) (E : List ℕ) : Type 0 where
  pub room : 4 * N ≤ length ws
  pub counts : (i : ℕ) → i < N → refcount ws i + δ i c ≡ count i E + indegree N ws i
  pub shape : (j : ℕ) → j < N → 0 < refcount ws j → Links N level size (level j) (size j) (left ws j) (right ws j)
  pub bounded : (j : ℕ) → j < N → 0 < refcount ws j → level j ≤ H
  pub inner : (j : ℕ) → j < N → 0 < refcount ws j → 0 < level j → value ws j ≡ 0
  pub chain : Chain (left ws) N free fs
  pub listed : (i : ℕ) → i < N → count i fs ≡ δ₀ (refcount ws i)
  pub cleared : (i : ℕ) → i < N → refcount ws i ≡ 0 → (right ws i ≡ 0) × (value ws i ≡ 0)

-- ---- labels that agree

module _ (N : ℕ) (level size level' size' : ℕ → ℕ) where
  pub node_at_cong : (l s c : ℕ) → level' c ≡ level c → size' c ≡ size c → NodeAt N level size l s c → NodeAt N level' size' l s c
  node_at_cong l s c e f F = record { inside = F.inside; at_level = e ∙ F.at_level; of_size = f ∙ F.of_size }

  pub right_at_cong : (l s c : ℕ) → (c < N → (level' c ≡ level c) × (size' c ≡ size c)) → RightAt N level size l s c → RightAt N level' size' l s c
  unfolding RightAt
  right_at_cong l zero c h F = F
  right_at_cong l (suc s) c h F = node_at_cong l (suc s) c (h F.inside).0 (h F.inside).1 F

  pub links_cong : (l s a b : ℕ) → level' a ≡ level a → size' a ≡ size a → level' b ≡ level b → size' b ≡ size b → Links N level size l s a b → Links N level' size' l s a b
  unfolding Links
  links_cong zero s a b e f g h F = F
  links_cong (suc l) s a b e f g h F = (node_at_cong l (min s (2 ^ l)) a e f F.0, right_at_cong l (s - 2 ^ l) b (λ _. (g, h)) F.1)

-- ---- what the links of a node are

module _ (N : ℕ) (level size : ℕ → ℕ) where
  pub right_at_node : (l s c : ℕ) → 0 < s → RightAt N level size l s c → NodeAt N level size l s c
  unfolding RightAt
  right_at_node l zero c p k = absurd (omega arith)
  right_at_node l (suc s) c p k = k

  pub node_right_at : (l s c : ℕ) → 0 < s → NodeAt N level size l s c → RightAt N level size l s c
  unfolding RightAt
  node_right_at l zero c p k = absurd (omega arith)
  node_right_at l (suc s) c p k = k

  pub right_at_none : (l s c : ℕ) → s ≡ 0 → RightAt N level size l s c → c ≡ none
  unfolding RightAt
  right_at_none l zero c e F = F
  right_at_none l (suc s) c e F = absurd (omega arith)

  pub none_right_at : (l s c : ℕ) → s ≡ 0 → c ≡ none → RightAt N level size l s c
  unfolding RightAt
  none_right_at l zero c e F = F
  none_right_at l (suc s) c e F = absurd (omega arith)

  -- a right link that is not none
  pub right_at_some : (l s c : ℕ) → c ≢ none → RightAt N level size l s c → (0 < s) × NodeAt N level size l s c
  unfolding RightAt
  right_at_some l zero c o k = absurd (o k)
  right_at_some l (suc s) c o k = (omega arith, k)

  -- the links of a node of level suc l are nodes of level l, or none
  pub links-left : (l s a b : ℕ) → Links N level size (suc l) s a b → (a < N) × (level a ≡ l)
  unfolding Links
  links-left l s a b k = (k.0.inside, k.0.at_level)

  pub links-right : (l s a b : ℕ) → Links N level size (suc l) s a b → b ≢ none → (b < N) × (level b ≡ l)
  unfolding Links
  links-right l s a b k o = (let F = (right_at_some l (s - 2 ^ l) b o k.1).1 in (F.inside, F.at_level))

  pub links_leaf : (s a b : ℕ) → Links N level size zero s a b → (a ≡ none) × (b ≡ none)
  unfolding Links
  links_leaf s a b k = (k.1, k.2)

-- ---- laws of link and indegree

pub link_zero : (ws : List ℕ) (i j : ℕ) → refcount ws j ≡ 0 → link ws i j ≡ 0
unfolding link
link_zero ws i j e = when_zero (refcount ws j) _ e

pub link_pos : (ws : List ℕ) (i j : ℕ) → 0 < refcount ws j → link ws i j ≡ δ i (left ws j) + δ i (right ws j)
unfolding link
link_pos ws i j e = when_pos (refcount ws j) _ e

pub link_inv : (ws : List ℕ) (i j : ℕ) → 0 < link ws i j → 0 < refcount ws j
unfolding link
link_inv ws i j e = when_inv (refcount ws j) _ e

pub link_le : (ws : List ℕ) (i j : ℕ) → link ws i j ≤ 2
unfolding link
link_le ws i j = omega (arith, when_le (refcount ws j) (δ i (left ws j) + δ i (right ws j)), δ_le i (left ws j), δ_le i (right ws j))

pub link_cong : (ws ws' : List ℕ) (i j : ℕ) → δ₀ (refcount ws' j) ≡ δ₀ (refcount ws j) → SameContent ws ws' j → link ws' i j ≡ link ws i j
link_cong ws ws' i j e C = elim (ℕ_discrete (refcount ws j) 0) [
  | yes z ↦ link_zero ws' i j (δ₀_inv (refcount ws' j) (omega (arith, δ₀_zero (refcount ws j) z))) ∙ sym (link_zero ws i j z)
  | no z ↦ elim (ℕ_discrete (refcount ws' j) 0) [
    | yes z' ↦ absurd (omega (arith, δ₀_zero (refcount ws' j) z', δ₀_pos (refcount ws j) (omega arith)))
    | no z' ↦ omega (arith, link_pos ws i j (omega arith), link_pos ws' i j (omega arith), ap (δ i) C.same_left, ap (δ i) C.same-right)
  ]
]

pub indegree_le : (N : ℕ) (ws : List ℕ) (i : ℕ) → indegree N ws i ≤ N * 2
unfolding indegree
indegree_le N ws i = sum_le N 2 (link ws i) (link_le ws i)

pub indegree_cong : (N : ℕ) (ws ws' : List ℕ) (i : ℕ) → ((j : ℕ) → j < N → link ws' i j ≡ link ws i j) → indegree N ws' i ≡ indegree N ws i
unfolding indegree
indegree_cong N ws ws' i h = sum_cong N (link ws' i) (link ws i) h

-- the links of one node k change
pub indegree_upd : (N : ℕ) (ws ws' : List ℕ) (i k : ℕ) → k < N → ((j : ℕ) → j < N → j ≢ k → link ws' i j ≡ link ws i j)
    → indegree N ws' i + link ws i k ≡ indegree N ws i + link ws' i k
unfolding indegree
indegree_upd N ws ws' i k b h = sum_upd N k (link ws' i) (link ws i) b h

pub indegree_ge : (N : ℕ) (ws : List ℕ) (i j : ℕ) → j < N → link ws i j ≤ indegree N ws i
unfolding indegree
indegree_ge N ws i j b = sum_ge N j (link ws i) b

-- ---- what is linked to is in use

module _ {N H : ℕ} {level size : ℕ → ℕ} {ws : List ℕ} {free : ℕ} {fs : List ℕ} {c : ℕ} {E : List ℕ} (R : Invariant N H level size ws free fs c E) where
  pub used_left : (j k : ℕ) → j < N → 0 < refcount ws j → k < N → k ≢ c → left ws j ≡ k → 0 < refcount ws k
  used_left j k b p bk o e = omega (arith, R.counts k bk, δ_other k c o, indegree_ge N ws k j b, link_pos ws k j p, ap (δ k) e, δ_same k)

  pub used_right : (j k : ℕ) → j < N → 0 < refcount ws j → k < N → k ≢ c → right ws j ≡ k → 0 < refcount ws k
  used_right j k b p bk o e = omega (arith, R.counts k bk, δ_other k c o, indegree_ge N ws k j b, link_pos ws k j p, ap (δ k) e, δ_same k)

  pub used_out : (k : ℕ) → k < N → k ≢ c → 0 < count k E → 0 < refcount ws k
  used_out k b o p = omega (arith, R.counts k b, δ_other k c o)

  pub refcount_le : (k : ℕ) → k < N → refcount ws k ≤ length E + N * 2
  refcount_le k b = omega (arith, R.counts k b, count_le k E, indegree_le N ws k)

  pub links_at : (i l : ℕ) → i < N → 0 < refcount ws i → level i ≡ l → Links N level size l (size i) (left ws i) (right ws i)
  links_at i l b p e = subst (λ q. Links N level size q (size i) (left ws i) (right ws i)) e (R.shape i b p)

  -- only the count of outside links matters
  pub inv_perm : (E' : List ℕ) (c' : ℕ) → ((i : ℕ) → i < N → count i E + δ i c' ≡ count i E' + δ i c) → Invariant N H level size ws free fs c' E'
  inv_perm E' c' h = record {
    room = R.room;
    counts = λ i b. omega (arith, h i b, R.counts i b);
    shape = R.shape;
    bounded = R.bounded;
    inner = R.inner;
    chain = R.chain;
    listed = R.listed;
    cleared = R.cleared;
  }

-- ---- stores

module _ (N H : ℕ) (level size : ℕ → ℕ) (ws ws' : List ℕ) (room' : 4 * N ≤ length ws') where
  -- of the nodes the reference counts alone change, and none to or from 0
  pub inv_refcounts : {free : ℕ} {fs : List ℕ} {c : ℕ} {E : List ℕ} (E' : List ℕ)
      → ((j : ℕ) → j < N → δ₀ (refcount ws' j) ≡ δ₀ (refcount ws j)) → ((j : ℕ) → j < N → SameContent ws ws' j)
      → ((i : ℕ) → i < N → refcount ws' i + count i E ≡ refcount ws i + count i E')
      → Invariant N H level size ws free fs c E → Invariant N H level size ws' free fs c E'
  inv_refcounts {free} {fs} {c} {E} E' z C n R = record {
    room = room';
    counts = λ i b. omega (arith, n i b, R.counts i b, indegree_cong N ws ws' i (λ j q. link_cong ws ws' i j (z j q) (C j q)));
    shape = λ j b p. rw ((C j b).same_left, (C j b).same-right) (R.shape j b (back j b p));
    bounded = λ j b p. R.bounded j b (back j b p);
    inner = λ j b p q. (C j b).same-value ∙ R.inner j b (back j b p) q;
    chain = chain_cong N (left ws) (left ws') fs free (λ x b _. (C x b).same_left) R.chain;
    listed = λ i b. R.listed i b ∙ sym (z i b);
    cleared = λ i b e. (let q = R.cleared i b (δ₀_inv (refcount ws i) (omega (arith, δ₀_zero (refcount ws' i) e, z i b))) in ((C i b).same-right ∙ q.0, (C i b).same-value ∙ q.1));
  }
    where
      back : (j : ℕ) → j < N → 0 < refcount ws' j → 0 < refcount ws j
      back j b p = elim (ℕ_discrete (refcount ws j) 0) [
        | yes e ↦ absurd (omega (arith, δ₀_zero (refcount ws j) e, δ₀_pos (refcount ws' j) p, z j b))
        | no e ↦ omega arith
      ]

  -- node i loses its last holder: it is put on the free list, and its links are now outside links
  pub inv_free : (i : ℕ) → i < N → {free : ℕ} {fs : List ℕ} {c : ℕ} {E : List ℕ}
      → refcount ws i ≡ 1 → NodeIs ws' i 0 free 0 0 → ((j : ℕ) → j ≢ i → SameNode ws ws' j)
      → Invariant N H level size ws free fs c (i ∷ E) → Invariant N H level size ws' i (i ∷ fs) c (left ws i ∷ right ws i ∷ E)
  inv_free i in_n {free} {fs} {c} {E} one K S R = record {
    room = room';
    counts = λ k b. omega (
      arith,
      drops k,
      R.counts k b,
      count_cons k i E,
      count_cons k (left ws i) (right ws i ∷ E),
      count_cons k (right ws i) E,
      indegree_upd N ws ws' k i in_n (λ j q o. link_cong ws ws' k j (ap δ₀ (S j o).same-refcount) (S j o).content),
      link_pos ws k i (omega arith),
      link_zero ws' k i K.refcount_is,
    );
    shape = λ j b p. (let s = S j (ne j p) in rw (s.content.same_left, s.content.same-right) (R.shape j b (omega (arith, s.same-refcount))));
    bounded = λ j b p. R.bounded j b (omega (arith, (S j (ne j p)).same-refcount));
    inner = λ j b p q. (let s = S j (ne j p) in s.content.same-value ∙ R.inner j b (omega (arith, s.same-refcount)) q);
    chain = (
      refl,
      in_n,
      subst (λ q. Chain (left ws') N q fs) (sym K.left_is)
          (chain_cong N (left ws) (left ws') fs free (λ x b o. (S x (λ e. omega (arith, o, ap (λ q. count q fs) e, R.listed i in_n, δ₀_pos (refcount ws i) (omega arith)))).content.same_left) R.chain),
    );
    listed = λ k b. elim (ℕ_discrete k i) [
      | yes e ↦ omega (arith, count_cons k i fs, ap (λ q. count q fs) e, ap (λ q. δ q i) e, δ_same i, R.listed i in_n, δ₀_pos (refcount ws i) (omega arith), δ₀_zero (refcount ws' k) (ap (refcount ws') e ∙ K.refcount_is))
      | no e ↦ omega (arith, count_cons k i fs, δ_other k i e, R.listed k b, ap δ₀ (S k e).same-refcount)
    ];
    cleared = λ k b e. elim (ℕ_discrete k i) [
      | yes q ↦ (ap (right ws') q ∙ K.right_is, ap (value ws') q ∙ K.value_is)
      | no q ↦ (let s = S k q in let m = R.cleared k b (sym s.same-refcount ∙ e) in (s.content.same-right ∙ m.0, s.content.same-value ∙ m.1))
    ];
  }
    where
      drops : (k : ℕ) → refcount ws' k + δ k i ≡ refcount ws k
      drops k = elim (ℕ_discrete k i) [
        | yes e ↦ omega (arith, ap (refcount ws') e, K.refcount_is, ap (refcount ws) e, ap (λ q. δ q i) e, δ_same i)
        | no e ↦ omega (arith, (S k e).same-refcount, δ_other k i e)
      ]

      ne : (j : ℕ) → 0 < refcount ws' j → j ≢ i
      ne j p e = omega (arith, ap (refcount ws') e, K.refcount_is)
