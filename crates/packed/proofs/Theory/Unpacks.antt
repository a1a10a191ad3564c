-- Two-word nodes that unpack to four-word nodes, node for node, and one lemma for each kind of store that keeps that.
use Rattle.std.specs.Prelude.{◌≡◌, ◌≢◌, ◌⊎◌, List, length, drop, set}
use Rattle.std.proofs.Math.Path.{sym}
use Rattle.std.proofs.Common.{ap, ◌∙◌, subst, inl, arith}
use Prim.Native.Nat.{ℕ, zero, suc, ◌+◌, ◌*◌, ◌≤◌, ◌<◌, ◌/◌, ◌%◌}
use Rattle.std.proofs.Math.Decide.{ℕ_discrete}
use Rattle.std.proofs.Math.ListN.{length-set}
use Rattle.std.proofs.Math.Seq.{get_or-set_same, get_or-set_other, drop-set-lt}
use Rattle.words.specs.Basics.{none}
use Rattle.pool.specs.Pool as Four
use Rattle.pool.specs.Pool.{side}
use Rattle.pool.specs.Theory.Nodes.{SameNode, length-set_node, set_node_is, set_node_other, length-set_refcount, set_refcount_is, set_refcount_other, set_refcount-content, length-set_value, set_value_is, set_value-refcount, set_value-left, set_value-right, set_value_other, length-set_link, set_link-left, set_link-right, set_link-refcount, set_link_other}
use Rattle.packed.specs.Pool.{refcount, content, half, link_in, links, left, right, set_node, set_refcount, set_content, set_value, set_link}
use Rattle.packed.proofs.Theory.Halves.{half_lt, link_in-half, link-half_lt, link_in-link, links_low, links_high_half}

-- document 02, R-8: "unpacking the new pool gives the old one node for node": N nodes of two words in ws₂, of four in ws₄; tail is the words of
-- ws₂ past the nodes
pub record Unpacks (N : ℕ) (tail ws₂ ws₄ : List ℕ) : Type 0 where
  pub room : 4 * N ≤ length ws₄
  pub long : length ws₂ ≡ 2 * N + length tail
  pub past : drop (2 * N) ws₂ ≡ tail
  pub counts : (i : ℕ) → i < N → refcount ws₂ i ≡ Four.refcount ws₄ i
  pub inner : (i : ℕ) → i < N → 0 < Four.refcount ws₄ i → Four.left ws₄ i ≢ none → (left ws₂ i ≡ Four.left ws₄ i) × (right ws₂ i ≡ Four.right ws₄ i)
  pub leaf : (i : ℕ) → i < N → 0 < Four.refcount ws₄ i → Four.left ws₄ i ≡ none → content ws₂ i ≡ Four.value ws₄ i
  pub free : (i : ℕ) → i < N → Four.refcount ws₄ i ≡ 0 → content ws₂ i ≡ Four.left ws₄ i

-- ---- the links in a word

pub left_of : (ws : List ℕ) (i l r : ℕ) → content ws i ≡ links l r → l < 65535 → half r < 65536 → left ws i ≡ l
unfolding left
left_of ws i l r e a b = ap (λ w. link_in (w % 65536)) e ∙ ap link_in (links_low l r (half_lt l a) b) ∙ link_in-half l a

pub right_of_lem : (ws : List ℕ) (i l r : ℕ) → content ws i ≡ links l r → l < 65535 → (r < 65535) ⊎ (r ≡ none) → right ws i ≡ r
unfolding right
right_of_lem ws i l r e a b = ap (λ w. link_in (w / 65536 % 65536)) e ∙ ap link_in (links_high_half l r (half_lt l a) (link-half_lt r b)) ∙ link_in-link r b

-- ---- two words: what is read after a store

-- node j has the same words in both
pub record SameWords (ws ws' : List ℕ) (j : ℕ) : Type 0 where
  pub same-refcount : refcount ws' j ≡ refcount ws j
  pub same-content : content ws' j ≡ content ws j

pub left-same : (ws ws' : List ℕ) (j : ℕ) → content ws' j ≡ content ws j → left ws' j ≡ left ws j
unfolding left
left-same ws ws' j e = ap (λ w. link_in (w % 65536)) e

pub right-same : (ws ws' : List ℕ) (j : ℕ) → content ws' j ≡ content ws j → right ws' j ≡ right ws j
unfolding right
right-same ws ws' j e = ap (λ w. link_in (w / 65536 % 65536)) e

-- a store of the first word, of the second, of both
module _ (ws : List ℕ) (i c w : ℕ) where
  pub length-first : length (set_refcount ws i c) ≡ length ws
  unfolding set_refcount
  length-first = length-set ws (2 * i) c

  pub length_second : length (set_content ws i w) ≡ length ws
  unfolding set_content
  length_second = length-set ws (2 * i + 1) w

  pub length_both : length (set_node ws i c w) ≡ length ws
  unfolding set_node
  length_both = simp length-set

  pub drop-first : (N : ℕ) → i < N → drop (2 * N) (set_refcount ws i c) ≡ drop (2 * N) ws
  unfolding set_refcount
  drop-first N b = drop-set-lt (2 * N) ws (2 * i) c (omega arith)

  pub drop_second : (N : ℕ) → i < N → drop (2 * N) (set_content ws i w) ≡ drop (2 * N) ws
  unfolding set_content
  drop_second N b = drop-set-lt (2 * N) ws (2 * i + 1) w (omega arith)

  pub drop-both : (N : ℕ) → i < N → drop (2 * N) (set_node ws i c w) ≡ drop (2 * N) ws
  unfolding set_node
  drop-both N b = drop-set-lt (2 * N) (set ws (2 * i) c) (2 * i + 1) w (omega arith) ∙ drop-set-lt (2 * N) ws (2 * i) c (omega arith)

  first_is : 2 * i + 2 ≤ length ws → refcount (set_refcount ws i c) i ≡ c
  unfolding set_refcount refcount
  first_is b = get_or-set_same ws (2 * i) c 0 (omega arith)

  first-content : (j : ℕ) → content (set_refcount ws i c) j ≡ content ws j
  unfolding set_refcount content
  first-content j = get_or-set_other ws (2 * i) (2 * j + 1) c 0 (omega arith)

  first_other : (j : ℕ) → j ≢ i → SameWords ws (set_refcount ws i c) j
  unfolding set_refcount refcount
  first_other j o = record { same-refcount = get_or-set_other ws (2 * i) (2 * j) c 0 (omega arith); same-content = first-content j }

  second_is : 2 * i + 2 ≤ length ws → content (set_content ws i w) i ≡ w
  unfolding set_content content
  second_is b = get_or-set_same ws (2 * i + 1) w 0 (omega arith)

  second_refcount : (j : ℕ) → refcount (set_content ws i w) j ≡ refcount ws j
  unfolding set_content refcount
  second_refcount j = get_or-set_other ws (2 * i + 1) (2 * j) w 0 (omega arith)

  second_other : (j : ℕ) → j ≢ i → SameWords ws (set_content ws i w) j
  unfolding set_content content
  second_other j o = record { same-refcount = second_refcount j; same-content = get_or-set_other ws (2 * i + 1) (2 * j + 1) w 0 (omega arith) }

  both-refcount : 2 * i + 2 ≤ length ws → refcount (set_node ws i c w) i ≡ c
  unfolding set_node refcount
  both-refcount b = get_or-set_other (set ws (2 * i) c) (2 * i + 1) (2 * i) w 0 (omega arith) ∙ get_or-set_same ws (2 * i) c 0 (omega arith)

  both-content : 2 * i + 2 ≤ length ws → content (set_node ws i c w) i ≡ w
  unfolding set_node content
  both-content b = get_or-set_same (set ws (2 * i) c) (2 * i + 1) w 0 (simp length-set (omega arith))

  pub both_other : (j : ℕ) → j ≢ i → SameWords ws (set_node ws i c w) j
  unfolding set_node refcount content
  both_other j o = record {
    same-refcount = get_or-set_other (set ws (2 * i) c) (2 * i + 1) (2 * j) w 0 (omega arith) ∙ get_or-set_other ws (2 * i) (2 * j) c 0 (omega arith);
    same-content = get_or-set_other (set ws (2 * i) c) (2 * i + 1) (2 * j + 1) w 0 (omega arith) ∙ get_or-set_other ws (2 * i) (2 * j + 1) c 0 (omega arith);
  }

-- ---- one node

pub record NodeUnpacks (ws₂ ws₄ : List ℕ) (i : ℕ) : Type 0 where
  pub counts : refcount ws₂ i ≡ Four.refcount ws₄ i
  pub inner : 0 < Four.refcount ws₄ i → Four.left ws₄ i ≢ none → (left ws₂ i ≡ Four.left ws₄ i) × (right ws₂ i ≡ Four.right ws₄ i)
  pub leaf : 0 < Four.refcount ws₄ i → Four.left ws₄ i ≡ none → content ws₂ i ≡ Four.value ws₄ i
  pub free : Four.refcount ws₄ i ≡ 0 → content ws₂ i ≡ Four.left ws₄ i

node_unpacks : {N : ℕ} {tail ws₂ ws₄ : List ℕ} → Unpacks N tail ws₂ ws₄ → (i : ℕ) → i < N → NodeUnpacks ws₂ ws₄ i
node_unpacks U i b = record { counts = U.counts i b; inner = U.inner i b; leaf = U.leaf i b; free = U.free i b }

-- the same words and the same node
pub node-same : (ws₂ ws₂' ws₄ ws₄' : List ℕ) (j : ℕ) → SameWords ws₂ ws₂' j → SameNode ws₄ ws₄' j → NodeUnpacks ws₂ ws₄ j → NodeUnpacks ws₂' ws₄' j
node-same ws₂ ws₂' ws₄ ws₄' j S T K = record {
  counts = S.same-refcount ∙ K.counts ∙ sym T.same-refcount;
  inner = λ p o.
      let m = K.inner (omega (arith, T.same-refcount)) (λ e. o (T.content.same_left ∙ e)) in
      (left-same ws₂ ws₂' j S.same-content ∙ m.0 ∙ sym T.content.same_left, right-same ws₂ ws₂' j S.same-content ∙ m.1 ∙ sym T.content.same-right);
  leaf = λ p e. S.same-content ∙ K.leaf (omega (arith, T.same-refcount)) (sym T.content.same_left ∙ e) ∙ sym T.content.same-value;
  free = λ e. S.same-content ∙ K.free (sym T.same-refcount ∙ e) ∙ sym T.content.same_left;
}

-- a node stored in both
module _ (ws₂ ws₄ : List ℕ) (i : ℕ) (room₂ : 2 * i + 2 ≤ length ws₂) (room₄ : 4 * i + 4 ≤ length ws₄) where
  pub node-inner : (c l r v : ℕ) → 0 < c → l < 65535 → (r < 65535) ⊎ (r ≡ none) → NodeUnpacks (set_node ws₂ i c (links l r)) (Four.set_node ws₄ i c l r v) i
  node-inner c l r v p bl br =
      let F = set_node_is ws₄ i c l r v room₄ in
      let e = both-content ws₂ i c (links l r) room₂ in
      record {
        counts = both-refcount ws₂ i c (links l r) room₂ ∙ sym F.refcount_is;
        inner = λ _ _. (left_of _ i l r e bl (link-half_lt r br) ∙ sym F.left_is, right_of_lem _ i l r e bl br ∙ sym F.right_is);
        leaf = λ _ t. absurd (omega (arith, F.left_is));
        free = λ t. absurd (omega (arith, F.refcount_is));
      }

  pub node_leaf : (c r v : ℕ) → 0 < c → NodeUnpacks (set_node ws₂ i c v) (Four.set_node ws₄ i c none r v) i
  node_leaf c r v p =
      let F = set_node_is ws₄ i c none r v room₄ in
      record {
        counts = both-refcount ws₂ i c v room₂ ∙ sym F.refcount_is;
        inner = λ _ o. absurd (o F.left_is);
        leaf = λ _ _. both-content ws₂ i c v room₂ ∙ sym F.value_is;
        free = λ t. absurd (omega (arith, F.refcount_is));
      }

  pub node_free : (f r v : ℕ) → NodeUnpacks (set_node ws₂ i 0 f) (Four.set_node ws₄ i 0 f r v) i
  node_free f r v =
      let F = set_node_is ws₄ i 0 f r v room₄ in
      record {
        counts = both-refcount ws₂ i 0 f room₂ ∙ sym F.refcount_is;
        inner = λ p _. absurd (omega (arith, F.refcount_is));
        leaf = λ p _. absurd (omega (arith, F.refcount_is));
        free = λ _. both-content ws₂ i 0 f room₂ ∙ sym F.left_is;
      }

-- node i alone changes
change : {N : ℕ} {tail ws₂ ws₄ : List ℕ} → Unpacks N tail ws₂ ws₄ → (ws₂' ws₄' : List ℕ) (i : ℕ)
    → length ws₂' ≡ length ws₂ → drop (2 * N) ws₂' ≡ drop (2 * N) ws₂ → length ws₄' ≡ length ws₄
    → ((j : ℕ) → j ≢ i → SameWords ws₂ ws₂' j) → ((j : ℕ) → j ≢ i → SameNode ws₄ ws₄' j) → NodeUnpacks ws₂' ws₄' i → Unpacks N tail ws₂' ws₄'
change {N} {tail} {ws₂} {ws₄} U ws₂' ws₄' i len₂ past₂ len₄ S T K = record {
  room = omega (arith, U.room);
  long = len₂ ∙ U.long;
  past = past₂ ∙ U.past;
  counts = λ j b. (at j b).counts;
  inner = λ j b. (at j b).inner;
  leaf = λ j b. (at j b).leaf;
  free = λ j b. (at j b).free;
}
  where
    at : (j : ℕ) → j < N → NodeUnpacks ws₂' ws₄' j
    at j b = elim (ℕ_discrete j i) [
      | yes e ↦ subst (NodeUnpacks ws₂' ws₄') (sym e) K
      | no o ↦ node-same ws₂ ws₂' ws₄ ws₄' j (S j o) (T j o) (node_unpacks U j b)
    ]

-- ---- the stores

module _ {N : ℕ} {tail ws₂ ws₄ : List ℕ} (U : Unpacks N tail ws₂ ws₄) (i : ℕ) (b : i < N) where
  room₂ : 2 * i + 2 ≤ length ws₂
  room₂ = omega (arith, U.long)

  room₄ : 4 * i + 4 ≤ length ws₄
  room₄ = omega (arith, U.room)

  -- a whole node: what it then is decides
  store : (c w l r v : ℕ) → NodeUnpacks (set_node ws₂ i c w) (Four.set_node ws₄ i c l r v) i → Unpacks N tail (set_node ws₂ i c w) (Four.set_node ws₄ i c l r v)
  store c w l r v K = change U (set_node ws₂ i c w) (Four.set_node ws₄ i c l r v) i (length_both ws₂ i c w) (drop-both ws₂ i c w N b) (length-set_node ws₄ i c l r v)
      (both_other ws₂ i c w) (λ j o. set_node_other ws₄ i j c l r v o) K

  pub unpacks_inner : (c l r v : ℕ) → 0 < c → l < 65535 → (r < 65535) ⊎ (r ≡ none) → Unpacks N tail (set_node ws₂ i c (links l r)) (Four.set_node ws₄ i c l r v)
  unpacks_inner c l r v p bl br = store c (links l r) l r v (node-inner ws₂ ws₄ i room₂ room₄ c l r v p bl br)

  pub unpacks_leaf : (c r v : ℕ) → 0 < c → Unpacks N tail (set_node ws₂ i c v) (Four.set_node ws₄ i c none r v)
  unpacks_leaf c r v p = store c v none r v (node_leaf ws₂ ws₄ i room₂ room₄ c r v p)

  pub unpacks_free : (f r v : ℕ) → Unpacks N tail (set_node ws₂ i 0 f) (Four.set_node ws₄ i 0 f r v)
  unpacks_free f r v = store 0 f f r v (node_free ws₂ ws₄ i room₂ room₄ f r v)

  -- the count of a node in use, which stays in use
  pub unpacks_refcount : (c : ℕ) → 0 < Four.refcount ws₄ i → 0 < c → Unpacks N tail (set_refcount ws₂ i c) (Four.set_refcount ws₄ i c)
  unpacks_refcount c p q =
      let C = set_refcount-content ws₄ i c i in
      let e = first-content ws₂ i c 0 i in
      let F = set_refcount_is ws₄ i c room₄ in
      change U (set_refcount ws₂ i c) (Four.set_refcount ws₄ i c) i (length-first ws₂ i c 0) (drop-first ws₂ i c 0 N b) (length-set_refcount ws₄ i c) (first_other ws₂ i c 0)
      (λ j o. record { same-refcount = set_refcount_other ws₄ i c j o; content = set_refcount-content ws₄ i c j })
      (record {
        counts = first_is ws₂ i c 0 room₂ ∙ sym F;
        inner = λ _ o. (let m = U.inner i b p (λ t. o (C.same_left ∙ t)) in (left-same ws₂ _ i e ∙ m.0 ∙ sym C.same_left, right-same ws₂ _ i e ∙ m.1 ∙ sym C.same-right));
        leaf = λ _ t. e ∙ U.leaf i b p (sym C.same_left ∙ t) ∙ sym C.same-value;
        free = λ t. absurd (omega (arith, F));
      })

  pub unpacks_value : (v : ℕ) → 0 < Four.refcount ws₄ i → Four.left ws₄ i ≡ none → Unpacks N tail (set_value ws₂ i v) (Four.set_value ws₄ i v)
  unfolding set_value
  unpacks_value v p z =
      change U (set_content ws₂ i v) (Four.set_value ws₄ i v) i (length_second ws₂ i 0 v) (drop_second ws₂ i 0 v N b) (length-set_value ws₄ i v) (second_other ws₂ i 0 v)
      (λ j o. record { same-refcount = set_value-refcount ws₄ i v j; content = record { same_left = set_value-left ws₄ i v j; same-right = set_value-right ws₄ i v j; same-value = set_value_other ws₄ i v j o } })
      (record {
        counts = second_refcount ws₂ i 0 v i ∙ U.counts i b ∙ sym (set_value-refcount ws₄ i v i);
        inner = λ _ o. absurd (o (set_value-left ws₄ i v i ∙ z));
        leaf = λ _ _. second_is ws₂ i 0 v room₂ ∙ sym (set_value_is ws₄ i v room₄);
        free = λ t. absurd (omega (arith, set_value-refcount ws₄ i v i));
      })

  -- a link of an inner node
  relinked : (d c w l r : ℕ) → 0 < Four.refcount ws₄ i → w ≡ links l r → l < 65535 → (r < 65535) ⊎ (r ≡ none)
      → Four.left (Four.set_link ws₄ i d c) i ≡ l → Four.right (Four.set_link ws₄ i d c) i ≡ r → Unpacks N tail (set_content ws₂ i w) (Four.set_link ws₄ i d c)
  relinked d c w l r p e bl br il ir =
      let f = second_is ws₂ i 0 w room₂ ∙ e in
      change U (set_content ws₂ i w) (Four.set_link ws₄ i d c) i (length_second ws₂ i 0 w) (drop_second ws₂ i 0 w N b) (length-set_link ws₄ i d c) (second_other ws₂ i 0 w)
      (λ j o. record { same-refcount = set_link-refcount ws₄ i d c j; content = set_link_other ws₄ i d c j o })
      (record {
        counts = second_refcount ws₂ i 0 w i ∙ U.counts i b ∙ sym (set_link-refcount ws₄ i d c i);
        inner = λ _ _. (left_of _ i l r f bl (link-half_lt r br) ∙ sym il, right_of_lem _ i l r f bl br ∙ sym ir);
        leaf = λ _ t. absurd (omega (arith, il));
        free = λ t. absurd (omega (arith, set_link-refcount ws₄ i d c i));
      })

  pub unpacks_link : (d c : ℕ) → 0 < Four.refcount ws₄ i → Four.left ws₄ i < 65535 → (Four.right ws₄ i < 65535) ⊎ (Four.right ws₄ i ≡ none) → c < 65535
      → Unpacks N tail (set_link ws₂ i d c) (Four.set_link ws₄ i d c)
  unfolding set_link side Four.sibling
  unpacks_link zero c p bl br bc =
      let m = U.inner i b p (omega arith) in
      relinked zero c _ c (Four.right ws₄ i) p (ap (links c) m.1) bc br (set_link-left ws₄ i zero c room₄) (set_link-right ws₄ i zero c room₄)
  unpacks_link (suc d) c p bl br bc =
      let m = U.inner i b p (omega arith) in
      relinked (suc d) c _ (Four.left ws₄ i) c p (ap (λ l. links l c) m.0) bl (inl bc) (set_link-left ws₄ i (suc d) c room₄) (set_link-right ws₄ i (suc d) c room₄)
