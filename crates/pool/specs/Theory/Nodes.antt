-- The words of a node: what is read after a store.
use Rattle.std.specs.Prelude.{◌≡◌, refl, ◌≢◌, ◌⊎◌, List, length, get_or, drop, set}
use Rattle.std.proofs.Common.{sym, ◌∙◌, inl, inr, arith}
use Prim.Native.Nat.{ℕ, zero, suc, ◌+◌, ◌*◌, ◌≤◌, ◌<◌}
use Rattle.std.proofs.Math.Decide.{dec_lt}
use Rattle.std.proofs.Math.ListN.{length-set}
use Rattle.std.proofs.Math.Seq.{get_or-set_same, get_or-set_other, drop-set-lt}
use Rattle.pool.specs.Pool.{refcount, left, right, value, set_node, set_refcount, set_value, set_link, side, sibling}

-- ---- what a node holds

-- node i holds the four words c, l, r, v
pub record NodeIs (ws : List ℕ) (i c l r v : ℕ) : Type 0 where
  pub refcount_is : refcount ws i ≡ c
  pub left_is : left ws i ≡ l
  pub right_is : right ws i ≡ r
  pub value_is : value ws i ≡ v

-- node j has the same links and value in both
pub record SameContent (ws ws' : List ℕ) (j : ℕ) : Type 0 where
  pub same_left : left ws' j ≡ left ws j
  pub same-right : right ws' j ≡ right ws j
  pub same-value : value ws' j ≡ value ws j

-- and the same reference count
pub record SameNode (ws ws' : List ℕ) (j : ℕ) : Type 0 where
  pub same-refcount : refcount ws' j ≡ refcount ws j
  pub content : SameContent ws ws' j

pub content_refl : (ws : List ℕ) (j : ℕ) → SameContent ws ws j
content_refl ws j = record { same_left = refl; same-right = refl; same-value = refl }

pub content_sym : {ws ws' : List ℕ} {j : ℕ} → SameContent ws ws' j → SameContent ws' ws j
content_sym C = record { same_left = sym C.same_left; same-right = sym C.same-right; same-value = sym C.same-value }

pub content_trans : {ws ws' ws'' : List ℕ} {j : ℕ} → SameContent ws ws' j → SameContent ws' ws'' j → SameContent ws ws'' j
content_trans C D = record { same_left = D.same_left ∙ C.same_left; same-right = D.same-right ∙ C.same-right; same-value = D.same-value ∙ C.same-value }

pub node_refl : (ws : List ℕ) (j : ℕ) → SameNode ws ws j
node_refl ws j = record { same-refcount = refl; content = content_refl ws j }

pub node_trans : {ws ws' ws'' : List ℕ} {j : ℕ} → SameNode ws ws' j → SameNode ws' ws'' j → SameNode ws ws'' j
node_trans C D = record { same-refcount = D.same-refcount ∙ C.same-refcount; content = content_trans C.content D.content }

pub node_kept : {ws ws' : List ℕ} {j c l r v : ℕ} → SameNode ws ws' j → NodeIs ws j c l r v → NodeIs ws' j c l r v
node_kept S K = record {
  refcount_is = S.same-refcount ∙ K.refcount_is;
  left_is = S.content.same_left ∙ K.left_is;
  right_is = S.content.same-right ∙ K.right_is;
  value_is = S.content.same-value ∙ K.value_is;
}

-- ---- a store of a whole node

pub length-set_node : (ws : List ℕ) (i c l r v : ℕ) → length (set_node ws i c l r v) ≡ length ws
unfolding set_node
length-set_node ws i c l r v = simp length-set

pub drop-set_node : (ws : List ℕ) (i c l r v N : ℕ) → i < N → drop (4 * N) (set_node ws i c l r v) ≡ drop (4 * N) ws
unfolding set_node
drop-set_node ws i c l r v N b =
    let w = 4 * i in
    drop-set-lt (4 * N) (set (set (set ws w c) (w + 1) l) (w + 2) r) (w + 3) v (omega arith)
    ∙ drop-set-lt (4 * N) (set (set ws w c) (w + 1) l) (w + 2) r (omega arith)
    ∙ drop-set-lt (4 * N) (set ws w c) (w + 1) l (omega arith)
    ∙ drop-set-lt (4 * N) ws w c (omega arith)

-- a word u that is none of the node's, or none of those after its first k
module _ (ws : List ℕ) (i c l r v u : ℕ) where
  past_value : u ≢ 4 * i + 3 → get_or (set_node ws i c l r v) u 0 ≡ get_or (set (set (set ws (4 * i) c) (4 * i + 1) l) (4 * i + 2) r) u 0
  unfolding set_node
  past_value o = get_or-set_other (set (set (set ws (4 * i) c) (4 * i + 1) l) (4 * i + 2) r) (4 * i + 3) u v 0 o

  past_right : u ≢ 4 * i + 2 → u ≢ 4 * i + 3 → get_or (set_node ws i c l r v) u 0 ≡ get_or (set (set ws (4 * i) c) (4 * i + 1) l) u 0
  past_right p o = past_value o ∙ get_or-set_other (set (set ws (4 * i) c) (4 * i + 1) l) (4 * i + 2) u r 0 p

  past_left : u ≢ 4 * i + 1 → u ≢ 4 * i + 2 → u ≢ 4 * i + 3 → get_or (set_node ws i c l r v) u 0 ≡ get_or (set ws (4 * i) c) u 0
  past_left q p o = past_right p o ∙ get_or-set_other (set ws (4 * i) c) (4 * i + 1) u l 0 q

  past_node : (u < 4 * i) ⊎ (4 * i + 4 ≤ u) → get_or (set_node ws i c l r v) u 0 ≡ get_or ws u 0
  past_node (inl h) = past_left (omega arith) (omega arith) (omega arith) ∙ get_or-set_other ws (4 * i) u c 0 (omega arith)
  past_node (inr h) = past_left (omega arith) (omega arith) (omega arith) ∙ get_or-set_other ws (4 * i) u c 0 (omega arith)

pub set_node_is : (ws : List ℕ) (i c l r v : ℕ) → 4 * i + 4 ≤ length ws → NodeIs (set_node ws i c l r v) i c l r v
unfolding refcount left right value
set_node_is ws i c l r v b = record {
  refcount_is = past_left ws i c l r v (4 * i) (omega arith) (omega arith) (omega arith) ∙ get_or-set_same ws (4 * i) c 0 (omega arith);
  left_is = past_right ws i c l r v (4 * i + 1) (omega arith) (omega arith) ∙ get_or-set_same (set ws (4 * i) c) (4 * i + 1) l 0 (simp length-set (omega arith));
  right_is = past_value ws i c l r v (4 * i + 2) (omega arith) ∙ get_or-set_same (set (set ws (4 * i) c) (4 * i + 1) l) (4 * i + 2) r 0 (simp length-set (omega arith));
  value_is = unfold set_node in get_or-set_same (set (set (set ws (4 * i) c) (4 * i + 1) l) (4 * i + 2) r) (4 * i + 3) v 0 (simp length-set (omega arith));
}

pub set_node_other : (ws : List ℕ) (i j c l r v : ℕ) → j ≢ i → SameNode ws (set_node ws i c l r v) j
unfolding refcount left right value
set_node_other ws i j c l r v o = record {
  same-refcount = past_node ws i c l r v (4 * j) (away (4 * j) (omega arith) (omega arith));
  content = record {
    same_left = past_node ws i c l r v (4 * j + 1) (away (4 * j + 1) (omega arith) (omega arith));
    same-right = past_node ws i c l r v (4 * j + 2) (away (4 * j + 2) (omega arith) (omega arith));
    same-value = past_node ws i c l r v (4 * j + 3) (away (4 * j + 3) (omega arith) (omega arith));
  };
}
  where
    away : (u : ℕ) → 4 * j ≤ u → u < 4 * j + 4 → (u < 4 * i) ⊎ (4 * i + 4 ≤ u)
    away u a b = elim (dec_lt j i) [ yes h ↦ inl (omega arith) | no h ↦ inr (omega arith) ]

-- ---- a store of the reference count alone

pub length-set_refcount : (ws : List ℕ) (i c : ℕ) → length (set_refcount ws i c) ≡ length ws
unfolding set_refcount
length-set_refcount ws i c = length-set ws (4 * i) c

pub drop-set_refcount : (ws : List ℕ) (i c N : ℕ) → i < N → drop (4 * N) (set_refcount ws i c) ≡ drop (4 * N) ws
unfolding set_refcount
drop-set_refcount ws i c N b = drop-set-lt (4 * N) ws (4 * i) c (omega arith)

module _ (ws : List ℕ) (i c : ℕ) where
  pub set_refcount_is : 4 * i + 4 ≤ length ws → refcount (set_refcount ws i c) i ≡ c
  unfolding set_refcount refcount
  set_refcount_is b = get_or-set_same ws (4 * i) c 0 (omega arith)

  pub set_refcount_other : (j : ℕ) → j ≢ i → refcount (set_refcount ws i c) j ≡ refcount ws j
  unfolding set_refcount refcount
  set_refcount_other j o = get_or-set_other ws (4 * i) (4 * j) c 0 (omega arith)

  pub set_refcount-content : (j : ℕ) → SameContent ws (set_refcount ws i c) j
  unfolding set_refcount left right value
  set_refcount-content j = record {
    same_left = get_or-set_other ws (4 * i) (4 * j + 1) c 0 (omega arith);
    same-right = get_or-set_other ws (4 * i) (4 * j + 2) c 0 (omega arith);
    same-value = get_or-set_other ws (4 * i) (4 * j + 3) c 0 (omega arith);
  }

-- ---- a store of the value alone

module _ (ws : List ℕ) (i v : ℕ) where
  pub length-set_value : length (set_value ws i v) ≡ length ws
  unfolding set_value
  length-set_value = length-set ws (4 * i + 3) v

  pub drop-set_value : (N : ℕ) → i < N → drop (4 * N) (set_value ws i v) ≡ drop (4 * N) ws
  unfolding set_value
  drop-set_value N b = drop-set-lt (4 * N) ws (4 * i + 3) v (omega arith)

  pub set_value_is : 4 * i + 4 ≤ length ws → value (set_value ws i v) i ≡ v
  unfolding set_value value
  set_value_is b = get_or-set_same ws (4 * i + 3) v 0 (omega arith)

  pub set_value-refcount : (j : ℕ) → refcount (set_value ws i v) j ≡ refcount ws j
  unfolding set_value refcount
  set_value-refcount j = get_or-set_other ws (4 * i + 3) (4 * j) v 0 (omega arith)

  pub set_value-left : (j : ℕ) → left (set_value ws i v) j ≡ left ws j
  unfolding set_value left
  set_value-left j = get_or-set_other ws (4 * i + 3) (4 * j + 1) v 0 (omega arith)

  pub set_value-right : (j : ℕ) → right (set_value ws i v) j ≡ right ws j
  unfolding set_value right
  set_value-right j = get_or-set_other ws (4 * i + 3) (4 * j + 2) v 0 (omega arith)

  pub set_value_other : (j : ℕ) → j ≢ i → value (set_value ws i v) j ≡ value ws j
  unfolding set_value value
  set_value_other j o = get_or-set_other ws (4 * i + 3) (4 * j + 3) v 0 (omega arith)

-- ---- a store of one link alone

module _ (ws : List ℕ) (i : ℕ) where
  pub length-set_link : (b c : ℕ) → length (set_link ws i b c) ≡ length ws
  unfolding set_link
  length-set_link b c = length-set ws (side b (4 * i + 1) (4 * i + 2)) c

  pub drop-set_link : (b c N : ℕ) → i < N → drop (4 * N) (set_link ws i b c) ≡ drop (4 * N) ws
  unfolding set_link side
  drop-set_link zero c N h = drop-set-lt (4 * N) ws (4 * i + 1) c (omega arith)
  drop-set_link (suc b) c N h = drop-set-lt (4 * N) ws (4 * i + 2) c (omega arith)

  pub set_link-left : (b c : ℕ) → 4 * i + 4 ≤ length ws → left (set_link ws i b c) i ≡ side b c (sibling ws i b)
  unfolding set_link side sibling left
  set_link-left zero c h = get_or-set_same ws (4 * i + 1) c 0 (omega arith)
  set_link-left (suc b) c h = get_or-set_other ws (4 * i + 2) (4 * i + 1) c 0 (omega arith)

  pub set_link-right : (b c : ℕ) → 4 * i + 4 ≤ length ws → right (set_link ws i b c) i ≡ side b (sibling ws i b) c
  unfolding set_link side sibling right
  set_link-right zero c h = get_or-set_other ws (4 * i + 1) (4 * i + 2) c 0 (omega arith)
  set_link-right (suc b) c h = get_or-set_same ws (4 * i + 2) c 0 (omega arith)

  pub set_link-refcount : (b c j : ℕ) → refcount (set_link ws i b c) j ≡ refcount ws j
  unfolding set_link side refcount
  set_link-refcount zero c j = get_or-set_other ws (4 * i + 1) (4 * j) c 0 (omega arith)
  set_link-refcount (suc b) c j = get_or-set_other ws (4 * i + 2) (4 * j) c 0 (omega arith)

  pub set_link-value : (b c j : ℕ) → value (set_link ws i b c) j ≡ value ws j
  unfolding set_link side value
  set_link-value zero c j = get_or-set_other ws (4 * i + 1) (4 * j + 3) c 0 (omega arith)
  set_link-value (suc b) c j = get_or-set_other ws (4 * i + 2) (4 * j + 3) c 0 (omega arith)

  pub set_link_other : (b c j : ℕ) → j ≢ i → SameContent ws (set_link ws i b c) j
  unfolding set_link side left right value
  set_link_other zero c j o = record {
    same_left = get_or-set_other ws (4 * i + 1) (4 * j + 1) c 0 (omega arith);
    same-right = get_or-set_other ws (4 * i + 1) (4 * j + 2) c 0 (omega arith);
    same-value = get_or-set_other ws (4 * i + 1) (4 * j + 3) c 0 (omega arith);
  }
  set_link_other (suc b) c j o = record {
    same_left = get_or-set_other ws (4 * i + 2) (4 * j + 1) c 0 (omega arith);
    same-right = get_or-set_other ws (4 * i + 2) (4 * j + 2) c 0 (omega arith);
    same-value = get_or-set_other ws (4 * i + 2) (4 * j + 3) c 0 (omega arith);
  }
