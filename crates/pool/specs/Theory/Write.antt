-- A write on a pool with live roots: nodes with one holder are altered where they are, and from the first with more holders the
-- path is new. This too is what a sound pool gives that comes from elsewhere, with no history.
use Rattle.std.specs.Prelude.{◌≡◌, refl, ◌≢◌, ◌⊎◌, List, ◌∷◌, length, drop}
use Rattle.std.proofs.Math.Path.{sym, ap, subst}
use Rattle.std.proofs.Common.{◌∙◌, arith, mod-eq_of_lt, eq-eqb, ne_eqb}
use Rattle.std.proofs.Math.Logic.{inl, inr}
use Prim.Native.Nat.{ℕ, zero, suc, ◌+◌, ◌-◌, ◌*◌, ◌≤◌, ◌<◌, ◌^◌, ◌%◌}
use Rattle.std.proofs.Math.Decide.{ℕ_discrete, dec_le}
use Rattle.words.specs.Basics.{none, Chain, δ, count}
use Rattle.words.specs.Chains.{chain_head}
use Rattle.words.specs.Counting.{δ_same, δ_other, δ₀_inv, count_cons}
use Rattle.words.specs.Tests.{ltb_of, nltb_of}
use Rattle.sizes.specs.Bits.{bit_lt, low1, Agree, Differ, agree_differ, agree_low, agree_refl}
use Rattle.sizes.specs.Sizes.{bit}
use Rattle.pool.specs.Pool.{refcount, left, right, value, set_refcount, set_value, set_link, side, child, sibling, read_at, copy_path, renew, first_shared, write_from, write, rest}
use Rattle.pool.specs.Links.{CopyIn, WriteIn}
use Rattle.pool.specs.Theory.Alone.{Alone, FirstShared, alone}
use Rattle.pool.specs.Theory.Changes.{grows_refl}
use Rattle.pool.specs.Theory.CopyPath.{Before, Copied, new_links, sibling_used, path_copied, path_in}
use Rattle.pool.specs.Theory.Invariant.{NodeAt, Links, used_out, links_at, inv_perm}
use Rattle.pool.specs.Theory.Nodes.{SameContent, content_trans, length-set_refcount, drop-set_refcount, set_refcount_is, set_refcount_other, set_refcount-content, length-set_value, drop-set_value, set_value_is, set_value-refcount, set_value-left, set_value-right, set_value_other, length-set_link, drop-set_link, set_link-left, set_link-right, set_link-refcount, set_link-value, set_link_other}
use Rattle.pool.specs.Theory.Operations.{Live, SameTree, root_covers, same-tree}
use Rattle.pool.specs.Theory.PathNode.{side_same, side_other, side-sum, child-sibling}
use Rattle.pool.specs.Theory.Reached.{reached_in_use}
use Rattle.pool.specs.Theory.Release.{Released, lowered}
use Rattle.pool.specs.Theory.Relink.{inv_value, inv_relink}
use Rattle.pool.specs.Theory.Take.{update, update_same, update_other, inv_relabel}
use Rattle.pool.specs.Theory.Walk.{walk, walk_here, walk_down, walk_split, walk_same, walk_agree, read_at-walk, Covers, covers_walk, walk_kept}

-- ---- the branches of the definitions

module _ (ws : List ℕ) (above i x : ℕ) where
  pub first_here : (l : ℕ) → 1 < refcount ws i → first_shared l ws above i x ≡ (suc l, i, above)
  unfolding first_shared
  first_here zero h = rw (ltb_of h, first_shared)
  first_here (suc l) h = rw (ltb_of h, first_shared)

  pub first-none : refcount ws i ≤ 1 → first_shared zero ws above i x ≡ (0, i, above)
  unfolding first_shared
  first-none h = rw (nltb_of h, first_shared)

  pub first_below : (l : ℕ) → refcount ws i ≤ 1 → first_shared (suc l) ws above i x ≡ first_shared l ws i (child ws i (bit l x)) x
  unfolding first_shared
  first_below l h = rw (nltb_of h, first_shared)

module _ (i above h : ℕ) (ws : List ℕ) (free k root x v : ℕ) where
  pub from_root : (m : ℕ) → m ≡ h → write_from (suc m) i above h ws free k root x v ≡ (let p : List ℕ × ℕ = renew m ws free i x v in (p.0, p.1, k - suc m, free))
  unfolding write_from
  from_root m e = rw (eq-eqb m h e, write_from)

  pub from_below : (m : ℕ) → m ≢ h → write_from (suc m) i above h ws free k root x v ≡ (let p : List ℕ × ℕ = renew m ws free i x v in (set_link p.0 above (bit m x) free, p.1, k - suc m, root))
  unfolding write_from
  from_below m e = rw (ne_eqb m h e, write_from)

-- ---- bits and links

-- the ways agree one level further down
one_more : (m l x y : ℕ) → Agree (suc m) l x y → bit m x ≡ bit m y → Agree m l x y
one_more m l x y g e j a b = elim (ℕ_discrete j m) [ yes t ↦ ap (λ i. bit i x) t ∙ e ∙ ap (λ i. bit i y) (sym t) | no t ↦ g j (omega arith) b ]

pub child-sum : (ws : List ℕ) (i b j : ℕ) → δ j (child ws i b) + δ j (sibling ws i b) ≡ δ j (left ws i) + δ j (right ws i)
unfolding child sibling side
child-sum ws i zero j = refl
child-sum ws i (suc b) j = omega arith

-- ---- what a write gives: p has the words, the first free node, the number of free nodes and the new root

pub record Written (N H n : ℕ) (level size : ℕ → ℕ) (ws E : List ℕ) (old x v : ℕ) (p : List ℕ × ℕ × ℕ × ℕ) : Type 0 where
  pub level' : ℕ → ℕ
  pub size' : ℕ → ℕ
  pub fs' : List ℕ
  pub live : Live N H n level' size' p.0 p.1 fs' (p.3 ∷ E)
  pub counted : p.2 ≡ length fs'
  -- the other frames
  pub same : (e : ℕ) → 0 < count e E → SameTree H n ws p.0 e
  -- the frame that writes: the nodes that it had, beside the path to x
  pub old_nodes : (k y : ℕ) → k ≤ H → y < n → Differ k H x y → walk k H p.0 p.3 y ≡ walk k H ws old y
  -- a node of the path that stood in a tree before stood on this path alone
  pub own : (k e y : ℕ) → k ≤ H → y < n → 0 < count e (old ∷ E) → walk k H ws e y ≡ walk k H p.0 p.3 x → (count e E ≡ 0) × Agree k H x y
  pub new_read : read_at H p.0 p.3 x ≡ v
  pub old_reads : (y : ℕ) → y < n → y ≢ x → read_at H p.0 p.3 y ≡ read_at H ws old y
  -- labels of nodes that were in use
  pub labels : (j : ℕ) → j < N → 0 < refcount ws j → (level' j ≡ level j) × (size' j ≡ size j)
  pub len : length p.0 ≡ length ws
  pub beyond : drop (4 * N) p.0 ≡ drop (4 * N) ws

module _ (N H n : ℕ) (small : N ≤ none) (cover : n ≤ 2 ^ H) (level size : ℕ → ℕ) (ws : List ℕ) (free k : ℕ) (fs E : List ℕ) (old x v : ℕ) (L : Live N H n level size ws free fs (old ∷ E))
    (bx : x < n) where
  old_in : 0 < count old (old ∷ E)
  old_in = omega (arith, count_cons old old E, δ_same old)

  later : (e : ℕ) → 0 < count e E → 0 < count e (old ∷ E)
  later e p = omega (arith, count_cons e old E)

  -- the node of level m on the way to y, in the tree of e
  at : (e y : ℕ) → 0 < count e (old ∷ E) → y < n → (m : ℕ) → m ≤ H → Covers N level size ws m y (walk m H ws e y)
  at e y p b m h = reached_in_use N H n small cover L m e y h p b

  on : (m : ℕ) → m ≤ H → Covers N level size ws m x (walk m H ws old x)
  on m h = at old x old_in bx m h

  top : walk H H ws old x ≡ old
  top = walk_here H H ws old x (omega arith)

  -- where the walk ends, and what it found: no node is shared; or the first that is
  abbrev Found : ℕ × ℕ × ℕ → Type 0
  Found p = (Alone H ws old x 0 × (p.0 ≡ 0) × (p.1 ≡ walk 0 H ws old x))
      ⊎ ((m : ℕ) × FirstShared H ws old x m × (p.0 ≡ suc m) × (p.1 ≡ walk m H ws old x) × (m < H → p.2 ≡ walk (suc m) H ws old x))

  -- all nodes above level l have one holder
  abbrev AloneAbove : ℕ → Type 0
  AloneAbove l = (i : ℕ) → l < i → i ≤ H → refcount ws (walk i H ws old x) ≡ 1

  alone_at : (l : ℕ) → l ≤ H → AloneAbove l → refcount ws (walk l H ws old x) ≤ 1 → Alone H ws old x l
  alone_at l h A c i d b = elim (ℕ_discrete i l) [ yes t ↦ ap (λ i. refcount ws (walk i H ws old x)) t ∙ omega (arith, (on l h).in_use) | no t ↦ A i (omega arith) b ]

  found_here : (l above : ℕ) → l ≤ H → AloneAbove l → (l < H → above ≡ walk (suc l) H ws old x) → 1 < refcount ws (walk l H ws old x) → Found (first_shared l ws above (walk l H ws old x) x)
  found_here l above h A a c = subst Found (sym (first_here ws above (walk l H ws old x) x l c)) (inr (l, record { low = h; above = A; shared = c }, refl, refl, a))

  -- from level l down
  found_from : (l above : ℕ) → l ≤ H → AloneAbove l → (l < H → above ≡ walk (suc l) H ws old x) → Found (first_shared l ws above (walk l H ws old x) x)
  found_from zero above h A a = elim (dec_le (refcount ws (walk 0 H ws old x)) 1) [
    | no c ↦ found_here 0 above h A a (omega arith)
    | yes c ↦ subst Found (sym (first-none ws above (walk 0 H ws old x) x c)) (inl (alone_at 0 h A c, refl, refl))
  ]
  found_from (suc l) above h A a = elim (dec_le (refcount ws (walk (suc l) H ws old x)) 1) [
    | no c ↦ found_here (suc l) above h A a (omega arith)
    | yes c ↦ subst Found (sym (first_below ws above (walk (suc l) H ws old x) x l c ∙ ap (λ i. first_shared l ws (walk (suc l) H ws old x) i x) (sym (walk_down l H ws old x h))))
        (found_from l (walk (suc l) H ws old x) (omega arith) (alone_at (suc l) h A c) (λ _. refl))
  ]

  found : Found (first_shared H ws old old x)
  found = subst (λ i. Found (first_shared H ws old i x)) top (found_from H old (omega arith) (λ i a b. absurd (omega arith)) (λ b. absurd (omega arith)))

  -- how many nodes are new
  pub rest_by : (Alone H ws old x 0 × (rest H ws old x ≡ 0)) ⊎ ((m : ℕ) × FirstShared H ws old x m × (rest H ws old x ≡ suc m))
  unfolding rest
  rest_by = elim found [ inl w ↦ inl (w.0, w.1) | inr w ↦ inr (w.0, w.1, w.2) ]

  -- the reads follow from the walks
  differs : (y : ℕ) → y < n → y ≢ x → Differ 0 H x y
  differs y b o = go (agree_differ 0 H x y)
    where
      go : Agree 0 H x y ⊎ Differ 0 H x y → Differ 0 H x y
      go (inl g) = absurd (o (sym (sym (mod-eq_of_lt (omega arith)) ∙ agree_low H x y g ∙ mod-eq_of_lt (omega arith))))
      go (inr d) = d

  written : (p : List ℕ × ℕ × ℕ × ℕ) (level' size' : ℕ → ℕ) (fs' : List ℕ) → Live N H n level' size' p.0 p.1 fs' (p.3 ∷ E) → p.2 ≡ length fs'
      → ((e : ℕ) → 0 < count e E → (k y : ℕ) → k ≤ H → y < n → walk k H p.0 e y ≡ walk k H ws e y)
      → ((k y : ℕ) → k ≤ H → y < n → Differ k H x y → walk k H p.0 p.3 y ≡ walk k H ws old y)
      → ((k e y : ℕ) → k ≤ H → y < n → 0 < count e (old ∷ E) → walk k H ws e y ≡ walk k H p.0 p.3 x → (count e E ≡ 0) × Agree k H x y)
      → value p.0 (walk 0 H p.0 p.3 x) ≡ v
      → ((j : ℕ) → j < N → 0 < refcount ws j → j ≢ walk 0 H p.0 p.3 x → value p.0 j ≡ value ws j)
      → ((j : ℕ) → j < N → 0 < refcount ws j → (level' j ≡ level j) × (size' j ≡ size j))
      → length p.0 ≡ length ws → drop (4 * N) p.0 ≡ drop (4 * N) ws → Written N H n level size ws E old x v p
  written p level' size' fs' L' c others olds own vnew vold labels len beyond = record {
    level' = level';
    size' = size';
    fs' = fs';
    live = L';
    counted = c;
    same = λ e q. record {
      nodes = others e q;
      reads = λ y b. (let K = at e y (later e q) b 0 (omega arith) in
          read_at-walk H p.0 e y ∙ ap (value p.0) (others e q 0 y (omega arith) b)
          ∙ vold _ K.inside K.in_use (λ t. omega (arith, (own 0 e y (omega arith) b (later e q) t).0)) ∙ sym (read_at-walk H ws e y));
    };
    old_nodes = olds;
    own = own;
    new_read = read_at-walk H p.0 p.3 x ∙ vnew;
    old_reads = λ y b o.
        let K = at old y old_in b 0 (omega arith) in
        let d = differs y b o in
        read_at-walk H p.0 p.3 y ∙ ap (value p.0) (olds 0 y (omega arith) b d)
        ∙ vold _ K.inside K.in_use (λ t. d.3 ((own 0 old y (omega arith) b old_in t).1 d.0 d.1 d.2)) ∙ sym (read_at-walk H ws old y);
    labels = labels;
    len = len;
    beyond = beyond;
  }

  -- ---- every node of the path has one holder

  module _ (c : k ≡ length fs) (A : Alone H ws old x 0) where
    leaf : Covers N level size ws 0 x (walk 0 H ws old x)
    leaf = on 0 (omega arith)

    whole : Written N H n level size ws E old x v (set_value ws (walk 0 H ws old x) v, free, k, old)
    whole =
        let q = walk 0 H ws old x in
        let ws' = set_value ws q v in
        let walks : (k e y : ℕ) → walk k H ws' e y ≡ walk k H ws e y = (λ k e y. walk_same ws ws' k H e y (λ m _ _ b. (unfold child in cc (set_value-left ws q v (walk m H ws e y), set_value-right ws q v (walk m H ws e y))))) in
        written (ws', free, k, old) level size fs
        (record { inv = inv_value N H level size ws ws' (length-set_value ws q v) q L.inv leaf.in_use leaf.at_level (set_value-refcount ws q v) (set_value-left ws q v) (set_value-right ws q v) (set_value_other ws q v); roots = L.roots })
        c
        (λ e _ k y _ _. walks k e y)
        (λ k y _ _ _. walks k old y)
        (λ k e y h b p t. alone N H n small cover old x L bx k h (λ m a. A m (omega arith)) e y p b (t ∙ walks k old x))
        (ap (value ws') (walks 0 old x) ∙ set_value_is ws q v (omega (arith, L.inv.room, leaf.inside)))
        (λ j _ _ o. set_value_other ws q v j (λ t. o (t ∙ sym (walks 0 old x))))
        (λ j _ _. (refl, refl))
        (length-set_value ws q v)
        (drop-set_value ws q v N leaf.inside)

  -- ---- the node s of level m is the first with more holders, and the path is new from there on

  module _ (m : ℕ) (F : FirstShared H ws old x m) (counted : k ≡ length fs) (enough : m < length fs) (few : length E + N * 2 + 4 < 2 ^ 32) where
    abbrev s : ℕ
    s = walk m H ws old x

    K : Covers N level size ws m x s
    K = on m F.low

    head : (fs₁ : List ℕ) × (fs ≡ free ∷ fs₁) × (free < N) × Chain (left ws) N (left ws free) fs₁
    head = chain_head N (left ws) free fs (omega arith) L.inv.chain

    free_in_lem : free < N
    free_in_lem = head.2

    is_free_lem : refcount ws free ≡ 0
    is_free_lem = δ₀_inv (refcount ws free) (omega (arith, L.inv.listed free free_in_lem, ap (count free) head.1, count_cons free free head.0, δ_same free))

    not_free : (j : ℕ) → 0 < refcount ws j → j ≢ free
    not_free j p e = omega (arith, ap (refcount ws) e, is_free_lem)

    level₁ : ℕ → ℕ
    level₁ = update level free m

    size₁ : ℕ → ℕ
    size₁ = update size free (size s)

    B : Before N H level size ws (free ∷ old ∷ E) x m level₁ size₁ ws free fs s
    unfolding level₁ size₁
    B = record {
      inv = inv_perm (inv_relabel L.inv free m (size s) free_in_lem is_free_lem (omega (arith, free_in_lem)))
          (free ∷ old ∷ E) free (λ i b. omega (arith, count_cons i free (old ∷ E), δ_other i none (omega arith)));
      grows = grows_refl N ws;
      labels = λ j b p. (update_other level free m j (not_free j p), update_other size free (size s) j (not_free j p));
      enough = enough;
      covers = K;
      root_level = update_same level free m;
      root_size = update_same size free (size s);
    }

    -- the words with the new path, which is an outside link
    abbrev P : List ℕ × ℕ
    P = copy_path m ws free s x v

    M : Copied N H level size ws (free ∷ old ∷ E) x v m level₁ size₁ ws free fs s P
    M = path_copied N H small level size ws free fs (old ∷ E) L.inv (free ∷ old ∷ E) (omega arith) x v m level₁ size₁ ws free fs s B

    copies : CopyIn N m ws free s x
    copies = path_in N H small level size ws free fs (old ∷ E) L.inv (free ∷ old ∷ E) (omega arith) x v m level₁ size₁ ws free fs s B

    labels₂ : (j : ℕ) → j < N → 0 < refcount ws j → (M.level' j ≡ level j) × (M.size' j ≡ size j)
    labels₂ j b p = (let q = M.labels j b p in let r = B.labels j b p in (q.0 ∙ r.0, q.1 ∙ r.1))

    new_label : (M.level' free ≡ m) × (M.size' free ≡ size s)
    new_label = (M.root_labels.0 ∙ B.root_level, M.root_labels.1 ∙ B.root_size)

    fewer : k - suc m ≡ length M.fs'
    fewer = omega (arith, M.taken)

    -- a tree of before, after the path is made
    kept : (e : ℕ) → 0 < count e (old ∷ E) → SameTree H n ws P.0 e
    kept e p = same-tree N H n small cover L P.0 M.grows.keeps e p

    -- a node on the way to y, with the new labels
    covers₁ : (i y : ℕ) → Covers N level size ws m y i → Covers N M.level' M.size' P.0 m y i
    covers₁ i y C = (let q = labels₂ i C.inside C.in_use in record {
      inside = C.inside;
      at_level = q.0 ∙ C.at_level;
      among = subst (λ z. y % 2 ^ m < z) (sym q.1) C.among;
      in_use = omega (arith, C.in_use, M.grows.up i C.inside);
    })

    covers_new : (y : ℕ) → Covers N level size ws m y s → Covers N M.level' M.size' P.0 m y free
    covers_new y C = record { inside = free_in_lem; at_level = new_label.0; among = subst (λ z. y % 2 ^ m < z) (sym new_label.1) C.among; in_use = M.in_use }

    root_at_lem : (e : ℕ) → 0 < count e (old ∷ E) → NodeAt N M.level' M.size' H n e
    root_at_lem e p =
        let F = L.roots e p in
        let q = labels₂ e F.inside (used_out L.inv e F.inside (omega (arith, F.inside)) p) in
        record { inside = F.inside; at_level = q.0 ∙ F.at_level; of_size = q.1 ∙ F.of_size }

    -- s has one holder less
    abbrev ws₂ : List ℕ
    ws₂ = set_refcount P.0 s (refcount P.0 s - 1)

    big₁ : 1 < refcount P.0 s
    big₁ = omega (arith, F.shared, M.grows.up s K.inside)

    fell : (j : ℕ) → refcount ws₂ j + δ j s ≡ refcount P.0 j
    fell j = elim (ℕ_discrete j s) [
      | yes e ↦ omega (arith, ap (refcount ws₂) e, set_refcount_is P.0 s (refcount P.0 s - 1) (omega (arith, M.inv.room, K.inside)), ap (refcount P.0) e, ap (λ i. δ i s) e, δ_same s, big₁)
      | no e ↦ omega (arith, set_refcount_other P.0 s (refcount P.0 s - 1) j e, δ_other j s e)
    ]

    same₂ : (j : ℕ) → SameContent P.0 ws₂ j
    same₂ j = set_refcount-content P.0 s (refcount P.0 s - 1) j

    child₂ : (j b : ℕ) → child ws₂ j b ≡ child P.0 j b
    child₂ j b = unfold child in cc ((same₂ j).same_left, (same₂ j).same-right)

    -- a new node was in no tree
    none_new : (i : ℕ) → i ≤ m → (e y : ℕ) → 0 < count e (old ∷ E) → y < n → walk i H ws e y ≡ walk i m P.0 free x → ⊥
    none_new i h e y p b q = omega (arith, (at e y p b i (omega (arith, F.low))).in_use, ap (refcount ws) q, (M.new i x h (agree_refl i m x)).1)

    -- ---- s is the old root

    module _ (whole : m ≡ H) where
      is_old : s ≡ old
      is_old = walk_here m H ws old x (omega arith)

      walks : (i e y : ℕ) → walk i H ws₂ e y ≡ walk i H P.0 e y
      walks i e y = walk_same P.0 ws₂ i H e y (λ j _ _ b. child₂ (walk j H P.0 e y) b)

      S : Released N H M.level' M.size' (free ∷ E) P.0 (ws₂, P.1, k - suc m)
      S = lowered N H small M.level' M.size' P.0 P.1 M.fs' (free ∷ E) s K.inside
          (inv_perm M.inv (s ∷ free ∷ E) none (λ i b. omega (arith, count_cons i free (old ∷ E), count_cons i old E, count_cons i s (free ∷ E), count_cons i free E, ap (δ i) is_old)))
          (k - suc m) fewer big₁

      live-top : Live N H n M.level' M.size' ws₂ P.1 S.fs (free ∷ E)
      live-top = record {
        inv = S.inv;
        roots = λ e p. elim (ℕ_discrete e free) [
          | yes q ↦ subst (NodeAt N M.level' M.size' H n) (sym q) (record { inside = free_in_lem; at_level = new_label.0 ∙ whole; of_size = new_label.1 ∙ ap size is_old ∙ (L.roots old old_in).of_size })
          | no q ↦ root_at_lem e (later e (omega (arith, count_cons e free E, δ_other e free q)))
        ];
      }

      whole_new : Written N H n level size ws E old x v (ws₂, P.1, k - suc m, free)
      whole_new = written (ws₂, P.1, k - suc m, free) M.level' M.size' S.fs live-top S.counted
          (λ e p i y h b. walks i e y ∙ (kept e (later e p)).nodes i y h b)
          (λ i y h b d. walks i free y ∙ subst (λ l. walk i l P.0 free y ≡ walk i l ws old y) whole
          (M.old_walk i y (omega arith) (among_old y b) (d.0, d.1, omega (arith, d.2), d.3) ∙ ap (λ w. walk i m ws w y) is_old))
          (λ i e y h b p q. absurd (none_new i (omega arith) e y p b (q ∙ walks i free x ∙ ap (λ l. walk i l P.0 free x) (sym whole))))
          ((same₂ _).same-value ∙ ap (value P.0) (walks 0 free x ∙ ap (λ l. walk 0 l P.0 free x) (sym whole)) ∙ M.new_value x (agree_refl 0 m x))
          (λ j b p _. (same₂ j).same-value ∙ (M.grows.keeps j b p).same-value)
          labels₂
          (length-set_refcount P.0 s _ ∙ M.grows.len)
          (drop-set_refcount P.0 s _ N K.inside ∙ M.grows.rest)
        where
          among_old : (y : ℕ) → y < n → y % 2 ^ m < size s
          among_old y b = subst (λ l. y % 2 ^ l < size s) (sym whole) (subst (λ w. y % 2 ^ H < size w) (sym is_old) (root_covers N H n small cover L old y old_in b).among)

    -- ---- s is below q, whose link goes to the new path

    module _ (low : m < H) where
      abbrev q : ℕ
      q = walk (suc m) H ws old x

      Q : Covers N level size ws (suc m) x q
      Q = on (suc m) low

      level_q : M.level' q ≡ suc m
      level_q = (labels₂ q Q.inside Q.in_use).0 ∙ Q.at_level

      abbrev ws₃ : List ℕ
      ws₃ = set_link ws₂ q (bit m x) free

      other₃ : (j : ℕ) → j ≢ q → SameContent P.0 ws₃ j
      other₃ j o = content_trans (same₂ j) (set_link_other ws₂ q (bit m x) free j o)

      child_off_q : (j : ℕ) → j ≢ q → (b : ℕ) → child ws₃ j b ≡ child P.0 j b
      child_off_q j o b = (let C = other₃ j o in unfold child in cc (C.same_left, C.same-right))

      -- the links of q
      kept_q : SameContent ws P.0 q
      kept_q = M.grows.keeps q Q.inside Q.in_use

      sibling_q : sibling ws₂ q (bit m x) ≡ sibling ws q (bit m x)
      sibling_q = unfold sibling in cc ((same₂ q).same_left, (same₂ q).same-right, kept_q.same_left, kept_q.same-right)

      room : 4 * q + 4 ≤ length ws₂
      room = omega (arith, M.inv.room, Q.inside, length-set_refcount P.0 s (refcount P.0 s - 1))

      left_q : left ws₃ q ≡ side (bit m x) free (sibling ws q (bit m x))
      left_q = set_link-left ws₂ q (bit m x) free room ∙ ap (side (bit m x) free) sibling_q

      right_q : right ws₃ q ≡ side (bit m x) (sibling ws q (bit m x)) free
      right_q = set_link-right ws₂ q (bit m x) free room ∙ ap (λ i. side (bit m x) i free) sibling_q

      child_q : (b : ℕ) → child ws₃ q b ≡ side b (side (bit m x) free (sibling ws q (bit m x))) (side (bit m x) (sibling ws q (bit m x)) free)
      unfolding child
      child_q b = cc (left_q, right_q)

      s_child : child ws q (bit m x) ≡ s
      s_child = sym (walk_down m H ws old x low)

      links_q : Links N M.level' M.size' (M.level' q) (M.size' q) (left ws₃ q) (right ws₃ q)
      unfolding child sibling
      links_q =
          let l = labels₂ q Q.inside Q.in_use in
          rw (left_q, right_q, level_q, l.1)
          (new_links N level size M.level' M.size' (bit m x) m (size q) (left ws q) (right ws q) free (links_at L.inv q (suc m) Q.inside Q.in_use Q.at_level) free_in_lem new_label.0
          (new_label.1 ∙ ap size (sym s_child))
          (omega (arith, ap size s_child, K.among))
          (λ o. omega (arith, bit_lt m x, low1 m x (omega (arith, bit_lt m x)), Q.among))
          (λ b. labels₂ _ b (sibling_used N H small level size ws free fs (old ∷ E) L.inv (free ∷ old ∷ E) (omega arith) x v m q (bit m x) Q (omega arith)).1))

      moved : (i : ℕ) → δ i (left ws₃ q) + δ i (right ws₃ q) + δ i s ≡ δ i (left P.0 q) + δ i (right P.0 q) + δ i free
      moved i = omega (
        arith,
        ap (δ i) left_q,
        ap (δ i) right_q,
        ap (δ i) kept_q.same_left,
        ap (δ i) kept_q.same-right,
        side-sum (bit m x) free (sibling ws q (bit m x)) i,
        child-sum ws q (bit m x) i,
        ap (δ i) s_child,
      )

      live_low : Live N H n M.level' M.size' ws₃ P.1 M.fs' (old ∷ E)
      live_low = record {
        inv = inv_relink N H M.level' M.size' P.0 ws₃ (length-set_link ws₂ q (bit m x) free ∙ length-set_refcount P.0 s (refcount P.0 s - 1)) q s free M.inv Q.inside
            (omega (arith, Q.in_use, M.grows.up q Q.inside))
            (λ j. omega (arith, set_link-refcount ws₂ q (bit m x) free j, fell j)) big₁ moved other₃ (set_link-value ws₂ q (bit m x) free q ∙ (same₂ q).same-value) links_q;
        roots = root_at_lem;
      }

      -- a walk in a tree of before that does not pass q
      past : (e y : ℕ) → 0 < count e (old ∷ E) → y < n → (i : ℕ) → i ≤ H → (walk (suc m) H ws e y ≡ q → suc m ≤ i) → walk i H ws₃ e y ≡ walk i H ws e y
      past e y p b i h o = walk_same P.0 ws₃ i H e y (λ j a c. child_off_q (walk j H P.0 e y) (λ t.
          let u = sym ((kept e p).nodes j y c b) ∙ t in
          let r : j ≡ suc m = sym (at e y p b j c).at_level ∙ ap level u ∙ Q.at_level in
          omega (arith, o (subst (λ z. walk z H ws e y ≡ q) r u)))) ∙ (kept e p).nodes i y h b

      -- a walk from level m, which is below q
      under : (c y : ℕ) → Covers N M.level' M.size' P.0 m y c → (i : ℕ) → walk i m ws₃ c y ≡ walk i m P.0 c y
      under c y C i = walk_same P.0 ws₃ i m c y (λ j a h. child_off_q (walk j m P.0 c y) (λ t. omega (arith, (covers_walk small M.inv j m y c h C).at_level, ap M.level' t, level_q)))

      -- a walk past q
      through : (y : ℕ) → y < n → Agree (suc m) H x y → (i : ℕ) → i ≤ m → walk i H ws₃ old y ≡ walk i m ws₃ (child ws₃ q (bit m y)) y
      through y b g i h = walk_split i m H ws₃ old y h (omega arith)
          ∙ ap (λ w. walk i m ws₃ w y) (walk_down m H ws₃ old y low ∙ ap (λ w. child ws₃ w (bit m y)) (past old y old_in b (suc m) low (λ _. omega arith) ∙ sym (walk_agree (suc m) H ws old x y g)))

      on_new : (y : ℕ) → y < n → Agree (suc m) H x y → bit m x ≡ bit m y → (i : ℕ) → i ≤ m → walk i H ws₃ old y ≡ walk i m P.0 free y
      on_new y b g e i h = through y b g i h
          ∙ ap (λ w. walk i m ws₃ w y) (ap (child ws₃ q) (sym e) ∙ child_q (bit m x) ∙ side_same (bit m x) free (sibling ws q (bit m x)))
          ∙ under free y (covers_new y (subst (Covers N level size ws m y) (sym (s_too y g e)) (at old y old_in b m (omega arith)))) i
        where
          s_too : (y : ℕ) → Agree (suc m) H x y → bit m x ≡ bit m y → s ≡ walk m H ws old y
          s_too y g e = walk_agree m H ws old x y (one_more m H x y g e)

      old_low : (i y : ℕ) → i ≤ H → y < n → Differ i H x y → walk i H ws₃ old y ≡ walk i H ws old y
      old_low i y h b d = elim (dec_le i m) [
        | no c ↦ past old y old_in b i h (λ _. omega arith)
        | yes c ↦ go c (agree_differ (suc m) H x y)
      ]
        where
          lower : Differ i H x y → Agree (suc m) H x y → bit m x ≡ bit m y → Differ i m x y
          lower d g e = elim (dec_le m d.0) [ yes c ↦ absurd (d.3 (one_more m H x y g e d.0 c d.2)) | no c ↦ (d.0, d.1, omega arith, d.3) ]

          go : i ≤ m → Agree (suc m) H x y ⊎ Differ (suc m) H x y → walk i H ws₃ old y ≡ walk i H ws old y
          go c (inr f) = past old y old_in b i h (λ t. absurd (f.3 ((alone N H n small cover old x L bx (suc m) low (λ j a. F.above j (omega arith)) old y old_in b t).1 f.0 f.1 f.2)))
          go c (inl g) = elim (ℕ_discrete (bit m x) (bit m y)) [
            | yes e ↦ (let w = walk_agree m H ws old x y (one_more m H x y g e) in
                on_new y b g e i c
                ∙ M.old_walk i y c (subst (λ z. y % 2 ^ m < size z) (sym w) (at old y old_in b m (omega arith)).among) (lower d g e)
                ∙ ap (λ z. walk i m ws z y) w ∙ sym (walk_split i m H ws old y c (omega arith)))
            | no e ↦ (let C = at old y old_in b m (omega arith) in
                through y b g i c
                ∙ ap (λ w. walk i m ws₃ w y) (child_q (bit m y) ∙ side_other (bit m x) (bit m y) free (sibling ws q (bit m x)) (bit_lt m x) (bit_lt m y) (λ t. e (sym t))
                ∙ sym (child-sibling ws q (bit m x) (bit m y) (bit_lt m x) (bit_lt m y) (λ t. e (sym t)))
                ∙ ap (λ w. child ws w (bit m y)) (walk_agree (suc m) H ws old x y g) ∙ sym (walk_down m H ws old y low))
                ∙ under (walk m H ws old y) y (covers₁ (walk m H ws old y) y C) i
                ∙ walk_kept small L.inv P.0 M.grows.keeps i m y (walk m H ws old y) C
                ∙ sym (walk_split i m H ws old y c (omega arith)))
          ]

      part_new : Written N H n level size ws E old x v (ws₃, P.1, k - suc m, old)
      part_new = written (ws₃, P.1, k - suc m, old) M.level' M.size' M.fs' live_low fewer
          (λ e p i y h b. past e y (later e p) b i h (λ t. absurd (omega (arith, (alone N H n small cover old x L bx (suc m) low (λ j a. F.above j (omega arith)) e y (later e p) b t).0))))
          old_low
          (λ i e y h b p t. elim (dec_le i m) [
            | yes c ↦ absurd (none_new i c e y p b (t ∙ on_new x bx (agree_refl (suc m) H x) refl i c))
            | no c ↦ alone N H n small cover old x L bx i h (λ j a. F.above j (omega arith)) e y p b (t ∙ past old x old_in bx i h (λ _. omega arith))
          ])
          (values _ ∙ ap (value P.0) (on_new x bx (agree_refl (suc m) H x) refl 0 (omega arith)) ∙ M.new_value x (agree_refl 0 m x))
          (λ j b p _. values j ∙ (M.grows.keeps j b p).same-value)
          labels₂
          (length-set_link ws₂ q (bit m x) free ∙ length-set_refcount P.0 s _ ∙ M.grows.len)
          (drop-set_link ws₂ q (bit m x) free N Q.inside ∙ drop-set_refcount P.0 s _ N K.inside ∙ M.grows.rest)
        where
          values : (j : ℕ) → value ws₃ j ≡ value P.0 j
          values j = set_link-value ws₂ q (bit m x) free j ∙ (same₂ j).same-value

  -- ---- the write

  Goal : List ℕ × ℕ × ℕ × ℕ → Type 0
  Goal p = Written N H n level size ws E old x v p × (p.2 + rest H ws old x ≡ k)

  written_from : k ≡ length fs → rest H ws old x ≤ k → length E + N * 2 + 4 < 2 ^ 32 → (p : ℕ × ℕ × ℕ) → Found p → rest H ws old x ≡ p.0 → Goal (write_from p.0 p.1 p.2 H ws free k old x v)
  unfolding renew write_from Goal
  written_from c enough few (r, i, a) (inl w) e = subst Goal (sym at_leaf) (whole c w.0, omega (arith, e, w.1))
    where
      at_leaf : write_from r i a H ws free k old x v ≡ (set_value ws (walk 0 H ws old x) v, free, k, old)
      at_leaf = rw (w.1, w.2)
  written_from c enough few (r, i, a) (inr w) e = elim (ℕ_discrete w.0 H) [
    | yes t ↦ subst Goal (sym (rw (w.2, w.3) (from_root (walk w.0 H ws old x) a H ws free k old x v w.0 t)))
        (whole_new w.0 w.1 c (omega (arith, e, w.2)) few t, omega (arith, e, w.2))
    | no t ↦ (let low : w.0 < H = omega (arith, w.1.low) in
        subst Goal (sym (rw (w.2, w.3, w.4 low) (from_below (walk w.0 H ws old x) (walk (suc w.0) H ws old x) H ws free k old x v w.0 t)))
        (part_new w.0 w.1 c (omega (arith, e, w.2)) few low, omega (arith, e, w.2)))
  ]

  pub live-write : k ≡ length fs → rest H ws old x ≤ k → length E + N * 2 + 4 < 2 ^ 32 → Written N H n level size ws E old x v (write H ws free k old x v) × ((write H ws free k old x v).2 + rest H ws old x ≡ k)
  unfolding write Goal
  live-write c enough few = written_from c enough few (first_shared H ws old old x) found (unfold rest in refl)

  -- ---- what the code asks: the write meets nodes only

  write_in : k ≡ length fs → rest H ws old x ≤ k → length E + N * 2 + 4 < 2 ^ 32 → (p : ℕ × ℕ × ℕ) → Found p → rest H ws old x ≡ p.0 → WriteIn N H ws free x p
  write_in c enough few p (inl w) e = record {
    within = omega (arith, w.1);
    node = subst (λ i. i < N) (sym w.2) (on 0 (omega arith)).inside;
    above = λ a b. absurd (omega (arith, w.1));
    copies = λ a. absurd (omega (arith, w.1));
  }
  write_in c enough few p (inr w) e = record {
    within = omega (arith, w.2, w.1.low);
    node = subst (λ i. i < N) (sym w.3) (on w.0 w.1.low).inside;
    above = λ a b. (let low : w.0 < H = omega (arith, w.2) in subst (λ i. i < N) (sym (w.4 low)) (on (suc w.0) low).inside);
    copies = λ a.
        let m : p.0 - 1 ≡ w.0 = omega (arith, w.2) in
        subst (λ l. CopyIn N l ws free p.1 x) (sym m) (subst (λ i. CopyIn N w.0 ws free i x) (sym w.3) (copies w.0 w.1 c (omega (arith, e, w.2)) few));
  }

  pub live-write_in : k ≡ length fs → rest H ws old x ≤ k → length E + N * 2 + 4 < 2 ^ 32 → WriteIn N H ws free x (first_shared H ws old old x)
  live-write_in c enough few = write_in c enough few (first_shared H ws old old x) found (unfold rest in refl)
