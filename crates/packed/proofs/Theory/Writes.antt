-- A write in both layouts.
use Rattle.std.specs.Prelude.{◌≡◌, ◌≢◌, ◌⊎◌, length}
use Rattle.std.proofs.Math.Path.{refl, ap, subst}
use Rattle.std.proofs.Common.{sym, inl, inr, arith, eq-eqb, ne_eqb}
use mathlib.Core.List.{List, ◌∷◌}
use Prim.Native.Nat.{ℕ, zero, suc, ◌+◌, ◌-◌, ◌*◌, ◌≤◌, ◌<◌, ◌^◌}
use Rattle.std.proofs.Math.Decide.{ℕ_discrete, dec_le}
use Rattle.words.specs.Basics.{none, Chain, δ, count}
use Rattle.words.specs.Chains.{chain_cong, chain_head}
use Rattle.words.specs.Counting.{δ_same, δ_other, δ₀, δ₀_zero, δ₀_pos, δ₀_inv, count_cons}
use Rattle.sizes.specs.Sizes.{bit}
use Rattle.pool.specs.Pool as Four
use Rattle.pool.specs.Pool.{side}
use Rattle.pool.specs.Links.{Link}
use Rattle.pool.specs.Theory.Changes.{Keeps}
use Rattle.pool.specs.Theory.Invariant.{Invariant, links-left, links-right, links_at, used_left, used_right, refcount_le}
use Rattle.pool.specs.Theory.Nodes.{SameContent, content_refl, content_trans, set_node_other, set_refcount_is, set_refcount_other, set_refcount-content}
use Rattle.pool.specs.Theory.Operations.{Live, root_covers}
use Rattle.pool.specs.Theory.PathNode.{path_node_other, path_node-refcount}
use Rattle.pool.specs.Theory.Walk.{Covers, covers_child}
use Rattle.pool.specs.Theory.Write as FourWrite
use Rattle.packed.specs.Pool.{next_free, child, sibling, set_link, path_node, copy_path, renew, write_from, write}
use Rattle.packed.proofs.Theory.Reads.{child-same, sibling-same, inner-links, leaf_links, unpacks_first}
use Rattle.packed.proofs.Theory.Retain.{unpacks_retain_by}
use Rattle.packed.proofs.Theory.Unpacks.{Unpacks, unpacks_inner, unpacks_leaf, unpacks_refcount, unpacks_value, unpacks_link}

-- the links of a new node
new_in : (N b next p q : ℕ) → next < N → p < N → Link N q → (side b next (side b q p) < N) × Link N (side b (side b q p) next)
unfolding side
new_in N zero next p q bn bp bq = (bn, bq)
new_in N (suc b) next p q bn bp bq = (bp, inl bn)

wide : (N i : ℕ) → N ≤ 16384 → Link N i → (i < 65535) ⊎ (i ≡ none)
wide N i most (inl b) = inl (omega arith)
wide N i most (inr e) = inr e

-- ---- the new path
-- ₀ marks the words before the whole write; a is the first free node of those fs that are left, old the old tree's node of level l

pub record Copying (N : ℕ) (level size : ℕ → ℕ) (ws₀ : List ℕ) (x l : ℕ) (ws : List ℕ) (a : ℕ) (fs : List ℕ) (old : ℕ) : Type 0 where
  pub up : (j : ℕ) → j < N → Four.refcount ws₀ j ≤ Four.refcount ws j
  pub keeps : Keeps N ws₀ ws
  pub chain : Chain (Four.left ws) N a fs
  pub empty : (i : ℕ) → i < N → 0 < count i fs → Four.refcount ws i ≡ 0
  pub once : (i : ℕ) → i < N → count i fs ≤ 1
  pub enough : l < length fs
  pub covers : Covers N level size ws₀ l x old
  -- below level l nothing has gained a holder yet
  pub lower : (j : ℕ) → j < N → 0 < Four.refcount ws₀ j → level j < l → Four.refcount ws j ≡ Four.refcount ws₀ j

-- afterwards: both words, the next free node, and what was in use is as it was
record Copied (N : ℕ) (tail ws₀ : List ℕ) (p q : List ℕ × ℕ) : Type 0 where
  unpacks : Unpacks N tail p.0 q.0
  next-node : p.1 ≡ q.1
  up : (j : ℕ) → j < N → Four.refcount ws₀ j ≤ Four.refcount q.0 j
  keeps : Keeps N ws₀ q.0

-- and with the count of the node that the path stands for
record Renewed (N : ℕ) (tail ws₀ : List ℕ) (p q : List ℕ × ℕ) : Type 0 where
  unpacks : Unpacks N tail p.0 q.0
  next-node : p.1 ≡ q.1
  used : (j : ℕ) → j < N → 0 < Four.refcount ws₀ j → 0 < Four.refcount q.0 j
  keeps : Keeps N ws₀ q.0

module _ (N H : ℕ) (most : N ≤ 16384) (level size : ℕ → ℕ) (ws₀ : List ℕ) (free₀ : ℕ) (fs₀ E : List ℕ) (R₀ : Invariant N H level size ws₀ free₀ fs₀ none E) (few : length E + N * 2 + 2 < 2 ^ 32)
    (tail : List ℕ) (x : ℕ) where
  -- a sibling on the way
  sibling_at : (l old b : ℕ) → Covers N level size ws₀ (suc l) x old → Four.sibling ws₀ old b ≢ none
      → (Four.sibling ws₀ old b < N) × (0 < Four.refcount ws₀ (Four.sibling ws₀ old b)) × (level (Four.sibling ws₀ old b) ≡ l)
  unfolding Four.sibling side
  sibling_at l old zero K o =
      let m = links-right N level size l (size old) (Four.left ws₀ old) (Four.right ws₀ old) (links_at R₀ old (suc l) K.inside K.in_use K.at_level) o in
      (m.0, used_right R₀ old (Four.right ws₀ old) K.inside K.in_use m.0 o refl, m.1)
  sibling_at l old (suc b) K o =
      let m = links-left N level size l (size old) (Four.left ws₀ old) (Four.right ws₀ old) (links_at R₀ old (suc l) K.inside K.in_use K.at_level) in
      (m.0, used_left R₀ old (Four.left ws₀ old) K.inside K.in_use m.0 o refl, m.1)

  -- ---- one level

  module _ (l : ℕ) (ws₂ ws : List ℕ) (a : ℕ) (fs : List ℕ) (old : ℕ) (A : Copying N level size ws₀ x (suc l) ws a (a ∷ fs) old) (U : Unpacks N tail ws₂ ws) where
    K : Covers N level size ws₀ (suc l) x old
    K = A.covers

    in_n : a < N
    in_n = A.chain.1

    z : Four.refcount ws a ≡ 0
    z = A.empty a in_n (omega (arith, count_cons a a fs, δ_same a))

    -- the next free node
    abbrev next : ℕ
    next = Four.left ws a

    pub next-same : next_free ws₂ a ≡ next
    next-same = U.free a in_n z

    next_in : next < N
    next_in = (chain_head N (Four.left ws) next fs (omega (arith, A.enough)) A.chain.2).2

    -- the old node is as it was
    old_same : SameContent ws₀ ws old
    old_same = A.keeps old K.inside K.in_use

    old_used : 0 < Four.refcount ws old
    old_used = omega (arith, K.in_use, A.up old K.inside)

    old_links : (Four.left ws old < N) × Link N (Four.right ws old)
    old_links = (let m = inner-links R₀ l old K.inside K.in_use K.at_level in rw (old_same.same_left, old_same.same-right) m)

    pub old_child : child ws₂ old (bit l x) ≡ Four.child ws old (bit l x)
    old_child = child-same U old K.inside old_used (omega (arith, old_links.0)) (bit l x)

    pub old_sibling : sibling ws₂ old (bit l x) ≡ Four.sibling ws old (bit l x)
    old_sibling = sibling-same U old K.inside old_used (omega (arith, old_links.0)) (bit l x)

    child_before : Four.child ws old (bit l x) ≡ Four.child ws₀ old (bit l x)
    unfolding Four.child
    child_before = cc (old_same.same_left, old_same.same-right)

    sibling_before : Four.sibling ws old (bit l x) ≡ Four.sibling ws₀ old (bit l x)
    unfolding Four.sibling
    sibling_before = cc (old_same.same_left, old_same.same-right)

    abbrev kept : ℕ
    kept = Four.sibling ws old (bit l x)

    kept_at : kept ≢ none → (kept < N) × (0 < Four.refcount ws₀ kept) × (level kept ≡ l)
    kept_at = subst (λ q. q ≢ none → (q < N) × (0 < Four.refcount ws₀ q) × (level q ≡ l)) (sym sibling_before) (sibling_at l old (bit l x) K)

    pub kept_link : Link N kept
    kept_link = elim (ℕ_discrete kept none) [ yes e ↦ inr e | no e ↦ inl (kept_at e).0 ]

    -- its count: one more fits in a word
    kept_count : kept ≢ none → (0 < Four.refcount ws kept) × (Four.refcount ws kept + 2 < 2 ^ 32) × (kept ≢ a)
    kept_count o =
        let m = kept_at o in
        let c = A.lower kept m.0 m.1 (omega (arith, m.2)) in
        (omega (arith, m.1), omega (arith, refcount_le R₀ kept m.0), λ e. omega (arith, m.1, z, ap (Four.refcount ws) e))

    abbrev ws' : List ℕ
    ws' = Four.path_node ws a (bit l x) next kept

    -- the words with one node of the path more
    pub step_unpacks : Unpacks N tail (path_node ws₂ a (bit l x) next kept) ws'
    unfolding path_node Four.path_node
    step_unpacks =
        let b = bit l x in
        let s = new_sides in
        let U₁ = unpacks_inner U a in_n 1 (side b next kept) (side b kept next) 0 (omega arith) (omega (arith, s.0)) (wide N (side b kept next) most s.1) in
        unpacks_retain_by U₁ kept (λ o.
        let c = kept_count o in
        let e = (set_node_other ws a kept 1 (side b next kept) (side b kept next) 0 c.2).same-refcount in
        ((kept_at o).0, omega (arith, c.0), omega (arith, c.1)))
      where
        new_sides : (side (bit l x) next kept < N) × Link N (side (bit l x) kept next)
        new_sides = unfold Four.sibling in new_in N (bit l x) next (Four.left ws old) (Four.right ws old) next_in old_links.0 old_links.1

    room₄ : 4 * N ≤ length ws
    room₄ = U.room

    grown : (j : ℕ) → j < N → Four.refcount ws' j ≡ Four.refcount ws j + δ j a + δ j kept
    grown j b = path_node-refcount N (omega arith) ws room₄ a (bit l x) next kept in_n z (λ q. (kept_count (omega arith)).1) j b

    other : (j : ℕ) → j ≢ a → SameContent ws ws' j
    other j o = path_node_other N (omega arith) ws room₄ a (bit l x) next kept in_n z j o

    -- what is in use is not a
    not_a : (j : ℕ) → j < N → 0 < Four.refcount ws₀ j → j ≢ a
    not_a j b p e = omega (arith, A.up j b, ap (Four.refcount ws) e, z)

    -- a free node that is left is neither a nor kept
    left_over : (j : ℕ) → j < N → 0 < count j fs → (j ≢ a) × (j ≢ kept) × (Four.refcount ws j ≡ 0)
    left_over j b p =
        let e = A.empty j b (omega (arith, count_cons j a fs)) in
        (λ t. omega (arith, A.once j b, count_cons j a fs, ap (δ j) (sym t), δ_same j), λ t. omega (arith, ap (Four.refcount ws) t, (kept_count (omega arith)).0), e)

    pub step_copying : Copying N level size ws₀ x l ws' next fs (Four.child ws old (bit l x))
    step_copying = record {
      up = λ j b. omega (arith, A.up j b, grown j b);
      keeps = λ j b p. content_trans (A.keeps j b p) (other j (not_a j b p));
      chain = chain_cong N (Four.left ws) (Four.left ws') fs next (λ j b p. (other j (left_over j b p).0).same_left) A.chain.2;
      empty = λ j b p. (let m = left_over j b p in omega (arith, grown j b, δ_other j a m.0, δ_other j kept m.1, m.2));
      once = λ j b. omega (arith, A.once j b, count_cons j a fs);
      enough = omega (arith, A.enough);
      covers = subst (Covers N level size ws₀ l x) (sym child_before) (covers_child (omega arith) R₀ l x old K);
      lower = λ j b p h. omega (arith, grown j b, δ_other j a (not_a j b p), δ_other j kept (λ e. omega (arith, (kept_at (omega arith)).2, ap level e)), A.lower j b p (omega arith));
    }

  -- ---- the whole path

  -- the free list begins with a
  pub at_head : (l : ℕ) (ws : List ℕ) (a : ℕ) (fs : List ℕ) (old : ℕ) → Copying N level size ws₀ x l ws a fs old → (fs' : List ℕ) × Copying N level size ws₀ x l ws a (a ∷ fs') old
  at_head l ws a fs old A =
      let c = chain_head N (Four.left ws) a fs (omega (arith, A.enough)) A.chain in
      (c.0, subst (λ q. Copying N level size ws₀ x l ws a q old) c.1 A)

  path_same : (v l : ℕ) (ws₂ ws : List ℕ) (a : ℕ) (fs : List ℕ) (old : ℕ) → Copying N level size ws₀ x l ws a fs old → Unpacks N tail ws₂ ws
      → Copied N tail ws₀ (copy_path l ws₂ a old x v) (Four.copy_path l ws a old x v)
  unfolding copy_path Four.copy_path
  path_same v zero ws₂ ws a fs old A U =
      let c = at_head 0 ws a fs old A in
      let b = c.1.chain.1 in
      let z = c.1.empty a b (omega (arith, count_cons a a c.0, δ_same a)) in
      let ne : (j : ℕ) → j < N → 0 < Four.refcount ws₀ j → j ≢ a = (λ j h p e. omega (arith, A.up j h, ap (Four.refcount ws) e, z)) in
      record {
        unpacks = unpacks_leaf U a b 1 none v (omega arith);
        next-node = U.free a b z;
        up = λ j h. elim (ℕ_discrete j a) [
          | yes e ↦ omega (arith, A.up j h, ap (Four.refcount ws) e, z)
          | no e ↦ omega (arith, A.up j h, (set_node_other ws a j 1 none none v e).same-refcount)
        ];
        keeps = λ j h p. content_trans (A.keeps j h p) (set_node_other ws a j 1 none none v (ne j h p)).content;
      }
  path_same v (suc l) ws₂ ws a fs old A U =
      let c = at_head (suc l) ws a fs old A in
      let B = c.1 in
      rw (next-same l ws₂ ws a c.0 old B U, old_sibling l ws₂ ws a c.0 old B U, old_child l ws₂ ws a c.0 old B U)
      (path_same v l (path_node ws₂ a (bit l x) (Four.left ws a) (Four.sibling ws old (bit l x))) (Four.path_node ws a (bit l x) (Four.left ws a) (Four.sibling ws old (bit l x))) (Four.left ws a) c.0
      (Four.child ws old (bit l x)) (step_copying l ws₂ ws a c.0 old B U) (step_unpacks l ws₂ ws a c.0 old B U))

-- ---- the branches of the write

module _ (i above h : ℕ) (ws : List ℕ) (free k root x v : ℕ) where
  pub from_root : (m : ℕ) → m ≡ h → write_from (suc m) i above h ws free k root x v ≡ (let p : List ℕ × ℕ = renew m ws free i x v in (p.0, p.1, k - suc m, free))
  unfolding write_from
  from_root m e = rw (eq-eqb m h e, write_from)

  pub from_below : (m : ℕ) → m ≢ h → write_from (suc m) i above h ws free k root x v ≡ (let p : List ℕ × ℕ = renew m ws free i x v in (set_link p.0 above (bit m x) free, p.1, k - suc m, root))
  unfolding write_from
  from_below m e = rw (ne_eqb m h e, write_from)

-- ---- where the walk of a write ends: at the leaf with no node shared; or at the first node that is, of level m, below the node above

pub record Shared (N H : ℕ) (level size : ℕ → ℕ) (ws : List ℕ) (x m : ℕ) (p : ℕ × ℕ × ℕ) : Type 0 where
  pub low : m ≤ H
  pub many : p.0 ≡ suc m
  pub node : Covers N level size ws m x p.1
  pub held : 1 < Four.refcount ws p.1
  pub above : m < H → Covers N level size ws (suc m) x p.2

abbrev pub Ends : ℕ → ℕ → (ℕ → ℕ) → (ℕ → ℕ) → List ℕ → ℕ → ℕ × ℕ × ℕ → Type 0
Ends N H level size ws x p = ((p.0 ≡ 0) × Covers N level size ws 0 x p.1) ⊎ ((m : ℕ) × Shared N H level size ws x m p)

ends_from_lem : {N H : ℕ} → N ≤ none → {level size : ℕ → ℕ} {ws : List ℕ} {free : ℕ} {fs E : List ℕ} → Invariant N H level size ws free fs none E
    → (l x above i : ℕ) → l ≤ H → Covers N level size ws l x i → (l < H → Covers N level size ws (suc l) x above) → Ends N H level size ws x (Four.first_shared l ws above i x)
ends_from_lem {N} {H} small {level} {size} {ws} R zero x above i h K a = elim (dec_le (Four.refcount ws i) 1) [
  | yes c ↦ subst (Ends N H level size ws x) (sym (FourWrite.first-none ws above i x c)) (inl (refl, K))
  | no c ↦ subst (Ends N H level size ws x) (sym (FourWrite.first_here ws above i x 0 (omega arith))) (inr (0, record { low = h; many = refl; node = K; held = omega arith; above = a }))
]
ends_from_lem {N} {H} small {level} {size} {ws} R (suc l) x above i h K a = elim (dec_le (Four.refcount ws i) 1) [
  | yes c ↦ subst (Ends N H level size ws x) (sym (FourWrite.first_below ws above i x l c))
      (ends_from_lem small R l x i (Four.child ws i (bit l x)) (omega arith) (covers_child small R l x i K) (λ _. K))
  | no c ↦ subst (Ends N H level size ws x) (sym (FourWrite.first_here ws above i x (suc l) (omega arith))) (inr (suc l, record { low = h; many = refl; node = K; held = omega arith; above = a }))
]

module _ (N H n : ℕ) (most : N ≤ 16384) (cover : n ≤ 2 ^ H) {level size : ℕ → ℕ} {tail ws₂ ws₄ : List ℕ} {free : ℕ} {fs E : List ℕ} (L : Live N H n level size ws₄ free fs E) (U : Unpacks N tail ws₂ ws₄) where
  -- of the walk from a live root
  pub ends : (e x : ℕ) → 0 < count e E → x < n → Ends N H level size ws₄ x (Four.first_shared H ws₄ e e x)
  ends e x p b = ends_from_lem (omega arith) L.inv H x e e (omega arith) (root_covers N H n (omega arith) cover L e x p b) (λ h. absurd (omega arith))

  -- the path is new from level m on
  pub start_copying : (m x i : ℕ) → Covers N level size ws₄ m x i → m < length fs → Copying N level size ws₄ x m ws₄ free fs i
  start_copying m x i K h = record {
    up = λ j b. omega arith;
    keeps = λ j _ _. content_refl ws₄ j;
    chain = L.inv.chain;
    empty = λ j b p. δ₀_inv (Four.refcount ws₄ j) (omega (arith, L.inv.listed j b, one (Four.refcount ws₄ j)));
    once = λ j b. omega (arith, L.inv.listed j b, one (Four.refcount ws₄ j));
    enough = h;
    covers = K;
    lower = λ j _ _ _. refl;
  }
    where
      one : (c : ℕ) → δ₀ c ≤ 1
      one c = elim (ℕ_discrete c 0) [ yes e ↦ omega (arith, δ₀_zero c e) | no e ↦ omega (arith, δ₀_pos c (omega arith)) ]

  -- ---- the write, where the walk ended

  abbrev Both : List ℕ × ℕ × ℕ × ℕ → List ℕ × ℕ × ℕ × ℕ → Type 0
  Both p q = Unpacks N tail p.0 q.0 × (p.1 ≡ q.1) × (p.2 ≡ q.2) × (p.3 ≡ q.3)

  -- the new path, in the place of node i
  renewed : length E + N * 2 + 2 < 2 ^ 32 → (m x i v : ℕ) → Covers N level size ws₄ m x i → 1 < Four.refcount ws₄ i → m < length fs
      → Renewed N tail ws₄ (renew m ws₂ free i x v) (Four.renew m ws₄ free i x v)
  unfolding renew Four.renew
  renewed few m x i v K c h = record {
    unpacks = rw (C.unpacks.counts i K.inside) (unpacks_refcount C.unpacks i K.inside (Four.refcount Q.0 i - 1) (omega (arith, big)) (omega (arith, big)));
    next-node = C.next-node;
    used = λ j b p. elim (ℕ_discrete j i) [
      | yes e ↦ subst (λ j. 0 < Four.refcount ws' j) (sym e) (omega (arith, big, set_refcount_is Q.0 i (Four.refcount Q.0 i - 1) (omega (arith, C.unpacks.room, K.inside))))
      | no e ↦ omega (arith, C.up j b, set_refcount_other Q.0 i (Four.refcount Q.0 i - 1) j e)
    ];
    keeps = λ j b p. content_trans (C.keeps j b p) (set_refcount-content Q.0 i (Four.refcount Q.0 i - 1) j);
  }
    where
      Q : List ℕ × ℕ
      Q = Four.copy_path m ws₄ free i x v

      ws' : List ℕ
      ws' = Four.set_refcount Q.0 i (Four.refcount Q.0 i - 1)

      C : Copied N tail ws₄ (copy_path m ws₂ free i x v) Q
      C = path_same N H most level size ws₄ free fs E L.inv few tail x v m ws₂ ws₄ free fs i (start_copying m x i K h) U

      big : 1 < Four.refcount Q.0 i
      big = omega (arith, C.up i K.inside)

  -- the link to it
  linked : (m x above : ℕ) (p q : List ℕ × ℕ) → Renewed N tail ws₄ p q → Covers N level size ws₄ (suc m) x above → 0 < length fs → Unpacks N tail (set_link p.0 above (bit m x) free) (Four.set_link q.0 above (bit m x) free)
  linked m x above p q W K h =
      let c = chain_head N (Four.left ws₄) free fs h L.inv.chain in
      let S = W.keeps above K.inside K.in_use in
      let k = inner-links L.inv m above K.inside K.in_use K.at_level in
      unpacks_link W.unpacks above K.inside (bit m x) free (W.used above K.inside K.in_use) (omega (arith, S.same_left, k.0))
      (wide N (Four.right q.0 above) most (subst (Link N) (sym S.same-right) k.1)) (omega (arith, c.2))

  write_from_lem : length E + N * 2 + 2 < 2 ^ 32 → (k e x v : ℕ) → k ≡ length fs → (p : ℕ × ℕ × ℕ) → p.0 ≤ k → Ends N H level size ws₄ x p
      → Both (write_from p.0 p.1 p.2 H ws₂ free k e x v) (Four.write_from p.0 p.1 p.2 H ws₄ free k e x v)
  unfolding write_from Four.write_from
  write_from_lem few k e x v c (r, i, a) h (inl w) = subst (λ r. Both (write_from r i a H ws₂ free k e x v) (Four.write_from r i a H ws₄ free k e x v)) (sym w.0)
      (let K = w.1 in (unpacks_value U i K.inside v K.in_use (leaf_links L.inv i K.inside K.in_use K.at_level), refl, refl, refl))
  write_from_lem few k e x v c (r, i, a) h (inr (m, S)) =
      let W = renewed few m x i v S.node S.held (omega (arith, S.many)) in
      subst (λ r. Both (write_from r i a H ws₂ free k e x v) (Four.write_from r i a H ws₄ free k e x v)) (sym S.many)
      (elim (ℕ_discrete m H) [
        | yes t ↦ rw (from_root i a H ws₂ free k e x v m t, FourWrite.from_root i a H ws₄ free k e x v m t) (W.unpacks, W.next-node, refl, refl)
        | no t ↦ rw (from_below i a H ws₂ free k e x v m t, FourWrite.from_below i a H ws₄ free k e x v m t)
            (linked m x a (renew m ws₂ free i x v) (Four.renew m ws₄ free i x v) W (S.above (omega (arith, S.low))) (omega (arith, S.many)), W.next-node, refl, refl)
      ])

  -- a write to a live frame's tree
  write_same : length E + N * 2 + 2 < 2 ^ 32 → (k e x v : ℕ) → k ≡ length fs → 0 < count e E → x < n → Four.rest H ws₄ e x ≤ k → Both (write H ws₂ free k e x v) (Four.write H ws₄ free k e x v)
  unfolding write Four.write Four.rest
  write_same few k e x v c p b enough = rw (unpacks_first N H n most cover L U e x p b) (write_from_lem few k e x v c (Four.first_shared H ws₄ e e x) enough (ends e x p b))

-- the frame that writes first among the roots
pub unpacks_write : (N H n : ℕ) → N ≤ 16384 → n ≤ 2 ^ H → {level size : ℕ → ℕ} {tail ws₂ ws₄ : List ℕ} {free : ℕ} {fs : List ℕ} (k root : ℕ) (E : List ℕ) (x v : ℕ)
    → Live N H n level size ws₄ free fs (root ∷ E) → Unpacks N tail ws₂ ws₄ → x < n → k ≡ length fs → Four.rest H ws₄ root x ≤ k → length E + N * 2 + 4 < 2 ^ 32
    → Unpacks N tail (write H ws₂ free k root x v).0 (Four.write H ws₄ free k root x v).0 × ((write H ws₂ free k root x v).1 ≡ (Four.write H ws₄ free k root x v).1)
    × ((write H ws₂ free k root x v).2 ≡ (Four.write H ws₄ free k root x v).2) × ((write H ws₂ free k root x v).3 ≡ (Four.write H ws₄ free k root x v).3)
unpacks_write N H n most cover k root E x v L U b c enough few = write_same N H n most cover L U (omega arith) k root x v c (omega (arith, count_cons root root E, δ_same root)) b enough
