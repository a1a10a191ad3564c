-- The write's new path: it keeps the invariant and the old trees, and leads to the old leaves but for one.
use Rattle.std.specs.Prelude.{◌≡◌, ◌≢◌, length}
use Rattle.std.proofs.Math.Path.{refl, subst}
use Rattle.std.proofs.Common.{sym, ap, ◌∙◌, arith}
use Rattle.std.proofs.Math.Logic.{inl, inr}
use mathlib.Core.List.{List, ◌∷◌}
use Prim.Native.Nat.{ℕ, zero, suc, ◌+◌, ◌-◌, ◌*◌, ◌≤◌, ◌<◌, ◌^◌, ◌%◌, min}
use Rattle.std.proofs.Math.Decide.{ℕ_discrete, dec_le}
use Rattle.words.specs.Basics.{none, Chain, δ, count}
use Rattle.words.specs.Chains.{chain_head}
use Rattle.words.specs.Counting.{δ_same, δ_other, δ_eq, δ₀_zero, δ₀_inv, count_cons}
use Rattle.sizes.specs.Bits.{bit_lt, low1, Agree, Differ}
use Rattle.sizes.specs.Sizes.{bit}
use Rattle.pool.specs.Pool.{refcount, left, right, value, set_node, side, child, sibling, path_node, copy_path}
use Rattle.pool.specs.Links.{CopyIn}
use Rattle.pool.specs.Theory.Changes.{Grows, grows_trans}
use Rattle.pool.specs.Theory.Invariant.{Links, Invariant, node_at_cong, right_at_cong, right_at_node, node_right_at, links-left, links-right, used_left, used_right, refcount_le, links_at}
use Rattle.pool.specs.Theory.Nodes.{NodeIs, SameContent, length-set_node, drop-set_node, set_node_is, set_node_other}
use Rattle.pool.specs.Theory.PathNode.{side-sum, side_same, side_other, child-sibling, path_node-length, path_node-rest, path_node-left, path_node-right, path_node-value, path_node_other, path_node-refcount}
use Rattle.pool.specs.Theory.Take.{update, update_same, update_other, inv_relabel, inv_take, take_grows}
use Rattle.pool.specs.Theory.Walk.{walk, walk_go, walk_here, Covers, covers_child, walk_kept}

-- ---- before and after a call
-- ₀ marks the words and the labels before the whole write; a is the first free node, old the old tree's node of level l

pub record Before (N H : ℕ) (level₀ size₀ : ℕ → ℕ) (ws₀ E : List ℕ) (x l : ℕ) (level size : ℕ → ℕ) (ws : List ℕ) (a : ℕ) (fs : List ℕ) (old : ℕ) : Type 0 where
  pub inv : Invariant N H level size ws a fs a E
  pub grows : Grows N ws₀ ws
  pub labels : (j : ℕ) → j < N → 0 < refcount ws₀ j → (level j ≡ level₀ j) × (size j ≡ size₀ j)
  pub enough : l < length fs
  pub covers : Covers N level₀ size₀ ws₀ l x old
  pub root_level : level a ≡ l
  pub root_size : size a ≡ size₀ old

pub record Copied (N H : ℕ) (level₀ size₀ : ℕ → ℕ) (ws₀ E : List ℕ) (x v l : ℕ) (level size : ℕ → ℕ) (ws : List ℕ) (a : ℕ) (fs : List ℕ) (old : ℕ) (p : List ℕ × ℕ) : Type 0 where
  pub level' : ℕ → ℕ
  pub size' : ℕ → ℕ
  pub fs' : List ℕ
  pub inv : Invariant N H level' size' p.0 p.1 fs' none E
  pub grows : Grows N ws p.0
  pub labels : (j : ℕ) → j < N → 0 < refcount ws j → (level' j ≡ level j) × (size' j ≡ size j)
  pub root_labels : (level' a ≡ level a) × (size' a ≡ size a)
  pub inside : a < N
  pub in_use : 0 < refcount p.0 a
  pub taken : length fs' + suc l ≡ length fs
  -- the nodes on the way to x are new, with v at the end; where the way parts from it, the old ones
  pub new : (k y : ℕ) → k ≤ l → Agree k l x y → (walk k l p.0 a y < N) × (refcount ws (walk k l p.0 a y) ≡ 0) × (level' (walk k l p.0 a y) ≡ k)
  pub new_value : (y : ℕ) → Agree 0 l x y → value p.0 (walk 0 l p.0 a y) ≡ v
  pub old_walk : (k y : ℕ) → k ≤ l → y % 2 ^ l < size₀ old → Differ k l x y → walk k l p.0 a y ≡ walk k l ws₀ old y

-- the links of the new node: the labels change at no node that was in use
pub new_links : (N : ℕ) (level₀ size₀ level₁ size₁ : ℕ → ℕ) (b l t p q n : ℕ) → Links N level₀ size₀ (suc l) t p q → n < N → level₁ n ≡ l → size₁ n ≡ size₀ (side b p q) → 0 < size₀ (side b p q)
    → (b ≢ 0 → 2 ^ l < t)
    → (side b q p < N → (level₁ (side b q p) ≡ level₀ (side b q p)) × (size₁ (side b q p) ≡ size₀ (side b q p)))
    → Links N level₁ size₁ (suc l) t (side b n (side b q p)) (side b (side b q p) n)
unfolding Links side
new_links N level₀ size₀ level₁ size₁ zero l t p q n K in_n e f g hb h =
    (record { inside = in_n; at_level = e; of_size = f ∙ K.0.of_size }, right_at_cong N level₀ size₀ level₁ size₁ l (t - 2 ^ l) q h K.1)
new_links N level₀ size₀ level₁ size₁ (suc b) l t p q n K in_n e f g hb h =
    let c : 2 ^ l < t = hb (omega arith) in
    let F = right_at_node N level₀ size₀ l (t - 2 ^ l) q (omega arith) K.1 in
    let m = h K.0.inside in (
      node_at_cong N level₀ size₀ level₁ size₁ l (min t (2 ^ l)) p m.0 m.1 K.0,
      node_right_at N level₁ size₁ l (t - 2 ^ l) n (omega arith) (record { inside = in_n; at_level = e; of_size = f ∙ F.of_size }),
    )

module _ (N H : ℕ) (small : N ≤ none) (level₀ size₀ : ℕ → ℕ) (ws₀ : List ℕ) (free₀ : ℕ) (fs₀ E₀ : List ℕ) (R₀ : Invariant N H level₀ size₀ ws₀ free₀ fs₀ none E₀)
    (E : List ℕ) (few : length E + N * 2 + 2 < 2 ^ 32) (x v : ℕ) where
  -- the links of an old node, in the pool as it was
  old_links : (l old : ℕ) → Covers N level₀ size₀ ws₀ l x old → Links N level₀ size₀ l (size₀ old) (left ws₀ old) (right ws₀ old)
  old_links l old K = links_at R₀ old l K.inside K.in_use K.at_level

  pub sibling_used : (l old b : ℕ) → Covers N level₀ size₀ ws₀ (suc l) x old → sibling ws₀ old b ≢ none → (sibling ws₀ old b < N) × (0 < refcount ws₀ (sibling ws₀ old b))
  unfolding sibling side
  sibling_used l old zero K o =
      let m = links-right N level₀ size₀ l (size₀ old) (left ws₀ old) (right ws₀ old) (old_links (suc l) old K) o in
      (m.0, used_right R₀ old (right ws₀ old) K.inside K.in_use m.0 o refl)
  sibling_used l old (suc b) K o =
      let m = links-left N level₀ size₀ l (size₀ old) (left ws₀ old) (right ws₀ old) (old_links (suc l) old K) in
      (m.0, used_left R₀ old (left ws₀ old) K.inside K.in_use m.0 o refl)

  -- ---- the leaf

  leaf_copied : (level size : ℕ → ℕ) (ws : List ℕ) (a : ℕ) (fs : List ℕ) (old : ℕ) → Before N H level₀ size₀ ws₀ E x 0 level size ws a (a ∷ fs) old
      → Copied N H level₀ size₀ ws₀ E x v 0 level size ws a (a ∷ fs) old (set_node ws a 1 none none v, left ws a)
  unfolding walk
  leaf_copied level size ws a fs old A = record {
    level' = level;
    size' = size;
    fs' = fs;
    inv = inv_take N H level size ws ws' ln a none none none none A.inv grown held (λ k b. refl) K.left_is K.right_is other lk tp va;
    grows = take_grows N H level size ws ws' ln a none none none none A.inv grown held (λ k b. refl) K.left_is K.right_is other lk tp va (drop-set_node ws a 1 none none v N in_n);
    labels = λ j b p. (refl, refl);
    root_labels = (refl, refl);
    inside = in_n;
    in_use = omega (arith, K.refcount_is);
    taken = omega arith;
    new = λ k y h g. (in_n, z, A.root_level ∙ omega arith);
    new_value = λ y g. K.value_is;
    old_walk = λ k y h p d. absurd (omega (arith, d.2));
  }
    where
      ws' : List ℕ
      ws' = set_node ws a 1 none none v

      ln : length ws' ≡ length ws
      ln = length-set_node ws a 1 none none v

      in_n : a < N
      in_n = A.inv.chain.1

      K : NodeIs ws' a 1 none none v
      K = set_node_is ws a 1 none none v (omega (arith, A.inv.room))

      other : (j : ℕ) → j ≢ a → SameContent ws ws' j
      other j o = (set_node_other ws a j 1 none none v o).content

      z : refcount ws a ≡ 0
      z = δ₀_inv (refcount ws a) (omega (arith, A.inv.listed a in_n, count_cons a a fs, δ_same a))

      grown : (k : ℕ) → k < N → refcount ws' k ≡ refcount ws k + δ k a + δ k none
      grown k b = elim (ℕ_discrete k a) [
        | yes e ↦ omega (arith, ap (refcount ws') e, K.refcount_is, ap (refcount ws) e, ap (λ q. δ q a) e, δ_same a, z, δ_other k none (omega arith))
        | no e ↦ omega (arith, (set_node_other ws a k 1 none none v e).same-refcount, δ_other k a e, δ_other k none (omega arith))
      ]

      held : (k : ℕ) → k < N → 0 < δ k none → 0 < refcount ws k
      held k b p = omega (arith, δ_other k none (omega arith))

      lk : Links N level size (level a) (size a) none none
      lk = rw A.root_level (unfold Links in (A.root_size ∙ (old_links 0 old A.covers).0, refl, refl))

      tp : level a ≤ H
      tp = omega (arith, A.root_level)

      va : 0 < level a → value ws' a ≡ 0
      va q = absurd (omega (arith, A.root_level))

  -- ---- one level: the call below, and what it gives

  module _ (l : ℕ) (level size : ℕ → ℕ) (ws : List ℕ) (a : ℕ) (fs : List ℕ) (old : ℕ) (A : Before N H level₀ size₀ ws₀ E x (suc l) level size ws a (a ∷ fs) old) where
    K : Covers N level₀ size₀ ws₀ (suc l) x old
    K = A.covers

    in_n : a < N
    in_n = A.inv.chain.1

    z : refcount ws a ≡ 0
    z = δ₀_inv (refcount ws a) (omega (arith, A.inv.listed a in_n, count_cons a a fs, δ_same a))

    -- the next free node
    next_head : (fs₂ : List ℕ) × (fs ≡ left ws a ∷ fs₂) × (left ws a < N) × Chain (left ws) N (left ws (left ws a)) fs₂
    next_head = chain_head N (left ws) (left ws a) fs (omega (arith, A.enough)) A.inv.chain.2

    next_in : left ws a < N
    next_in = next_head.2

    next_listed : 0 < count (left ws a) fs
    next_listed = subst (λ q. 0 < count (left ws a) q) (sym next_head.1) (omega (arith, count_cons (left ws a) (left ws a) next_head.0, δ_same (left ws a)))

    next_free_lem : refcount ws (left ws a) ≡ 0
    next_free_lem = δ₀_inv (refcount ws (left ws a)) (omega (arith, A.inv.listed (left ws a) next_in, count_cons (left ws a) a fs, next_listed))

    next_ne : left ws a ≢ a
    next_ne e = omega (arith, next_listed, ap (λ q. count q fs) e, A.inv.listed a in_n, count_cons a a fs, δ_same a, δ₀_zero (refcount ws a) z)

    -- the links read from the pool are those of the pool as it was
    old_same : SameContent ws₀ ws old
    old_same = A.grows.keeps old K.inside K.in_use

    child-same : child ws old (bit l x) ≡ child ws₀ old (bit l x)
    unfolding child
    child-same = cc (old_same.same_left, old_same.same-right)

    sibling-same : sibling ws old (bit l x) ≡ sibling ws₀ old (bit l x)
    unfolding sibling
    sibling-same = cc (old_same.same_left, old_same.same-right)

    K₁ : Covers N level₀ size₀ ws₀ l x (child ws old (bit l x))
    K₁ = subst (λ q. Covers N level₀ size₀ ws₀ l x q) (sym child-same) (covers_child small R₀ l x old K)

    kept_used : sibling ws old (bit l x) ≢ none → (sibling ws old (bit l x) < N) × (0 < refcount ws₀ (sibling ws old (bit l x)))
    kept_used = subst (λ q. q ≢ none → (q < N) × (0 < refcount ws₀ q)) (sym sibling-same) (sibling_used l old (bit l x) K)

    held : (k : ℕ) → k < N → 0 < δ k (sibling ws old (bit l x)) → 0 < refcount ws k
    held k b p =
        let e = δ_eq k (sibling ws old (bit l x)) p in
        let m = kept_used (omega arith) in
        omega (arith, m.1, A.grows.up (sibling ws old (bit l x)) m.0, ap (refcount ws) e)

    -- the next node gets the labels of the old child
    level₁ : ℕ → ℕ
    level₁ = update level (left ws a) l

    size₁ : ℕ → ℕ
    size₁ = update size (left ws a) (size₀ (child ws old (bit l x)))

    R₁ : Invariant N H level₁ size₁ ws a (a ∷ fs) a E
    unfolding level₁ size₁
    R₁ = inv_relabel A.inv (left ws a) l (size₀ (child ws old (bit l x))) next_in next_free_lem next_ne

    other_label : (j : ℕ) → j ≢ left ws a → (level₁ j ≡ level j) × (size₁ j ≡ size j)
    unfolding level₁ size₁
    other_label j o = (update_other level (left ws a) l j o, update_other size (left ws a) (size₀ (child ws old (bit l x))) j o)

    next_label : (level₁ (left ws a) ≡ l) × (size₁ (left ws a) ≡ size₀ (child ws old (bit l x)))
    unfolding level₁ size₁
    next_label = (update_same level (left ws a) l, update_same size (left ws a) (size₀ (child ws old (bit l x))))

    labels₁ : (j : ℕ) → j < N → 0 < refcount ws₀ j → (level₁ j ≡ level₀ j) × (size₁ j ≡ size₀ j)
    labels₁ j b p =
        let m = other_label j (λ e. omega (arith, ap (refcount ws) e, next_free_lem, A.grows.up j b)) in
        let q = A.labels j b p in (m.0 ∙ q.0, m.1 ∙ q.1)

    lk : Links N level₁ size₁ (level₁ a) (size₁ a) (side (bit l x) (left ws a) (sibling ws old (bit l x))) (side (bit l x) (sibling ws old (bit l x)) (left ws a))
    unfolding child sibling
    lk =
        let m = other_label a (λ e. next_ne (sym e)) in
        rw (m.0 ∙ A.root_level, m.1 ∙ A.root_size)
        (new_links N level₀ size₀ level₁ size₁ (bit l x) l (size₀ old) (left ws old) (right ws old) (left ws a) (rw (old_same.same_left, old_same.same-right) (old_links (suc l) old K)) next_in next_label.0 next_label.1
        (omega (arith, K₁.among))
        (λ o. omega (arith, bit_lt l x, low1 l x (omega (arith, bit_lt l x)), K.among))
        (λ q. labels₁ _ q (kept_used (omega arith)).1))

    ws' : List ℕ
    ws' = path_node ws a (bit l x) (left ws a) (sibling ws old (bit l x))

    tp : level₁ a ≤ H
    tp = omega (arith, (other_label a (λ e. next_ne (sym e))).0, A.root_level, R₀.bounded old K.inside K.in_use, K.at_level)

    grown : (k : ℕ) → k < N → refcount ws' k ≡ refcount ws k + δ k a + δ k (sibling ws old (bit l x))
    unfolding ws'
    grown = path_node-refcount N small ws A.inv.room a (bit l x) (left ws a) (sibling ws old (bit l x)) in_n z (λ b. omega (arith, refcount_le A.inv (sibling ws old (bit l x)) b))

    ln : length ws' ≡ length ws
    unfolding ws'
    ln = path_node-length N small ws A.inv.room a (bit l x) (left ws a) (sibling ws old (bit l x)) in_n z

    la : left ws' a ≡ side (bit l x) (left ws a) (sibling ws old (bit l x))
    unfolding ws'
    la = path_node-left N small ws A.inv.room a (bit l x) (left ws a) (sibling ws old (bit l x)) in_n z

    ra : right ws' a ≡ side (bit l x) (sibling ws old (bit l x)) (left ws a)
    unfolding ws'
    ra = path_node-right N small ws A.inv.room a (bit l x) (left ws a) (sibling ws old (bit l x)) in_n z

    other : (j : ℕ) → j ≢ a → SameContent ws ws' j
    unfolding ws'
    other = path_node_other N small ws A.inv.room a (bit l x) (left ws a) (sibling ws old (bit l x)) in_n z

    va : 0 < level₁ a → value ws' a ≡ 0
    unfolding ws'
    va q = path_node-value N small ws A.inv.room a (bit l x) (left ws a) (sibling ws old (bit l x)) in_n z

    balance : (k : ℕ) → k < N → δ k (sibling ws old (bit l x)) + δ k (left ws a) ≡ δ k (side (bit l x) (left ws a) (sibling ws old (bit l x))) + δ k (side (bit l x) (sibling ws old (bit l x)) (left ws a))
    balance k b = side-sum (bit l x) (left ws a) (sibling ws old (bit l x)) k

    R₂ : Invariant N H level₁ size₁ ws' (left ws a) fs (left ws a) E
    R₂ = inv_take N H level₁ size₁ ws ws' ln a (sibling ws old (bit l x)) _ _ (left ws a) R₁ grown held balance la ra other lk tp va

    G₂ : Grows N ws ws'
    unfolding ws'
    G₂ = take_grows N H level₁ size₁ ws ws' ln a (sibling ws old (bit l x)) _ _ (left ws a) R₁ grown held balance la ra other lk tp va
        (path_node-rest N small ws A.inv.room a (bit l x) (left ws a) (sibling ws old (bit l x)) in_n z (λ o. (kept_used o).0))

    used_after : 0 < refcount ws' a
    used_after = omega (arith, grown a in_n, δ_same a)

    -- the state of the call below
    before_below : Before N H level₀ size₀ ws₀ E x l level₁ size₁ ws' (left ws a) fs (child ws old (bit l x))
    before_below = record {
      inv = R₂;
      grows = grows_trans A.grows G₂;
      labels = labels₁;
      enough = omega (arith, A.enough);
      covers = K₁;
      root_level = next_label.0;
      root_size = next_label.1;
    }

    -- what it gives, one level higher
    module _ (p : List ℕ × ℕ) (M : Copied N H level₀ size₀ ws₀ E x v l level₁ size₁ ws' (left ws a) fs (child ws old (bit l x)) p) where
      links_a : (left p.0 a ≡ side (bit l x) (left ws a) (sibling ws old (bit l x))) × (right p.0 a ≡ side (bit l x) (sibling ws old (bit l x)) (left ws a))
      links_a = (let C = M.grows.keeps a in_n used_after in (C.same_left ∙ la, C.same-right ∙ ra))

      child_a : (d : ℕ) → child p.0 a d ≡ side d (side (bit l x) (left ws a) (sibling ws old (bit l x))) (side (bit l x) (sibling ws old (bit l x)) (left ws a))
      unfolding child
      child_a d = cc (links_a.0, links_a.1)

      child_on : child p.0 a (bit l x) ≡ left ws a
      child_on = child_a (bit l x) ∙ side_same (bit l x) (left ws a) (sibling ws old (bit l x))

      child_off : (y : ℕ) → bit l y ≢ bit l x → child p.0 a (bit l y) ≡ child ws₀ old (bit l y)
      child_off y o = child_a (bit l y) ∙ side_other (bit l x) (bit l y) (left ws a) (sibling ws old (bit l x)) (bit_lt l x) (bit_lt l y) o
          ∙ sibling-same ∙ sym (child-sibling ws₀ old (bit l x) (bit l y) (bit_lt l x) (bit_lt l y) o)

      -- the walk goes on with the next node where the bits agree
      walk_on : (k y : ℕ) → k ≤ l → bit l y ≡ bit l x → walk k (suc l) p.0 a y ≡ walk k l p.0 (left ws a) y
      walk_on k y h e = walk_go k l p.0 a y h ∙ ap (λ q. walk k l p.0 q y) (ap (child p.0 a) e ∙ child_on)

      keep : (j : ℕ) → j ≢ left ws a → j < N → 0 < refcount ws' j → (M.level' j ≡ level j) × (M.size' j ≡ size j)
      keep j o b q = (let m = M.labels j b q in let r = other_label j o in (m.0 ∙ r.0, m.1 ∙ r.1))

      step_new : (k y : ℕ) → k ≤ suc l → Agree k (suc l) x y → (walk k (suc l) p.0 a y < N) × (refcount ws (walk k (suc l) p.0 a y) ≡ 0) × (M.level' (walk k (suc l) p.0 a y) ≡ k)
      step_new k y h g = elim (dec_le k l) [
        | yes q ↦ subst (λ w. (w < N) × (refcount ws w ≡ 0) × (M.level' w ≡ k)) (sym (walk_on k y q (sym (g l q (omega arith)))))
            (let m = M.new k y q (λ i s t. g i s (omega arith)) in (m.0, omega (arith, m.1, G₂.up _ m.0), m.2))
        | no q ↦ subst (λ w. (w < N) × (refcount ws w ≡ 0) × (M.level' w ≡ k)) (sym (walk_here k (suc l) p.0 a y (omega arith)))
            (in_n, z, (keep a (λ e. next_ne (sym e)) in_n used_after).0 ∙ A.root_level ∙ omega arith)
      ]

      step_old : (k y : ℕ) → k ≤ suc l → y % 2 ^ suc l < size₀ old → Differ k (suc l) x y → walk k (suc l) p.0 a y ≡ walk k (suc l) ws₀ old y
      step_old k y h q d =
          let kl : k ≤ l = omega (arith, d.1, d.2) in
          let Ky : Covers N level₀ size₀ ws₀ (suc l) y old = record { inside = K.inside; at_level = K.at_level; among = q; in_use = K.in_use } in
          let Kc = covers_child small R₀ l y old Ky in
          elim (ℕ_discrete (bit l y) (bit l x)) [
            | yes e ↦ walk_on k y kl e
                ∙ M.old_walk k y kl (subst (λ w. y % 2 ^ l < size₀ w) (ap (child ws₀ old) e ∙ sym child-same) Kc.among)
                (d.0, d.1, below d.0 d.2 (λ r. d.3 (ap (λ i. bit i x) r ∙ sym e ∙ ap (λ i. bit i y) (sym r))), d.3)
                ∙ ap (λ w. walk k l ws₀ w y) (child-same ∙ ap (child ws₀ old) (sym e)) ∙ sym (walk_go k l ws₀ old y kl)
            | no e ↦ walk_go k l p.0 a y kl ∙ ap (λ w. walk k l p.0 w y) (child_off y e)
                ∙ walk_kept small R₀ p.0 (grows_trans A.grows (grows_trans G₂ M.grows)).keeps k l y (child ws₀ old (bit l y)) Kc
                ∙ sym (walk_go k l ws₀ old y kl)
          ]
        where
          below : (m : ℕ) → m < suc l → m ≢ l → m < l
          below m b o = omega arith

      step_copied : Copied N H level₀ size₀ ws₀ E x v (suc l) level size ws a (a ∷ fs) old p
      step_copied = record {
        level' = M.level';
        size' = M.size';
        fs' = M.fs';
        inv = M.inv;
        grows = grows_trans G₂ M.grows;
        labels = λ j b q. keep j (λ e. omega (arith, ap (refcount ws) e, next_free_lem)) b (omega (arith, G₂.up j b));
        root_labels = keep a (λ e. next_ne (sym e)) in_n used_after;
        inside = in_n;
        in_use = omega (arith, used_after, M.grows.up a in_n);
        taken = omega (arith, M.taken);
        new = step_new;
        new_value = λ y g. ap (value p.0) (walk_on 0 y (omega arith) (sym (g l (omega arith) (omega arith)))) ∙ M.new_value y (λ i s t. g i s (omega arith));
        old_walk = step_old;
      }

  pub path_copied : (l : ℕ) (level size : ℕ → ℕ) (ws : List ℕ) (a : ℕ) (fs : List ℕ) (old : ℕ) → Before N H level₀ size₀ ws₀ E x l level size ws a fs old
      → Copied N H level₀ size₀ ws₀ E x v l level size ws a fs old (copy_path l ws a old x v)
  unfolding copy_path ws'
  path_copied zero level size ws a fs old A =
      let c = chain_head N (left ws) a fs A.enough A.inv.chain in
      subst (λ q. Copied N H level₀ size₀ ws₀ E x v 0 level size ws a q old (set_node ws a 1 none none v, left ws a)) (sym c.1)
      (leaf_copied level size ws a c.0 old (subst (λ q. Before N H level₀ size₀ ws₀ E x 0 level size ws a q old) c.1 A))
  path_copied (suc l) level size ws a fs old A =
      let c = chain_head N (left ws) a fs (omega (arith, A.enough)) A.inv.chain in
      let A' : Before N H level₀ size₀ ws₀ E x (suc l) level size ws a (a ∷ c.0) old = subst (λ q. Before N H level₀ size₀ ws₀ E x (suc l) level size ws a q old) c.1 A in
      let p : List ℕ × ℕ = copy_path l (path_node ws a (bit l x) (left ws a) (sibling ws old (bit l x))) (left ws a) (child ws old (bit l x)) x v in
      subst (λ q. Copied N H level₀ size₀ ws₀ E x v (suc l) level size ws a q old p) (sym c.1)
      (step_copied l level size ws a c.0 old A' p
      (path_copied l (level₁ l level size ws a c.0 old A') (size₁ l level size ws a c.0 old A') (path_node ws a (bit l x) (left ws a) (sibling ws old (bit l x))) (left ws a) c.0
      (child ws old (bit l x)) (before_below l level size ws a c.0 old A')))

  -- it takes and copies nodes only
  pub path_in : (l : ℕ) (level size : ℕ → ℕ) (ws : List ℕ) (a : ℕ) (fs : List ℕ) (old : ℕ) → Before N H level₀ size₀ ws₀ E x l level size ws a fs old → CopyIn N l ws a old x
  unfolding CopyIn ws'
  path_in zero level size ws a fs old A = (chain_head N (left ws) a fs A.enough A.inv.chain).2
  path_in (suc l) level size ws a fs old A =
      let c = chain_head N (left ws) a fs (omega (arith, A.enough)) A.inv.chain in
      let A' : Before N H level₀ size₀ ws₀ E x (suc l) level size ws a (a ∷ c.0) old = subst (λ q. Before N H level₀ size₀ ws₀ E x (suc l) level size ws a q old) c.1 A in (
        c.2,
        A.covers.inside,
        elim (ℕ_discrete (sibling ws old (bit l x)) none) [ yes e ↦ inr e | no e ↦ inl (kept_used l level size ws a c.0 old A' e).0 ],
        path_in l (level₁ l level size ws a c.0 old A') (size₁ l level size ws a c.0 old A') (path_node ws a (bit l x) (left ws a) (sibling ws old (bit l x))) (left ws a) c.0
            (child ws old (bit l x)) (before_below l level size ws a c.0 old A'),
      )
