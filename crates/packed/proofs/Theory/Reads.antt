-- Where two-word nodes unpack to a live pool of four-word nodes: the walk from a live root, what it reads, and the rest of a write's path, are the same.
use Rattle.std.specs.Prelude.{◌≡◌, refl, ◌≢◌, List}
use Rattle.std.proofs.Common.{sym, ◌∙◌, inl, inr, arith}
use Rattle.std.proofs.Math.Path.{ap}
use Prim.Native.Nat.{ℕ, zero, suc, ◌≤◌, ◌<◌, ◌^◌}
use Rattle.std.proofs.Math.Decide.{ℕ_discrete, dec_le}
use Rattle.words.specs.Basics.{none, count}
use Rattle.words.specs.Tests.{ltb_of, nltb_of}
use Rattle.sizes.specs.Sizes.{bit}
use Rattle.pool.specs.Pool as Four
use Rattle.pool.specs.Links.{Link}
use Rattle.pool.specs.Theory.Invariant.{Invariant, links_at, links-left, links-right, links_leaf}
use Rattle.pool.specs.Theory.Operations.{Live, root_covers}
use Rattle.pool.specs.Theory.Walk.{Covers, covers_child}
use Rattle.pool.specs.Theory.Write as FourWrite
use Rattle.packed.specs.Pool.{refcount, value, child, sibling, leaf_of, read_at, first_shared, rest}
use Rattle.packed.proofs.Theory.Unpacks.{Unpacks}

-- ---- the branches of the definitions

module _ (ws : List ℕ) (above i x : ℕ) where
  pub first_here : (l : ℕ) → 1 < refcount ws i → first_shared l ws above i x ≡ (suc l, i, above)
  unfolding first_shared
  first_here zero h = rw (ltb_of h, first_shared)
  first_here (suc l) h = rw (ltb_of h, first_shared)

  pub first-none : refcount ws i ≤ 1 → first_shared zero ws above i x ≡ (0, i, above)
  unfolding first_shared
  first-none h = rw (nltb_of h, first_shared)

  pub first_below : (l : ℕ) → refcount ws i ≤ 1 → first_shared (suc l) ws above i x ≡ first_shared l ws i (child ws i (bit l x)) x
  unfolding first_shared
  first_below l h = rw (nltb_of h, first_shared)

-- ---- an inner node has the same links

module _ {N : ℕ} {tail ws₂ ws₄ : List ℕ} (U : Unpacks N tail ws₂ ws₄) (i : ℕ) (b : i < N) (p : 0 < Four.refcount ws₄ i) (o : Four.left ws₄ i ≢ none) where
  pub child-same : (d : ℕ) → child ws₂ i d ≡ Four.child ws₄ i d
  unfolding child Four.child
  child-same d = (let m = U.inner i b p o in cc (m.0, m.1))

  pub sibling-same : (d : ℕ) → sibling ws₂ i d ≡ Four.sibling ws₄ i d
  unfolding sibling Four.sibling
  sibling-same d = (let m = U.inner i b p o in cc (m.0, m.1))

-- ---- a node in use, by its level

module _ {N H : ℕ} {level size : ℕ → ℕ} {ws : List ℕ} {free : ℕ} {fs E : List ℕ} (R : Invariant N H level size ws free fs none E) where
  -- the links of an inner node: the left is a node, and the right one or none
  pub inner-links : (l i : ℕ) → i < N → 0 < Four.refcount ws i → level i ≡ suc l → (Four.left ws i < N) × Link N (Four.right ws i)
  inner-links l i b p e =
      let k = links_at R i (suc l) b p e in (
        (links-left N level size l (size i) (Four.left ws i) (Four.right ws i) k).0,
        elim (ℕ_discrete (Four.right ws i) none) [ yes t ↦ inr t | no t ↦ inl (links-right N level size l (size i) (Four.left ws i) (Four.right ws i) k t).0 ],
      )

  -- a leaf has none
  pub leaf_links : (i : ℕ) → i < N → 0 < Four.refcount ws i → level i ≡ 0 → Four.left ws i ≡ none
  leaf_links i b p e = (links_leaf N level size (size i) (Four.left ws i) (Four.right ws i) (links_at R i zero b p e)).0

module _ {N H : ℕ} (most : N ≤ 16384) {level size : ℕ → ℕ} {tail ws₂ ws₄ : List ℕ} {free : ℕ} {fs E : List ℕ} (R : Invariant N H level size ws₄ free fs none E) (U : Unpacks N tail ws₂ ws₄) where
  -- the child on the way to x
  pub covers_same : (l x i : ℕ) → Covers N level size ws₄ (suc l) x i → (d : ℕ) → child ws₂ i d ≡ Four.child ws₄ i d
  covers_same l x i K = child-same U i K.inside K.in_use (omega (arith, (inner-links R l i K.inside K.in_use K.at_level).0))

  covers_next : (l x i : ℕ) → Covers N level size ws₄ (suc l) x i → Covers N level size ws₄ l x (Four.child ws₄ i (bit l x))
  covers_next l x i K = covers_child (omega arith) R l x i K

  -- the leaf, and its value
  leaf_same : (l x i : ℕ) → Covers N level size ws₄ l x i → (leaf_of l ws₂ i x ≡ Four.leaf_of l ws₄ i x) × (value ws₂ (leaf_of l ws₂ i x) ≡ Four.value ws₄ (Four.leaf_of l ws₄ i x))
  unfolding leaf_of Four.leaf_of
  leaf_same zero x i K = (refl, U.leaf i K.inside K.in_use (leaf_links R i K.inside K.in_use K.at_level))
  leaf_same (suc l) x i K = rw (covers_same l x i K (bit l x)) (leaf_same l x (Four.child ws₄ i (bit l x)) (covers_next l x i K))

  -- the first node with more holders
  first-same : (l x above i : ℕ) → Covers N level size ws₄ l x i → first_shared l ws₂ above i x ≡ Four.first_shared l ws₄ above i x
  first-same zero x above i K = elim (dec_le (Four.refcount ws₄ i) 1) [
    | yes c ↦ first-none ws₂ above i x (omega (arith, U.counts i K.inside)) ∙ sym (FourWrite.first-none ws₄ above i x c)
    | no c ↦ first_here ws₂ above i x 0 (omega (arith, U.counts i K.inside)) ∙ sym (FourWrite.first_here ws₄ above i x 0 (omega arith))
  ]
  first-same (suc l) x above i K = elim (dec_le (Four.refcount ws₄ i) 1) [
    | yes c ↦ first_below ws₂ above i x l (omega (arith, U.counts i K.inside))
        ∙ ap (λ j. first_shared l ws₂ i j x) (covers_same l x i K (bit l x))
        ∙ first-same l x i (Four.child ws₄ i (bit l x)) (covers_next l x i K)
        ∙ sym (FourWrite.first_below ws₄ above i x l c)
    | no c ↦ first_here ws₂ above i x (suc l) (omega (arith, U.counts i K.inside)) ∙ sym (FourWrite.first_here ws₄ above i x (suc l) (omega arith))
  ]

-- ---- from a live root

module _ (N H n : ℕ) (most : N ≤ 16384) (cover : n ≤ 2 ^ H) {level size : ℕ → ℕ} {tail ws₂ ws₄ : List ℕ} {free : ℕ} {fs E : List ℕ} (L : Live N H n level size ws₄ free fs E) (U : Unpacks N tail ws₂ ws₄) where
  on_way : (e x : ℕ) → 0 < count e E → x < n → Covers N level size ws₄ H x e
  on_way e x p b = root_covers N H n (omega arith) cover L e x p b

  -- what a frame reads
  pub unpacks_reads : (e y : ℕ) → 0 < count e E → y < n → read_at H ws₂ e y ≡ Four.read_at H ws₄ e y
  unfolding read_at Four.read_at
  unpacks_reads e y p b = (leaf_same most L.inv U H y e (on_way e y p b)).1

  -- how many nodes a write takes
  pub unpacks_first : (e x : ℕ) → 0 < count e E → x < n → first_shared H ws₂ e e x ≡ Four.first_shared H ws₄ e e x
  unpacks_first e x p b = first-same most L.inv U H x e e (on_way e x p b)

  pub unpacks_rest : (e x : ℕ) → 0 < count e E → x < n → rest H ws₂ e x ≡ Four.rest H ws₄ e x
  unfolding rest Four.rest
  unpacks_rest e x p b = ap (λ (p : ℕ × ℕ × ℕ). p.0) (unpacks_first e x p b)
