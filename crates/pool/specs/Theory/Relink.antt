-- Two more stores that keep the invariant: a leaf's value, and a link that moves from a node with more holders to one that was an
-- outside link.
use Rattle.std.specs.Prelude.{◌≡◌, ◌≢◌, List, ◌∷◌, ℕ, ◌+◌, ◌<◌, length}
use Rattle.std.proofs.Common.{sym, ap, ◌∙◌, subst, arith}
use Rattle.std.proofs.Math.Decide.{ℕ_discrete}
use Rattle.words.specs.Basics.{none, δ}
use Rattle.words.specs.Chains.{chain_cong}
use Rattle.words.specs.Counting.{δ_same, δ_other, δ₀, δ₀_zero, δ₀_pos, δ₀_inv, count_cons}
use Rattle.pool.specs.Pool.{refcount, left, right, value}
use Rattle.pool.specs.Theory.Invariant.{Links, link, Invariant, link_pos, link_cong, indegree_cong, indegree_upd}
use Rattle.pool.specs.Theory.Nodes.{SameContent}

-- the value of a leaf in use
module _ (N H : ℕ) (level size : ℕ → ℕ) (ws ws' : List ℕ) (len : length ws' ≡ length ws) (q : ℕ) {free c : ℕ} {fs E : List ℕ}
    (R : Invariant N H level size ws free fs c E) (used : 0 < refcount ws q) (leaf : level q ≡ 0)
    (refs : (j : ℕ) → refcount ws' j ≡ refcount ws j) (lefts : (j : ℕ) → left ws' j ≡ left ws j) (rights : (j : ℕ) → right ws' j ≡ right ws j)
    (values : (j : ℕ) → j ≢ q → value ws' j ≡ value ws j) where
  pub inv_value : Invariant N H level size ws' free fs c E
  inv_value = record {
    room = omega (arith, R.room);
    counts = λ i b. omega (arith, refs i, R.counts i b, indegree_cong N ws ws' i (λ j _. same-link i j));
    shape = λ j b p. rw (lefts j, rights j) (R.shape j b (omega (arith, refs j)));
    bounded = λ j b p. R.bounded j b (omega (arith, refs j));
    inner = λ j b p h. values j (λ e. omega (arith, ap level e)) ∙ R.inner j b (omega (arith, refs j)) h;
    chain = chain_cong N (left ws) (left ws') fs free (λ j _ _. lefts j) R.chain;
    listed = λ i b. R.listed i b ∙ ap δ₀ (sym (refs i));
    cleared = λ i b e. (let m = R.cleared i b (sym (refs i) ∙ e) in (rights i ∙ m.0, values i (λ t. omega (arith, ap (refcount ws) t, refs i)) ∙ m.1));
  }
    where
      same-link : (i j : ℕ) → link ws' i j ≡ link ws i j
      same-link i j = unfold link in cc (refs j, lefts j, rights j)

-- node q's link to s goes to a; s has one holder less, and one left
module _ (N H : ℕ) (level size : ℕ → ℕ) (ws ws' : List ℕ) (len : length ws' ≡ length ws) (q s a : ℕ) {free : ℕ} {fs E : List ℕ}
    (R : Invariant N H level size ws free fs none (a ∷ E)) (in_n : q < N) (used : 0 < refcount ws q)
    (fell : (k : ℕ) → refcount ws' k + δ k s ≡ refcount ws k) (held : 1 < refcount ws s)
    (moved : (k : ℕ) → δ k (left ws' q) + δ k (right ws' q) + δ k s ≡ δ k (left ws q) + δ k (right ws q) + δ k a)
    (other : (j : ℕ) → j ≢ q → SameContent ws ws' j) (same : value ws' q ≡ value ws q)
    (links : Links N level size (level q) (size q) (left ws' q) (right ws' q)) where
  same_δ₀ : (j : ℕ) → δ₀ (refcount ws' j) ≡ δ₀ (refcount ws j)
  same_δ₀ j = elim (ℕ_discrete j s) [
    | yes e ↦ (let f = ap (refcount ws) e in let d = ap (λ i. δ i s) e in
        δ₀_pos (refcount ws' j) (omega (arith, fell j, δ_same s)) ∙ sym (δ₀_pos (refcount ws j) (omega arith)))
    | no e ↦ ap δ₀ (omega (arith, fell j, δ_other j s e))
  ]

  back : (j : ℕ) → 0 < refcount ws' j → 0 < refcount ws j
  back j p = omega (arith, fell j)

  forth : (j : ℕ) → 0 < refcount ws j → 0 < refcount ws' j
  forth j p = elim (ℕ_discrete (refcount ws' j) 0) [
    | yes e ↦ absurd (omega (arith, same_δ₀ j, δ₀_zero (refcount ws' j) e, δ₀_pos (refcount ws j) p))
    | no e ↦ omega arith
  ]

  values : (j : ℕ) → value ws' j ≡ value ws j
  values j = elim (ℕ_discrete j q) [ yes e ↦ ap (value ws') e ∙ same ∙ ap (value ws) (sym e) | no e ↦ (other j e).same-value ]

  pub inv_relink : Invariant N H level size ws' free fs none E
  inv_relink = record {
    room = omega (arith, R.room);
    counts = λ k b. omega (
      arith,
      fell k,
      moved k,
      R.counts k b,
      count_cons k a E,
      indegree_upd N ws ws' k q in_n (λ j _ o. link_cong ws ws' k j (same_δ₀ j) (other j o)),
      link_pos ws k q used,
      link_pos ws' k q (forth q used),
    );
    shape = λ j b p. elim (ℕ_discrete j q) [
      | yes e ↦ subst (λ i. Links N level size (level i) (size i) (left ws' i) (right ws' i)) (sym e) links
      | no e ↦ rw ((other j e).same_left, (other j e).same-right) (R.shape j b (back j p))
    ];
    bounded = λ j b p. R.bounded j b (back j p);
    inner = λ j b p h. values j ∙ R.inner j b (back j p) h;
    chain = chain_cong N (left ws) (left ws') fs free (λ j b o. (other j (λ e. omega (arith, ap (refcount ws) e, δ₀_pos (refcount ws j) (omega (arith, ap (refcount ws) e)), R.listed j b))).same_left) R.chain;
    listed = λ i b. R.listed i b ∙ sym (same_δ₀ i);
    cleared = λ i b e.
        let z = δ₀_inv (refcount ws i) (omega (arith, same_δ₀ i, δ₀_zero (refcount ws' i) e)) in
        let m = R.cleared i b z in ((other i (λ t. omega (arith, ap (refcount ws) t))).same-right ∙ m.0, values i ∙ m.1);
  }
