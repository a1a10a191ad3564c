-- Release keeps the invariant: the links of a node that reaches zero become outside links, and are released in turn.
use Rattle.std.specs.Prelude.{◌≡◌, ◌≢◌, List, ◌∷◌, ℕ, zero, suc, ◌+◌, ◌-◌, ◌*◌, ◌≤◌, ◌<◌, ◌^◌, length}
use Rattle.std.proofs.Common.{sym, ap, ◌∙◌, subst, arith, mod-eq_of_lt, eq-eqb, ne_eqb}
use Rattle.std.proofs.Math.Decide.{ℕ_discrete}
use Rattle.words.specs.Basics.{none, plus, δ}
use Rattle.words.specs.Counting.{δ_same, δ_other, δ₀, δ₀_pos, count_cons}
use Rattle.pool.specs.Pool.{refcount, left, right, set_refcount, freed, release}
use Rattle.pool.specs.Theory.Changes.{Shrinks, grows_refl, grows_trans}
use Rattle.pool.specs.Theory.FreeCount.{free_count}
use Rattle.pool.specs.Theory.Invariant.{Invariant, links-left, links-right, links_leaf, used_out, links_at, inv_perm, inv_refcounts, inv_free}
use Rattle.pool.specs.Theory.Nodes.{NodeIs, content_sym, length-set_node, drop-set_node, set_node_is, set_node_other, length-set_refcount, drop-set_refcount, set_refcount_is, set_refcount_other, set_refcount-content}

-- ---- the branches

pub release-none : (l : ℕ) (ws : List ℕ) (free k i : ℕ) → i ≡ none → release l ws free k i ≡ (ws, free, k)
unfolding release
release-none zero ws free k i e = rw (eq-eqb i none e, release)
release-none (suc l) ws free k i e = rw (eq-eqb i none e, release)

-- other holders are left
pub release_held : (l : ℕ) (ws : List ℕ) (free k i : ℕ) → i ≢ none → 1 < refcount ws i → release l ws free k i ≡ (set_refcount ws i (refcount ws i - 1), free, k)
unfolding release
release_held zero ws free k i o h = rw (ne_eqb i none o, ne_eqb (refcount ws i - 1) 0 (omega arith), release)
release_held (suc l) ws free k i o h = rw (ne_eqb i none o, ne_eqb (refcount ws i - 1) 0 (omega arith), release)

-- the last holder of a leaf, and of an inner node
pub release_leaf : (ws : List ℕ) (free k i : ℕ) → i ≢ none → refcount ws i ≡ 1 → release zero ws free k i ≡ (freed ws free i, i, plus k 1)
unfolding release
release_leaf ws free k i o h = rw (ne_eqb i none o, eq-eqb (refcount ws i - 1) 0 (omega arith), release)

pub release-inner : (l : ℕ) (ws : List ℕ) (free k i : ℕ) → i ≢ none → refcount ws i ≡ 1
    → release (suc l) ws free k i ≡ (let p : List ℕ × ℕ × ℕ = release l (freed ws free i) i (plus k 1) (left ws i) in release l p.0 p.1 p.2 (right ws i))
unfolding release
release-inner l ws free k i o h = rw (ne_eqb i none o, eq-eqb (refcount ws i - 1) 0 (omega arith), release)

-- ---- the invariant afterwards: p has the words, the first free node and the length of the free list

pub record Released (N H : ℕ) (level size : ℕ → ℕ) (E : List ℕ) (ws : List ℕ) (p : List ℕ × ℕ × ℕ) : Type 0 where
  pub fs : List ℕ
  pub inv : Invariant N H level size p.0 p.1 fs none E
  pub counted : p.2 ≡ length fs
  pub shrinks : Shrinks N ws p.0

module _ (N H : ℕ) (small : N ≤ none) (level size : ℕ → ℕ) where
  -- a link to nothing is no link
  inv_none : {ws : List ℕ} {free : ℕ} {fs E : List ℕ} (x : ℕ) → x ≡ none → Invariant N H level size ws free fs none (x ∷ E) → Invariant N H level size ws free fs none E
  inv_none {E = E} x e R = inv_perm R E none (λ i b. omega (arith, count_cons i x E, δ_other i x (omega arith)))

  module _ (ws : List ℕ) (free : ℕ) (fs E : List ℕ) (i : ℕ) (b : i < N) (R : Invariant N H level size ws free fs none (i ∷ E)) where
    -- a node with an outside link has a holder
    held : 0 < refcount ws i
    held = used_out R i b (omega arith) (omega (arith, count_cons i i E, δ_same i))

    room : 4 * i + 4 ≤ length ws
    room = omega (arith, R.room)

    pub lowered : (k : ℕ) → k ≡ length fs → 1 < refcount ws i → Released N H level size E ws (set_refcount ws i (refcount ws i - 1), free, k)
    lowered k n h = record {
      fs = fs;
      counted = n;
      inv = inv_refcounts N H level size ws ws' (omega (arith, length-set_refcount ws i (refcount ws i - 1), R.room)) E
          (λ j q. elim (ℕ_discrete j i) [
            | yes t ↦ δ₀_pos (refcount ws' j) (omega (arith, s, ap (refcount ws') t)) ∙ sym (δ₀_pos (refcount ws j) (omega (arith, ap (refcount ws) t)))
            | no t ↦ ap δ₀ (set_refcount_other ws i (refcount ws i - 1) j t)
          ])
          (λ j _. set_refcount-content ws i (refcount ws i - 1) j)
          (λ j q. elim (ℕ_discrete j i) [
            | yes t ↦ omega (arith, s, ap (refcount ws') t, ap (refcount ws) t, count_cons j i E, ap (λ k. δ k i) t, δ_same i)
            | no t ↦ omega (arith, set_refcount_other ws i (refcount ws i - 1) j t, count_cons j i E, δ_other j i t)
          ])
          R;
      shrinks = record {
        up = λ j q. elim (ℕ_discrete j i) [ yes t ↦ omega (arith, s, ap (refcount ws') t, ap (refcount ws) t) | no t ↦ omega (arith, set_refcount_other ws i (refcount ws i - 1) j t) ];
        keeps = λ j q p. content_sym (set_refcount-content ws i (refcount ws i - 1) j);
        len = sym (length-set_refcount ws i (refcount ws i - 1));
        rest = sym (drop-set_refcount ws i (refcount ws i - 1) N b);
      };
    }
      where
        ws' : List ℕ
        ws' = set_refcount ws i (refcount ws i - 1)

        s : refcount ws' i ≡ refcount ws i - 1
        s = set_refcount_is ws i (refcount ws i - 1) room

    last : (k : ℕ) → k ≡ length fs → refcount ws i ≡ 1 → Released N H level size (left ws i ∷ right ws i ∷ E) ws (freed ws free i, i, plus k 1)
    last k n e = record {
      fs = i ∷ fs;
      inv = R';
      counted = mod-eq_of_lt {n = k + 1} {m = 2 ^ 32} (omega (arith, free_count R')) ∙ omega arith;
      shrinks = record {
        up = λ j q. elim (ℕ_discrete j i) [ yes s ↦ omega (arith, K.refcount_is, ap (refcount (freed ws free i)) s) | no s ↦ omega (arith, (set_node_other ws i j 0 free 0 0 s).same-refcount) ];
        keeps = λ j q p. content_sym (set_node_other ws i j 0 free 0 0 (λ s. omega (arith, p, K.refcount_is, ap (refcount (freed ws free i)) s))).content;
        len = sym (length-set_node ws i 0 free 0 0);
        rest = sym (drop-set_node ws i 0 free 0 0 N b);
      };
    }
      where
        K : NodeIs (freed ws free i) i 0 free 0 0
        K = set_node_is ws i 0 free 0 0 room

        R' : Invariant N H level size (freed ws free i) i (i ∷ fs) none (left ws i ∷ right ws i ∷ E)
        R' = inv_free N H level size ws (freed ws free i) (omega (arith, length-set_node ws i 0 free 0 0, R.room)) i b e K (λ j o. set_node_other ws i j 0 free 0 0 o) R

  -- a release, if it is right where the last holder goes
  release_by : (l : ℕ) (ws : List ℕ) (free k : ℕ) (fs E : List ℕ) (i : ℕ) → (i ≢ none → i < N) → k ≡ length fs → Invariant N H level size ws free fs none (i ∷ E)
      → (i ≢ none → refcount ws i ≡ 1 → Released N H level size E ws (release l ws free k i)) → Released N H level size E ws (release l ws free k i)
  release_by l ws free k fs E i h n R z = elim (ℕ_discrete i none) [
    | yes e ↦ subst (Released N H level size E ws) (sym (release-none l ws free k i e)) (record { fs = fs; inv = inv_none i e R; counted = n; shrinks = grows_refl N ws })
    | no o ↦ (let p = held ws free fs E i (h o) R in elim (ℕ_discrete (refcount ws i) 1) [
      | no m ↦ subst (Released N H level size E ws) (sym (release_held l ws free k i o (omega arith))) (lowered ws free fs E i (h o) R k n (omega arith))
      | yes m ↦ z o m
    ])
  ]

  -- the node i of level l, or none, is released
  pub inv_release : (l : ℕ) (ws : List ℕ) (free k : ℕ) (fs E : List ℕ) (i : ℕ) → (i ≢ none → (i < N) × (level i ≡ l)) → k ≡ length fs
      → Invariant N H level size ws free fs none (i ∷ E) → Released N H level size E ws (release l ws free k i)
  inv_release zero ws free k fs E i h n R = release_by zero ws free k fs E i (λ o. (h o).0) n R (λ o m.
      let q = h o in
      let A = last ws free fs E i q.0 R k n m in
      let c = links_leaf N level size (size i) (left ws i) (right ws i) (links_at R i zero q.0 (held ws free fs E i q.0 R) q.1) in
      subst (Released N H level size E ws) (sym (release_leaf ws free k i o m))
      (record { fs = A.fs; inv = inv_none (right ws i) c.1 (inv_none (left ws i) c.0 A.inv); counted = A.counted; shrinks = A.shrinks }))
  inv_release (suc l) ws free k fs E i h n R = release_by (suc l) ws free k fs E i (λ o. (h o).0) n R (λ o m.
      let q = h o in
      let A = last ws free fs E i q.0 R k n m in
      let c = links_at R i (suc l) q.0 (held ws free fs E i q.0 R) q.1 in
      let B = inv_release l (freed ws free i) i (plus k 1) A.fs (right ws i ∷ E) (left ws i) (λ _. links-left N level size l (size i) (left ws i) (right ws i) c) A.counted A.inv in
      let s : List ℕ × ℕ × ℕ = release l (freed ws free i) i (plus k 1) (left ws i) in
      let C = inv_release l s.0 s.1 s.2 B.fs E (right ws i) (links-right N level size l (size i) (left ws i) (right ws i) c) B.counted B.inv in
      subst (Released N H level size E ws) (sym (release-inner l ws free k i o m))
      (record { fs = C.fs; inv = C.inv; counted = C.counted; shrinks = grows_trans C.shrinks (grows_trans B.shrinks A.shrinks) }))
