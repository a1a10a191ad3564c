-- Release in both layouts: by the induction that shows that it keeps the invariant.
use Rattle.std.specs.Prelude.{◌≡◌, refl, ◌≢◌, List, ◌∷◌, ℕ, zero, suc, ◌+◌, ◌-◌, ◌≤◌, ◌<◌, ◌^◌, length}
use Rattle.std.proofs.Common.{sym, ◌∙◌, subst, arith, mod-eq_of_lt, eq-eqb, ne_eqb}
use Rattle.std.proofs.Math.Decide.{ℕ_discrete}
use Rattle.words.specs.Basics.{none, plus}
use Rattle.words.specs.Counting.{δ_same, count_cons}
use Rattle.words.specs.Tests.{ltb_of, nltb_of}
use Rattle.pool.specs.Pool as Four
use Rattle.pool.specs.Theory.FreeCount.{free_count}
use Rattle.pool.specs.Theory.Invariant.{Invariant, links-left, links-right, used_out, links_at, inv_free}
use Rattle.pool.specs.Theory.Nodes.{length-set_node, set_node_is, set_node_other}
use Rattle.pool.specs.Theory.Operations.{Live}
use Rattle.pool.specs.Theory.Release as FourRelease
use Rattle.packed.specs.Pool.{refcount, left, right, set_refcount, freed, release}
use Rattle.packed.proofs.Theory.Unpacks.{Unpacks, unpacks_free, unpacks_refcount}

-- ---- the branches

pub release-none : (N l : ℕ) (ws : List ℕ) (free k i : ℕ) → N ≤ i → release N l ws free k i ≡ (ws, free, k)
unfolding release
release-none N zero ws free k i e = rw (nltb_of e, release)
release-none N (suc l) ws free k i e = rw (nltb_of e, release)

-- other holders are left
pub release_held : (N l : ℕ) (ws : List ℕ) (free k i : ℕ) → i < N → 1 < refcount ws i → release N l ws free k i ≡ (set_refcount ws i (refcount ws i - 1), free, k)
unfolding release
release_held N zero ws free k i o h = rw (ltb_of o, ne_eqb (refcount ws i - 1) 0 (omega arith), release)
release_held N (suc l) ws free k i o h = rw (ltb_of o, ne_eqb (refcount ws i - 1) 0 (omega arith), release)

-- the last holder of a leaf, and of an inner node
pub release_leaf : (N : ℕ) (ws : List ℕ) (free k i : ℕ) → i < N → refcount ws i ≡ 1 → release N zero ws free k i ≡ (freed ws free i, i, plus k 1)
unfolding release
release_leaf N ws free k i o h = rw (ltb_of o, eq-eqb (refcount ws i - 1) 0 (omega arith), release)

pub release-inner : (N l : ℕ) (ws : List ℕ) (free k i : ℕ) → i < N → refcount ws i ≡ 1
    → release N (suc l) ws free k i ≡ (let p : List ℕ × ℕ × ℕ = release N l (freed ws free i) i (plus k 1) (left ws i) in release N l p.0 p.1 p.2 (right ws i))
unfolding release
release-inner N l ws free k i o h = rw (ltb_of o, eq-eqb (refcount ws i - 1) 0 (omega arith), release)

-- ---- both layouts afterwards: the words unpack, and the free list is the same

abbrev pub Both : ℕ → List ℕ → List ℕ × ℕ × ℕ → List ℕ × ℕ × ℕ → Type 0
Both N tail p q = Unpacks N tail p.0 q.0 × (p.1 ≡ q.1) × (p.2 ≡ q.2)

both_by : {N : ℕ} {tail : List ℕ} {p p' q q' : List ℕ × ℕ × ℕ} → p ≡ p' → q ≡ q' → Both N tail p' q' → Both N tail p q
both_by {N} {tail} {p} {p'} {q} {q'} e f B = subst (λ r. Both N tail r q) (sym e) (subst (λ r. Both N tail p' r) (sym f) B)

module _ (N H : ℕ) (most : N ≤ 16384) (level size : ℕ → ℕ) (tail : List ℕ) where
  -- the node i loses its last holder
  last : (ws : List ℕ) (free k : ℕ) (fs E : List ℕ) (i : ℕ) → i < N → k ≡ length fs → Four.refcount ws i ≡ 1 → Invariant N H level size ws free fs none (i ∷ E)
      → Invariant N H level size (Four.freed ws free i) i (i ∷ fs) none (Four.left ws i ∷ Four.right ws i ∷ E) × (plus k 1 ≡ length (i ∷ fs))
  last ws free k fs E i b n e R = (R', mod-eq_of_lt {n = k + 1} {m = 2 ^ 32} (omega (arith, free_count R')) ∙ omega arith)
    where
      R' : Invariant N H level size (Four.freed ws free i) i (i ∷ fs) none (Four.left ws i ∷ Four.right ws i ∷ E)
      R' = inv_free N H level size ws (Four.freed ws free i) (omega (arith, length-set_node ws i 0 free 0 0, R.room)) i b e
          (set_node_is ws i 0 free 0 0 (omega (arith, R.room))) (λ j o. set_node_other ws i j 0 free 0 0 o) R

  -- the three ways but for the last holder
  release_by : (l : ℕ) (ws₂ ws₄ : List ℕ) (free k : ℕ) (fs E : List ℕ) (i : ℕ) → (i ≢ none → i < N) → Unpacks N tail ws₂ ws₄ → Invariant N H level size ws₄ free fs none (i ∷ E)
      → (i ≢ none → Four.refcount ws₄ i ≡ 1 → Both N tail (release N l ws₂ free k i) (Four.release l ws₄ free k i)) → Both N tail (release N l ws₂ free k i) (Four.release l ws₄ free k i)
  release_by l ws₂ ws₄ free k fs E i h U R z = elim (ℕ_discrete i none) [
    | yes e ↦ both_by (release-none N l ws₂ free k i (omega arith)) (FourRelease.release-none l ws₄ free k i e) (U, refl, refl)
    | no o ↦ (let b = h o in
        let c = U.counts i b in
        let p = used_out R i b o (omega (arith, count_cons i i E, δ_same i)) in
        elim (ℕ_discrete (Four.refcount ws₄ i) 1) [
          | no m ↦ both_by (release_held N l ws₂ free k i b (omega arith)) (FourRelease.release_held l ws₄ free k i o (omega arith))
              (rw c (unpacks_refcount U i b (Four.refcount ws₄ i - 1) p (omega arith)), refl, refl)
          | yes m ↦ z o m
        ])
  ]

  -- the node i of level l, or none, is released
  pub unpacks_release_by : (l : ℕ) (ws₂ ws₄ : List ℕ) (free k : ℕ) (fs E : List ℕ) (i : ℕ) → (i ≢ none → (i < N) × (level i ≡ l)) → k ≡ length fs
      → Unpacks N tail ws₂ ws₄ → Invariant N H level size ws₄ free fs none (i ∷ E) → Both N tail (release N l ws₂ free k i) (Four.release l ws₄ free k i)
  unpacks_release_by zero ws₂ ws₄ free k fs E i h n U R = release_by zero ws₂ ws₄ free k fs E i (λ o. (h o).0) U R (λ o m.
      let q = h o in
      both_by (release_leaf N ws₂ free k i q.0 (U.counts i q.0 ∙ m)) (FourRelease.release_leaf ws₄ free k i o m) (unpacks_free U i q.0 free 0 0, refl, refl))
  unpacks_release_by (suc l) ws₂ ws₄ free k fs E i h n U R = release_by (suc l) ws₂ ws₄ free k fs E i (λ o. (h o).0) U R (λ o m.
      let q = h o in
      let A = last ws₄ free k fs E i q.0 n m R in
      let c = links_at R i (suc l) q.0 (omega arith) q.1 in
      let a = links-left N level size l (size i) (Four.left ws₄ i) (Four.right ws₄ i) c in
      let w = links-right N level size l (size i) (Four.left ws₄ i) (Four.right ws₄ i) c in
      let e = U.inner i q.0 (omega arith) (omega arith) in
      let B = FourRelease.inv_release N H (omega arith) level size l (Four.freed ws₄ free i) i (plus k 1) (i ∷ fs) (Four.right ws₄ i ∷ E) (Four.left ws₄ i) (λ _. a) A.1 A.0 in
      let s : List ℕ × ℕ × ℕ = Four.release l (Four.freed ws₄ free i) i (plus k 1) (Four.left ws₄ i) in
      let t : List ℕ × ℕ × ℕ = release N l (freed ws₂ free i) i (plus k 1) (Four.left ws₄ i) in
      let S = unpacks_release_by l (freed ws₂ free i) (Four.freed ws₄ free i) i (plus k 1) (i ∷ fs) (Four.right ws₄ i ∷ E) (Four.left ws₄ i) (λ _. a) A.1 (unpacks_free U i q.0 free 0 0) A.0 in
      let T = unpacks_release_by l t.0 s.0 s.1 s.2 B.fs E (Four.right ws₄ i) w B.counted S.0 B.inv in
      both_by (release-inner N l ws₂ free k i q.0 (U.counts i q.0 ∙ m)) (FourRelease.release-inner l ws₄ free k i o m)
      (rw (e.0, e.1, S.1, S.2) T))

-- one outside link less
pub unpacks_release : (N H n : ℕ) → N ≤ 16384 → {level size : ℕ → ℕ} {tail ws₂ ws₄ : List ℕ} {free : ℕ} {fs : List ℕ} (k i : ℕ) (E : List ℕ) → k ≡ length fs → Live N H n level size ws₄ free fs (i ∷ E)
    → Unpacks N tail ws₂ ws₄ → Unpacks N tail (release N H ws₂ free k i).0 (Four.release H ws₄ free k i).0 × ((release N H ws₂ free k i).1 ≡ (Four.release H ws₄ free k i).1)
    × ((release N H ws₂ free k i).2 ≡ (Four.release H ws₄ free k i).2)
unpacks_release N H n most {level} {size} {tail} {ws₂} {ws₄} {free} {fs} k i E c L U =
    let F = L.roots i (omega (arith, count_cons i i E, δ_same i)) in
    unpacks_release_by N H most level size tail H ws₂ ws₄ free k fs E i (λ _. (F.inside, F.at_level)) c U L.inv
