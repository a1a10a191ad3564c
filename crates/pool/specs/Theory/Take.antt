-- A node leaves the free list; and a free node gets new labels before.
use Rattle.std.specs.Prelude.{◌≡◌, ◌≢◌, List, ◌∷◌, ℕ, ◌+◌, ◌*◌, ◌≤◌, ◌<◌, length, drop}
use Rattle.std.proofs.Math.Path.{refl}
use Rattle.std.proofs.Common.{sym, ap, ◌∙◌, subst, arith}
use Rattle.std.proofs.Math.Decide.{ℕ_discrete}
use Rattle.words.specs.Basics.{δ, count}
use Rattle.words.specs.Chains.{chain_cong}
use Rattle.words.specs.Counting.{δ_same, δ_other, δ₀, δ₀_zero, δ₀_pos, δ₀_inv, count_cons}
use Rattle.pool.specs.Pool.{refcount, left, right, value}
use Rattle.pool.specs.Theory.Changes.{Grows}
use Rattle.pool.specs.Theory.Invariant.{Links, Invariant, links_cong, link_zero, link_pos, link_cong, indegree_upd, used_left, used_right}
use Rattle.pool.specs.Theory.Nodes.{SameContent}

-- ---- a function changed at one place

unfoldable pub update_at : (f : ℕ → ℕ) (k x j : ℕ) → Dec (j ≡ k) → ℕ
update_at f k x j (yes e) = x
update_at f k x j (no e) = f j

unfoldable pub update : (ℕ → ℕ) → ℕ → ℕ → ℕ → ℕ
update f k x j = update_at f k x j (ℕ_discrete j k)

pub update_same : (f : ℕ → ℕ) (k x : ℕ) → update f k x k ≡ x
unfolding update update_at
update_same f k x = go (ℕ_discrete k k)
  where
    go : (d : Dec (k ≡ k)) → update_at f k x k d ≡ x
    go (yes e) = refl
    go (no e) = absurd (e refl)

pub update_other : (f : ℕ → ℕ) (k x j : ℕ) → j ≢ k → update f k x j ≡ f j
unfolding update update_at
update_other f k x j o = go (ℕ_discrete j k)
  where
    go : (d : Dec (j ≡ k)) → update_at f k x j d ≡ f j
    go (yes e) = absurd (o e)
    go (no e) = refl

-- a free node that nothing links to may have any labels
pub inv_relabel : {N H : ℕ} {level size : ℕ → ℕ} {ws : List ℕ} {free : ℕ} {fs : List ℕ} {c : ℕ} {E : List ℕ} → Invariant N H level size ws free fs c E
    → (k l s : ℕ) → k < N → refcount ws k ≡ 0 → k ≢ c → Invariant N H (update level k l) (update size k s) ws free fs c E
inv_relabel {N} {H} {level} {size} {ws} {c = c} R k l s b z o = record {
  room = R.room;
  counts = R.counts;
  chain = R.chain;
  listed = R.listed;
  cleared = R.cleared;
  bounded = λ j q p. subst (λ m. m ≤ H) (sym (update_other level k l j (ne j p))) (R.bounded j q p);
  inner = λ j q p r. R.inner j q p (subst (λ m. 0 < m) (update_other level k l j (ne j p)) r);
  shape = λ j q p.
      let nl : left ws j ≢ k = (λ e. omega (arith, used_left R j k q p b o e)) in
      let nr : right ws j ≢ k = (λ e. omega (arith, used_right R j k q p b o e)) in
      rw (update_other level k l j (ne j p), update_other size k s j (ne j p))
      (links_cong N level size (update level k l) (update size k s) (level j) (size j) (left ws j) (right ws j)
      (update_other level k l _ nl) (update_other size k s _ nl) (update_other level k l _ nr) (update_other size k s _ nr) (R.shape j q p));
}
  where
    ne : (j : ℕ) → 0 < refcount ws j → j ≢ k
    ne j p e = omega (arith, ap (refcount ws) e)

-- ---- the first free node a, which c = a waits for, becomes (1, x, y, _), and s gains a holder; c' is now waited for

module _ (N H : ℕ) (level size : ℕ → ℕ) (ws ws' : List ℕ) (len : length ws' ≡ length ws) (a s x y c' : ℕ) {fs E : List ℕ}
    (R : Invariant N H level size ws a (a ∷ fs) a E)
    (grown : (k : ℕ) → k < N → refcount ws' k ≡ refcount ws k + δ k a + δ k s)
    (held : (k : ℕ) → k < N → 0 < δ k s → 0 < refcount ws k)
    (same : (k : ℕ) → k < N → δ k s + δ k c' ≡ δ k x + δ k y)
    (la : left ws' a ≡ x) (ra : right ws' a ≡ y) (other : (j : ℕ) → j ≢ a → SameContent ws ws' j)
    (links : Links N level size (level a) (size a) x y) (high : level a ≤ H) (va : 0 < level a → value ws' a ≡ 0) where
  in_n : a < N
  in_n = R.chain.1

  free_before : refcount ws a ≡ 0
  free_before = δ₀_inv (refcount ws a) (omega (arith, R.listed a in_n, count_cons a a fs, δ_same a))

  same_δ₀ : (j : ℕ) → j < N → j ≢ a → δ₀ (refcount ws' j) ≡ δ₀ (refcount ws j)
  same_δ₀ j b o = elim (ℕ_discrete (δ j s) 0) [
    | yes e ↦ ap δ₀ (omega (arith, grown j b, δ_other j a o))
    | no e ↦ (let p = held j b (omega arith) in δ₀_pos (refcount ws' j) (omega (arith, grown j b)) ∙ sym (δ₀_pos (refcount ws j) p))
  ]

  back : (j : ℕ) → j < N → j ≢ a → 0 < refcount ws' j → 0 < refcount ws j
  back j b o p = elim (ℕ_discrete (refcount ws j) 0) [
    | yes e ↦ absurd (omega (arith, δ₀_zero (refcount ws j) e, δ₀_pos (refcount ws' j) p, same_δ₀ j b o))
    | no e ↦ omega arith
  ]

  used_after : 0 < refcount ws' a
  used_after = omega (arith, grown a in_n, δ_same a)

  pub inv_take : Invariant N H level size ws' (left ws a) fs c' E
  inv_take = record {
    room = omega (arith, R.room);
    counts = λ k b. omega (
      arith,
      grown k b,
      same k b,
      R.counts k b,
      indegree_upd N ws ws' k a in_n (λ j q o. link_cong ws ws' k j (same_δ₀ j q o) (other j o)),
      link_zero ws k a free_before,
      link_pos ws' k a used_after,
      ap (δ k) la,
      ap (δ k) ra,
    );
    shape = λ j b p. elim (ℕ_discrete j a) [
      | yes e ↦ subst (λ q. Links N level size (level q) (size q) (left ws' q) (right ws' q)) (sym e) (rw (la, ra) links)
      | no e ↦ rw ((other j e).same_left, (other j e).same-right) (R.shape j b (back j b e p))
    ];
    bounded = λ j b p. elim (ℕ_discrete j a) [ yes e ↦ omega (arith, ap level e) | no e ↦ R.bounded j b (back j b e p) ];
    inner = λ j b p r. elim (ℕ_discrete j a) [ yes e ↦ ap (value ws') e ∙ va (omega (arith, ap level e)) | no e ↦ (other j e).same-value ∙ R.inner j b (back j b e p) r ];
    chain = chain_cong N (left ws) (left ws') fs (left ws a)
        (λ k b o. (other k (λ e. omega (arith, o, ap (λ q. count q fs) e, R.listed a in_n, count_cons a a fs, δ_same a, δ₀_zero (refcount ws a) free_before))).same_left) R.chain.2;
    listed = λ k b. elim (ℕ_discrete k a) [
      | yes e ↦ omega (arith, ap (λ q. count q fs) e, ap (λ q. δ₀ (refcount ws' q)) e, δ₀_pos (refcount ws' a) used_after, R.listed a in_n, count_cons a a fs, δ_same a, δ₀_zero (refcount ws a) free_before)
      | no e ↦ omega (arith, R.listed k b, count_cons k a fs, δ_other k a e, same_δ₀ k b e)
    ];
    cleared = λ k b e. elim (ℕ_discrete k a) [
      | yes q ↦ absurd (omega (arith, used_after, ap (refcount ws') q))
      | no q ↦ (let m = R.cleared k b (δ₀_inv (refcount ws k) (omega (arith, δ₀_zero (refcount ws' k) e, same_δ₀ k b q))) in ((other k q).same-right ∙ m.0, (other k q).same-value ∙ m.1))
    ];
  }

  pub take_grows : drop (4 * N) ws' ≡ drop (4 * N) ws → Grows N ws ws'
  take_grows d = record { up = λ j b. omega (arith, grown j b); keeps = λ j b p. other j (λ e. omega (arith, ap (refcount ws) e, free_before)); len = len; rest = d }
