-- Retain: the reference count of one node grows by one, and nothing else changes.
use Rattle.std.specs.Prelude.{◌≡◌, refl, ◌≢◌, List, ◌∷◌, ℕ, ◌+◌, ◌*◌, ◌≤◌, ◌<◌, ◌^◌, length, drop}
use Rattle.std.proofs.Common.{sym, ap, ◌∙◌, subst, arith, mod-eq_of_lt, eq-eqb, ne_eqb}
use Rattle.std.proofs.Math.Decide.{ℕ_discrete}
use Rattle.words.specs.Basics.{none, plus, δ}
use Rattle.words.specs.Counting.{δ_same, δ_other, δ₀, δ₀_pos, count_cons}
use Rattle.pool.specs.Pool.{refcount, set_refcount, retain}
use Rattle.pool.specs.Theory.Changes.{Grows}
use Rattle.pool.specs.Theory.Invariant.{Invariant, refcount_le, inv_refcounts}
use Rattle.pool.specs.Theory.Nodes.{SameContent, content_refl, length-set_refcount, drop-set_refcount, set_refcount_is, set_refcount_other, set_refcount-content}

pub retain-none : (ws : List ℕ) (i : ℕ) → i ≡ none → retain ws i ≡ ws
unfolding retain
retain-none ws i e = rw (eq-eqb i none e)

pub retain-some : (ws : List ℕ) (i : ℕ) → i ≢ none → retain ws i ≡ set_refcount ws i (plus (refcount ws i) 1)
unfolding retain
retain-some ws i o = rw (ne_eqb i none o)

-- what holds of the words as they are, and after a store of node i's reference count, holds after retain
retain_by : (P : List ℕ → Type 0) (ws : List ℕ) (i : ℕ) → P ws → (i ≢ none → P (set_refcount ws i (plus (refcount ws i) 1))) → P (retain ws i)
retain_by P ws i z s = elim (ℕ_discrete i none) [ yes e ↦ subst P (sym (retain-none ws i e)) z | no e ↦ subst P (sym (retain-some ws i e)) (s e) ]

pub length-retain : (ws : List ℕ) (i : ℕ) → length (retain ws i) ≡ length ws
length-retain ws i = retain_by (λ q. length q ≡ length ws) ws i refl (λ _. length-set_refcount ws i (plus (refcount ws i) 1))

pub drop-retain : (ws : List ℕ) (i N : ℕ) → (i ≢ none → i < N) → drop (4 * N) (retain ws i) ≡ drop (4 * N) ws
drop-retain ws i N b = retain_by (λ q. drop (4 * N) q ≡ drop (4 * N) ws) ws i refl (λ o. drop-set_refcount ws i (plus (refcount ws i) 1) N (b o))

pub retain-content : (ws : List ℕ) (i j : ℕ) → SameContent ws (retain ws i) j
retain-content ws i j = retain_by (λ q. SameContent ws q j) ws i (content_refl ws j) (λ _. set_refcount-content ws i (plus (refcount ws i) 1) j)

-- at every node the count grows by one if it is the node retained
pub refcount-retain : (ws : List ℕ) (i j : ℕ) → j < none → (j ≡ i → (4 * i + 4 ≤ length ws) × (refcount ws i + 1 < 2 ^ 32)) → refcount (retain ws i) j ≡ refcount ws j + δ j i
refcount-retain ws i j b h = elim (ℕ_discrete j i) [
  | yes e ↦ (let m = h e in
      ap (refcount (retain ws i)) e ∙ ap (λ q. refcount q i) (retain-some ws i (omega arith)) ∙ set_refcount_is ws i (plus (refcount ws i) 1) m.0 ∙ mod-eq_of_lt m.1
      ∙ omega (arith, ap (refcount ws) e, ap (δ j) (sym e), δ_same j))
  | no e ↦ retain_by (λ q. refcount q j ≡ refcount ws j) ws i refl (λ _. set_refcount_other ws i (plus (refcount ws i) 1) j e) ∙ omega (arith, δ_other j i e)
]

-- one more outside link to a node in use
pub inv_retain : {N H : ℕ} {level size : ℕ → ℕ} {ws : List ℕ} {free : ℕ} {fs : List ℕ} {c : ℕ} {E : List ℕ} → Invariant N H level size ws free fs c E
    → (i : ℕ) → N ≤ none → i < N → 0 < refcount ws i → length E + N * 2 + 1 < 2 ^ 32 → Invariant N H level size (retain ws i) free fs c (i ∷ E) × Grows N ws (retain ws i)
inv_retain {N} {H} {level} {size} {ws} {free} {fs} {c} {E} R i small b p q = (
  inv_refcounts N H level size ws (retain ws i) (omega (arith, length-retain ws i, R.room)) (i ∷ E)
      (λ j r. elim (ℕ_discrete j i) [
        | yes e ↦ δ₀_pos (refcount (retain ws i) j) (omega (arith, grown j r, ap (refcount ws) e)) ∙ sym (δ₀_pos (refcount ws j) (omega (arith, ap (refcount ws) e)))
        | no e ↦ ap δ₀ (omega (arith, grown j r, δ_other j i e))
      ])
      (λ j _. retain-content ws i j) (λ j r. omega (arith, grown j r, count_cons j i E)) R,
  record { up = λ j r. omega (arith, grown j r); keeps = λ j _ _. retain-content ws i j; len = length-retain ws i; rest = drop-retain ws i N (λ _. b) },
)
  where
    grown : (j : ℕ) → j < N → refcount (retain ws i) j ≡ refcount ws j + δ j i
    grown j r = refcount-retain ws i j (omega arith) (λ e. (omega (arith, R.room), omega (arith, refcount_le R i b)))
