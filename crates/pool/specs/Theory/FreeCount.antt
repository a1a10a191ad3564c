-- The length of the free list: the nodes with reference count 0.
use Rattle.std.specs.Prelude.{◌≡◌, refl, List, [], ◌∷◌, ℕ, zero, suc, ◌+◌, length}
use Rattle.std.proofs.Math.Path.{sym}
use Rattle.std.proofs.Common.{◌∙◌, arith}
use Rattle.std.proofs.Math.Decide.{ℕ_discrete}
use Rattle.words.specs.Basics.{sum, Chain, δ, count}
use Rattle.words.specs.Counting.{δ_same, δ_other, δ₀, δ₀_zero, δ₀_pos, when, when_zero, when_pos, count_nil, count_cons, sum_cong, sum_add, sum_zero, sum_one}
use Rattle.pool.specs.Pool.{refcount, left}
use Rattle.pool.specs.Theory.Invariant.{Invariant}

-- how many of N nodes are free, and how many are in use
unfoldable pub nodes_free : ℕ → List ℕ → ℕ
nodes_free N ws = sum N (λ i. δ₀ (refcount ws i))

unfoldable pub nodes_used : ℕ → List ℕ → ℕ
nodes_used N ws = sum N (λ i. when (refcount ws i) 1)

free_used : (N : ℕ) (ws : List ℕ) → nodes_free N ws + nodes_used N ws ≡ N
unfolding nodes_free nodes_used
free_used zero ws = refl
free_used (suc N) ws = elim (ℕ_discrete (refcount ws N) 0) [
  | yes e ↦ omega (arith, free_used N ws, δ₀_zero (refcount ws N) e, when_zero (refcount ws N) 1 e)
  | no e ↦ omega (arith, free_used N ws, δ₀_pos (refcount ws N) (omega arith), when_pos (refcount ws N) 1 (omega arith))
]

-- a chain of places below N, counted place by place
pub chain_sum : (N : ℕ) (next : ℕ → ℕ) (a : ℕ) (xs : List ℕ) → Chain next N a xs → sum N (λ i. count i xs) ≡ length xs
chain_sum N next a [] t = sum_zero N (λ i. count i []) (λ i b. count_nil i)
chain_sum N next a (x ∷ xs) t =
    sum_cong N (λ i. count i (x ∷ xs)) (λ i. δ i x + count i xs) (λ j b. count_cons j x xs)
    ∙ sum_add N (λ i. δ i x) (λ i. count i xs)
    ∙ omega (arith, chain_sum N next (next x) xs t.2, sum_one N x (λ i. δ i x) t.1 (λ j b o. δ_other j x o), δ_same x)

module _ {N H : ℕ} {level size : ℕ → ℕ} {ws : List ℕ} {free : ℕ} {fs : List ℕ} {c : ℕ} {E : List ℕ} (R : Invariant N H level size ws free fs c E) where
  pub free_length : length fs ≡ nodes_free N ws
  unfolding nodes_free
  free_length = sym (chain_sum N (left ws) free fs R.chain) ∙ sum_cong N (λ i. count i fs) (λ i. δ₀ (refcount ws i)) R.listed

  pub free_count : length fs + nodes_used N ws ≡ N
  free_count = omega (arith, free_length, free_used N ws)
