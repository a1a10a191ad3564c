-- Chains: what a store elsewhere leaves, the first element, and what follows one.
use Rattle.std.specs.Prelude.{◌≡◌, ℕ, ◌<◌, ◌⊎◌, List, [], ◌∷◌, length}
use Rattle.std.proofs.Common.{sym, ap, subst, inl, inr, arith}
use Rattle.std.proofs.Math.Decide.{ℕ_discrete}
use Rattle.words.specs.Basics.{none, Chain, count}
use Rattle.words.specs.Counting.{δ_same, δ_other, count_nil, count_cons}

-- the two go on alike from each of its elements
pub chain_cong : (N : ℕ) (next next' : ℕ → ℕ) (xs : List ℕ) (a : ℕ) → ((x : ℕ) → x < N → 0 < count x xs → next' x ≡ next x) → Chain next N a xs → Chain next' N a xs
chain_cong N next next' [] a h t = t
chain_cong N next next' (x ∷ xs) a h t = (
  t.0,
  t.1,
  subst (λ (q : ℕ). Chain next' N q xs) (sym (h x t.1 (omega (arith, count_cons x x xs, δ_same x))))
      (chain_cong N next next' xs (next x) (λ y b o. h y b (omega (arith, count_cons y x xs))) t.2),
)

pub chain_head : (N : ℕ) (next : ℕ → ℕ) (a : ℕ) (xs : List ℕ) → 0 < length xs → Chain next N a xs → (ys : List ℕ) × (xs ≡ a ∷ ys) × (a < N) × Chain next N (next a) ys
chain_head N next a [] p c = absurd (omega arith)
chain_head N next a (x ∷ xs) p c =
    (xs, ap (λ (q : ℕ). q ∷ xs) (sym c.0), subst (λ (q : ℕ). q < N) (sym c.0) c.1, subst (λ (q : ℕ). Chain next N (next q) xs) (sym c.0) c.2)

-- its first element, and what follows an element, is below N or none
pub chain_start : (N : ℕ) (next : ℕ → ℕ) (a : ℕ) (xs : List ℕ) → Chain next N a xs → (a < N) ⊎ (a ≡ none)
chain_start N next a [] c = inr c
chain_start N next a (x ∷ xs) c = inl (subst (λ (q : ℕ). q < N) (sym c.0) c.1)

pub chain_next : (N : ℕ) (next : ℕ → ℕ) (a x : ℕ) (xs : List ℕ) → 0 < count x xs → Chain next N a xs → (next x < N) ⊎ (next x ≡ none)
chain_next N next a x [] p c = absurd (omega (arith, count_nil x))
chain_next N next a x (y ∷ xs) p c = elim (ℕ_discrete x y) [
  | yes e ↦ subst (λ (q : ℕ). (next q < N) ⊎ (next q ≡ none)) (sym e) (chain_start N next (next y) xs c.2)
  | no e ↦ chain_next N next (next y) x xs (omega (arith, count_cons x y xs, δ_other x y e)) c.2
]
