-- A chain followed by the check is the free list of the theory: `follow` one step past N, each element below N and none twice.
use Rattle.std.specs.Prelude.{◌≡◌, Bool, true, List, [], ◌∷◌, ℕ, zero, suc, ◌≤◌, ◌<◌, length}
use Rattle.std.proofs.Common.{ap, ap₂, ◌∙◌, arith}
use Rattle.words.specs.Basics.{none, how_many, Chain, follow, below, count}
use Rattle.words.specs.Loops.{follow-none, follow-step, count-sum}
use Rattle.words.specs.Tallies.{sum_upto, how_many_unique}
use Rattle.words.specs.Counting.{how_many-some}
use Rattle.words.specs.Linked.{follow_chain}
pub use Rattle.words.specs.Linked.{chain_below}

module _ (next : ℕ → ℕ) (N : ℕ) where
  chain_follow : N ≤ none → (c a : ℕ) (xs : List ℕ) → Chain next N a xs → length xs < c → follow c next a ≡ xs
  chain_follow small zero a xs ch h = absurd (omega arith)
  chain_follow small (suc c) a [] ch h = follow-none (suc c) next a ch
  chain_follow small (suc c) a (x ∷ xs) ch h =
      follow-step c next a (λ e. omega (arith, ch.0, ch.1))
      ∙ ap₂ ◌∷◌ ch.0 (ap (λ q. follow c next (next q)) ch.0 ∙ chain_follow small c (next x) xs ch.2 (omega arith))

  pub once_short : (xs : List ℕ) → below N xs ≡ true → ((i : ℕ) → i < N → count i xs ≤ 1) → length xs ≤ N
  once_short xs b h = omega (arith, count-sum N xs b, sum_upto N 1 (λ i. count i xs) h)

  pub follow-sound : (first : ℕ) → below N (follow (suc N) next first) ≡ true → ((i : ℕ) → i < N → count i (follow (suc N) next first) ≤ 1) → Chain next N first (follow (suc N) next first)
  follow-sound first b h = follow_chain next N (suc N) first (omega (arith, once_short (follow (suc N) next first) b h)) b

  pub sound-follow : N ≤ none → (first : ℕ) (gs : List ℕ) → Chain next N first gs → ((i : ℕ) → i < N → count i gs ≤ 1) → follow (suc N) next first ≡ gs
  sound-follow small first gs ch h = chain_follow small (suc N) first gs ch (omega (arith, once_short gs (chain_below next N first gs ch) h))

-- a test that holds of one number only
pub the_one : (n : ℕ) (f : ℕ → Bool) → how_many n f ≡ 1 → (i : ℕ) × (i < n) × (f i ≡ true) × ((j : ℕ) → j < n → f j ≡ true → j ≡ i)
the_one n f e = let r = how_many-some n f (omega arith) in (r.0, r.1, r.2, λ j b t. how_many_unique n j r.0 f (omega arith) b r.1 t r.2)
