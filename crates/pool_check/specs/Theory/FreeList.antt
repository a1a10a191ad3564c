-- The free chain: it is followed to its end over just as many vacant nodes as were not visited if and only if the chain of
-- the definition has each of those once, and they are vacant.
use Rattle.std.specs.Prelude.{◌≡◌, refl, true, List, ℕ, suc, ◌≤◌, ◌<◌, eqb, length}
use Rattle.std.proofs.Common.{sym, ◌∙◌, arith, eqb-true, eq-eqb}
use Rattle.words.specs.Basics.{count, follow, below}
use Rattle.words.specs.Counting.{sum_le, sum_cong}
use Rattle.words.specs.Tests.{both}
use Rattle.words.specs.Loops.{count-sum}
use Rattle.words.specs.Followed.{Listed, listed_all, chain_listed, listed_chain}
use Rattle.pool.specs.Pool.{next_free}
use Rattle.pool_check.specs.Algorithm.{fresh, unvisited, chain_from}
use Rattle.pool_check.specs.FourWords.{bare, vacant, four}

pub unvisited_le : (N : ℕ) (w : List ℕ) → unvisited N w ≤ N
unvisited_le N w = omega (arith, sum_le N 1 (fresh w) (λ j. omega arith))

-- ---- a chain that ends

-- xs is a list of c vacant nodes, each there once
abbrev Vacants : ℕ → List ℕ → List ℕ → ℕ → List ℕ → Type 0
Vacants N ws w c xs = Listed N (vacant ws w) c xs

module _ (N : ℕ) (ws w : List ℕ) (few : N ≤ 16384) where
  pub chain_sound : (c f a : ℕ) → c ≤ f → chain_from four N ws w c a ≡ true → Vacants N ws w c (follow (suc f) (next_free ws) a)
  unfolding chain_from
  chain_sound = chain_listed N (next_free ws) (vacant ws w) (chain_from four N ws w) (omega arith) (λ a. refl) (λ c a. refl)

  pub chain_complete : (c f a : ℕ) → c ≤ f → Vacants N ws w c (follow (suc f) (next_free ws) a) → chain_from four N ws w c a ≡ true
  unfolding chain_from
  chain_complete = listed_chain N (next_free ws) (vacant ws w) (chain_from four N ws w) (omega arith) (λ a. refl) (λ c a. refl)

-- ---- and the nodes that were not visited

-- the chain xs of the definition has each node that was not visited once
pub record Chained (N : ℕ) (ws w xs : List ℕ) : Type 0 where
  pub within : below N xs ≡ true
  pub once : (x : ℕ) → x < N → count x xs ≡ fresh w x
  pub empty : (x : ℕ) → x < N → 0 < count x xs → bare ws x ≡ true

module _ (N : ℕ) (ws w xs : List ℕ) where
  pub chained-length : Chained N ws w xs → length xs ≡ unvisited N w
  chained-length p = sym (count-sum N xs p.within) ∙ sum_cong N (λ i. count i xs) (fresh w) p.once

  -- a vacant node was not visited
  vacant_of : (x : ℕ) → vacant ws w x ≡ true → (fresh w x ≡ 1) × (bare ws x ≡ true)
  unfolding vacant
  vacant_of x t = let p = both (eqb (fresh w x) 1) _ t in (eqb-true (fresh w x) 1 p.0, p.1)

  -- as many different ones as there are: each of them
  pub chained : Vacants N ws w (unvisited N w) xs → Chained N ws w xs
  chained v = record {
    within = v.within;
    once = listed_all N (vacant ws w) (unvisited N w) xs (fresh w) (λ x t. (vacant_of x t).0) (omega arith) v;
    empty = λ x b o. (vacant_of x (v.passes x b o)).1;
  }

  pub vacants : Chained N ws w xs → Vacants N ws w (unvisited N w) xs
  unfolding vacant
  vacants p = record {
    within = p.within;
    size = chained-length p;
    passes = λ x b o. rw (eq-eqb (fresh w x) 1 (omega (arith, p.once x b))) (p.empty x b o);
    once = λ x b. omega (arith, p.once x b);
  }
