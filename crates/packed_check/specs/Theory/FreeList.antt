-- The free chain: it is followed to its end over just as many vacant nodes as were not visited if and only if the chain of
-- the definition has each of those once.
use Rattle.std.specs.Prelude.{◌≡◌, refl, true, List, ℕ, suc, ◌≤◌, ◌<◌, length, get_or}
use Rattle.std.proofs.Common.{sym, ◌∙◌, arith, eqb-true, eq-eqb}
use Rattle.words.specs.Basics.{count, follow, below}
use Rattle.words.specs.Counting.{sum_cong}
use Rattle.words.specs.Loops.{count-sum}
use Rattle.words.specs.Followed.{Listed, listed_all, chain_listed, listed_chain}
use Rattle.packed.specs.Pool.{next_free}
use Rattle.pool_check.specs.Algorithm.{fresh, unvisited, chain_from}
use Rattle.packed_check.specs.TwoWords.{vacant, two}

-- ---- a chain that ends

-- xs is a list of c vacant nodes, each there once
abbrev Vacants : ℕ → List ℕ → ℕ → List ℕ → Type 0
Vacants N w c xs = Listed N (vacant w) c xs

module _ (N : ℕ) (ws w : List ℕ) (few : N ≤ 16384) where
  pub chain_sound : (c f a : ℕ) → c ≤ f → chain_from two N ws w c a ≡ true → Vacants N w c (follow (suc f) (next_free ws) a)
  unfolding chain_from
  chain_sound = chain_listed N (next_free ws) (vacant w) (chain_from two N ws w) (omega arith) (λ a. refl) (λ c a. refl)

  pub chain_complete : (c f a : ℕ) → c ≤ f → Vacants N w c (follow (suc f) (next_free ws) a) → chain_from two N ws w c a ≡ true
  unfolding chain_from
  chain_complete = listed_chain N (next_free ws) (vacant w) (chain_from two N ws w) (omega arith) (λ a. refl) (λ c a. refl)

-- ---- and the nodes that were not visited

-- the chain xs of the definition has each node that was not visited once
pub record Chained (N : ℕ) (w xs : List ℕ) : Type 0 where
  pub within : below N xs ≡ true
  pub once : (x : ℕ) → x < N → count x xs ≡ fresh w x

module _ (N : ℕ) (w xs : List ℕ) where
  pub chained-length : Chained N w xs → length xs ≡ unvisited N w
  chained-length p = sym (count-sum N xs p.within) ∙ sum_cong N (λ i. count i xs) (fresh w) p.once

  -- as many different ones as there are: each of them
  pub chained : Vacants N w (unvisited N w) xs → Chained N w xs
  chained v = record {
    within = v.within;
    once = listed_all N (vacant w) (unvisited N w) xs (fresh w) (λ x t. omega (arith, eqb-true (get_or w x 0) 0 t)) (omega arith) v;
  }

  pub vacants : Chained N w xs → Vacants N w (unvisited N w) xs
  vacants p = record {
    within = p.within;
    size = chained-length p;
    passes = λ x b o. eq-eqb (get_or w x 0) 0 (omega (arith, p.once x b));
    once = λ x b. omega (arith, p.once x b);
  }
