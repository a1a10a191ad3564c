-- A chain followed in a loop: k nodes are behind, and the rest is followed from a on.
use mathlib.Core.Path.{◌≡◌, ap}
use mathlib.Core.Logic.{◌≢◌}
use mathlib.Core.List.{List}
use Prim.Native.Nat.{ℕ, suc, ◌+◌, ◌-◌, ◌/◌, ◌<◌, ◌≤◌}
use native.Mathlib.Omega.{arith}
use lib.ListN.{length, get_or}
use borrow.Author.Tests.{eq-eqb, ne_eqb, le-leb, lt-leb}
use Rattle.words.specs.Basics.{none, follow}
use Rattle.words.specs.Loops.{follow-none, follow-step}
use Rattle.soundness.specs.PackedTrees.{free_nodes}
use Rattle.soundness.specs.Numbers.{number_count}
use Rattle.splitter.specs.Queries.{free_on}

module _ (next : ℕ → ℕ) (m k a : ℕ) where
  pub chain_none : a ≡ none → k ≡ k + length (follow (m - k) next a)
  chain_none e = omega (arith, ap (length {A = ℕ}) (follow-none (m - k) next a e))

  pub chain_turn : k < m → a ≢ none → k + 1 + length (follow (m - (k + 1)) next (next a)) ≡ k + length (follow (m - k) next a)
  chain_turn h e =
      let f : m - k ≡ suc (m - (k + 1)) = omega arith in
      omega (arith, ap (λ (c : ℕ). length (follow c next a)) f, ap (length {A = ℕ}) (follow-step (m - (k + 1)) next a e))

  pub chain_end : m ≤ k → k ≡ k + length (follow (m - k) next a)
  chain_end h = let f : m - k ≡ 0 = omega arith in omega (arith, ap (λ (c : ℕ). length (follow c next a)) f)

pub chain_start : (next : ℕ → ℕ) (m a : ℕ) → 0 + length (follow (m - 0) next a) ≡ length (follow m next a)
chain_start next m a = let f : m - 0 ≡ m = omega arith in omega (arith, ap (λ (c : ℕ). length (follow c next a)) f)

-- ---- the ways out of `splitter_free_nodes`

module _ (ns ws : List ℕ) where
  pub free_other : length ns ≢ number_count → 0 ≡ free_on ns ws
  unfolding free_on
  free_other h = rw (ne_eqb (length ns) number_count h)

  pub free_short : length ns ≡ number_count → length ws / 2 < get_or ns 2 0 → 0 ≡ free_on ns ws
  unfolding free_on
  free_short l h = rw (eq-eqb (length ns) number_count l, lt-leb (get_or ns 2 0) (length ws / 2) h)

  pub free_counted : (r : ℕ) → length ns ≡ number_count → get_or ns 2 0 ≤ length ws / 2 → r ≡ length (free_nodes (get_or ns 2 0) ws (get_or ns 3 0)) → r ≡ free_on ns ws
  unfolding free_on
  free_counted r l h e = rw (eq-eqb (length ns) number_count l, le-leb (get_or ns 2 0) (length ws / 2) h) e
