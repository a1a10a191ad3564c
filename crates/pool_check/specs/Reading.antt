-- How a node is read from a pool's words: what the check asks of a layout. Definitions only.
use Rattle.std.specs.Prelude.{Bool, List, ℕ, suc, ◌*◌, ◌≤◌, length}
use Rattle.soundness.specs.Layout.{Layout}

pub record Reading : Type 0 where
  pub layout : Layout
  -- the links of a node, and that for none
  pub left : List ℕ → ℕ → ℕ
  pub right : List ℕ → ℕ → ℕ
  pub none : ℕ
  -- its holders, and the node after it on the free chain
  pub holders : List ℕ → ℕ → ℕ
  pub next_free : List ℕ → ℕ → ℕ
  -- the node has what a node of this level has, its children aside
  pub shaped : List ℕ → ℕ → ℕ → Bool
  -- the node may be on the free chain, by pool and work slice
  pub vacant : List ℕ → List ℕ → ℕ → Bool

-- the pool has node i
abbrev pub HasNode : Reading → List ℕ → ℕ → Type 0
HasNode R ws i = R.layout.words * suc i ≤ length ws
