-- Growth and shrinking of the pool: what nodes in use keep.
use Rattle.std.specs.Prelude.{◌≡◌, refl, List, ℕ, ◌*◌, ◌≤◌, ◌<◌, length, drop}
use Rattle.std.proofs.Common.{◌∙◌, arith}
use Rattle.pool.specs.Pool.{refcount}
use Rattle.pool.specs.Theory.Nodes.{SameContent, content_refl, content_trans}

-- each node in use in ws has the same links and value in ws'
abbrev pub Keeps : ℕ → List ℕ → List ℕ → Type 0
Keeps N ws ws' = (j : ℕ) → j < N → 0 < refcount ws j → SameContent ws ws' j

-- what was in use before is as it was, with at least as many holders
pub record Grows (N : ℕ) (ws ws' : List ℕ) : Type 0 where
  pub up : (j : ℕ) → j < N → refcount ws j ≤ refcount ws' j
  pub keeps : Keeps N ws ws'
  pub len : length ws' ≡ length ws
  pub rest : drop (4 * N) ws' ≡ drop (4 * N) ws

-- the other way round: what is in use afterwards is as it was, with at most as many holders
abbrev pub Shrinks : ℕ → List ℕ → List ℕ → Type 0
Shrinks N ws ws' = Grows N ws' ws

pub grows_refl : (N : ℕ) (ws : List ℕ) → Grows N ws ws
grows_refl N ws = record { up = λ j b. omega arith; keeps = λ j b p. content_refl ws j; len = refl; rest = refl }

pub grows_trans : {N : ℕ} {ws ws' ws'' : List ℕ} → Grows N ws ws' → Grows N ws' ws'' → Grows N ws ws''
grows_trans F G = record {
  up = λ j b. omega (arith, F.up j b, G.up j b);
  keeps = λ j b p. content_trans (F.keeps j b p) (G.keeps j b (omega (arith, F.up j b)));
  len = G.len ∙ F.len;
  rest = G.rest ∙ F.rest;
}
