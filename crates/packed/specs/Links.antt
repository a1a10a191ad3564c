-- What fast functions ask of a pool of two-word nodes: the nodes on the way are nodes, so that no index needs a test. Definitions only.
use Rattle.std.specs.Prelude.{◌≡◌, Bool, true, false, List, ℕ, zero, suc, ◌-◌, ◌≤◌, ◌<◌}
use Rattle.sizes.specs.Sizes.{bit}
use Rattle.pool.specs.Links.{Link}
use Rattle.packed.specs.declared.found.FirstShared.{FirstShared}
use Rattle.packed.specs.declared.found.FirstShared.TheVariants.{Leaf, Node}
use Rattle.packed.specs.declared.found.Shared.{Shared}
use Rattle.packed.specs.Pool.{refcount, child, sibling, next_free, release, path_node}

-- the walk of so many levels from node i to splitter x meets nodes only
abbrev pub PathIn : ℕ → List ℕ → ℕ → ℕ → ℕ → Type 0
PathIn N ws zero i x = i < N
PathIn N ws (suc l) i x = (i < N) × PathIn N ws l (child ws i (bit l x)) x

-- the new path of copy_path from level l down: its nodes are nodes, and so are those that it copies
unfoldable pub CopyIn : ℕ → ℕ → List ℕ → ℕ → ℕ → ℕ → Type 0
CopyIn N zero ws i old x = i < N
CopyIn N (suc l) ws i old x =
    (i < N) × (old < N) × Link N (sibling ws old (bit l x))
    × CopyIn N l (path_node ws i (bit l x) (next_free ws i) (sibling ws old (bit l x))) (next_free ws i) (child ws old (bit l x)) x

-- what the walk tells of p, which first_shared gives, where a node is shared: its level, the node, and the node above it, if it is not the root
pub record IsShared (h : ℕ) (s : Shared) (p : ℕ × ℕ × ℕ) : Type 0 where
  pub rest : p.0 ≡ suc s.level
  pub found : s.node ≡ p.1
  pub linked : s.level < h → s.above ≡ p.2

-- where none is shared: the leaf
pub record IsAlone (leaf : ℕ) (p : ℕ × ℕ × ℕ) : Type 0 where
  pub rest : p.0 ≡ 0
  pub found : leaf ≡ p.1

abbrev pub Finds : ℕ → FirstShared → ℕ × ℕ × ℕ → Type 0
Finds h (Leaf leaf) p = IsAlone leaf p
Finds h (Node s) p = IsShared h s p

-- a write to x in a tree of height h meets nodes only, where p is what first_shared gives
pub record WriteIn (N h : ℕ) (ws : List ℕ) (free x : ℕ) (p : ℕ × ℕ × ℕ) : Type 0 where
  pub within : p.0 ≤ suc h
  pub node : p.1 < N
  pub above : 0 < p.0 → p.0 ≤ h → p.2 < N
  pub copies : 0 < p.0 → CopyIn N (p.0 - 1) ws free p.1 x

-- the words, the free list and the root after a write
abbrev pub Wrote : List ℕ × ℕ × ℕ × ℕ → List ℕ → ℕ → ℕ → ℕ → Type 0
Wrote p ws f k r = (ws ≡ p.0) × (f ≡ p.1) × (k ≡ p.2) × (r ≡ p.3)

-- the words, the first free node and the number of free nodes after a release
abbrev pub Released : List ℕ × ℕ × ℕ → List ℕ → ℕ → ℕ → Type 0
Released p ws f k = (ws ≡ p.0) × (f ≡ p.1) × (k ≡ p.2)

-- what is left to do after node i lost a holder: to free it, with nothing stored yet; or nothing, its release is done
abbrev pub LetGo : Bool → ℕ → List ℕ → List ℕ → ℕ → Type 0
LetGo true N ws ws' i = (ws' ≡ ws) × (i < N) × (refcount ws i ≤ 1)
LetGo false N ws ws' i = (l free k : ℕ) → (ws', free, k) ≡ release N l ws free k i
