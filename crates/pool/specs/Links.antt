-- What fast functions ask of a pool: its links are nodes or none, so that no index needs a test. Definitions only.
use Rattle.std.specs.Prelude.{◌≡◌, ◌⊎◌, Bool, true, false, cond, List, ℕ, zero, suc, ◌+◌, ◌-◌, ◌*◌, ◌≤◌, ◌<◌, length}
use Rattle.words.specs.Basics.{none}
use Rattle.sizes.specs.Sizes.{bit}
use Rattle.pool.specs.Pool.{refcount, left, right, child, sibling, next_free, release, path_node}

-- i is one of N nodes, or none
abbrev pub Link : ℕ → ℕ → Type 0
Link N i = (i < N) ⊎ (i ≡ none)

-- the pool has N nodes, and the links of each, of free ones too, are nodes or none
pub record LinksIn (N : ℕ) (ws : List ℕ) : Type 0 where
  pub room : 4 * N ≤ length ws
  pub lefts : (i : ℕ) → i < N → Link N (left ws i)
  pub rights : (i : ℕ) → i < N → Link N (right ws i)

-- the walk of so many levels from node i to splitter x meets nodes only
abbrev pub PathIn : ℕ → List ℕ → ℕ → ℕ → ℕ → Type 0
PathIn N ws zero i x = i < N
PathIn N ws (suc l) i x = (i < N) × PathIn N ws l (child ws i (bit l x)) x

-- the new path of copy_path from level l down: its nodes are nodes, and so are those that it copies
unfoldable pub CopyIn : ℕ → ℕ → List ℕ → ℕ → ℕ → ℕ → Type 0
CopyIn N zero ws i old x = i < N
CopyIn N (suc l) ws i old x =
    (i < N) × (old < N) × Link N (sibling ws old (bit l x))
    × CopyIn N l (path_node ws i (bit l x) (next_free ws i) (sibling ws old (bit l x))) (next_free ws i) (child ws old (bit l x)) x

-- what the walk tells of p, which first_shared gives: whether a node is shared and its level; the place of its first word, or of the
-- leaf's; and the place of the link to it, if it is not the root
pub record IsShared (h x : ℕ) (shared : Bool) (level at link : ℕ) (p : ℕ × ℕ × ℕ) : Type 0 where
  pub rest : p.0 ≡ cond shared (suc level) 0
  pub place : at ≡ 4 * p.1
  pub linked : shared ≡ true → level < h → link ≡ 4 * p.2 + 1 + bit level x

-- a write to x in a tree of height h meets nodes only, where p is what first_shared gives
pub record WriteIn (N h : ℕ) (ws : List ℕ) (free x : ℕ) (p : ℕ × ℕ × ℕ) : Type 0 where
  pub within : p.0 ≤ suc h
  pub node : p.1 < N
  pub above : 0 < p.0 → p.0 ≤ h → p.2 < N
  pub copies : 0 < p.0 → CopyIn N (p.0 - 1) ws free p.1 x

-- the words, the free list and the root after a write
abbrev pub Wrote : List ℕ × ℕ × ℕ × ℕ → List ℕ → ℕ → ℕ → ℕ → Type 0
Wrote p ws f k r = (ws ≡ p.0) × (f ≡ p.1) × (k ≡ p.2) × (r ≡ p.3)

-- what is left to do after node i lost a holder: to free it, with nothing stored yet; or nothing, its release is done
abbrev pub LetGo : Bool → ℕ → List ℕ → List ℕ → ℕ → Type 0
LetGo true N ws ws' i = (ws' ≡ ws) × (i < N) × (refcount ws i ≤ 1)
LetGo false N ws ws' i = (l free k : ℕ) → (ws', free, k) ≡ release l ws free k i
