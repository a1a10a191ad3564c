-- The way down to a splitter's leaf as the code runs it. Over plain variables.
use mathlib.Core.Path.{◌≡◌, sym, ap, ◌∙◌, subst}
use mathlib.Core.List.{List}
use Prim.Native.Nat.{ℕ, zero, suc, ◌-◌, ◌<◌, ◌≤◌}
use native.Mathlib.Omega.{arith}
use native.Mathlib.Numerals.{sub-one}
use Rattle.sizes.specs.Sizes.{bit}
use Rattle.packed.specs.Pool.{content, link_in, child, leaf_of, read_at}
use Rattle.packed.specs.Links.{PathIn}
use Rattle.packed.proofs.Theory.Halves.{link_in_is}
use Rattle.packed.proofs.Laws.{leaf_step, leaf_end}

pub path_here : (N : ℕ) (ws : List ℕ) (l i x : ℕ) → PathIn N ws l i x → i < N
path_here N ws zero i x p = p
path_here N ws (suc l) i x p = p.0

pub path_on : (N : ℕ) (ws : List ℕ) (l i x : ℕ) → 0 < l → PathIn N ws l i x → PathIn N ws (l - 1) (child ws i (bit (l - 1) x)) x
path_on N ws zero i x h p = absurd (omega arith)
path_on N ws (suc l) i x h p = rw sub-one p.1

-- the half on the way is the next node
module _ (N l : ℕ) (ws : List ℕ) (i x next : ℕ) (P : PathIn N ws l i x) (h : 0 < l) (n : N < 4294967296) (e : link_in next ≡ child ws i (bit (l - 1) x)) where
  pub next_is : next ≡ child ws i (bit (l - 1) x)
  next_is = link_in_is next (child ws i (bit (l - 1) x)) e (path_here N ws (l - 1) (child ws i (bit (l - 1) x)) x (path_on N ws l i x h P)) (omega arith)

  pub next_path : PathIn N ws (l - 1) next x
  next_path = subst (λ j. PathIn N ws (l - 1) j x) (sym next_is) (path_on N ws l i x h P)

  pub next_leaf : {j : ℕ} → leaf_of l ws i x ≡ j → leaf_of (l - 1) ws next x ≡ j
  next_leaf f = ap (λ k. leaf_of (l - 1) ws k x) next_is ∙ leaf_step l ws i x h ∙ f

-- at the leaf
pub leaf_value : (l : ℕ) (ws : List ℕ) (i x h root : ℕ) {v : ℕ} → leaf_of l ws i x ≡ leaf_of h ws root x → l ≤ 0 → v ≡ content ws i → v ≡ read_at h ws root x
unfolding read_at
leaf_value l ws i x h root f b e = e ∙ ap (content ws) (leaf_end l ws i x b ∙ f)
