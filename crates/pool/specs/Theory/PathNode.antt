-- One node of a write's new path: sides, and what is read after its store.
use Rattle.std.specs.Prelude.{◌≡◌, refl, ◌≢◌, List, ℕ, zero, suc, ◌+◌, ◌*◌, ◌≤◌, ◌<◌, ◌^◌, length, drop}
use Rattle.std.proofs.Math.Path.{ap}
use Rattle.std.proofs.Common.{◌∙◌, arith}
use Rattle.std.proofs.Math.Decide.{ℕ_discrete}
use Rattle.words.specs.Basics.{none, δ}
use Rattle.words.specs.Counting.{δ_same, δ_other, δ_le}
use Rattle.pool.specs.Pool.{refcount, left, right, value, set_node, side, child, sibling, path_node}
use Rattle.pool.specs.Theory.Nodes.{NodeIs, SameContent, content_trans, length-set_node, drop-set_node, set_node_is, set_node_other}
use Rattle.pool.specs.Theory.Retain.{length-retain, drop-retain, retain-content, refcount-retain}

-- ---- left or right

pub side-sum : (b p q k : ℕ) → δ k q + δ k p ≡ δ k (side b p q) + δ k (side b q p)
unfolding side
side-sum zero p q k = omega arith
side-sum (suc b) p q k = omega arith

pub side_same : (b p q : ℕ) → side b (side b p q) (side b q p) ≡ p
unfolding side
side_same zero p q = refl
side_same (suc b) p q = refl

pub side_other : (b d p q : ℕ) → b < 2 → d < 2 → d ≢ b → side d (side b p q) (side b q p) ≡ q
unfolding side
side_other zero zero p q hb hd o = absurd (o refl)
side_other zero (suc d) p q hb hd o = refl
side_other (suc b) zero p q hb hd o = refl
side_other (suc b) (suc d) p q hb hd o = absurd (omega arith)

-- the child on one side is the sibling of the other
pub child-sibling : (ws : List ℕ) (i b d : ℕ) → b < 2 → d < 2 → d ≢ b → child ws i d ≡ sibling ws i b
unfolding child sibling side
child-sibling ws i zero zero hb hd o = absurd (o refl)
child-sibling ws i zero (suc d) hb hd o = refl
child-sibling ws i (suc b) zero hb hd o = refl
child-sibling ws i (suc b) (suc d) hb hd o = absurd (omega arith)

-- ---- the store of one node: a free node a gets the next node on side b and the kept one on the other

module _ (N : ℕ) (small : N ≤ none) (ws : List ℕ) (room : 4 * N ≤ length ws) (a b next kept : ℕ) (in_n : a < N) (z : refcount ws a ≡ 0) where
  ws₁ : List ℕ
  ws₁ = set_node ws a 1 (side b next kept) (side b kept next) 0

  node : NodeIs ws₁ a 1 (side b next kept) (side b kept next) 0
  unfolding ws₁
  node = set_node_is ws a 1 (side b next kept) (side b kept next) 0 (omega arith)

  pub path_node-length : length (path_node ws a b next kept) ≡ length ws
  unfolding path_node
  path_node-length = length-retain _ kept ∙ length-set_node ws a 1 (side b next kept) (side b kept next) 0

  pub path_node-rest : (kept ≢ none → kept < N) → drop (4 * N) (path_node ws a b next kept) ≡ drop (4 * N) ws
  unfolding path_node
  path_node-rest h = drop-retain _ kept N h ∙ drop-set_node ws a 1 (side b next kept) (side b kept next) 0 N in_n

  pub path_node-left : left (path_node ws a b next kept) a ≡ side b next kept
  unfolding path_node ws₁
  path_node-left = (retain-content ws₁ kept a).same_left ∙ node.left_is

  pub path_node-right : right (path_node ws a b next kept) a ≡ side b kept next
  unfolding path_node ws₁
  path_node-right = (retain-content ws₁ kept a).same-right ∙ node.right_is

  pub path_node-value : value (path_node ws a b next kept) a ≡ 0
  unfolding path_node ws₁
  path_node-value = (retain-content ws₁ kept a).same-value ∙ node.value_is

  pub path_node_other : (j : ℕ) → j ≢ a → SameContent ws (path_node ws a b next kept) j
  unfolding path_node
  path_node_other j o = content_trans (set_node_other ws a j 1 (side b next kept) (side b kept next) 0 o).content (retain-content _ kept j)

  ws₁_refcount : (k : ℕ) → refcount ws₁ k ≡ refcount ws k + δ k a
  unfolding ws₁
  ws₁_refcount k = elim (ℕ_discrete k a) [
    | yes e ↦ omega (arith, ap (refcount (set_node ws a 1 (side b next kept) (side b kept next) 0)) e, node.refcount_is, ap (refcount ws) e, ap (λ q. δ q a) e, δ_same a)
    | no e ↦ omega (arith, (set_node_other ws a k 1 (side b next kept) (side b kept next) 0 e).same-refcount, δ_other k a e)
  ]

  -- the new node and the kept one gain a holder each
  pub path_node-refcount : (kept < N → refcount ws kept + 2 < 2 ^ 32) → (k : ℕ) → k < N → refcount (path_node ws a b next kept) k ≡ refcount ws k + δ k a + δ k kept
  unfolding path_node ws₁
  path_node-refcount h k q = refcount-retain ws₁ kept k (omega arith)
      (λ e. (omega (arith, length-set_node ws a 1 (side b next kept) (side b kept next) 0), omega (arith, h (omega arith), ws₁_refcount kept, δ_le kept a)))
      ∙ omega (arith, ws₁_refcount k)
