-- A visit of a tree of the definition succeeds, where no node is reached on two levels.
use Rattle.std.specs.Prelude.{◌≡◌, refl, ◌≢◌, Bool, true, List, get_or}
use Rattle.std.proofs.Common.{sym, ap, ◌∙◌, arith, eq-eqb, get_or-set_same, get_or-set_other}
use Prim.Native.Nat.{ℕ, zero, suc, ◌+◌, ◌-◌, ◌%◌, ◌^◌, ◌≤◌, ◌<◌, min}
use Rattle.std.proofs.Math.Decide.{ℕ_discrete}
use Rattle.std.proofs.Math.ListN.{length, length-set}
use Rattle.words.specs.Basics.{none, plus, count}
use Rattle.words.specs.Counting.{δ_same}
use Rattle.packed.specs.Pool.{left, right}
use Rattle.pool_check.specs.Algorithm.{mark, stamp, stamped, linked, visit, below}
use Rattle.pool_check.specs.Theory.Shape.{Fits, fits-left, fits-right}
use Rattle.pool_check.specs.Theory.Stamps.{stamp_of, linked-stamp}
use Rattle.packed_check.specs.TwoWords.{two}
use Rattle.pool_check.specs.Theory.Ways.{on_left, visit_again, visit-below, below_end, below_right, visit_keeps}
use Rattle.packed_check.specs.Theory.Shape.{tree, nodes, tree-node, tree-left, tree_end, tree-right, root_on, leaf_count, end_count, inner-count, unique}

-- node x stands as its stamp says; On tells the level of each node reached
pub record Stands (n N : ℕ) (ws : List ℕ) (On : ℕ → ℕ → Type 0) (w : List ℕ) (x : ℕ) : Type 0 where
  pub level : ℕ
  pub part : ℕ
  pub fits : Fits n level part
  pub is : stamp_of w x ≡ stamp level part
  pub is_tree : tree N ws level part x ≡ true
  pub is_on : On level x

-- every node visited does
abbrev pub Honest : ℕ → ℕ → List ℕ → (ℕ → ℕ → Type 0) → List ℕ → Type 0
Honest n N ws On w = (x : ℕ) → x < N → mark w x ≡ 1 → Stands n N ws On w x

-- the nodes of a tree are on its levels
abbrev pub AllOn : List ℕ → (ℕ → ℕ → Type 0) → ℕ → ℕ → ℕ → Type 0
AllOn ws On l k i = (j x : ℕ) → 0 < count x (nodes ws j l k i) → On j x

module _ (ws : List ℕ) (On : ℕ → ℕ → Type 0) (k i : ℕ) where
  -- its root
  root_is_on : (l : ℕ) → AllOn ws On l k i → On l i
  root_is_on zero O = O 0 i (omega (arith, leaf_count ws 0 i k i, root_on 0 0 i i refl, δ_same i))
  root_is_on (suc l) O = O (suc l) i (elim (ℕ_discrete (k - 2 ^ l) 0) [
    | yes e ↦ omega (arith, end_count ws (suc l) i k i l e, root_on (suc l) (suc l) i i refl, δ_same i)
    | no e ↦ omega (arith, inner-count ws (suc l) i k i l e, root_on (suc l) (suc l) i i refl, δ_same i)
  ])

  -- those of its children's trees
  left_on : (l : ℕ) → AllOn ws On (suc l) k i → AllOn ws On l (min k (2 ^ l)) (left ws i)
  left_on l O j x p = O j x (elim (ℕ_discrete (k - 2 ^ l) 0) [ yes e ↦ omega (arith, end_count ws j x k i l e) | no e ↦ omega (arith, inner-count ws j x k i l e) ])

  right_on : (l : ℕ) → k - 2 ^ l ≢ 0 → AllOn ws On (suc l) k i → AllOn ws On l (k - 2 ^ l) (right ws i)
  right_on l e O j x p = O j x (omega (arith, inner-count ws j x k i l e))

module _ (n N : ℕ) (ws : List ℕ) (small : n ≤ 256) (few : N ≤ 16384) (On : ℕ → ℕ → Type 0) (one : (x j j' : ℕ) → x < N → On j x → On j' x → j ≡ j') where
  stands_same : (w w' : List ℕ) (x : ℕ) → stamp_of w' x ≡ stamp_of w x → Stands n N ws On w x → Stands n N ws On w' x
  stands_same w w' x e s = record { level = s.level; part = s.part; fits = s.fits; is = e ∙ s.is; is_tree = s.is_tree; is_on = s.is_on }

  -- the outcome p of a visit
  abbrev Succeeds : List ℕ × Bool → Type 0
  Succeeds p = (p.1 ≡ true) × Honest n N ws On p.0

  module _ (l k i : ℕ) (w : List ℕ) (f : Fits n l k) (level : l ≤ 8) (r : N ≤ length w) (H : Honest n N ws On w) (t : tree N ws l k i ≡ true) (O : AllOn ws On l k i) where
    b : i < N
    b = tree-node N ws k i l t

    honest_again : get_or w i 0 ≢ 0 → Honest n N ws On (linked w i)
    honest_again u x bx m = stands_same w (linked w i) x (linked-stamp w i (omega (arith, b)) x) (H x bx (elim (ℕ_discrete x i) [
      | yes e ↦ rw e (omega arith)
      | no e ↦ omega (arith, get_or-set_other w i x (plus (get_or w i 0) 8192) 0 e)
    ]))

    honest_first : get_or w i 0 ≡ 0 → Honest n N ws On (stamped w i (stamp l k))
    honest_first u x bx m = elim (ℕ_discrete x i) [
      | yes e ↦
          rw e (record { level = l; part = k; fits = f; is = omega (arith, get_or-set_same w i (stamp l k + 8192) 0 (omega (arith, b)), f.most); is_tree = t; is_on = root_is_on ws On k i l O })
      | no e ↦ (
          let same = get_or-set_other w i x (stamp l k + 8192) 0 e in
          stands_same w (stamped w i (stamp l k)) x (ap (λ (q : ℕ). q % 8192) same) (H x bx (ap (λ (q : ℕ). min 1 q) (sym same) ∙ m)))
    ]

    -- a node met again has the same stamp: it is reached on one level, and stands over one number of splitters there
    same-stamp : get_or w i 0 ≢ 0 → stamp_of w i ≡ stamp l k
    same-stamp u =
        let s = H i b (omega arith) in
        let el : s.level ≡ l = one i s.level l b s.is_on (root_is_on ws On k i l O) in
        let ek : s.part ≡ k = unique n N ws few l s.part k i (rw el at s.fits) f (rw el at s.is_tree) t in
        omega (arith, s.is, el, ek)

    met_succeeds : (Honest n N ws On (stamped w i (stamp l k)) → Succeeds (below two N ws l k i (stamped w i (stamp l k)))) → Succeeds (visit two N ws l k i w)
    met_succeeds deep = elim (ℕ_discrete (get_or w i 0) 0) [
      | yes u ↦ rw (visit-below two N ws k i w b u l refl) (deep (honest_first u))
      | no u ↦ rw (visit_again two N ws k i w b l u) (eq-eqb (stamp_of w i) (stamp l k) (same-stamp u), honest_again u)
    ]

  -- from the visits of the children
  below_succeeds : (l k i : ℕ) (w : List ℕ) → tree N ws (suc l) k i ≡ true → Succeeds (on_left two N ws l k i w) → (k - 2 ^ l ≢ 0 → Succeeds (visit two N ws l (k - 2 ^ l) (right ws i) (on_left two N ws l k i w).0))
      → Succeeds (below two N ws (suc l) k i w)
  below_succeeds l k i w t L R = elim (ℕ_discrete (k - 2 ^ l) 0) [
    | yes e ↦ rw (below_end two N ws l k i w L.0 e) (eq-eqb (right ws i) none (tree_end N ws k i l t e), L.1)
    | no e ↦ rw (below_right two N ws l k i w L.0 e) (R e)
  ]

  pub visit_succeeds : (l k i : ℕ) (w : List ℕ) → Fits n l k → l ≤ 8 → N ≤ length w → Honest n N ws On w → tree N ws l k i ≡ true → AllOn ws On l k i → Succeeds (visit two N ws l k i w)
  unfolding below
  visit_succeeds zero k i w f level r H t O = met_succeeds 0 k i w f level r H t O (λ H₁. (refl, H₁))
  visit_succeeds (suc l) k i w f level r H t O = met_succeeds (suc l) k i w f level r H t O (λ H₁.
      let w₁ = stamped w i (stamp (suc l) k) in
      let w₂ = (on_left two N ws l k i w₁).0 in
      let r₁ : N ≤ length w₁ = omega (arith, length-set w i (stamp (suc l) k + 8192)) in
      let r₂ : N ≤ length w₂ = omega (arith, (visit_keeps two N ws l (min k (2 ^ l)) (left ws i) w₁).size) in
      let L = visit_succeeds l (min k (2 ^ l)) (left ws i) w₁ (fits-left n l k f) (omega arith) r₁ H₁ (tree-left N ws k i l t) (left_on ws On k i l O) in
      below_succeeds l k i w₁ t L (λ e. visit_succeeds l (k - 2 ^ l) (right ws i) w₂ (fits-right n l k f e) (omega arith) r₂ L.1 (tree-right N ws k i l t e) (right_on ws On k i l e O)))
