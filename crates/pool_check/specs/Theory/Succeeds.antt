-- A visit of a tree of the definition succeeds.
use Rattle.std.specs.Prelude.{◌≡◌, refl, ◌≢◌, Bool, true, List, get_or}
use Rattle.std.proofs.Common.{sym, ap, ◌∙◌, arith, eq-eqb, get_or-set_same, get_or-set_other}
use Prim.Native.Nat.{ℕ, zero, suc, ◌+◌, ◌-◌, ◌%◌, ◌^◌, ◌≤◌, ◌<◌, min}
use Rattle.std.proofs.Math.Decide.{ℕ_discrete}
use Rattle.std.proofs.Math.ListN.{length, length-set}
use Rattle.words.specs.Basics.{none, plus}
use Rattle.pool.specs.Pool.{left, right}
use Rattle.pool_check.specs.Algorithm.{mark, stamp, stamped, linked, visit, below}
use Rattle.pool_check.specs.FourWords.{four}
use Rattle.pool_check.specs.Theory.Ways.{on_left, visit_again, visit-below, below_end, below_right, visit_keeps}
use Rattle.pool_check.specs.Theory.Shape.{tree, tree-node, tree-shaped, tree-left, tree_end, tree-right, Fits, fits-left, fits-right, unique}
use Rattle.pool_check.specs.Theory.Stamps.{stamp_of, linked-stamp}

-- how node x stands, by its stamp
pub record Stands (n N : ℕ) (ws w : List ℕ) (x : ℕ) : Type 0 where
  pub level : ℕ
  pub part : ℕ
  pub fits : Fits n level part
  pub is : stamp_of w x ≡ stamp level part
  pub is_tree : tree N ws level part x ≡ true

-- every node visited stands as its stamp says
abbrev pub Honest : ℕ → ℕ → List ℕ → List ℕ → Type 0
Honest n N ws w = (x : ℕ) → x < N → mark w x ≡ 1 → Stands n N ws w x

module _ (n N : ℕ) (ws : List ℕ) (small : n ≤ 256) (few : N ≤ 16384) where
  stands_same : (w w' : List ℕ) (x : ℕ) → stamp_of w' x ≡ stamp_of w x → Stands n N ws w x → Stands n N ws w' x
  stands_same w w' x e s = record { level = s.level; part = s.part; fits = s.fits; is = e ∙ s.is; is_tree = s.is_tree }

  -- the outcome p of a visit
  abbrev Succeeds : List ℕ × Bool → Type 0
  Succeeds p = (p.1 ≡ true) × Honest n N ws p.0

  module _ (l k i : ℕ) (w : List ℕ) (f : Fits n l k) (level : l ≤ 8) (r : N ≤ length w) (H : Honest n N ws w) (t : tree N ws l k i ≡ true) where
    b : i < N
    b = tree-node N ws k i l t

    honest_again : get_or w i 0 ≢ 0 → Honest n N ws (linked w i)
    honest_again u x bx m = stands_same w (linked w i) x (linked-stamp w i (omega (arith, b)) x) (H x bx (elim (ℕ_discrete x i) [
      | yes e ↦ rw e (omega arith)
      | no e ↦ omega (arith, get_or-set_other w i x (plus (get_or w i 0) 8192) 0 e)
    ]))

    honest_first : get_or w i 0 ≡ 0 → Honest n N ws (stamped w i (stamp l k))
    honest_first u x bx m = elim (ℕ_discrete x i) [
      | yes e ↦
          rw e (record { level = l; part = k; fits = f; is = omega (arith, get_or-set_same w i (stamp l k + 8192) 0 (omega (arith, b)), f.most); is_tree = t })
      | no e ↦ (
          let same = get_or-set_other w i x (stamp l k + 8192) 0 e in
          stands_same w (stamped w i (stamp l k)) x (ap (λ (q : ℕ). q % 8192) same) (H x bx (ap (λ (q : ℕ). min 1 q) (sym same) ∙ m)))
    ]

    met_succeeds : (Honest n N ws (stamped w i (stamp l k)) → Succeeds (below four N ws l k i (stamped w i (stamp l k)))) → Succeeds (visit four N ws l k i w)
    met_succeeds deep = elim (ℕ_discrete (get_or w i 0) 0) [
      | yes u ↦ rw (visit-below four N ws k i w b u l (tree-shaped N ws k i l t)) (deep (honest_first u))
      | no u ↦ (
          let s = H i b (omega arith) in
          let e = unique n N ws few s.level s.part l k i s.fits f s.is_tree t in
          rw (visit_again four N ws k i w b l u) (eq-eqb (stamp_of w i) (stamp l k) (omega (arith, s.is, e.0, e.1)), honest_again u))
    ]

  -- from the visits of the children
  below_succeeds : (l k i : ℕ) (w : List ℕ) → tree N ws (suc l) k i ≡ true → Succeeds (on_left four N ws l k i w) → (k - 2 ^ l ≢ 0 → Succeeds (visit four N ws l (k - 2 ^ l) (right ws i) (on_left four N ws l k i w).0))
      → Succeeds (below four N ws (suc l) k i w)
  below_succeeds l k i w t L R = elim (ℕ_discrete (k - 2 ^ l) 0) [
    | yes e ↦ rw (below_end four N ws l k i w L.0 e) (eq-eqb (right ws i) none (tree_end N ws k i l t e), L.1)
    | no e ↦ rw (below_right four N ws l k i w L.0 e) (R e)
  ]

  pub visit_succeeds : (l k i : ℕ) (w : List ℕ) → Fits n l k → l ≤ 8 → N ≤ length w → Honest n N ws w → tree N ws l k i ≡ true → Succeeds (visit four N ws l k i w)
  unfolding below
  visit_succeeds zero k i w f level r H t = met_succeeds 0 k i w f level r H t (λ H₁. (refl, H₁))
  visit_succeeds (suc l) k i w f level r H t = met_succeeds (suc l) k i w f level r H t (λ H₁.
      let w₁ = stamped w i (stamp (suc l) k) in
      let w₂ = (on_left four N ws l k i w₁).0 in
      let r₁ : N ≤ length w₁ = omega (arith, length-set w i (stamp (suc l) k + 8192)) in
      let r₂ : N ≤ length w₂ = omega (arith, (visit_keeps four N ws l (min k (2 ^ l)) (left ws i) w₁).size) in
      let L = visit_succeeds l (min k (2 ^ l)) (left ws i) w₁ (fits-left n l k f) (omega arith) r₁ H₁ (tree-left N ws k i l t) in
      below_succeeds l k i w₁ t L (λ e. visit_succeeds l (k - 2 ^ l) (right ws i) w₂ (fits-right n l k f e) (omega arith) r₂ L.1 (tree-right N ws k i l t e)))
