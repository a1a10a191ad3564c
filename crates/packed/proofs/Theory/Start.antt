-- R-8: "After starts with as many nodes, unpacking the new pool gives the old one node for node."
use Rattle.std.specs.Prelude.{◌≡◌, refl, ◌⊎◌, List, length, drop, eqb, ltb}
use Rattle.std.proofs.Common.{sym, ◌∙◌, subst, mod-eq_of_lt, div-one, length-drop}
use Rattle.std.proofs.Math.Path.{ap}
use Rattle.std.proofs.Math.Logic.{inl, inr}
use Rattle.std.proofs.Math.Bool.{cond}
use Prim.Native.Nat.{ℕ, zero, suc, ◌+◌, ◌-◌, ◌*◌, ◌/◌, ◌^◌, ◌≤◌, ◌<◌}
use native.Mathlib.Omega.{arith}
use Rattle.std.proofs.Math.Decide.{ℕ_discrete}
use Rattle.std.proofs.Math.ListN.{get_or}
use Rattle.words.specs.Basics.{none, plus}
use Rattle.words.specs.Tests.{decided}
use Rattle.sizes.specs.Numbering.{first, nodes_to, first-top, first_step, first_lt, nodes-tree}
use Rattle.sizes.specs.Sizes.{height, width, tree_nodes}
use Rattle.sizes.specs.Widths.{width_le}
use Rattle.pool.specs.Pool as Four
use Rattle.pool.specs.Theory.Nodes.{length-set_node, set_node_other}
use Rattle.packed.specs.Pool.{links, set_node, init_level, init_inner, init_leaves, init_free, init_pool}
use Rattle.packed.proofs.Theory.Unpacks.{Unpacks, NodeUnpacks, length_both, drop-both, both_other, node-same, node-inner, node_leaf, node_free}

-- ---- nodes stored one after the other, in both

module _ (N : ℕ) (most : N ≤ 16384) (old₂ old₄ : List ℕ) (room₂ : 2 * N ≤ length old₂) (room₄ : 4 * N ≤ length old₄) where
  -- the nodes before k are stored
  record Filled (k : ℕ) (ws₂ ws₄ : List ℕ) : Type 0 where
    len₂ : length ws₂ ≡ length old₂
    len₄ : length ws₄ ≡ length old₄
    past : drop (2 * N) ws₂ ≡ drop (2 * N) old₂
    nodes : (j : ℕ) → j < k → NodeUnpacks ws₂ ws₄ j

  filled_next : (i c w l r v : ℕ) {ws₂ ws₄ : List ℕ} → i < N → Filled i ws₂ ws₄
      → (2 * i + 2 ≤ length ws₂ → 4 * i + 4 ≤ length ws₄ → NodeUnpacks (set_node ws₂ i c w) (Four.set_node ws₄ i c l r v) i) → Filled (suc i) (set_node ws₂ i c w) (Four.set_node ws₄ i c l r v)
  filled_next i c w l r v {ws₂} {ws₄} b F here = record {
    len₂ = length_both ws₂ i c w ∙ F.len₂;
    len₄ = length-set_node ws₄ i c l r v ∙ F.len₄;
    past = drop-both ws₂ i c w N b ∙ F.past;
    nodes = λ j h. elim (ℕ_discrete j i) [
      | yes e ↦ subst (NodeUnpacks (set_node ws₂ i c w) (Four.set_node ws₄ i c l r v)) (sym e) (here (omega (arith, F.len₂)) (omega (arith, F.len₄)))
      | no e ↦ node-same ws₂ (set_node ws₂ i c w) ws₄ (Four.set_node ws₄ i c l r v) j (both_other ws₂ i c w j e) (set_node_other ws₄ i j c l r v e) (F.nodes j (omega arith))
    ];
  }

  plus_is : (a b : ℕ) → a + b < 2 ^ 32 → plus a b ≡ a + b
  plus_is a b h = mod-eq_of_lt h

  filled_at : {i j : ℕ} {ws₂ ws₄ : List ℕ} → i ≡ j → Filled i ws₂ ws₄ → Filled j ws₂ ws₄
  filled_at {ws₂ = ws₂} {ws₄} e F = subst (λ k. Filled k ws₂ ws₄) e F

  level_alike : (c : ℕ) (ws₂ ws₄ : List ℕ) (i below k e : ℕ) → i + c ≡ e → e ≤ N → below + 2 * c ≤ 65535 → Filled i ws₂ ws₄ → Filled e (init_level c ws₂ i below k) (Four.init_level c ws₄ i below k)
  unfolding init_level Four.init_level
  level_alike zero ws₂ ws₄ i below k e p q s F = filled_at (omega arith) F
  level_alike (suc c) ws₂ ws₄ i below k e p q s F =
      let r = cond (ltb 1 k) (plus below 1) none in
      let i' = plus_is i 1 (omega arith) in
      let b' = plus_is below 2 (omega arith) in
      level_alike c (set_node ws₂ i 1 (links below r)) (Four.set_node ws₄ i 1 below r 0) (plus i 1) (plus below 2) (k - 2) e (omega (arith, i')) q (omega (arith, b'))
      (filled_at (omega (arith, i')) (filled_next i 1 (links below r) below r 0 (omega arith) F (λ p q. node-inner ws₂ ws₄ i p q 1 below r 0 (omega arith) (omega arith) narrow)))
    where
      narrow : (cond (ltb 1 k) (plus below 1) none < 65535) ⊎ (cond (ltb 1 k) (plus below 1) none ≡ none)
      narrow = elim (decided (ltb 1 k)) [ inl t ↦ rw t (inl (omega (arith, plus_is below 1 (omega arith)))) | inr t ↦ rw t (inr refl) ]

  leaves_alike : (c : ℕ) (ws₂ ws₄ : List ℕ) (i : ℕ) (vs : List ℕ) (j e : ℕ) → i + c ≡ e → e ≤ N → Filled i ws₂ ws₄ → Filled e (init_leaves c ws₂ i vs j) (Four.init_leaves c ws₄ i vs j)
  unfolding init_leaves Four.init_leaves
  leaves_alike zero ws₂ ws₄ i vs j e p q F = filled_at (omega arith) F
  leaves_alike (suc c) ws₂ ws₄ i vs j e p q F =
      let v = get_or vs j 0 in
      let i' = plus_is i 1 (omega arith) in
      leaves_alike c (set_node ws₂ i 1 v) (Four.set_node ws₄ i 1 none none v) (plus i 1) vs (plus j 1) e (omega (arith, i')) q
      (filled_at (omega (arith, i')) (filled_next i 1 v none none v (omega arith) F (λ p q. node_leaf ws₂ ws₄ i p q 1 none v (omega arith))))

  free_alike : (c : ℕ) (ws₂ ws₄ : List ℕ) (i : ℕ) → i + c ≡ N → Filled i ws₂ ws₄ → Filled N (init_free c ws₂ i) (Four.init_free c ws₄ i)
  unfolding init_free Four.init_free
  free_alike zero ws₂ ws₄ i p F = filled_at (omega arith) F
  free_alike (suc c) ws₂ ws₄ i p F =
      let f = cond (eqb c 0) none (plus i 1) in
      let i' = plus_is i 1 (omega arith) in
      free_alike c (set_node ws₂ i 0 f) (Four.set_node ws₄ i 0 f 0 0) (plus i 1) (omega (arith, i'))
      (filled_at (omega (arith, i')) (filled_next i 0 f f 0 0 (omega arith) F (λ p q. node_free ws₂ ws₄ i p q f 0 0)))

  module _ (n H : ℕ) (fits : nodes_to n H ≤ N) (few : n ≤ N) where
    inner_alike : (l : ℕ) (ws₂ ws₄ : List ℕ) (i : ℕ) → l ≤ H → i ≡ first n H l → Filled i ws₂ ws₄
        → ((init_inner l ws₂ n i).1 ≡ first n H 0) × ((Four.init_inner l ws₄ n i).1 ≡ first n H 0) × Filled (first n H 0) (init_inner l ws₂ n i).0 (Four.init_inner l ws₄ n i).0
    unfolding init_inner Four.init_inner
    inner_alike zero ws₂ ws₄ i h p F = (p, p, filled_at p F)
    inner_alike (suc l) ws₂ ws₄ i h p F =
        let c = width n (suc l) in
        let up : first n H l + width n l ≤ nodes_to n H = top l (omega arith) in
        let step = first_step n H l h in
        let i' : plus i c ≡ first n H l = plus_is i c (omega (arith, fits)) ∙ omega arith in
        inner_alike l (init_level c ws₂ i (plus i c) (width n l)) (Four.init_level c ws₄ i (plus i c) (width n l)) (plus i c) (omega arith) i'
        (level_alike c ws₂ ws₄ i (plus i c) (width n l) (plus i c) (omega (arith, i')) (omega (arith, i', fits)) (omega (arith, i', fits, width_le n (suc l))) F)
      where
        top : (l : ℕ) → l ≤ H → first n H l + width n l ≤ nodes_to n H
        top l h = unfold nodes_to in elim (ℕ_discrete l 0) [ yes e ↦ omega (arith, ap (first n H) e, ap (width n) e) | no e ↦ omega (arith, first_lt n H 0 l (omega arith) h) ]

-- ---- the whole

width_leaf : (n : ℕ) → width n 0 ≡ n
unfolding width
width_leaf n = (let e : n + (2 ^ 0 - 1) ≡ n = omega arith in ap (λ q. q / 2 ^ 0) e ∙ div-one n)

pub start_unpacks : (ws₂ ws₄ : List ℕ) (n N : ℕ) (vs : List ℕ) → tree_nodes n ≤ N → N ≤ 16384 → 2 * N ≤ length ws₂ → 4 * N ≤ length ws₄
    → Unpacks N (drop (2 * N) ws₂) (init_pool ws₂ n N vs).0 (Four.init_pool ws₄ n N vs).0 × ((init_pool ws₂ n N vs).1 ≡ (Four.init_pool ws₄ n N vs).1)
unfolding init_pool Four.init_pool
start_unpacks ws₂ ws₄ n N vs fits most room₂ room₄ = (
  record {
    room = omega (arith, C.len₄);
    long = omega (arith, C.len₂, length-drop (2 * N) ws₂);
    past = C.past;
    counts = λ i b. (C.nodes i b).counts;
    inner = λ i b. (C.nodes i b).inner;
    leaf = λ i b. (C.nodes i b).leaf;
    free = λ i b. (C.nodes i b).free;
  },
  ap (λ k. cond (ltb (plus k n) N) (plus k n) none) same,
)
  where
    H : ℕ
    H = height n

    fits' : nodes_to n H ≤ N
    fits' = omega (arith, nodes-tree n)

    leaves_at : first n H 0 + n ≡ nodes_to n H
    leaves_at = unfold nodes_to in omega (arith, width_leaf n)

    P₂ : List ℕ × ℕ
    P₂ = init_inner H ws₂ n 0

    P₄ : List ℕ × ℕ
    P₄ = Four.init_inner H ws₄ n 0

    A : (P₂.1 ≡ first n H 0) × (P₄.1 ≡ first n H 0) × Filled N most ws₂ ws₄ room₂ room₄ (first n H 0) P₂.0 P₄.0
    A = inner_alike N most ws₂ ws₄ room₂ room₄ n H fits' (omega (arith, leaves_at, fits')) H ws₂ ws₄ 0 (omega arith) (sym (first-top n H))
        (record { len₂ = refl; len₄ = refl; past = refl; nodes = λ j b. absurd (omega arith) })

    same : P₂.1 ≡ P₄.1
    same = A.0 ∙ sym A.1

    T : ℕ
    T = plus P₂.1 n

    T-is : T ≡ nodes_to n H
    T-is = omega (arith, A.0, leaves_at, fits')

    C : Filled N most ws₂ ws₄ room₂ room₄ N (init_free (N - T) (init_leaves n P₂.0 P₂.1 vs 0) T) (Four.init_free (N - plus P₄.1 n) (Four.init_leaves n P₄.0 P₄.1 vs 0) (plus P₄.1 n))
    C = subst (λ k. Filled N most ws₂ ws₄ room₂ room₄ N (init_free (N - T) (init_leaves n P₂.0 P₂.1 vs 0) T) (Four.init_free (N - plus k n) (Four.init_leaves n P₄.0 k vs 0) (plus k n))) same
        (free_alike N most ws₂ ws₄ room₂ room₄ (N - T) (init_leaves n P₂.0 P₂.1 vs 0) (Four.init_leaves n P₄.0 P₂.1 vs 0) T (omega (arith, T-is, fits'))
        (leaves_alike N most ws₂ ws₄ room₂ room₄ n P₂.0 P₄.0 P₂.1 vs 0 T (omega (arith, T-is, A.0, leaves_at)) (omega (arith, T-is, fits'))
        (filled_at N most ws₂ ws₄ room₂ room₄ (sym A.0) A.2)))
