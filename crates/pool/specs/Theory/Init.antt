-- What init_pool stores is a start.
use Rattle.std.specs.Prelude.{◌≡◌, ◌⊎◌, List, length, drop, eqb, ltb}
use Rattle.std.proofs.Math.Path.{refl, ap}
use Rattle.std.proofs.Common.{sym, ◌∙◌, subst, ap₂, inl, inr, mod-eq_of_lt, div-one, eq-eqb, ne_eqb}
use Rattle.std.proofs.Math.Bool.{cond}
use Prim.Native.Nat.{ℕ, zero, suc, ◌+◌, ◌-◌, ◌*◌, ◌≤◌, ◌<◌, ◌^◌, ◌/◌}
use native.Mathlib.Omega.{arith}
use Rattle.std.proofs.Math.Decide.{ℕ_discrete, dec_lt, dec_le}
use Rattle.std.proofs.Math.ListN.{get_or}
use Rattle.words.specs.Basics.{none, plus}
use Rattle.words.specs.Tests.{ltb_of, nltb_of}
use Rattle.sizes.specs.Numbering.{first, nodes_to, first-top, first_step, first_lt, id_lt, nodes-tree}
use Rattle.sizes.specs.Sizes.{height, width, tree_nodes}
use Rattle.sizes.specs.Widths.{width_in, in_width, width_le}
use Rattle.pool.specs.Pool.{refcount, left, right, value, set_node, init_level, init_inner, init_leaves, init_free, init_pool}
use Rattle.pool.specs.Theory.Nodes.{NodeIs, SameNode, node_refl, node_trans, node_kept, length-set_node, drop-set_node, set_node_is, set_node_other}
use Rattle.pool.specs.Theory.Start.{node, or_none, Start}

-- ---- stores to nodes of one range

-- only nodes from a to b - 1 are stored to
record Stored (N a b : ℕ) (ws ws' : List ℕ) : Type 0 where
  len : length ws' ≡ length ws
  beyond : drop (4 * N) ws' ≡ drop (4 * N) ws
  outside : (j : ℕ) → (j < a) ⊎ (b ≤ j) → SameNode ws ws' j

stored-none : (N a b : ℕ) (ws : List ℕ) → Stored N a b ws ws
stored-none N a b ws = record { len = refl; beyond = refl; outside = λ j h. node_refl ws j }

stored-node : (N i : ℕ) (ws : List ℕ) (c l r v : ℕ) → i < N → Stored N i (suc i) ws (set_node ws i c l r v)
stored-node N i ws c l r v b = record {
  len = length-set_node ws i c l r v;
  beyond = drop-set_node ws i c l r v N b;
  outside = λ j h. set_node_other ws i j c l r v (elim h [ inl q ↦ omega arith | inr q ↦ omega arith ]);
}

-- one range, then another above it
stored_then : {N a b a' b' : ℕ} {ws ws' ws'' : List ℕ} → a ≤ a' → b ≤ b' → Stored N a b ws ws' → Stored N a' b' ws' ws'' → Stored N a b' ws ws''
stored_then {a = a} {b} {a'} {b'} p q F G = record {
  len = G.len ∙ F.len;
  beyond = G.beyond ∙ F.beyond;
  outside = λ j h. node_trans (F.outside j (below j h)) (G.outside j (above j h));
}
  where
    below : (j : ℕ) → (j < a) ⊎ (b' ≤ j) → (j < a) ⊎ (b ≤ j)
    below j (inl h) = inl h
    below j (inr h) = inr (omega arith)

    above : (j : ℕ) → (j < a) ⊎ (b' ≤ j) → (j < a') ⊎ (b' ≤ j)
    above j (inl h) = inl (omega arith)
    above j (inr h) = inr h

node_eq : {ws : List ℕ} {i i' c l l' r r' v v' : ℕ} → i ≡ i' → l ≡ l' → r ≡ r' → v ≡ v' → NodeIs ws i c l r v → NodeIs ws i' c l' r' v'
node_eq {ws} p q s t K = record {
  refcount_is = ap (refcount ws) (sym p) ∙ K.refcount_is;
  left_is = ap (left ws) (sym p) ∙ K.left_is ∙ q;
  right_is = ap (right ws) (sym p) ∙ K.right_is ∙ s;
  value_is = ap (value ws) (sym p) ∙ K.value_is ∙ t;
}

plus_is : (a b : ℕ) → a + b < 2 ^ 32 → plus a b ≡ a + b
plus_is a b h = mod-eq_of_lt h

-- ---- the parts of the start

-- the right link beside the left link b, where k nodes of the level below are left
abbrev right_of : ℕ → ℕ → ℕ
right_of b k = cond (ltb 1 k) (plus b 1) none

module _ (N : ℕ) (most : N ≤ 16384) where
  level_stored : (c : ℕ) (ws : List ℕ) (i below k e : ℕ) → i + c ≡ e → e ≤ N → below + 2 * c < 2 ^ 32 → 4 * N ≤ length ws
      → Stored N i e ws (init_level c ws i below k)
      × ((g : ℕ) → g < c → NodeIs (init_level c ws i below k) (i + g) 1 (below + 2 * g) (right_of (below + 2 * g) (k - 2 * g)) 0)
  unfolding init_level
  level_stored zero ws i below k e p q s room = (stored-none N i e ws, λ g b. absurd (omega arith))
  level_stored (suc c) ws i below k e p q s room =
      let r = right_of below k in
      let ws₁ = set_node ws i 1 below r 0 in
      let i' = plus_is i 1 (omega arith) in
      let b' = plus_is below 2 (omega arith) in
      let A = stored-node N i ws 1 below r 0 (omega arith) in
      let B = level_stored c ws₁ (plus i 1) (plus below 2) (k - 2) e (omega (arith, i')) q (omega (arith, b')) (omega (arith, A.len)) in (
        stored_then (omega (arith, i')) (omega arith) A B.0,
        λ g h. elim (ℕ_discrete g 0) [
          | yes z ↦ (
              let l' : below ≡ below + 2 * g = omega arith in
              let k' : k ≡ k - 2 * g = omega arith in
              node_eq (omega arith) l' (ap₂ right_of l' k') refl (node_kept (B.0.outside i (inl (omega (arith, i')))) (set_node_is ws i 1 below r 0 (omega arith))))
          | no z ↦ (
              let l' : plus below 2 + 2 * (g - 1) ≡ below + 2 * g = omega (arith, b') in
              let k' : k - 2 - 2 * (g - 1) ≡ k - 2 * g = omega arith in
              node_eq (omega (arith, i')) l' (ap₂ right_of l' k') refl (B.1 (g - 1) (omega arith)))
        ],
      )

  leaves-stored : (c : ℕ) (ws : List ℕ) (i : ℕ) (vs : List ℕ) (j e : ℕ) → i + c ≡ e → e ≤ N → j + c < 2 ^ 32 → 4 * N ≤ length ws
      → Stored N i e ws (init_leaves c ws i vs j) × ((g : ℕ) → g < c → NodeIs (init_leaves c ws i vs j) (i + g) 1 none none (get_or vs (j + g) 0))
  unfolding init_leaves
  leaves-stored zero ws i vs j e p q s room = (stored-none N i e ws, λ g b. absurd (omega arith))
  leaves-stored (suc c) ws i vs j e p q s room =
      let v = get_or vs j 0 in
      let ws₁ = set_node ws i 1 none none v in
      let i' = plus_is i 1 (omega arith) in
      let j' = plus_is j 1 (omega arith) in
      let A = stored-node N i ws 1 none none v (omega arith) in
      let B = leaves-stored c ws₁ (plus i 1) vs (plus j 1) e (omega (arith, i')) q (omega (arith, j')) (omega (arith, A.len)) in (
        stored_then (omega (arith, i')) (omega arith) A B.0,
        λ g h. elim (ℕ_discrete g 0) [
          | yes z ↦ (
              let t : j ≡ j + g = omega arith in
              node_eq (omega arith) refl refl (ap (λ u. get_or vs u 0) t) (node_kept (B.0.outside i (inl (omega (arith, i')))) (set_node_is ws i 1 none none v (omega arith))))
          | no z ↦ (
              let t : plus j 1 + (g - 1) ≡ j + g = omega (arith, j') in
              node_eq (omega (arith, i')) refl refl (ap (λ u. get_or vs u 0) t) (B.1 (g - 1) (omega arith)))
        ],
      )

  free_stored : (c : ℕ) (ws : List ℕ) (i : ℕ) → i + c ≡ N → 4 * N ≤ length ws
      → Stored N i N ws (init_free c ws i) × ((g : ℕ) → g < c → NodeIs (init_free c ws i) (i + g) 0 (or_none N (suc (i + g))) 0 0)
  unfolding init_free
  free_stored zero ws i p room = (stored-none N i N ws, λ g b. absurd (omega arith))
  free_stored (suc c) ws i p room =
      let n = cond (eqb c 0) none (plus i 1) in
      let ws₁ = set_node ws i 0 n 0 0 in
      let i' = plus_is i 1 (omega arith) in
      let A = stored-node N i ws 0 n 0 0 (omega arith) in
      let B = free_stored c ws₁ (plus i 1) (omega (arith, i')) (omega (arith, A.len)) in (
        stored_then (omega (arith, i')) (omega arith) A B.0,
        λ g h. elim (ℕ_discrete g 0) [
          | yes z ↦ (
              let t : suc i ≡ suc (i + g) = omega arith in
              node_eq (omega arith) (next ∙ ap (or_none N) t) refl refl (node_kept (B.0.outside i (inl (omega (arith, i')))) (set_node_is ws i 0 n 0 0 (omega arith))))
          | no z ↦ (
              let t : suc (plus i 1 + (g - 1)) ≡ suc (i + g) = omega (arith, i') in
              node_eq (omega (arith, i')) (ap (or_none N) t) refl refl (B.1 (g - 1) (omega arith)))
        ],
      )
    where
      next : cond (eqb c 0) none (plus i 1) ≡ or_none N (suc i)
      next = elim (ℕ_discrete c 0) [
        | yes z ↦ (let out : N ≤ suc i = omega arith in rw (eq-eqb c 0 z, nltb_of out))
        | no z ↦ (let in' : suc i < N = omega arith in rw (ne_eqb c 0 z, ltb_of in') (plus_is i 1 (omega arith) ∙ omega arith))
      ]

  module _ (n H : ℕ) (fits : nodes_to n H ≤ N) where
    inner-stored : (l : ℕ) (ws : List ℕ) (i : ℕ) → l ≤ H → i ≡ first n H l → n ≤ N → 4 * N ≤ length ws
        → ((init_inner l ws n i).1 ≡ first n H 0) × Stored N i (first n H 0) ws (init_inner l ws n i).0
        × ((m g : ℕ) → m < l → g < width n (suc m) → NodeIs (init_inner l ws n i).0 (node n H (suc m) g) 1 (node n H m (2 * g)) (right_of (node n H m (2 * g)) (width n m - 2 * g)) 0)
    unfolding init_inner
    inner-stored zero ws i h p s room = (p, stored-none N i (first n H 0) ws, λ m g a b. absurd (omega arith))
    inner-stored (suc l) ws i h p s room =
        let c = width n (suc l) in
        let up : first n H l + width n l ≤ nodes_to n H = top l (omega arith) in
        let step = first_step n H l h in
        let i' : plus i c ≡ first n H l = plus_is i c (omega (arith, fits)) ∙ omega arith in
        let A = level_stored c ws i (plus i c) (width n l) (first n H l) (omega arith) (omega (arith, fits)) (omega (arith, i', fits, width_le n (suc l))) room in
        let ws₁ = init_level c ws i (plus i c) (width n l) in
        let B = inner-stored l ws₁ (plus i c) (omega arith) i' s (omega (arith, A.0.len)) in (
          B.0,
          stored_then (omega (arith, i')) (low l (omega arith)) A.0 B.1,
          λ m g a b. elim (ℕ_discrete m l) [
            | yes e ↦ (
                let K = A.1 g (subst (λ q. g < width n (suc q)) e b) in
                let l' : plus i c + 2 * g ≡ node n H m (2 * g) = omega (arith, i', ap (first n H) e) in
                let k' : width n l - 2 * g ≡ width n m - 2 * g = ap (λ q. width n q - 2 * g) (sym e) in
                let j' : i + g ≡ node n H (suc m) g = omega (arith, ap (λ q. first n H (suc q)) e) in
                node_eq j' l' (ap₂ right_of l' k') refl
                (node_kept (B.1.outside (i + g) (inl (omega (arith, i', b, ap (λ q. width n (suc q)) e)))) K))
            | no e ↦ B.2 m g (omega arith) b
          ],
        )
      where
        top : (l : ℕ) → l ≤ H → first n H l + width n l ≤ nodes_to n H
        top l h = unfold nodes_to in elim (ℕ_discrete l 0) [ yes e ↦ omega (arith, ap (first n H) e, ap (width n) e) | no e ↦ omega (arith, first_lt n H 0 l (omega arith) h) ]

        low : (l : ℕ) → l ≤ H → first n H l ≤ first n H 0
        low l h = elim (ℕ_discrete l 0) [ yes e ↦ omega (arith, ap (first n H) e) | no e ↦ omega (arith, first_lt n H 0 l (omega arith) h) ]

-- ---- the whole

width_leaf : (n : ℕ) → width n 0 ≡ n
unfolding width
width_leaf n = ap (λ q. q / 2 ^ 0) e ∙ div-one n
  where
    e : n + (2 ^ 0 - 1) ≡ n
    e = omega arith

module _ (ws : List ℕ) (n N : ℕ) (vs : List ℕ) (fits : tree_nodes n ≤ N) (most : N ≤ 16384) (room : 4 * N ≤ length ws) where
  P : List ℕ × ℕ
  P = init_inner (height n) ws n 0

  T : ℕ
  T = plus P.1 n

  ws₁ : List ℕ
  ws₁ = init_leaves n P.0 P.1 vs 0

  ws₂ : List ℕ
  ws₂ = init_free (N - T) ws₁ T

  fits' : nodes_to n (height n) ≤ N
  fits' = omega (arith, nodes-tree n)

  leaves_at : first n (height n) 0 + n ≡ nodes_to n (height n)
  unfolding nodes_to
  leaves_at = omega (arith, width_leaf n)

  A : (P.1 ≡ first n (height n) 0) × Stored N 0 (first n (height n) 0) ws P.0
      × ((m g : ℕ) → m < height n → g < width n (suc m) → NodeIs P.0 (node n (height n) (suc m) g) 1 (node n (height n) m (2 * g)) (right_of (node n (height n) m (2 * g)) (width n m - 2 * g)) 0)
  unfolding P
  A = inner-stored N most n (height n) fits' (height n) ws 0 (omega arith) (sym (first-top n (height n))) (omega (arith, leaves_at, fits')) room

  T-is : T ≡ nodes_to n (height n)
  unfolding T
  T-is = plus_is P.1 n (omega (arith, A.0, leaves_at, fits')) ∙ omega (arith, A.0, leaves_at)

  B : Stored N P.1 T P.0 ws₁ × ((g : ℕ) → g < n → NodeIs ws₁ (P.1 + g) 1 none none (get_or vs (0 + g) 0))
  unfolding ws₁
  B = leaves-stored N most n P.0 P.1 vs 0 T (omega (arith, A.0, leaves_at, T-is)) (omega (arith, T-is, fits')) (omega (arith, leaves_at, fits')) (omega (arith, A.1.len))

  C : Stored N T N ws₁ ws₂ × ((g : ℕ) → g < N - T → NodeIs ws₂ (T + g) 0 (or_none N (suc (T + g))) 0 0)
  unfolding ws₂
  C = free_stored N most (N - T) ws₁ T (omega (arith, T-is, fits')) (omega (arith, A.1.len, B.0.len))

  ABC : Stored N 0 N ws ws₂
  ABC = (stored_then (omega arith) (omega (arith, T-is, fits')) (stored_then (omega arith) (omega (arith, A.0, leaves_at, T-is)) A.1 B.0) C.0)

  right-link : (l g : ℕ) → l < height n → g * 2 ^ suc l < n → right_of (node n (height n) l (2 * g)) (width n l - 2 * g) ≡ cond (ltb ((2 * g + 1) * 2 ^ l) n) (node n (height n) l (2 * g + 1)) none
  right-link l g h b = elim (dec_lt ((2 * g + 1) * 2 ^ l) n) [
    | yes q ↦ (
        let w = width_in n l (2 * g + 1) q in
        let two : 1 < width n l - 2 * g = omega arith in
        rw (ltb_of two, ltb_of q) (plus_is (node n (height n) l (2 * g)) 1 (omega (arith, id_lt n (height n) l (2 * g + 1) (omega arith) w, fits')) ∙ omega arith))
    | no q ↦ (
        let one : width n l - 2 * g ≤ 1 = narrow q in
        let out : n ≤ (2 * g + 1) * 2 ^ l = omega arith in
        rw (nltb_of one, nltb_of out))
  ]
    where
      narrow : ¬ ((2 * g + 1) * 2 ^ l < n) → width n l - 2 * g ≤ 1
      narrow q = elim (dec_le (width n l - 2 * g) 1) [ yes r ↦ r | no r ↦ absurd (q (in_width n l (2 * g + 1) (omega arith))) ]

  pub init_start : Start N (height n) n (λ y. get_or vs y 0) (init_pool ws n N vs).0 (init_pool ws n N vs).1
  unfolding init_pool ws₂ ws₁ T P
  init_start = record {
    room = omega (arith, ABC.len);
    fits = fits';
    inner = λ l g h b. (
        let w = width_in n (suc l) g b in
        let f = first_lt n (height n) 0 (suc l) (omega arith) h in
        node_eq refl refl (right-link l g h b) refl
        (node_kept (C.0.outside _ (inl (omega (arith, T-is, leaves_at)))) (node_kept (B.0.outside _ (inl (omega (arith, A.0)))) (A.2 l g h w))));
    leaf = λ g b. (
        let z : 0 + g ≡ g = omega arith in
        node_eq (omega (arith, A.0)) refl refl (ap (λ u. get_or vs u 0) z) (node_kept (C.0.outside _ (inl (omega (arith, T-is, leaves_at, A.0)))) (B.1 g b)));
    rest = λ i h b. (
        let e : T + (i - T) ≡ i = omega (arith, T-is) in
        node_eq e (ap (λ u. or_none N (suc u)) e) refl refl (C.1 (i - T) (omega (arith, T-is))));
    head = ap (or_none N) T-is;
  }

  pub init_length : length (init_pool ws n N vs).0 ≡ length ws
  unfolding init_pool ws₂ ws₁ T P
  init_length = ABC.len

  pub init_beyond : drop (4 * N) (init_pool ws n N vs).0 ≡ drop (4 * N) ws
  unfolding init_pool ws₂ ws₁ T P
  init_beyond = ABC.beyond
