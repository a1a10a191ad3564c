-- A visit that succeeds is of a tree of the definition; what it adds to the marks and to the links counted.
use Rattle.std.specs.Prelude.{◌≡◌, refl, ◌⊎◌, ◌≢◌, Bool, true, eqb, get_or}
use Rattle.std.proofs.Common.{sym, ap, ◌∙◌, arith, eqb-true}
use Rattle.std.proofs.Math.Logic.{inl, inr}
use mathlib.Core.List.{List, [], ◌∷◌, ◌++◌}
use Prim.Native.Nat.{ℕ, zero, suc, ◌+◌, ◌-◌, ◌*◌, ◌%◌, ◌^◌, ◌≤◌, ◌<◌, min}
use Rattle.std.proofs.Math.Decide.{ℕ_discrete, dec_lt}
use Rattle.std.proofs.Math.ListN.{length, length-set}
use Rattle.words.specs.Basics.{none, δ, count}
use Rattle.words.specs.Counting.{δ_other, count_nil, count_cons, count-append}
use Rattle.words.specs.Tests.{decided, both, true≢false}
use Rattle.pool.specs.Pool.{left, right}
use Rattle.frames.specs.Widths.{max_places}
use Rattle.pool_check.specs.Algorithm.{mark, links, stamp, stamped, linked, visit, below}
use Rattle.pool_check.specs.FourWords.{shaped, four}
use Rattle.pool_check.specs.Theory.Ways.{on_left, visit_off, visit_again, visit_shapeless, visit-below, below_left, below_end, below_right, visit_keeps}
use Rattle.pool_check.specs.Theory.Shape.{tree, nodes, leaf_tree, end_tree, inner-tree, leaf_nodes, end_nodes, inner-nodes, Fits, fits-left, fits-right}
use Rattle.pool_check.specs.Theory.Stamps.{links_to, links_to_le, stamp_of, linked-stamp, linked-mark, linked-links, linked-links_to, stamped_word, stamped_other, stamped-mark, stamped-links, stamped-links_to}

-- marks set three times
three_marks : (m a b c : ℕ) {m₁ m₂ m₃ d : ℕ} → m₁ ≡ min 1 (m + a) → m₂ ≡ min 1 (m₁ + b) → m₃ ≡ min 1 (m₂ + c) → d ≡ a + (b + c) → m₃ ≡ min 1 (m + d)
three_marks m a b c e₁ e₂ e₃ e = omega arith

-- a visit of the tree with these nodes, by a link to i: the marks, and the links counted
pub record Adds (N : ℕ) (ws : List ℕ) (i : ℕ) (xs w w' : List ℕ) : Type 0 where
  pub marks : (x : ℕ) → x < N → mark w' x ≡ min 1 (mark w x + count x xs)
  pub counts : (x : ℕ) → x < N → links w' x + links_to N ws w x ≡ links w x + δ x i + links_to N ws w' x

-- the links counted, the one to i among them, are links of visited nodes or of roots, of which there are as many as places at most
abbrev pub Room : ℕ → List ℕ → ℕ → List ℕ → Type 0
Room N ws i w = (x : ℕ) → x < N → links w x + δ x i ≤ max_places + links_to N ws w x

-- the stamps of level l and above stay
abbrev Stays : ℕ → ℕ → List ℕ → List ℕ → Type 0
Stays N l w w' = (x : ℕ) → x < N → ((stamp_of w' x ≡ stamp_of w x) × (mark w' x ≡ mark w x)) ⊎ (stamp_of w' x < 512 * l)

-- a node whose stamp is below level l is the root of such a tree, and all nodes of the tree are visited
abbrev pub Settled : ℕ → ℕ → List ℕ → ℕ → List ℕ → Type 0
Settled n N ws l w =
    (x l' k' : ℕ) → x < N → Fits n l' k' → l' < l → mark w x ≡ 1 → stamp_of w x ≡ stamp l' k' → (tree N ws l' k' x ≡ true) × ((y : ℕ) → y < N → min 1 (count y (nodes ws l' k' x)) ≤ mark w y)

-- what a visit does, at a level below l, by a link to the root i of a tree with the nodes xs
pub record Visited (n N : ℕ) (ws : List ℕ) (l i : ℕ) (xs w w' : List ℕ) : Type 0 where
  pub adds : Adds N ws i xs w w'
  pub stays : Stays N l w w'
  pub settled : Settled n N ws l w'

module _ (n N : ℕ) (ws : List ℕ) (small : n ≤ 256) (few : N ≤ 16384) where
  -- an absent child
  visited_none : (l i : ℕ) (w : List ℕ) → i ≡ none → Settled n N ws l w → Visited n N ws l i [] w w
  visited_none l i w e S = record {
    adds = record { marks = λ x b. omega (arith, count_nil x); counts = λ x b. omega (arith, δ_other x i (omega arith)) };
    stays = λ x b. inl (refl, refl);
    settled = S;
  }

  -- a link to node i, at level l over k splitters: a later one, and the first
  module _ (l k i : ℕ) (w : List ℕ) (f : Fits n l k) (level : l ≤ 8) (b : i < N) (r : N ≤ length w) (h : Room N ws i w) (S : Settled n N ws (suc l) w) where
    inside : i < length w
    inside = omega arith

    visited_again : get_or w i 0 ≢ 0 → stamp_of w i ≡ stamp l k → (tree N ws l k i ≡ true) × Visited n N ws (suc l) i (nodes ws l k i) w (linked w i)
    visited_again met e =
        let few_links : links w i < 524287 = omega (arith, h i b, links_to_le N ws w i) in
        let T = S i l k b f (omega arith) (omega arith) e in (
          T.0,
          record {
            adds = record {
              marks = λ x bx. omega (arith, linked-mark w i inside met few_links x, T.1 x bx);
              counts = λ x bx. omega (arith, linked-links w i inside met few_links x, linked-links_to w i inside met few_links N ws x);
            };
            stays = λ x bx. inl (linked-stamp w i inside x, linked-mark w i inside met few_links x);
            settled = λ x l' k' bx f' lt m e'.
                let U = S x l' k' bx f' lt (sym (linked-mark w i inside met few_links x) ∙ m) (sym (linked-stamp w i inside x) ∙ e') in
                (U.0, λ y by. omega (arith, linked-mark w i inside met few_links y, U.1 y by));
          },
        )

    module _ (u : get_or w i 0 ≡ 0) where
      abbrev w₁ : List ℕ
      w₁ = stamped w i (stamp l k)

      low : stamp l k < 8192
      low = omega (arith, f.most)

      own_stamp : (x : ℕ) → x ≡ i → stamp_of w₁ x ≡ stamp l k
      own_stamp x e = rw e (omega (arith, low, stamped_word w i (stamp l k) inside u low))

      -- the other nodes are as they were
      settled_other : (x l' k' : ℕ) → x < N → x ≢ i → Fits n l' k' → l' ≤ l → mark w₁ x ≡ 1 → stamp_of w₁ x ≡ stamp l' k' → (tree N ws l' k' x ≡ true) × ((y : ℕ) → y < N → min 1 (count y (nodes ws l' k' x)) ≤ mark w y)
      settled_other x l' k' bx d f' lt m e =
          let same = stamped_other w i (stamp l k) inside u low x d in
          S x l' k' bx f' (omega arith) (ap (λ (q : ℕ). min 1 q) (sym same) ∙ m) (ap (λ (q : ℕ). q % 8192) (sym same) ∙ e)

      -- the node has a stamp above its children's levels
      into : Settled n N ws l w₁
      into x l' k' bx f' lt m e = elim (ℕ_discrete x i) [
        | yes d ↦ absurd (omega (arith, own_stamp x d, f.most, f'.most))
        | no d ↦ (
            let U = settled_other x l' k' bx d f' (omega arith) m e in
            (U.0, λ y by. omega (arith, stamped-mark w i (stamp l k) inside u low y, U.1 y by)))
      ]

      room_left : Room N ws (left ws i) w₁
      room_left x bx = omega (arith, stamped-links w i (stamp l k) inside u low x, stamped-links_to w i (stamp l k) inside u low N ws x b, h x bx)

      room_right : (A w₂ : List ℕ) → Adds N ws (left ws i) A w₁ w₂ → Room N ws (right ws i) w₂
      room_right A w₂ p x bx = omega (arith, p.counts x bx, stamped-links w i (stamp l k) inside u low x, stamped-links_to w i (stamp l k) inside u low N ws x b, h x bx)

      -- the node, and then its children
      module _ (A B w₂ w₃ : List ℕ) (p : Visited n N ws l (left ws i) A w₁ w₂) (q : Visited n N ws l (right ws i) B w₂ w₃) (t : tree N ws l k i ≡ true) (en : nodes ws l k i ≡ i ∷ (A ++ B)) where
        first_adds : Adds N ws i (nodes ws l k i) w w₃
        first_adds = rw en (record {
          marks = λ x bx. three_marks (mark w x) (δ x i) (count x A) (count x B) (stamped-mark w i (stamp l k) inside u low x) (p.adds.marks x bx) (q.adds.marks x bx) (omega (arith, count_cons x i (A ++ B), count-append x A B));
          counts = λ x bx. omega (arith, p.adds.counts x bx, q.adds.counts x bx, stamped-links w i (stamp l k) inside u low x, stamped-links_to w i (stamp l k) inside u low N ws x b);
        })

        children_stay : Stays N l w₁ w₃
        children_stay x bx = elim (q.stays x bx) [
          | inl s₃ ↦ elim (p.stays x bx) [ inl s₂ ↦ inl (s₃.0 ∙ s₂.0, s₃.1 ∙ s₂.1) | inr s₂ ↦ inr (omega (arith, s₃.0)) ]
          | inr s₃ ↦ inr s₃
        ]

        first_stays : Stays N (suc l) w w₃
        first_stays x bx = elim (children_stay x bx) [
          | inl s ↦ elim (ℕ_discrete x i) [
            | yes d ↦ inr (omega (arith, s.0, own_stamp x d, f.most))
            | no d ↦ (let same = stamped_other w i (stamp l k) inside u low x d in inl (s.0 ∙ ap (λ (z : ℕ). z % 8192) same, s.1 ∙ ap (λ (z : ℕ). min 1 z) same))
          ]
          | inr s ↦ inr (omega arith)
        ]

        first_settled : Settled n N ws (suc l) w₃
        first_settled x l' k' bx f' lt m e = elim (dec_lt l' l) [
          | yes below ↦ q.settled x l' k' bx f' below m e
          | no top ↦ elim (children_stay x bx) [
            | inl s ↦ elim (ℕ_discrete x i) [
              | yes d ↦ (
                  let el : l' ≡ l = omega arith in
                  let ek : k' ≡ k = omega (arith, s.0, own_stamp x d) in
                  rw (d, el, ek) (t, λ y by. omega (arith, first_adds.marks y by)))
              | no d ↦ (
                  let U = settled_other x l' k' bx d f' (omega arith) (sym s.1 ∙ m) (sym s.0 ∙ e) in
                  (U.0, λ y by. omega (arith, first_adds.marks y by, U.1 y by)))
            ]
            | inr s ↦ absurd (omega arith)
          ]
        ]

        visited_first : (tree N ws l k i ≡ true) × Visited n N ws (suc l) i (nodes ws l k i) w w₃
        visited_first = (t, record { adds = first_adds; stays = first_stays; settled = first_settled })

  -- what the outcome p of a visit shows, if it succeeds
  abbrev Shows : ℕ → ℕ → ℕ → List ℕ → List ℕ × Bool → Type 0
  Shows l k i w p = p.1 ≡ true → (tree N ws l k i ≡ true) × Visited n N ws (suc l) i (nodes ws l k i) w p.0

  -- by whether node i exists, was visited and has the shape
  met_shows : (l k i : ℕ) (w : List ℕ) → Fits n l k → l ≤ 8 → N ≤ length w → Room N ws i w → Settled n N ws (suc l) w
      → (i < N → get_or w i 0 ≡ 0 → shaped ws l i ≡ true → Shows l k i w (below four N ws l k i (stamped w i (stamp l k)))) → Shows l k i w (visit four N ws l k i w)
  met_shows l k i w f level r h S deep = elim (dec_lt i N) [
    | yes b ↦ elim (ℕ_discrete (get_or w i 0) 0) [
      | yes u ↦ elim (decided (shaped ws l i)) [
        | inl s ↦ rw (visit-below four N ws k i w b u l s) (deep b u s)
        | inr s ↦ rw (visit_shapeless four N ws k i w b u l s) (λ t. absurd (true≢false (sym t)))
      ]
      | no u ↦ rw (visit_again four N ws k i w b l u) (λ t. visited_again l k i w f level b r h S u (eqb-true (stamp_of w i) (stamp l k) t))
    ]
    | no b ↦ rw (visit_off four N ws k i w l (omega arith)) (λ t. absurd (true≢false (sym t)))
  ]

  pub visit_shows : (l k i : ℕ) (w : List ℕ) → Fits n l k → l ≤ 8 → N ≤ length w → Room N ws i w → Settled n N ws (suc l) w → Shows l k i w (visit four N ws l k i w)
  unfolding below
  visit_shows zero k i w f level r h S = met_shows 0 k i w f level r h S (λ b u s t.
      let e = both (eqb (left ws i) none) (eqb (right ws i) none) s in
      let w₁ = stamped w i (stamp 0 k) in
      let S₁ : Settled n N ws 0 w₁ = into 0 k i w f level b r h S u in
      visited_first 0 k i w f level b r h S u [] [] w₁ w₁
      (visited_none 0 (left ws i) w₁ (eqb-true (left ws i) none e.0) S₁)
      (visited_none 0 (right ws i) w₁ (eqb-true (right ws i) none e.1) S₁)
      (leaf_tree N ws k i b s)
      (leaf_nodes ws k i))
  visit_shows (suc l) k i w f level r h S = met_shows (suc l) k i w f level r h S (λ b u s.
      let w₁ = stamped w i (stamp (suc l) k) in
      let w₂ = (on_left four N ws l k i w₁).0 in
      let r₁ : N ≤ length w₁ = omega (arith, length-set w i (stamp (suc l) k + 8192)) in
      let r₂ : N ≤ length w₂ = omega (arith, (visit_keeps four N ws l (min k (2 ^ l)) (left ws i) w₁).size) in
      let L = visit_shows l (min k (2 ^ l)) (left ws i) w₁ (fits-left n l k f) (omega arith) r₁ (room_left (suc l) k i w f level b r h S u) (into (suc l) k i w f level b r h S u) in
      elim (decided (on_left four N ws l k i w₁).1) [
        | inl tl ↦ elim (ℕ_discrete (k - 2 ^ l) 0) [
          | yes e ↦ rw (below_end four N ws l k i w₁ tl e) (λ t.
              visited_first (suc l) k i w f level b r h S u (nodes ws l (min k (2 ^ l)) (left ws i)) [] w₂ w₂
              (L tl).1
              (visited_none (suc l) (right ws i) w₂ (eqb-true (right ws i) none t) (L tl).1.settled)
              (end_tree N ws k i b l s (L tl).0 e t)
              (end_nodes ws k i l e))
          | no e ↦ rw (below_right four N ws l k i w₁ tl e) (λ t.
              let R = visit_shows l (k - 2 ^ l) (right ws i) w₂ (fits-right n l k f e) (omega arith) r₂ (room_right (suc l) k i w f level b r h S u _ w₂ (L tl).1.adds) (L tl).1.settled t in
              visited_first (suc l) k i w f level b r h S u (nodes ws l (min k (2 ^ l)) (left ws i)) (nodes ws l (k - 2 ^ l) (right ws i)) w₂ _
              (L tl).1
              R.1
              (inner-tree N ws k i b l s (L tl).0 e R.0)
              (inner-nodes ws k i l e))
        ]
        | inr tl ↦ rw (below_left four N ws l k i w₁ tl) (λ t. absurd (true≢false (sym t)))
      ])
