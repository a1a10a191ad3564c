-- A visit that succeeds is of a tree of the definition; what it adds to the nodes of each level and to the links counted.
use Rattle.std.specs.Prelude.{◌≡◌, refl, ◌⊎◌, ◌≢◌, Bool, true, List, get_or}
use Rattle.std.proofs.Common.{sym, ap, ◌∙◌, arith, eqb-true}
use Rattle.std.proofs.Math.Logic.{inl, inr}
use Prim.Native.Nat.{ℕ, zero, suc, ◌+◌, ◌-◌, ◌*◌, ◌%◌, ◌^◌, ◌≤◌, ◌<◌, min}
use Rattle.std.proofs.Math.Decide.{ℕ_discrete, dec_lt}
use Rattle.std.proofs.Math.ListN.{length, length-set}
use Rattle.words.specs.Basics.{none, δ, count}
use Rattle.words.specs.Counting.{δ_other}
use Rattle.words.specs.Tests.{decided, true≢false}
use Rattle.packed.specs.Pool.{left, right}
use Rattle.frames.specs.Widths.{max_places}
use Rattle.pool_check.specs.Algorithm.{mark, links, stamp, stamped, linked, visit, below}
use Rattle.pool_check.specs.Theory.Shape.{Fits, fits-left, fits-right}
use Rattle.pool_check.specs.Theory.Stamps.{stamp_of, linked-stamp, linked-mark, linked-links, stamped_word, stamped_other, stamped-links}
use Rattle.packed_check.specs.TwoWords.{two}
use Rattle.pool_check.specs.Theory.Ways.{on_left, visit_off, visit_again, visit-below, below_left, below_end, below_right, visit_keeps}
use Rattle.packed_check.specs.Theory.Shape.{tree, nodes, leaf_tree, end_tree, inner-tree, at_root, leaf_count, end_count, inner-count}
use Rattle.packed_check.specs.Theory.Stamps.{on, on_le, links_to, links_to_le, linked-links_to, linked_on, stamped_on, stamped-links_to, leaf_links_to}

-- nodes visited three times
three_visits : (m a b c : ℕ) {m₁ m₂ m₃ d : ℕ} → m₁ ≡ min 1 (m + a) → m₂ ≡ min 1 (m₁ + b) → m₃ ≡ min 1 (m₂ + c) → d ≡ a + (b + c) → m₃ ≡ min 1 (m + d)
three_visits m a b c e₁ e₂ e₃ e = omega arith

-- how often a node stands on a level
abbrev pub Tally : Type 0
Tally = ℕ → ℕ → ℕ

-- those of a tree of level l over k splitters
abbrev pub tally : List ℕ → ℕ → ℕ → ℕ → Tally
tally ws l k i j x = count x (nodes ws j l k i)

-- a visit of the tree with these nodes, by a link to i: the nodes of each level, and the links counted
pub record Adds (N : ℕ) (ws : List ℕ) (i : ℕ) (xs : Tally) (w w' : List ℕ) : Type 0 where
  pub levels : (j x : ℕ) → x < N → on w' j x ≡ min 1 (on w j x + xs j x)
  pub counts : (x : ℕ) → x < N → links w' x + links_to N ws w x ≡ links w x + δ x i + links_to N ws w' x

-- the links counted, the one to i among them, are links of visited nodes or of roots, of which there are as many as places at most
abbrev pub Room : ℕ → List ℕ → ℕ → List ℕ → Type 0
Room N ws i w = (x : ℕ) → x < N → links w x + δ x i ≤ max_places + links_to N ws w x

-- the stamps of level l and above stay
abbrev Stays : ℕ → ℕ → List ℕ → List ℕ → Type 0
Stays N l w w' = (x : ℕ) → x < N → ((stamp_of w' x ≡ stamp_of w x) × (mark w' x ≡ mark w x)) ⊎ (stamp_of w' x < 512 * l)

-- node x is the root of such a tree, and all nodes of the tree are visited, each on its level
abbrev pub Walked : ℕ → List ℕ → List ℕ → ℕ → ℕ → ℕ → Type 0
Walked N ws w l k x = (tree N ws l k x ≡ true) × ((j y : ℕ) → y < N → min 1 (count y (nodes ws j l k x)) ≤ on w j y)

-- every node whose stamp is below level l
abbrev pub Settled : ℕ → ℕ → List ℕ → ℕ → List ℕ → Type 0
Settled n N ws l w = (x l' k' : ℕ) → x < N → Fits n l' k' → l' < l → mark w x ≡ 1 → stamp_of w x ≡ stamp l' k' → Walked N ws w l' k' x

-- what a visit does, at a level below l, by a link to the root i of a tree with the nodes xs
pub record Visited (n N : ℕ) (ws : List ℕ) (l i : ℕ) (xs : Tally) (w w' : List ℕ) : Type 0 where
  pub adds : Adds N ws i xs w w'
  pub stays : Stays N l w w'
  pub settled : Settled n N ws l w'

module _ (n N : ℕ) (ws : List ℕ) (small : n ≤ 256) (few : N ≤ 16384) where
  -- an absent child
  visited_none : (l i : ℕ) (w : List ℕ) → i ≡ none → Settled n N ws l w → Visited n N ws l i (λ j x. 0) w w
  visited_none l i w e S = record {
    adds = record { levels = λ j x b. omega (arith, on_le w j x); counts = λ x b. omega (arith, δ_other x i (omega arith)) };
    stays = λ x b. inl (refl, refl);
    settled = S;
  }

  -- a link to node i, at level l over k splitters: a later one, and the first
  module _ (l k i : ℕ) (w : List ℕ) (f : Fits n l k) (level : l ≤ 8) (b : i < N) (r : N ≤ length w) (h : Room N ws i w) (S : Settled n N ws (suc l) w) where
    inside : i < length w
    inside = omega arith

    part : k < 512
    part = omega (arith, f.most)

    visited_again : get_or w i 0 ≢ 0 → stamp_of w i ≡ stamp l k → (tree N ws l k i ≡ true) × Visited n N ws (suc l) i (tally ws l k i) w (linked w i)
    visited_again met e =
        let few_links : links w i < 524287 = omega (arith, h i b, links_to_le N ws w i) in
        let T = S i l k b f (omega arith) (omega arith) e in (
          T.0,
          record {
            adds = record {
              levels = λ j x bx. omega (arith, linked_on w i inside met few_links j x, T.1 j x bx, on_le w j x);
              counts = λ x bx. omega (arith, linked-links w i inside met few_links x, linked-links_to w i inside N ws x);
            };
            stays = λ x bx. inl (linked-stamp w i inside x, linked-mark w i inside met few_links x);
            settled = λ x l' k' bx f' lt m e'.
                let U = S x l' k' bx f' lt (sym (linked-mark w i inside met few_links x) ∙ m) (sym (linked-stamp w i inside x) ∙ e') in
                (U.0, λ j y by. omega (arith, linked_on w i inside met few_links j y, U.1 j y by));
          },
        )

    module _ (u : get_or w i 0 ≡ 0) where
      abbrev w₁ : List ℕ
      w₁ = stamped w i (stamp l k)

      low : stamp l k < 8192
      low = omega (arith, part)

      own_stamp : (x : ℕ) → x ≡ i → stamp_of w₁ x ≡ stamp l k
      own_stamp x e = rw e (omega (arith, low, stamped_word w i (stamp l k) inside u low))

      -- the other nodes are as they were
      settled_other : (x l' k' : ℕ) → x < N → x ≢ i → Fits n l' k' → l' ≤ l → mark w₁ x ≡ 1 → stamp_of w₁ x ≡ stamp l' k' → Walked N ws w l' k' x
      settled_other x l' k' bx d f' lt m e =
          let same = stamped_other w i (stamp l k) inside u low x d in
          S x l' k' bx f' (omega arith) (ap (λ (q : ℕ). min 1 q) (sym same) ∙ m) (ap (λ (q : ℕ). q % 8192) (sym same) ∙ e)

      -- the node has a stamp above its children's levels
      into : Settled n N ws l w₁
      into x l' k' bx f' lt m e = elim (ℕ_discrete x i) [
        | yes d ↦ absurd (omega (arith, own_stamp x d, f.most, f'.most))
        | no d ↦ (
            let U = settled_other x l' k' bx d f' (omega arith) m e in
            (U.0, λ j y by. omega (arith, stamped_on w i l k inside u level part j y, U.1 j y by)))
      ]

      -- the node's links are to p and q
      module _ (p q : ℕ) (ls : (x : ℕ) → x < N → links_to N ws w₁ x ≡ links_to N ws w x + (δ x p + δ x q)) where
        room_left : Room N ws p w₁
        room_left x bx = omega (arith, stamped-links w i (stamp l k) inside u low x, ls x bx, h x bx)

        room_right : (A : Tally) (w₂ : List ℕ) → Adds N ws p A w₁ w₂ → Room N ws q w₂
        room_right A w₂ a x bx = omega (arith, a.counts x bx, stamped-links w i (stamp l k) inside u low x, ls x bx, h x bx)

        -- the node, and then its children
        module _ (A B : Tally) (w₂ w₃ : List ℕ) (P : Visited n N ws l p A w₁ w₂) (Q : Visited n N ws l q B w₂ w₃) (t : tree N ws l k i ≡ true)
            (en : (j x : ℕ) → count x (nodes ws j l k i) ≡ at_root j l x i + (A j x + B j x)) where
          first_adds : Adds N ws i (tally ws l k i) w w₃
          first_adds = record {
            levels = λ j x bx. three_visits (on w j x) (at_root j l x i) (A j x) (B j x) (stamped_on w i l k inside u level part j x) (P.adds.levels j x bx) (Q.adds.levels j x bx) (en j x);
            counts = λ x bx. omega (arith, P.adds.counts x bx, Q.adds.counts x bx, stamped-links w i (stamp l k) inside u low x, ls x bx);
          }

          children_stay : Stays N l w₁ w₃
          children_stay x bx = elim (Q.stays x bx) [
            | inl s₃ ↦ elim (P.stays x bx) [ inl s₂ ↦ inl (s₃.0 ∙ s₂.0, s₃.1 ∙ s₂.1) | inr s₂ ↦ inr (omega (arith, s₃.0)) ]
            | inr s₃ ↦ inr s₃
          ]

          first_stays : Stays N (suc l) w w₃
          first_stays x bx = elim (children_stay x bx) [
            | inl s ↦ elim (ℕ_discrete x i) [
              | yes d ↦ inr (omega (arith, s.0, own_stamp x d, f.most))
              | no d ↦ (let same = stamped_other w i (stamp l k) inside u low x d in inl (s.0 ∙ ap (λ (z : ℕ). z % 8192) same, s.1 ∙ ap (λ (z : ℕ). min 1 z) same))
            ]
            | inr s ↦ inr (omega arith)
          ]

          first_settled : Settled n N ws (suc l) w₃
          first_settled x l' k' bx f' lt m e = elim (dec_lt l' l) [
            | yes below ↦ Q.settled x l' k' bx f' below m e
            | no top ↦ elim (children_stay x bx) [
              | inl s ↦ elim (ℕ_discrete x i) [
                | yes d ↦ (
                    let el : l' ≡ l = omega arith in
                    let ek : k' ≡ k = omega (arith, s.0, own_stamp x d) in
                    rw (d, el, ek) (t, λ j y by. omega (arith, first_adds.levels j y by)))
                | no d ↦ (
                    let U = settled_other x l' k' bx d f' (omega arith) (sym s.1 ∙ m) (sym s.0 ∙ e) in
                    (U.0, λ j y by. omega (arith, first_adds.levels j y by, U.1 j y by)))
              ]
              | inr s ↦ absurd (omega arith)
            ]
          ]

          visited_first : (tree N ws l k i ≡ true) × Visited n N ws (suc l) i (tally ws l k i) w w₃
          visited_first = (t, record { adds = first_adds; stays = first_stays; settled = first_settled })

  -- what the outcome p of a visit shows, if it succeeds
  abbrev Shows : ℕ → ℕ → ℕ → List ℕ → List ℕ × Bool → Type 0
  Shows l k i w p = p.1 ≡ true → (tree N ws l k i ≡ true) × Visited n N ws (suc l) i (tally ws l k i) w p.0

  -- by whether node i exists and was visited
  met_shows : (l k i : ℕ) (w : List ℕ) → Fits n l k → l ≤ 8 → N ≤ length w → Room N ws i w → Settled n N ws (suc l) w
      → (i < N → get_or w i 0 ≡ 0 → Shows l k i w (below two N ws l k i (stamped w i (stamp l k)))) → Shows l k i w (visit two N ws l k i w)
  met_shows l k i w f level r h S deep = elim (dec_lt i N) [
    | yes b ↦ elim (ℕ_discrete (get_or w i 0) 0) [
      | yes u ↦ rw (visit-below two N ws k i w b u l refl) (deep b u)
      | no u ↦ rw (visit_again two N ws k i w b l u) (λ t. visited_again l k i w f level b r h S u (eqb-true (stamp_of w i) (stamp l k) t))
    ]
    | no b ↦ rw (visit_off two N ws k i w l (omega arith)) (λ t. absurd (true≢false (sym t)))
  ]

  -- a leaf, which has no links
  leaf_shows : (k i : ℕ) (w : List ℕ) (f : Fits n 0 k) (level : 0 ≤ 8) (r : N ≤ length w) (h : Room N ws i w) (S : Settled n N ws 1 w) (b : i < N) (u : get_or w i 0 ≡ 0)
      → (tree N ws 0 k i ≡ true) × Visited n N ws 1 i (tally ws 0 k i) w (stamped w i (stamp 0 k))
  leaf_shows k i w f level r h S b u =
      let S₁ : Settled n N ws 0 (stamped w i (stamp 0 k)) = into 0 k i w f level b r h S u in
      let w₁ = stamped w i (stamp 0 k) in
      let no_child = visited_none 0 none w₁ refl S₁ in
      visited_first 0 k i w f level b r h S u none none
      (λ x bx. omega (arith, leaf_links_to w i 0 k (omega arith) u level (omega (arith, f.most)) N ws x b refl, δ_other x none (omega arith)))
      (λ j x. 0) (λ j x. 0) w₁ w₁ no_child no_child
      (leaf_tree N ws k i b)
      (λ j x. omega (arith, leaf_count ws j x k i))

  pub visit_shows : (l k i : ℕ) (w : List ℕ) → Fits n l k → l ≤ 8 → N ≤ length w → Room N ws i w → Settled n N ws (suc l) w → Shows l k i w (visit two N ws l k i w)
  unfolding below
  visit_shows zero k i w f level r h S = met_shows 0 k i w f level r h S (λ b u t. leaf_shows k i w f level r h S b u)
  visit_shows (suc l) k i w f level r h S = met_shows (suc l) k i w f level r h S (λ b u.
      let w₁ = stamped w i (stamp (suc l) k) in
      let w₂ = (on_left two N ws l k i w₁).0 in
      let r₁ : N ≤ length w₁ = omega (arith, length-set w i (stamp (suc l) k + 8192)) in
      let r₂ : N ≤ length w₂ = omega (arith, (visit_keeps two N ws l (min k (2 ^ l)) (left ws i) w₁).size) in
      let ls : (x : ℕ) → x < N → links_to N ws w₁ x ≡ links_to N ws w x + (δ x (left ws i) + δ x (right ws i))
      = λ x bx. stamped-links_to w i (suc l) k (omega arith) u level (omega (arith, f.most)) N ws x b (omega arith) in
      let L = visit_shows l (min k (2 ^ l)) (left ws i) w₁ (fits-left n l k f) (omega arith) r₁ (room_left (suc l) k i w f level b r h S u (left ws i) (right ws i) ls) (into (suc l) k i w f level b r h S u) in
      elim (decided (on_left two N ws l k i w₁).1) [
        | inl tl ↦ elim (ℕ_discrete (k - 2 ^ l) 0) [
          | yes e ↦ rw (below_end two N ws l k i w₁ tl e) (λ t.
              visited_first (suc l) k i w f level b r h S u (left ws i) (right ws i) ls (tally ws l (min k (2 ^ l)) (left ws i)) (λ j x. 0) w₂ w₂
              (L tl).1
              (visited_none (suc l) (right ws i) w₂ (eqb-true (right ws i) none t) (L tl).1.settled)
              (end_tree N ws k i b l (L tl).0 e t)
              (λ j x. omega (arith, end_count ws j x k i l e)))
          | no e ↦ rw (below_right two N ws l k i w₁ tl e) (λ t.
              let R = visit_shows l (k - 2 ^ l) (right ws i) w₂ (fits-right n l k f e) (omega arith) r₂
              (room_right (suc l) k i w f level b r h S u (left ws i) (right ws i) ls _ w₂ (L tl).1.adds) (L tl).1.settled t in
              visited_first (suc l) k i w f level b r h S u (left ws i) (right ws i) ls (tally ws l (min k (2 ^ l)) (left ws i)) (tally ws l (k - 2 ^ l) (right ws i)) w₂ _
              (L tl).1
              R.1
              (inner-tree N ws k i b l (L tl).0 e R.0)
              (λ j x. inner-count ws j x k i l e))
        ]
        | inr tl ↦ rw (below_left two N ws l k i w₁ tl) (λ t. absurd (true≢false (sym t)))
      ])
