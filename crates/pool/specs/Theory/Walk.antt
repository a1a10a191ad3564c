-- Walks down the tree: to the node of level k on the way to splitter x; to the leaf for k = 0.
use Rattle.std.specs.Prelude.{◌≡◌, List, ℕ, zero, suc, ◌-◌, ◌≤◌, ◌<◌, ◌^◌, ◌%◌}
use Rattle.std.proofs.Math.Path.{refl}
use Rattle.std.proofs.Common.{sym, ap, ◌∙◌, subst, arith}
use Rattle.std.proofs.Math.Decide.{ℕ_discrete, dec_le}
use Rattle.words.specs.Basics.{none}
use Rattle.sizes.specs.Bits.{bit_lt, low0, low1, low_lt, Agree}
use Rattle.sizes.specs.Sizes.{bit}
use Rattle.pool.specs.Pool.{refcount, left, right, value, side, child, leaf_of, read_at}
use Rattle.pool.specs.Theory.Changes.{Keeps}
use Rattle.pool.specs.Theory.Invariant.{Links, Invariant, right_at_node, used_left, used_right, links_at}

unfoldable pub stop : {k l : ℕ} → Dec (k ≤ l) → ℕ → ℕ → ℕ
stop (yes p) i w = w
stop (no p) i w = i

-- from node i of level l, down to level k
unfoldable pub walk : ℕ → ℕ → List ℕ → ℕ → ℕ → ℕ
walk k zero ws i x = i
walk k (suc l) ws i x = stop (dec_le k l) i (walk k l ws (child ws i (bit l x)) x)

pub walk_go : (k l : ℕ) (ws : List ℕ) (i x : ℕ) → k ≤ l → walk k (suc l) ws i x ≡ walk k l ws (child ws i (bit l x)) x
unfolding walk stop
walk_go k l ws i x h = go (dec_le k l)
  where
    go : (d : Dec (k ≤ l)) → stop d i (walk k l ws (child ws i (bit l x)) x) ≡ walk k l ws (child ws i (bit l x)) x
    go (yes p) = refl
    go (no p) = absurd (p h)

pub walk_here : (k l : ℕ) (ws : List ℕ) (i x : ℕ) → l ≤ k → walk k l ws i x ≡ i
unfolding walk stop
walk_here k zero ws i x h = refl
walk_here k (suc l) ws i x h = go (dec_le k l)
  where
    go : (d : Dec (k ≤ l)) → stop d i (walk k l ws (child ws i (bit l x)) x) ≡ i
    go (yes p) = absurd (omega arith)
    go (no p) = refl

pub walk_leaf : (l : ℕ) (ws : List ℕ) (i x : ℕ) → walk 0 l ws i x ≡ leaf_of l ws i x
unfolding leaf_of
walk_leaf zero ws i x = walk_here 0 0 ws i x (omega arith)
walk_leaf (suc l) ws i x = walk_go 0 l ws i x (omega arith) ∙ walk_leaf l ws (child ws i (bit l x)) x

-- what a frame reads is the value of its walk's last node
pub read_at-walk : (h : ℕ) (ws : List ℕ) (root x : ℕ) → read_at h ws root x ≡ value ws (walk 0 h ws root x)
unfolding read_at
read_at-walk h ws root x = ap (value ws) (sym (walk_leaf h ws root x))

pub walk_agree : (k l : ℕ) (ws : List ℕ) (i x y : ℕ) → Agree k l x y → walk k l ws i x ≡ walk k l ws i y
walk_agree k zero ws i x y h = walk_here k 0 ws i x (omega arith) ∙ sym (walk_here k 0 ws i y (omega arith))
walk_agree k (suc l) ws i x y h = elim (dec_le k l) [
  | yes p ↦ walk_go k l ws i x p ∙ walk_agree k l ws (child ws i (bit l x)) x y (λ m a b. h m a (omega arith))
      ∙ ap (λ b. walk k l ws (child ws i b) y) (h l p (omega arith)) ∙ sym (walk_go k l ws i y p)
  | no p ↦ walk_here k (suc l) ws i x (omega arith) ∙ sym (walk_here k (suc l) ws i y (omega arith))
]

-- the last step of a walk
pub walk_down : (k l : ℕ) (ws : List ℕ) (i y : ℕ) → k < l → walk k l ws i y ≡ child ws (walk (suc k) l ws i y) (bit k y)
walk_down k zero ws i y h = absurd (omega arith)
walk_down k (suc l) ws i y h = elim (ℕ_discrete k l) [
  | yes e ↦ walk_go k l ws i y (omega arith) ∙ walk_here k l ws (child ws i (bit l y)) y (omega arith) ∙ ap (λ b. child ws i (bit b y)) (sym e)
      ∙ ap (λ j. child ws j (bit k y)) (sym (walk_here (suc k) (suc l) ws i y (omega arith)))
  | no e ↦ walk_go k l ws i y (omega arith) ∙ walk_down k l ws (child ws i (bit l y)) y (omega arith)
      ∙ ap (λ j. child ws j (bit k y)) (sym (walk_go (suc k) l ws i y (omega arith)))
]

-- a walk in two parts
pub walk_split : (k m l : ℕ) (ws : List ℕ) (i y : ℕ) → k ≤ m → m ≤ l → walk k l ws i y ≡ walk k m ws (walk m l ws i y) y
walk_split k m zero ws i y h b = walk_here k 0 ws i y (omega arith) ∙ sym (walk_here m 0 ws i y (omega arith)) ∙ sym (walk_here k m ws (walk m 0 ws i y) y (omega arith))
walk_split k m (suc l) ws i y h b = elim (dec_le m l) [
  | yes p ↦ walk_go k l ws i y (omega arith) ∙ walk_split k m l ws (child ws i (bit l y)) y h p ∙ ap (λ j. walk k m ws j y) (sym (walk_go m l ws i y p))
  | no p ↦ ap (λ j. walk k j ws i y) (omega arith) ∙ ap (λ j. walk k m ws j y) (sym (walk_here m (suc l) ws i y (omega arith)))
]

-- a walk goes alike in words with the same links at the nodes that it leaves
pub walk_same : (ws ws' : List ℕ) (k l i y : ℕ) → ((m : ℕ) → k < m → m ≤ l → (b : ℕ) → child ws' (walk m l ws i y) b ≡ child ws (walk m l ws i y) b) → walk k l ws' i y ≡ walk k l ws i y
walk_same ws ws' k zero i y h = walk_here k 0 ws' i y (omega arith) ∙ sym (walk_here k 0 ws i y (omega arith))
walk_same ws ws' k (suc l) i y h = elim (dec_le k l) [
  | yes p ↦ walk_go k l ws' i y p
      ∙ ap (λ j. walk k l ws' j y) (ap (λ j. child ws' j (bit l y)) (sym (top (omega arith))) ∙ h (suc l) (omega arith) (omega arith) (bit l y) ∙ ap (λ j. child ws j (bit l y)) (top (omega arith)))
      ∙ walk_same ws ws' k l (child ws i (bit l y)) y (λ m a c b. subst (λ j. child ws' j b ≡ child ws j b) (walk_go m l ws i y c) (h m a (omega arith) b))
      ∙ sym (walk_go k l ws i y p)
  | no p ↦ walk_here k (suc l) ws' i y (omega arith) ∙ sym (walk_here k (suc l) ws i y (omega arith))
]
  where
    top : suc l ≤ suc l → walk (suc l) (suc l) ws i y ≡ i
    top q = walk_here (suc l) (suc l) ws i y q

-- ---- a node in use, of level l, with x among its leaves

pub record Covers (N : ℕ) (level size : ℕ → ℕ) (ws : List ℕ) (l x i : ℕ) : Type 0 where
  pub inside : i < N
  pub at_level : level i ≡ l
  pub among : x % 2 ^ l < size i
  pub in_use : 0 < refcount ws i

module _ {N H : ℕ} (small : N ≤ none) {level size : ℕ → ℕ} {ws : List ℕ} {free : ℕ} {fs E : List ℕ} (R : Invariant N H level size ws free fs none E) where
  -- the child on the way to x is such a node
  pub covers_child : (l x i : ℕ) → Covers N level size ws (suc l) x i → Covers N level size ws l x (child ws i (bit l x))
  unfolding child side Links
  covers_child l x i K = go (bit l x) refl
    where
      lk : Links N level size (suc l) (size i) (left ws i) (right ws i)
      lk = links_at R i (suc l) K.inside K.in_use K.at_level

      go : (b : ℕ) → bit l x ≡ b → Covers N level size ws l x (side b (left ws i) (right ws i))
      go zero e = record {
        inside = lk.0.inside;
        at_level = lk.0.at_level;
        among = omega (arith, lk.0.of_size, low0 l x e, low_lt l x, K.among);
        in_use = used_left R i (left ws i) K.inside K.in_use lk.0.inside (omega (arith, lk.0.inside)) refl;
      }
      go (suc b) e =
          let e1 = low1 l x (omega (arith, bit_lt l x)) in
          let F = right_at_node N level size l (size i - 2 ^ l) (right ws i) (omega (arith, K.among)) lk.1 in
          record {
            inside = F.inside;
            at_level = F.at_level;
            among = omega (arith, F.of_size, low_lt l x, K.among);
            in_use = used_right R i (right ws i) K.inside K.in_use F.inside (omega (arith, F.inside)) refl;
          }

  pub covers_walk : (k l x i : ℕ) → k ≤ l → Covers N level size ws l x i → Covers N level size ws k x (walk k l ws i x)
  covers_walk k zero x i h K = subst (λ q. Covers N level size ws q x (walk k zero ws i x)) (omega arith) (subst (λ q. Covers N level size ws zero x q) (sym (walk_here k 0 ws i x (omega arith))) K)
  covers_walk k (suc l) x i h K = elim (dec_le k l) [
    | yes p ↦ subst (λ q. Covers N level size ws k x q) (sym (walk_go k l ws i x p)) (covers_walk k l x (child ws i (bit l x)) p (covers_child l x i K))
    | no p ↦ subst (λ q. Covers N level size ws q x (walk k (suc l) ws i x)) (omega arith) (subst (λ q. Covers N level size ws (suc l) x q) (sym (walk_here k (suc l) ws i x (omega arith))) K)
  ]

  -- a walk goes alike in words that keep what is in use
  pub walk_kept : (ws' : List ℕ) → Keeps N ws ws' → (k l x i : ℕ) → Covers N level size ws l x i → walk k l ws' i x ≡ walk k l ws i x
  walk_kept ws' G k zero x i K = walk_here k 0 ws' i x (omega arith) ∙ sym (walk_here k 0 ws i x (omega arith))
  walk_kept ws' G k (suc l) x i K = elim (dec_le k l) [
    | yes p ↦ walk_go k l ws' i x p ∙ ap (λ q. walk k l ws' q x) (same (bit l x))
        ∙ walk_kept ws' G k l x (child ws i (bit l x)) (covers_child l x i K) ∙ sym (walk_go k l ws i x p)
    | no p ↦ walk_here k (suc l) ws' i x (omega arith) ∙ sym (walk_here k (suc l) ws i x (omega arith))
  ]
    where
      same : (b : ℕ) → child ws' i b ≡ child ws i b
      same b = (let C = G i K.inside K.in_use in unfold child in cc (C.same_left, C.same-right))
