-- The start's numbering: root first, level by level, left to right. Level l begins at node first n H l.
use Rattle.std.specs.Prelude.{◌≡◌}
use Rattle.std.proofs.Math.Path.{ap}
use Prim.Native.Nat.{ℕ, zero, suc, ◌+◌, ◌-◌, ◌≤◌, ◌<◌}
use native.Mathlib.Omega.{arith}
use Rattle.std.proofs.Math.Decide.{ℕ_discrete, dec_lt, dec_le}
use Rattle.words.specs.Basics.{sum}
use Rattle.sizes.specs.Sizes.{width, height, tree_nodes}

-- the nodes of the c levels above level l
unfoldable pub above : ℕ → ℕ → ℕ → ℕ
above n zero l = 0
above n (suc c) l = above n c (suc l) + width n (suc l)

-- the first node of level l; T(n)
unfoldable pub first : ℕ → ℕ → ℕ → ℕ
first n H l = above n (H - l) l

unfoldable pub nodes_to : ℕ → ℕ → ℕ
nodes_to n H = first n H 0 + width n 0

unfoldable pub level_at : {a b : ℕ} → Dec (a ≤ b) → ℕ → ℕ → ℕ
level_at (yes p) l r = l
level_at (no p) l r = r

-- the level of node i, from level H - c upwards
unfoldable pub level_of : ℕ → ℕ → ℕ → ℕ → ℕ
level_of n H zero i = H
level_of n H (suc c) i = level_at (dec_le (first n H (H - suc c)) i) (H - suc c) (level_of n H c i)

module _ (n H : ℕ) where
  pub first-top : first n H H ≡ 0
  unfolding first above
  first-top = (let e : H - H ≡ 0 = omega arith in ap (λ (c : ℕ). above n c H) e)

  pub first_step : (l : ℕ) → l < H → first n H l ≡ first n H (suc l) + width n (suc l)
  unfolding first above
  first_step l h = (let e : H - l ≡ suc (H - suc l) = omega arith in ap (λ (c : ℕ). above n c l) e)

  first_mono : (c l m : ℕ) → l + suc c ≡ m → m ≤ H → first n H m + width n m ≤ first n H l
  first_mono zero l m e h = omega (arith, first_step l (omega arith), ap (first n H) e', ap (width n) e')
    where
      e' : m ≡ suc l
      e' = omega arith
  first_mono (suc c) l m e h = omega (arith, first_step l (omega arith), first_mono c (suc l) m (omega arith) h)

  pub first_lt : (l m : ℕ) → l < m → m ≤ H → first n H m + width n m ≤ first n H l
  first_lt l m h k = first_mono (m - suc l) l m (omega arith) k

  pub id_lt : (l g : ℕ) → l ≤ H → g < width n l → first n H l + g < nodes_to n H
  unfolding nodes_to
  id_lt l g h b = elim (ℕ_discrete l 0) [
    | yes e ↦ omega (arith, ap (first n H) e, ap (width n) e)
    | no e ↦ omega (arith, first_lt 0 l (omega arith) h)
  ]

  pub id_inj : (l g m k : ℕ) → l ≤ H → m ≤ H → g < width n l → k < width n m → first n H l + g ≡ first n H m + k → (l ≡ m) × (g ≡ k)
  id_inj l g m k hl hm bg bk e = elim (ℕ_discrete l m) [
    | yes q ↦ (q, omega (arith, ap (first n H) q))
    | no q ↦ elim (dec_lt l m) [
      | yes r ↦ absurd (omega (arith, first_lt l m r hm))
      | no r ↦ absurd (omega (arith, first_lt m l (omega arith) hl))
    ]
  ]

  id_of_go : (c i : ℕ) → c ≤ H → i < first n H (H - c) + width n (H - c) → (l : ℕ) × (g : ℕ) × (l ≤ H) × (g < width n l) × (i ≡ first n H l + g)
  id_of_go zero i h b = (H, i, omega arith, omega (arith, ap (first n H) e, ap (width n) e, first-top), omega (arith, first-top))
    where
      e : H - 0 ≡ H
      e = omega arith
  id_of_go (suc c) i h b = elim (dec_le (first n H (H - suc c)) i) [
    | yes p ↦ (H - suc c, i - first n H (H - suc c), omega arith, omega arith, omega arith)
    | no p ↦ id_of_go c i (omega arith) (omega (arith, first_step (H - suc c) (omega arith), ap (first n H) e, ap (width n) e))
  ]
    where
      e : suc (H - suc c) ≡ H - c
      e = omega arith

  pub id_of : (i : ℕ) → i < nodes_to n H → (l : ℕ) × (g : ℕ) × (l ≤ H) × (g < width n l) × (i ≡ first n H l + g)
  unfolding nodes_to
  id_of i b = id_of_go H i (omega arith) (omega (arith, ap (first n H) e, ap (width n) e))
    where
      e : H - H ≡ 0
      e = omega arith

  level_go : (c l g : ℕ) → H - c ≤ l → c ≤ H → l ≤ H → g < width n l → level_of n H c (first n H l + g) ≡ l
  unfolding level_of level_at
  level_go zero l g h hc hl b = omega arith
  level_go (suc c) l g h hc hl b = go (dec_le (first n H (H - suc c)) (first n H l + g)) (λ q. level_go c l g q (omega arith) hl b)
    where
      go : (d : Dec (first n H (H - suc c) ≤ first n H l + g)) → (H - c ≤ l → level_of n H c (first n H l + g) ≡ l) → level_at d (H - suc c) (level_of n H c (first n H l + g)) ≡ l
      go (yes p) r = elim (ℕ_discrete (H - suc c) l) [ yes e ↦ e | no e ↦ absurd (omega (arith, first_lt (H - suc c) l (omega arith) hl)) ]
      go (no p) r = r (elim (ℕ_discrete (H - suc c) l) [ yes e ↦ absurd (omega (arith, ap (first n H) e)) | no e ↦ omega arith ])

  pub level_is : (l g : ℕ) → l ≤ H → g < width n l → level_of n H H (first n H l + g) ≡ l
  level_is l g hl b = level_go H l g (omega arith) (omega arith) hl b

above-sum : (n c l : ℕ) → above n c l + sum (suc l) (width n) ≡ sum (suc (l + c)) (width n)
unfolding above
above-sum n zero l = omega (arith, ap (λ q. sum (suc q) (width n)) e)
  where
    e : l ≡ l + 0
    e = omega arith
above-sum n (suc c) l = omega (arith, above-sum n c (suc l), ap (λ q. sum (suc q) (width n)) e)
  where
    e : suc l + c ≡ l + suc c
    e = omega arith

pub nodes-sum : (n H : ℕ) → nodes_to n H ≡ sum (suc H) (width n)
unfolding nodes_to first
nodes-sum n H = omega (arith, above-sum n H 0, ap (λ q. sum (suc q) (width n)) e, ap (λ c. above n c 0) z)
  where
    e : 0 + H ≡ H
    e = omega arith

    z : H - 0 ≡ H
    z = omega arith

-- all levels' nodes are T(n)
pub nodes-tree : (n : ℕ) → nodes_to n (height n) ≡ tree_nodes n
unfolding tree_nodes
nodes-tree n = nodes-sum n (height n)
