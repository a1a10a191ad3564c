-- The word of one node changed: what becomes of its mark, its stamp and the links counted to it.
use Rattle.std.specs.Prelude.{◌≡◌, ◌≢◌, List, ℕ, zero, suc, ◌+◌, ◌*◌, ◌%◌, ◌≤◌, ◌<◌, min, length, get_or}
use Rattle.std.proofs.Common.{ap, ◌∙◌, arith, get_or-set_same, get_or-set_other}
use Rattle.std.proofs.Math.Decide.{ℕ_discrete}
use Rattle.words.specs.Basics.{plus, sum, δ}
use Rattle.words.specs.Counting.{δ_same, δ_other, δ_le, sum_cong, sum_upd, sum_le}
use Rattle.pool.specs.Pool.{left, right}
use Rattle.pool_check.specs.Algorithm.{mark, links, stamped, linked}

-- the links of node j to node x
abbrev pub link_to : List ℕ → ℕ → ℕ → ℕ
link_to ws x j = δ x (left ws j) + δ x (right ws j)

-- the links of the visited nodes to node x
abbrev pub links_to : ℕ → List ℕ → List ℕ → ℕ → ℕ
links_to N ws w x = sum N (λ j. mark w j * link_to ws x j)

-- no sum of links comes near the width of a word
pub links_to_le : (N : ℕ) (ws w : List ℕ) (x : ℕ) → links_to N ws w x ≤ N * 2
links_to_le N ws w x = sum_le N 2 (λ j. mark w j * link_to ws x j) (λ j. omega (arith, times_le (mark w j) (link_to ws x j) (omega arith), δ_le x (left ws j), δ_le x (right ws j)))
  where
    times_le : (m y : ℕ) → m ≤ 1 → m * y ≤ y
    times_le zero y h = omega arith
    times_le (suc zero) y h = omega arith
    times_le (suc (suc m)) y h = absurd (omega arith)

-- the stamp of node x
abbrev pub stamp_of : List ℕ → ℕ → ℕ
stamp_of w x = get_or w x 0 % 8192

-- ---- one link more to a node that was visited

module _ (w : List ℕ) (i : ℕ) (inside : i < length w) where
  pub linked-stamp : (x : ℕ) → stamp_of (linked w i) x ≡ stamp_of w x
  linked-stamp x = elim (ℕ_discrete x i) [
    | yes e ↦ rw e (omega (arith, get_or-set_same w i (plus (get_or w i 0) 8192) 0 inside))
    | no e ↦ omega (arith, get_or-set_other w i x (plus (get_or w i 0) 8192) 0 e)
  ]

  module _ (met : get_or w i 0 ≢ 0) (small : links w i < 524287) where
    linked_word : get_or (linked w i) i 0 ≡ get_or w i 0 + 8192
    linked_word = get_or-set_same w i (plus (get_or w i 0) 8192) 0 inside ∙ omega arith

    pub linked-mark : (x : ℕ) → mark (linked w i) x ≡ mark w x
    linked-mark x = elim (ℕ_discrete x i) [
      | yes e ↦ rw e (omega (arith, linked_word))
      | no e ↦ omega (arith, get_or-set_other w i x (plus (get_or w i 0) 8192) 0 e)
    ]

    pub linked-links : (x : ℕ) → links (linked w i) x ≡ links w x + δ x i
    linked-links x = elim (ℕ_discrete x i) [
      | yes e ↦ rw e (omega (arith, linked_word, δ_same i))
      | no e ↦ omega (arith, get_or-set_other w i x (plus (get_or w i 0) 8192) 0 e, δ_other x i e)
    ]

    pub linked-links_to : (N : ℕ) (ws : List ℕ) (x : ℕ) → links_to N ws (linked w i) x ≡ links_to N ws w x
    linked-links_to N ws x = sum_cong N (λ j. mark (linked w i) j * link_to ws x j) (λ j. mark w j * link_to ws x j) (λ j _. ap (λ (m : ℕ). m * link_to ws x j) (linked-mark j))

-- ---- a node visited for the first time

module _ (w : List ℕ) (i s : ℕ) (inside : i < length w) (u : get_or w i 0 ≡ 0) (low : s < 8192) where
  pub stamped_word : get_or (stamped w i s) i 0 ≡ s + 8192
  stamped_word = get_or-set_same w i (s + 8192) 0 inside

  pub stamped_other : (x : ℕ) → x ≢ i → get_or (stamped w i s) x 0 ≡ get_or w x 0
  stamped_other x e = get_or-set_other w i x (s + 8192) 0 e

  pub stamped-mark : (x : ℕ) → mark (stamped w i s) x ≡ min 1 (mark w x + δ x i)
  stamped-mark x = elim (ℕ_discrete x i) [
    | yes e ↦ rw e (omega (arith, stamped_word, δ_same i))
    | no e ↦ omega (arith, stamped_other x e, δ_other x i e)
  ]

  pub stamped-links : (x : ℕ) → links (stamped w i s) x ≡ links w x + δ x i
  stamped-links x = elim (ℕ_discrete x i) [
    | yes e ↦ rw e (omega (arith, stamped_word, δ_same i))
    | no e ↦ omega (arith, stamped_other x e, δ_other x i e)
  ]

  pub stamped-links_to : (N : ℕ) (ws : List ℕ) (x : ℕ) → i < N → links_to N ws (stamped w i s) x ≡ links_to N ws w x + link_to ws x i
  stamped-links_to N ws x b =
      let before : mark w i ≡ 0 = omega arith in
      let after : mark (stamped w i s) i ≡ 1 = omega (arith, stamped_word) in
      omega (
        arith,
        sum_upd N i (λ j. mark (stamped w i s) j * link_to ws x j) (λ j. mark w j * link_to ws x j) b (λ j _ d. ap (λ (q : ℕ). min 1 q * link_to ws x j) (stamped_other j d)),
        ap (λ (m : ℕ). m * link_to ws x i) before,
        ap (λ (m : ℕ). m * link_to ws x i) after,
      )
