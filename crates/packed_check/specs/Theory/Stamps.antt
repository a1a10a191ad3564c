-- The word of one node changed: what becomes of its level and of the links of inner nodes. Its mark and the links counted to it are in
-- crate pool_check.
use Rattle.std.specs.Prelude.{◌≡◌, ◌≢◌, cond, List, ℕ, zero, suc, ◌+◌, ◌*◌, ◌/◌, ◌%◌, ◌≤◌, ◌<◌, min, eqb, length, get_or}
use Rattle.std.proofs.Common.{sym, ap, ◌∙◌, arith, eq-eqb, ne_eqb}
use Rattle.std.proofs.Math.Decide.{ℕ_discrete}
use Rattle.words.specs.Basics.{sum, δ}
use Rattle.words.specs.Counting.{δ_same, δ_other, δ_le, δ_eq, sum_cong, sum_upd, sum_le}
use Rattle.packed.specs.Pool.{left, right}
use Rattle.pool_check.specs.Algorithm.{mark, links, stamp, stamped, linked}
use Rattle.pool_check.specs.Theory.Stamps.{stamp_of, linked-stamp, linked-mark, stamped_word, stamped_other}
use Rattle.packed_check.specs.Theory.Shape.{at_root, root_on, root_off, root_none}

-- ---- a node's level, by its stamp

abbrev pub level_of : List ℕ → ℕ → ℕ
level_of w x = stamp_of w x / 512

-- 1 if node x was visited on level j, else 0
unfoldable pub on : List ℕ → ℕ → ℕ → ℕ
on w j x = cond (eqb (mark w x) 1) (δ j (level_of w x)) 0

pub on_zero : (w : List ℕ) (j x : ℕ) → mark w x ≡ 0 → on w j x ≡ 0
unfolding on
on_zero w j x e = rw (ne_eqb (mark w x) 1 (omega arith))

on_level : (w : List ℕ) (j x : ℕ) → mark w x ≡ 1 → on w j x ≡ δ j (level_of w x)
unfolding on
on_level w j x e = rw (eq-eqb (mark w x) 1 e)

pub on_one : (w : List ℕ) (j x : ℕ) → mark w x ≡ 1 → level_of w x ≡ j → on w j x ≡ 1
on_one w j x m e = on_level w j x m ∙ ap (δ j) e ∙ δ_same j

pub on_off : (w : List ℕ) (j x : ℕ) → level_of w x ≢ j → on w j x ≡ 0
on_off w j x d = elim (ℕ_discrete (mark w x) 0) [
  | yes z ↦ on_zero w j x z
  | no z ↦ on_level w j x (omega arith) ∙ δ_other j (level_of w x) (λ e. d (sym e))
]

pub on_le : (w : List ℕ) (j x : ℕ) → on w j x ≤ 1
on_le w j x = elim (ℕ_discrete (mark w x) 0) [
  | yes z ↦ omega (arith, on_zero w j x z)
  | no z ↦ omega (arith, on_level w j x (omega arith), δ_le j (level_of w x))
]

-- a node on level j was visited, with that level
pub on_back : (w : List ℕ) (j x : ℕ) → 0 < on w j x → (mark w x ≡ 1) × (level_of w x ≡ j)
on_back w j x p = elim (ℕ_discrete (mark w x) 0) [
  | yes z ↦ absurd (omega (arith, on_zero w j x z))
  | no z ↦ (let m : mark w x ≡ 1 = omega arith in (m, sym (δ_eq j (level_of w x) (omega (arith, on_level w j x m)))))
]

pub on_same : (w w' : List ℕ) (j x : ℕ) → stamp_of w' x ≡ stamp_of w x → mark w' x ≡ mark w x → on w' j x ≡ on w j x
on_same w w' j x es em = elim (ℕ_discrete (mark w x) 0) [
  | yes z ↦ on_zero w' j x (em ∙ z) ∙ sym (on_zero w j x z)
  | no z ↦ on_level w' j x (omega arith) ∙ ap (λ (q : ℕ). δ j (q / 512)) es ∙ sym (on_level w j x (omega arith))
]

-- ---- links

-- 1 if node x stands above the leaves' level, by its stamp
abbrev pub inner : List ℕ → ℕ → ℕ
inner w x = min 1 (level_of w x)

-- the links of node j, above the leaves' level, to node x
abbrev pub link_to : List ℕ → ℕ → ℕ → ℕ
link_to ws x j = δ x (left ws j) + δ x (right ws j)

-- the links of the visited nodes to node x
abbrev pub links_to : ℕ → List ℕ → List ℕ → ℕ → ℕ
links_to N ws w x = sum N (λ j. inner w j * link_to ws x j)

-- no sum of links comes near the width of a word
pub links_to_le : (N : ℕ) (ws w : List ℕ) (x : ℕ) → links_to N ws w x ≤ N * 2
links_to_le N ws w x = sum_le N 2 (λ j. inner w j * link_to ws x j) (λ j. omega (arith, times_le (inner w j) (link_to ws x j) (omega arith), δ_le x (left ws j), δ_le x (right ws j)))
  where
    times_le : (m y : ℕ) → m ≤ 1 → m * y ≤ y
    times_le zero y h = omega arith
    times_le (suc zero) y h = omega arith
    times_le (suc (suc m)) y h = absurd (omega arith)

-- ---- one link more to a node that was visited

module _ (w : List ℕ) (i : ℕ) (inside : i < length w) where
  pub linked-links_to : (N : ℕ) (ws : List ℕ) (x : ℕ) → links_to N ws (linked w i) x ≡ links_to N ws w x
  linked-links_to N ws x = sum_cong N (λ j. inner (linked w i) j * link_to ws x j) (λ j. inner w j * link_to ws x j) (λ j _. ap (λ (s : ℕ). min 1 (s / 512) * link_to ws x j) (linked-stamp w i inside j))

  pub linked_on : get_or w i 0 ≢ 0 → links w i < 524287 → (j x : ℕ) → on (linked w i) j x ≡ on w j x
  linked_on met small j x = on_same w (linked w i) j x (linked-stamp w i inside x) (linked-mark w i inside met small x)

-- ---- a node visited for the first time, on level l over k splitters

module _ (w : List ℕ) (i l k : ℕ) (inside : i < length w) (u : get_or w i 0 ≡ 0) (level : l ≤ 8) (part : k < 512) where
  low : stamp l k < 8192
  low = omega arith

  pub own_level : level_of (stamped w i (stamp l k)) i ≡ l
  own_level = omega (arith, stamped_word w i (stamp l k) inside u low)

  own_mark : mark (stamped w i (stamp l k)) i ≡ 1
  own_mark = omega (arith, stamped_word w i (stamp l k) inside u low)

  pub stamped_on : (j x : ℕ) → on (stamped w i (stamp l k)) j x ≡ min 1 (on w j x + at_root j l x i)
  stamped_on j x = elim (ℕ_discrete x i) [
    | yes e ↦ rw e (
        let before : on w j i ≡ 0 = on_zero w j i (omega arith) in
        elim (ℕ_discrete j l) [
          | yes h ↦ omega (arith, before, on_one (stamped w i (stamp l k)) j i own_mark (own_level ∙ sym h), root_on j l i i h, δ_same i)
          | no h ↦ omega (arith, before, on_off (stamped w i (stamp l k)) j i (λ q. h (sym q ∙ own_level)), root_off j l i i h)
        ])
    | no e ↦ (
        let same = stamped_other w i (stamp l k) inside u low x e in
        omega (
          arith,
          on_same w (stamped w i (stamp l k)) j x (ap (λ (q : ℕ). q % 8192) same) (ap (λ (q : ℕ). min 1 q) same),
          on_le w j x,
          root_none j l x i (δ_other x i e),
        ))
  ]

  module _ (N : ℕ) (ws : List ℕ) (x : ℕ) (b : i < N) where
    -- its own links, and those of the others
    changed : links_to N ws (stamped w i (stamp l k)) x + inner w i * link_to ws x i ≡ links_to N ws w x + inner (stamped w i (stamp l k)) i * link_to ws x i
    changed =
        sum_upd N i (λ j. inner (stamped w i (stamp l k)) j * link_to ws x j) (λ j. inner w j * link_to ws x j) b
        (λ j _ d. ap (λ (q : ℕ). min 1 (q % 8192 / 512) * link_to ws x j) (stamped_other w i (stamp l k) inside u low j d))

    before_none : inner w i * link_to ws x i ≡ 0
    before_none = let z : inner w i ≡ 0 = omega arith in ap (λ (m : ℕ). m * link_to ws x i) z ∙ omega arith

    -- an inner node has links
    pub stamped-links_to : 0 < l → links_to N ws (stamped w i (stamp l k)) x ≡ links_to N ws w x + link_to ws x i
    stamped-links_to p =
        let one : inner (stamped w i (stamp l k)) i ≡ 1 = omega (arith, own_level) in
        omega (arith, changed, before_none, ap (λ (m : ℕ). m * link_to ws x i) one)

    -- a leaf has none
    pub leaf_links_to : l ≡ 0 → links_to N ws (stamped w i (stamp l k)) x ≡ links_to N ws w x
    leaf_links_to p =
        let zer : inner (stamped w i (stamp l k)) i ≡ 0 = omega (arith, own_level) in
        omega (arith, changed, before_none, ap (λ (m : ℕ). m * link_to ws x i) zer)
