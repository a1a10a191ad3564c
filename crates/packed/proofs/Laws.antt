-- The definitions of specs/Pool.antt as the code runs them: for each loop a turn (-step) and the end (-end), and a release by
-- its ways out.
use mathlib.Core.Path.{◌≡◌, refl, sym, ap, ◌∙◌, subst}
use mathlib.Core.Bool.{cond}
use mathlib.Core.List.{List}
use Prim.Native.Nat.{ℕ, zero, suc, ◌+◌, ◌-◌, ◌<◌, ◌≤◌}
use native.Mathlib.Numerals.{sub-one}
use native.Mathlib.Omega.{arith}
use native.Mathlib.Decide.{ℕ_discrete}
use borrow.Author.Tests.{eq-eqb, ne_eqb, lt-ltb, le-ltb}
use lib.Dec.{ltb}
use lib.ListN.{get_or}
use Rattle.words.specs.Basics.{none, plus}
use Rattle.sizes.specs.Sizes.{bit, width}
use Rattle.packed.specs.Pool.{refcount, link_in, links, left, right, next_free, child, sibling, set_node, set_refcount, leaf_of, freed, release, path_node, copy_path, init_level, init_inner, init_leaves, init_free}
use Rattle.packed.specs.Links.{Released}
use Rattle.packed.proofs.Theory.Halves.{link_in-node}

-- the two parts of an equation of pairs
pub parts : {p q : List ℕ × ℕ} → p ≡ q → (p.0 ≡ q.0) × (p.1 ≡ q.1)
parts e = (ap (λ p. p.0) e, ap (λ p. p.1) e)

-- of triples
pub parts₃ : {p q : List ℕ × ℕ × ℕ} → p ≡ q → (p.0 ≡ q.0) × (p.1 ≡ q.1) × (p.2 ≡ q.2)
parts₃ e = (ap (λ p. p.0) e, ap (λ p. p.1) e, ap (λ p. p.2) e)

-- ---- the walk

pub leaf_step : (l : ℕ) (ws : List ℕ) (i x : ℕ) → 0 < l → leaf_of (l - 1) ws (child ws i (bit (l - 1) x)) x ≡ leaf_of l ws i x
unfolding leaf_of
leaf_step zero ws i x h = absurd (omega arith)
leaf_step (suc l) ws i x h = rw sub-one

pub leaf_end : (l : ℕ) (ws : List ℕ) (i x : ℕ) → l ≤ 0 → i ≡ leaf_of l ws i x
unfolding leaf_of
leaf_end zero ws i x h = refl
leaf_end (suc l) ws i x h = absurd (omega arith)

-- ---- the path

pub path_step : (l : ℕ) (ws : List ℕ) (i old x v : ℕ) → 0 < l →
    copy_path (l - 1) (path_node ws i (bit (l - 1) x) (next_free ws i) (sibling ws old (bit (l - 1) x))) (next_free ws i) (child ws old (bit (l - 1) x)) x v ≡ copy_path l ws i old x v
unfolding copy_path
path_step zero ws i old x v h = absurd (omega arith)
path_step (suc l) ws i old x v h = rw sub-one

pub path_end : (l : ℕ) (ws : List ℕ) (i old x v : ℕ) → l ≤ 0 → (set_node ws i 1 v, next_free ws i) ≡ copy_path l ws i old x v
unfolding copy_path
path_end zero ws i old x v h = refl
path_end (suc l) ws i old x v h = absurd (omega arith)

-- ---- a release

-- what is no node is left alone
pub release_none : (N l : ℕ) (ws : List ℕ) (f k i : ℕ) → N ≤ i → (ws, f, k) ≡ release N l ws f k i
unfolding release
release_none N zero ws f k i h = rw (le-ltb i N h, release)
release_none N (suc l) ws f k i h = rw (le-ltb i N h, release)

pub release_held : (N l : ℕ) (ws : List ℕ) (f k i : ℕ) → i < N → 1 < refcount ws i → (set_refcount ws i (refcount ws i - 1), f, k) ≡ release N l ws f k i
unfolding release
release_held N zero ws f k i h c = rw (lt-ltb i N h, ne_eqb (refcount ws i - 1) 0 (omega arith), release)
release_held N (suc l) ws f k i h c = rw (lt-ltb i N h, ne_eqb (refcount ws i - 1) 0 (omega arith), release)

pub release_leaf : (N l : ℕ) (ws : List ℕ) (f k i : ℕ) → i < N → refcount ws i ≤ 1 → l ≡ 0 → (freed ws f i, i, plus k 1) ≡ release N l ws f k i
unfolding release
release_leaf N zero ws f k i h c z = rw (lt-ltb i N h, eq-eqb (refcount ws i - 1) 0 (omega arith), release)
release_leaf N (suc l) ws f k i h c z = absurd (omega arith)

-- the half for none is no node either
pub release_half : (N l : ℕ) (ws : List ℕ) (f k h : ℕ) → N ≤ 16384 → release N l ws f k h ≡ release N l ws f k (link_in h)
release_half N l ws f k h n = elim (ℕ_discrete h 65535) [
  | yes e ↦ sym (release_none N l ws f k h (omega arith)) ∙ release_none N l ws f k (link_in h) (subst (λ j. N ≤ link_in j) (sym e) (omega arith))
  | no e ↦ ap (release N l ws f k) (sym (link_in-node h e))
]

-- s and t are its links in 16 bits; m, w₁, f₁, k₁ after it is freed and its left link released, w₂, f₂, k₂ after the right
pub release_inner : (N l : ℕ) (ws : List ℕ) (f k i s t : ℕ) {m : ℕ} {w w₁ : List ℕ} {f₁ k₁ : ℕ} {w₂ : List ℕ} {f₂ k₂ : ℕ} →
    (N ≤ 16384) × (i < N) × (refcount ws i ≤ 1) → (l ≡ 0 → ⊥) → link_in s ≡ left ws i → link_in t ≡ right ws i → w ≡ freed ws f i → m ≡ plus k 1 →
    Released (release N (l - 1) w i m s) w₁ f₁ k₁ → Released (release N (l - 1) w₁ f₁ k₁ t) w₂ f₂ k₂ → Released (release N l ws f k i) w₂ f₂ k₂
unfolding release
release_inner N zero ws f k i s t h z a b w m p q = absurd (z refl)
release_inner N (suc l) ws f k i s t {m = k₀} {w = w₀} {w₁ = w₁} {f₁ = f₁} {k₁ = k₁} {w₂ = w₂} {f₂ = f₂} {k₂ = k₂} h z a b w m p q =
    let e : refcount ws i - 1 ≡ 0 = omega (arith, h.2) in
    let p' : Released (release N (suc l - 1) w₀ i k₀ (left ws i)) w₁ f₁ k₁ = subst (λ r. Released r w₁ f₁ k₁) (release_half N (suc l - 1) w₀ i k₀ s h.0 ∙ ap (release N (suc l - 1) w₀ i k₀) a) p in
    let q' : Released (release N (suc l - 1) w₁ f₁ k₁ (right ws i)) w₂ f₂ k₂ = subst (λ r. Released r w₂ f₂ k₂) (release_half N (suc l - 1) w₁ f₁ k₁ t h.0 ∙ ap (release N (suc l - 1) w₁ f₁ k₁) b) q in
    rw (q'.0, q'.1, q'.2, p'.0, p'.1, p'.2, w, m) (parts₃ (rw (lt-ltb i N h.1, eq-eqb (refcount ws i - 1) 0 e, sub-one, release)))

-- ---- the start: a turn of each loop and its end; of a loop over j, n turns are made in all

plus_next : (f j : ℕ) → plus f (j + 1) ≡ plus (plus f j) 1
plus_next f j = omega arith

turns_left : (n j : ℕ) → j < n → n - j ≡ suc (n - (j + 1))
turns_left n j h = omega arith

pub level_step : (n j : ℕ) (ws : List ℕ) (first below k : ℕ) → j < n →
    init_level (n - (j + 1)) (set_node ws (plus first j) 1 (links below (cond (ltb 1 k) (plus below 1) none))) (plus first (j + 1)) (plus below 2) (k - 2) ≡ init_level (n - j) ws (plus first j) below k
unfolding init_level
level_step n j ws first below k h = rw (plus_next first j, turns_left n j h)

pub level_end : (c : ℕ) (ws : List ℕ) (i below k : ℕ) → c ≤ 0 → ws ≡ init_level c ws i below k
unfolding init_level
level_end zero ws i below k h = refl
level_end (suc c) ws i below k h = absurd (omega arith)

pub inner_step : (l : ℕ) (ws : List ℕ) (n i : ℕ) → 0 < l → init_inner (l - 1) (init_level (width n l) ws i (plus i (width n l)) (width n (l - 1))) n (plus i (width n l)) ≡ init_inner l ws n i
unfolding init_inner
inner_step zero ws n i h = absurd (omega arith)
inner_step (suc l) ws n i h = rw sub-one

pub inner_end : (l : ℕ) (ws : List ℕ) (n i : ℕ) → l ≤ 0 → (ws, i) ≡ init_inner l ws n i
unfolding init_inner
inner_end zero ws n i h = refl
inner_end (suc l) ws n i h = absurd (omega arith)

pub leaves_step : (n j : ℕ) (ws : List ℕ) (first : ℕ) (vs : List ℕ) → n < 4294967296 → j < n →
    init_leaves (n - (j + 1)) (set_node ws (plus first j) 1 (get_or vs j 0)) (plus first (j + 1)) vs (j + 1) ≡ init_leaves (n - j) ws (plus first j) vs j
unfolding init_leaves
leaves_step n j ws first vs b h =
    let e : j + 1 ≡ plus j 1 = omega arith in
    rw (plus_next first j, turns_left n j h) (ap (init_leaves (n - (j + 1)) _ _ vs) e)

pub leaves_end : (c : ℕ) (ws : List ℕ) (i : ℕ) (vs : List ℕ) (j : ℕ) → c ≤ 0 → ws ≡ init_leaves c ws i vs j
unfolding init_leaves
leaves_end zero ws i vs j h = refl
leaves_end (suc c) ws i vs j h = absurd (omega arith)

-- the link is the next node while one is left
pub free_step : (c : ℕ) (ws : List ℕ) (i : ℕ) → 0 < c → init_free (c - 1) (set_node ws i 0 (cond (ltb 0 (c - 1)) (plus i 1) none)) (plus i 1) ≡ init_free c ws i
unfolding init_free
free_step zero ws i h = absurd (omega arith)
free_step (suc zero) ws i h = refl
free_step (suc (suc c)) ws i h = rw (sub-one, lt-ltb 0 (suc c) (omega arith), ne_eqb (suc c) 0 (omega arith))

pub free_end : (c : ℕ) (ws : List ℕ) (i : ℕ) → c ≤ 0 → ws ≡ init_free c ws i
unfolding init_free
free_end zero ws i h = refl
free_end (suc c) ws i h = absurd (omega arith)
