-- Links in 16 bits: what a word of two links holds, half by half, and back.
use Rattle.std.specs.Prelude.{◌≡◌, refl, ◌≢◌, ◌⊎◌, ℕ, ◌+◌, ◌*◌, ◌/◌, ◌%◌, ◌≤◌, ◌<◌}
use Rattle.std.proofs.Common.{sym, ap, ◌∙◌, subst, inl, inr, arith, ne_eqb}
use Rattle.std.proofs.Math.Decide.{ℕ_discrete}
use Rattle.words.specs.Basics.{none}
use Rattle.packed.specs.Pool.{half, link_in, links}

-- ---- one link

pub half-none : half none ≡ 65535
half-none = refl

pub half-node : (i : ℕ) → i ≢ none → half i ≡ i
half-node i h = rw (ne_eqb i none h)

pub link_in-none : link_in 65535 ≡ none
link_in-none = refl

pub link_in-node : (h : ℕ) → h ≢ 65535 → link_in h ≡ h
link_in-node h e = rw (ne_eqb h 65535 e)

-- a half is a half again
pub half-link_in : (h : ℕ) → h < 65536 → half (link_in h) ≡ h
half-link_in h b = elim (ℕ_discrete h 65535) [
  | yes e ↦ subst (λ k. half (link_in k) ≡ k) (sym e) refl
  | no e ↦ ap half (link_in-node h e) ∙ half-node h (λ n. omega arith)
]

-- a link is a link again: a node below 65,535, or none
pub link_in-half : (i : ℕ) → i < 65535 → link_in (half i) ≡ i
link_in-half i b = ap link_in (half-node i (λ n. omega arith)) ∙ link_in-node i (λ n. omega arith)

pub link_in-half-none : link_in (half none) ≡ none
link_in-half-none = refl

pub half_lt : (i : ℕ) → i < 65535 → half i < 65536
half_lt i b = rw (half-node i (λ n. omega arith)) (omega arith)

-- a right link: a node, or none
pub link-half_lt : (r : ℕ) → (r < 65535) ⊎ (r ≡ none) → half r < 65536
link-half_lt r (inl b) = half_lt r b
link-half_lt r (inr e) = omega (arith, ap half e, half-none)

pub link_in-link : (r : ℕ) → (r < 65535) ⊎ (r ≡ none) → link_in (half r) ≡ r
link_in-link r (inl b) = link_in-half r b
link_in-link r (inr e) = ap (λ k. link_in (half k)) e ∙ sym e

-- a half that is one of N nodes is that node
pub link_in_is : {N : ℕ} (h i : ℕ) → link_in h ≡ i → i < N → N ≤ none → h ≡ i
link_in_is h i e b n = elim (ℕ_discrete h 65535) [
  | yes t ↦ absurd (omega (arith, sym (ap link_in t) ∙ e))
  | no t ↦ sym (link_in-node h t) ∙ e
]

-- ---- the word of two links

pub links-sum : (l r : ℕ) → half l < 65536 → half r < 65536 → links l r ≡ half l + 65536 * half r
unfolding links
links-sum l r p q = omega arith

pub links_low : (l r : ℕ) → half l < 65536 → half r < 65536 → links l r % 65536 ≡ half l
links_low l r p q = rw (links-sum l r p q) (omega arith)

pub links_high : (l r : ℕ) → half l < 65536 → half r < 65536 → links l r / 65536 ≡ half r
links_high l r p q = rw (links-sum l r p q) (omega arith)

pub links_high_half : (l r : ℕ) → half l < 65536 → half r < 65536 → links l r / 65536 % 65536 ≡ half r
links_high_half l r p q = rw (links-sum l r p q) (omega arith)

pub links_lt : (l r : ℕ) → links l r < 4294967296
unfolding links
links_lt l r = omega arith

-- a word is its two halves
pub links_of : (w : ℕ) → w < 4294967296 → links (link_in (w % 65536)) (link_in (w / 65536 % 65536)) ≡ w
links_of w b =
    let p : half (link_in (w % 65536)) ≡ w % 65536 = half-link_in (w % 65536) (omega arith) in
    let q : half (link_in (w / 65536 % 65536)) ≡ w / 65536 % 65536 = half-link_in (w / 65536 % 65536) (omega arith) in
    links-sum _ _ (omega (arith, p)) (omega (arith, q)) ∙ omega (arith, p, q)
