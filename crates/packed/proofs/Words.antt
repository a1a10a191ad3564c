-- The half that a bit chooses is the child, the other one the sibling: what the walk and the path read and store.
use mathlib.Core.Path.{◌≡◌, sym, ap, ap₂, ◌∙◌}
use mathlib.Core.Logic.{◌≢◌}
use mathlib.Core.List.{List}
use Prim.Native.Nat.{ℕ, zero, suc, ◌+◌, ◌*◌, ◌/◌, ◌%◌, ◌^◌, ◌<◌}
use native.Mathlib.Omega.{arith}
use lib.Bits.{bit_and}
use Rattle.sizes.specs.Bits.{bit_mask, bit_lt}
use Rattle.sizes.specs.Sizes.{bit}
use Rattle.pool.specs.Pool.{side}
use Rattle.packed.specs.Pool.{content, half, link_in, links, left, right, sibling, set_node, retain, path_node}
use Rattle.packed.proofs.Theory.Halves.{half-node, half-link_in, links-sum}

-- ---- the halves of a node's second word, where it is w

pub left_half : (ws : List ℕ) (i w l : ℕ) → w ≡ content ws i → l ≡ w % 65536 → link_in l ≡ left ws i
unfolding left
left_half ws i w l e f = ap link_in (f ∙ ap (λ k. k % 65536) e)

pub right_half : (ws : List ℕ) (i w r : ℕ) → w < 4294967296 → w ≡ content ws i → r ≡ w / 65536 → link_in r ≡ right ws i
unfolding right
right_half ws i w r b e f =
    let h : w / 65536 ≡ w / 65536 % 65536 = omega arith in
    ap link_in (f ∙ h ∙ ap (λ k. k / 65536 % 65536) e)

-- ---- the side of the way, by the bit that the code masks

pub side_left : (l x a b : ℕ) → bit_and (x / 2 ^ l) 1 ≡ 0 → a ≡ side (bit l x) a b
unfolding side
side_left l x a b e = rw (sym (bit_mask l x) ∙ e)

pub side_right : (l x a b : ℕ) → bit_and (x / 2 ^ l) 1 ≢ 0 → b ≡ side (bit l x) a b
unfolding side
side_right l x a b o =
    let e : bit l x ≡ 1 = omega (arith, o, bit_mask l x, bit_lt l x) in
    rw e

pub side_fits : (b l r k h : ℕ) → h ≡ side b l r → l < k → r < k → h < k
unfolding side
side_fits zero l r k h e f g = rw e f
side_fits (suc b) l r k h e f g = rw e g

pub side_link : (b l r h : ℕ) {L R : ℕ} → h ≡ side b l r → link_in l ≡ L → link_in r ≡ R → link_in h ≡ side b L R
unfolding side
side_link zero l r h e f g = ap link_in e ∙ f
side_link (suc b) l r h e f g = ap link_in e ∙ g

-- ---- the new word: node c on the side of the bit b, and the other one of the links L and R

pub relinked_is : (b l r c s t w : ℕ) {L R : ℕ} → l < 65536 → r < 65536 → c < 65535 → s ≡ side b c l → t ≡ side b r c → w ≡ s + 65536 * t → link_in l ≡ L → link_in r ≡ R
    → w ≡ links (side b c L) (side b R c)
unfolding side
relinked_is zero l r c s t w {R = R} bl br bc es et ew eL eR =
    let n : half c ≡ c = half-node c (λ e. omega arith) in
    let p : half R ≡ r = ap half (sym eR) ∙ half-link_in r br in
    sym (links-sum c R (omega (arith, n)) (omega (arith, p)) ∙ omega (arith, n, p, es, et, ew))
relinked_is (suc b) l r c s t w {L = L} bl br bc es et ew eL eR =
    let n : half c ≡ c = half-node c (λ e. omega arith) in
    let p : half L ≡ l = ap half (sym eL) ∙ half-link_in l bl in
    sym (links-sum L c (omega (arith, p)) (omega (arith, n)) ∙ omega (arith, n, p, es, et, ew))

-- ---- the nodes

-- a node of the new path: n is its second word, and h the other link
pub copied_node : (ws : List ℕ) (i old b next n h : ℕ) {w₁ w₂ : List ℕ} → b < 2 → n ≡ links (side b next (left ws old)) (side b (right ws old) next)
    → h ≡ side b (right ws old) (left ws old) → w₁ ≡ set_node ws i 1 n → w₂ ≡ retain w₁ h → w₂ ≡ path_node ws i b next (sibling ws old b)
unfolding path_node sibling side
copied_node ws i old zero next n h lt en eh e₁ e₂ = rw (e₂, e₁, en, eh)
copied_node ws i old (suc zero) next n h lt en eh e₁ e₂ = rw (e₂, e₁, en, eh)
copied_node ws i old (suc (suc b)) next n h lt en eh e₁ e₂ = absurd (omega arith)

-- ---- the word of two links

pub packed_links : (l r a b w : ℕ) → a ≡ half l → b ≡ half r → w ≡ (a + b * 2 ^ 16 % 2 ^ 32) % 2 ^ 32 → w ≡ links l r
unfolding links
packed_links l r a b w ea eb e =
    let t : b * 65536 % 4294967296 ≡ 65536 * b % 4294967296 = ap (λ k. k % 4294967296) {x = b * 65536} {y = 65536 * b} (omega arith) in
    e ∙ ap (λ k. (a + k) % 4294967296) t ∙ ap₂ (λ (j k : ℕ). (j + 65536 * k % 4294967296) % 4294967296) ea eb
