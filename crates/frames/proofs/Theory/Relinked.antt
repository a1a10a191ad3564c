-- A frame's live children in two tables: the same, one more, one less. What the second table has is said place by place, as the steps give it.
use Rattle.std.specs.Prelude.{◌≡◌, ◌≢◌, true, false, cond, List, [], ◌∷◌, ◌++◌, ℕ, ◌<◌, eqb, length}
use Rattle.std.proofs.Common.{sym, ap, ◌∙◌, subst, arith}
use Rattle.std.proofs.Math.Decide.{ℕ_discrete}
use Rattle.words.specs.Basics.{none, count, Chain}
use Rattle.words.specs.Counting.{hit, miss}
use Rattle.words.specs.Chains.{chain_cong}
use Rattle.words.specs.Linked.{without, count-without-same, count-without_other, count_end_same, count_end_other, chain_moved, chain_end, chain_without}
use Rattle.frames.specs.declared.Frame.{Frame}
use Rattle.frames.specs.Siblings.{head_or, live_child, younger, Children}
use Rattle.frames.proofs.Theory.Siblings.{chain_first, children_in, children-lacks}

pub children-same : {fs gs : List Frame} {q : ℕ} {cs : List ℕ} → length gs ≡ length fs → ((c : ℕ) → c < length fs → (live_child gs q c ≡ live_child fs q c) × (live_child fs q c ≡ true → younger gs c ≡ younger fs c)) → Children fs q cs → Children gs q cs
children-same {fs} {gs} {q} {cs} l h s = record {
  few = omega (arith, l, s.few);
  chain =
      subst (λ (n : ℕ). Chain (younger gs) n (head_or none cs) cs) (sym l)
      (chain_cong (length fs) (younger fs) (younger gs) cs (head_or none cs) (λ c b o. (h c b).1 (children_in s c o).1) s.chain);
  each = λ c b. let d : c < length fs = omega (arith, l, b) in s.each c d ∙ ap (λ t. cond t 1 0) (sym (h c d).0);
}

-- in gs the frame at q has one live child more than in fs, at g, the youngest
pub record ChildAdded (fs gs : List Frame) (q g : ℕ) : Type 0 where
  pub same_length : length gs ≡ length fs
  pub within : g < length fs
  pub new : live_child fs q g ≡ false
  pub child : live_child gs q g ≡ true
  pub last : younger gs g ≡ none
  pub others : (c : ℕ) → c < length fs → c ≢ g → live_child gs q c ≡ live_child fs q c
  pub links : (c : ℕ) → c < length fs → c ≢ g → live_child fs q c ≡ true → younger gs c ≡ cond (eqb (younger fs c) none) g (younger fs c)

pub children_more : {fs gs : List Frame} {q g : ℕ} {cs : List ℕ} → ChildAdded fs gs q g → Children fs q cs → Children gs q (cs ++ (g ∷ []))
children_more {fs} {gs} {q} {g} {cs} a s = record {
  few = omega (arith, a.same_length, s.few);
  chain = subst (λ (n : ℕ). Chain (younger gs) n (head_or none (cs ++ (g ∷ []))) (cs ++ (g ∷ []))) (sym a.same_length) (chain_moved (younger gs) (length fs) (cs ++ (g ∷ [])) (chain_first (younger gs) (length fs) start (cs ++ (g ∷ [])) ch) ch);
  each = λ c b. each c (omega (arith, a.same_length, b));
}
  where
    start : ℕ
    start = cond (eqb (head_or none cs) none) g (head_or none cs)

    named : (c : ℕ) → c < length fs → 0 < count c cs → younger gs c ≡ cond (eqb (younger fs c) none) g (younger fs c)
    named c b o = a.links c b (λ e. omega (arith, ap (λ x. count x cs) e, children-lacks s g a.within a.new)) (children_in s c o).1

    ch : Chain (younger gs) (length fs) start (cs ++ (g ∷ []))
    ch = chain_end (younger fs) (younger gs) (length fs) (omega (arith, s.few)) g a.within a.last (head_or none cs) cs named s.chain

    each : (c : ℕ) → c < length fs → count c (cs ++ (g ∷ [])) ≡ cond (live_child gs q c) 1 0
    each c b = elim (ℕ_discrete c g) [
      | yes e ↦ subst (λ x. count x (cs ++ (g ∷ [])) ≡ cond (live_child gs q x) 1 0) (sym e) (count_end_same g cs (children-lacks s g a.within a.new) ∙ sym (hit a.child))
      | no e ↦ count_end_other c g cs e ∙ (s.each c b ∙ ap (λ t. cond t 1 0) (sym (a.others c b e)))
    ]

-- in gs the frame at q has one live child less than in fs, the one at p
pub record ChildRemoved (fs gs : List Frame) (q p : ℕ) : Type 0 where
  pub same_length : length gs ≡ length fs
  pub within : p < length fs
  pub gone : live_child gs q p ≡ false
  pub others : (c : ℕ) → c < length fs → c ≢ p → live_child gs q c ≡ live_child fs q c
  pub links : (c : ℕ) → c < length fs → c ≢ p → live_child fs q c ≡ true → younger gs c ≡ cond (eqb (younger fs c) p) (younger fs p) (younger fs c)

pub children_less : {fs gs : List Frame} {q p : ℕ} {cs : List ℕ} → ChildRemoved fs gs q p → Children fs q cs → Children gs q (without p cs)
children_less {fs} {gs} {q} {p} {cs} a s = record {
  few = omega (arith, a.same_length, s.few);
  chain = subst (λ (n : ℕ). Chain (younger gs) n (head_or none (without p cs)) (without p cs)) (sym a.same_length) (chain_moved (younger gs) (length fs) (without p cs) (chain_first (younger gs) (length fs) start (without p cs) ch) ch);
  each = λ c b. each c (omega (arith, a.same_length, b));
}
  where
    start : ℕ
    start = cond (eqb (head_or none cs) p) (younger fs p) (head_or none cs)

    ch : Chain (younger gs) (length fs) start (without p cs)
    ch = chain_without (younger fs) (younger gs) (length fs) (omega (arith, s.few)) p a.within (head_or none cs) cs (λ c b o d. a.links c b d (children_in s c o).1) s.chain

    each : (c : ℕ) → c < length fs → count c (without p cs) ≡ cond (live_child gs q c) 1 0
    each c b = elim (ℕ_discrete c p) [
      | yes e ↦ subst (λ x. count x (without p cs) ≡ cond (live_child gs q x) 1 0) (sym e) (count-without-same p cs ∙ sym (miss a.gone))
      | no e ↦ count-without_other c p cs e ∙ (s.each c b ∙ ap (λ t. cond t 1 0) (sym (a.others c b e)))
    ]
