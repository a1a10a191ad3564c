-- R-5's order of the live frames, "siblings eldest first and each, after all below it, before its parent": the first of a frame and all below it, and
-- the next one after a frame.
use Rattle.std.specs.Prelude.{◌≡◌, refl, ◌≢◌, List, [], ◌∷◌, ◌++◌, ℕ, zero, suc, ◌<◌, length}
use Rattle.std.proofs.Common.{sym, ap, ◌∙◌, arith, eq-eqb, ne_eqb, length-append}
use Rattle.words.specs.Basics.{none}
use Rattle.words.specs.Counting.{δ_same, count_cons, count-append}
use Rattle.words.specs.Tallies.{or_right}
use Rattle.frames.specs.declared.Frame.{Frame}
use Rattle.frames.specs.Frames.{frame_at}
use Rattle.frames.specs.Siblings.{younger, Children, eldest, first_from, only_child, next_after}
use Rattle.frames.proofs.Theory.Siblings.{live_children, child_parent, children_in, children-length, children-next, children_at, eldest_is}

zero_no : {a b : ℕ} → suc a ≡ b → b ≡ 0 → ⊥
zero_no d e = omega arith

-- ---- going down

pub first-stop : (n : ℕ) (fs : List Frame) (q : ℕ) → (frame_at fs q).outstanding ≡ 0 → first_from n fs q ≡ q
unfolding first_from
first-stop zero fs q e = refl
first-stop (suc n) fs q e = rw (eq-eqb (frame_at fs q).outstanding 0 e)

pub first_step : (n : ℕ) (fs : List Frame) (q : ℕ) → (frame_at fs q).outstanding ≢ 0 → first_from (suc n) fs q ≡ first_from n fs (eldest fs q)
unfolding first_from
first_step n fs q d = rw (ne_eqb (frame_at fs q).outstanding 0 d)

-- the eldest's first is its parent's
pub first-child : {fs : List Frame} {q c : ℕ} {cs : List ℕ} (n : ℕ) → Children fs q (c ∷ cs) → (frame_at fs q).outstanding ≡ live_children fs q → first_from (suc n) fs q ≡ first_from n fs c
first-child {fs} {q} n s e = first_step n fs q (λ z. zero_no (children-length s) (sym e ∙ z)) ∙ ap (λ x. first_from n fs x) (eldest_is s)

-- ---- the next one in the order, after the frame at p, a child of q

after_none : (fs : List Frame) (p : ℕ) → younger fs p ≡ none → next_after fs p ≡ (frame_at fs p).parent
unfolding next_after
after_none fs p e = rw (or_right (only_child fs p) (eq-eqb (younger fs p) none e))

after-some : (fs : List Frame) (p : ℕ) → (frame_at fs (frame_at fs p).parent).outstanding ≢ 1 → younger fs p ≢ none → next_after fs p ≡ first_from (length fs) fs (younger fs p)
unfolding next_after
after-some fs p d e = rw (ne_eqb (frame_at fs (frame_at fs p).parent).outstanding 1 d, ne_eqb (younger fs p) none e)

two_more : (xs : List ℕ) (p y : ℕ) (ys : List ℕ) → length (xs ++ (p ∷ (y ∷ ys))) ≢ 1
two_more xs p y ys e = omega (arith, length-append xs (p ∷ (y ∷ ys)))

-- "before its parent": after the youngest, the parent
pub after_youngest : {fs : List Frame} {q : ℕ} (xs : List ℕ) (p : ℕ) → Children fs q (xs ++ (p ∷ [])) → next_after fs p ≡ q
after_youngest {fs} {q} xs p s = after_none fs p (children-next xs p [] s) ∙ child_parent fs q p (children_at xs p [] s).1

-- "each, after all below it": after another, the first of the next younger one and all below that
pub after_elder : {fs : List Frame} {q : ℕ} (xs : List ℕ) (p y : ℕ) (ys : List ℕ) → Children fs q (xs ++ (p ∷ (y ∷ ys))) → (frame_at fs q).outstanding ≡ live_children fs q → next_after fs p ≡ first_from (length fs) fs y
after_elder {fs} {q} xs p y ys s e = after-some fs p more (λ z. omega (arith, within, named, z, s.few)) ∙ ap (λ x. first_from (length fs) fs x) named
  where
    named : younger fs p ≡ y
    named = children-next xs p (y ∷ ys) s

    within : y < length fs
    within = (children_in s y (omega (arith, count-append y xs (p ∷ (y ∷ ys)), count_cons y p (y ∷ ys), count_cons y y ys, δ_same y))).0

    up : (frame_at fs p).parent ≡ q
    up = child_parent fs q p (children_at xs p (y ∷ ys) s).1

    more : (frame_at fs (frame_at fs p).parent).outstanding ≢ 1
    more z = two_more xs p y ys (children-length s ∙ sym e ∙ ap (λ r. (frame_at fs r).outstanding) (sym up) ∙ z)
