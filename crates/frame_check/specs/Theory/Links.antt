-- R-5: the tests on links that the check makes, given that the outstanding counts are right and that parents live: Main and an only child name no
-- sibling, and from the eldest that the tallies tell the links chain the children of a frame that has several. They hold if and only if the links chain the live
-- children of each frame, each once, Main's being none.
use Rattle.std.specs.Prelude.{◌≡◌, refl, ◌≢◌, true, List, [], ◌∷◌, ℕ, suc, ◌-◌, ◌%◌, ◌≤◌, ◌<◌, length}
use Rattle.std.proofs.Common.{sym, ap, ◌∙◌, subst, inl, inr, arith, eq-eqb}
use Rattle.std.proofs.Math.Decide.{ℕ_discrete, dec_lt}
use Rattle.words.specs.Basics.{none}
use Rattle.words.specs.Tests.{ltb_of}
use Rattle.words.specs.Counting.{δ_same, count_cons}
use Rattle.words.specs.Tallies.{and_of, how_many_pos}
use Rattle.frames.specs.Widths.{max_places}
use Rattle.frames.specs.declared.Frame.{Frame}
use Rattle.frames.specs.Frames.{frame_at}
use Rattle.frames.specs.Siblings.{head_or, younger, chained, Children}
use Rattle.frames.proofs.Theory.Siblings.{children_in, children-chained, chained-children, eldest_is, children_empty, children_only, children-next}
use Rattle.soundness.specs.Soundness.{is_child, children}
use Rattle.soundness.proofs.Theory.FreeLists.{the_one}
use Rattle.soundness.proofs.Theory.Sentences.{Lives, HasParent, Siblings, child_is, at_child}
use Rattle.frame_check.specs.Algorithm.{link_span}
use Rattle.frame_check.specs.Theory.Passes.{Younger, Chained, eldest_found}

inside : {c n : ℕ} → c < n → n ≤ max_places → c < max_places
inside a b = omega arith

-- a place is found as it is
found : {e : ℕ} → e < max_places → suc e % link_span - 1 ≡ e
found h = omega arith

one_or_none : {n : ℕ} → 0 < n → (1 < n → ⊥) → n ≡ 1
one_or_none {n} a b = elim (dec_lt 1 n) [ yes l ↦ absurd (b l) | no l ↦ omega arith ]

one_more : {n : ℕ} → n ≢ 0 → n ≢ 1 → n ≤ 1 → ⊥
one_more a b l = omega arith

as_many : {m n : ℕ} → 1 < n → m ≡ n → 1 < m
as_many h e = omega arith

not_one : {m n : ℕ} → 1 < m → m ≡ n → n ≡ 1 → ⊥
not_one h d e = omega arith

module _ (fs : List Frame) (few : length fs ≤ max_places) where
  -- ---- from the facts to the tests

  first_found : (q : ℕ) (cs : List ℕ) → Children fs q cs → 1 < length cs → eldest_found fs q ≡ head_or none cs
  first_found q [] s h = absurd (omega arith)
  first_found q (c ∷ cs) s h = (let b = (children_in s c (omega (arith, count_cons c c cs, δ_same c))).0 in ap (λ e. suc e % link_span - 1) (eldest_is s) ∙ found (inside b few))

  pub to_chained : (q : ℕ) → Siblings fs q → Chained fs q
  to_chained q S = elim (dec_lt 1 (children fs q)) [
    | no l ↦ inl (omega arith)
    | yes l ↦ (
        let r = children-chained S.1 in
        inr (ap (λ k. chained k fs q (eldest_found fs q)) (sym r.0) ∙ ap (λ e. chained (length S.0) fs q e) (first_found q S.0 S.1 (as_many l r.0)) ∙ r.1))
  ]

  -- an only child is the last
  only_child_lem : (q p : ℕ) → Siblings fs q → children fs q ≡ 1 → p < length fs → is_child fs q p ≡ true → younger fs p ≡ none
  only_child_lem q p S e b t = children-next [] p [] (subst (λ (cs : List ℕ). Children fs q cs) (children_only S.1 e p b t) S.1)

  pub to_younger : (counts : (q : ℕ) → q < length fs → Lives fs q → (frame_at fs q).outstanding ≡ children fs q) → ((q : ℕ) → q < length fs → Lives fs q → Siblings fs q)
      → (p : ℕ) → p < length fs → Lives fs p → ((frame_at fs p).depth ≡ 0 → younger fs p ≡ none) → ((frame_at fs p).depth ≢ 0 → HasParent fs p) → Younger fs p
  to_younger counts S p b l flat deep = elim (ℕ_discrete (frame_at fs p).depth 0) [
    | yes d ↦ inl (flat d)
    | no d ↦ (
        let h = deep d in
        let q = (frame_at fs p).parent in
        let t = at_child fs q p l refl in
        elim (dec_lt 1 (children fs q)) [
          | yes m ↦ inr (d, as_many m (counts q h.0 h.1))
          | no m ↦ inl (only_child_lem q p (S q h.0 h.1) (one_or_none (how_many_pos (length fs) p (is_child fs q) b t) m) b t)
        ])
  ]

  -- ---- and back

  chained_one : (q c : ℕ) → c < length fs → is_child fs q c ≡ true → younger fs c ≡ none → chained 1 fs q c ≡ true
  unfolding chained
  chained_one q c b t y = and_of (ltb_of b) (and_of t (eq-eqb (younger fs c) none y))

  pub to_siblings : (counts : (q : ℕ) → q < length fs → Lives fs q → (frame_at fs q).outstanding ≡ children fs q) → ((p : ℕ) → p < length fs → Lives fs p → Younger fs p)
      → (q : ℕ) → q < length fs → Lives fs q → Chained fs q → Siblings fs q
  to_siblings counts Y q b l C = elim (ℕ_discrete (children fs q) 0) [
    | yes e ↦ ([], children_empty fs q few e)
    | no z ↦ elim (ℕ_discrete (children fs q) 1) [
      | yes e ↦ (
          let m = the_one (length fs) (is_child fs q) e in
          let f = (child_is fs q m.0).fact m.2 in
          elim (Y m.0 m.1 f.0) [
            | inl y ↦ (let r = chained-children 1 fs q m.0 few (chained_one q m.0 m.1 m.2 y) (sym e) in (r.0, r.1))
            | inr o ↦ absurd (not_one o.1 (ap (λ x. (frame_at fs x).outstanding) f.1 ∙ counts q b l) e)
          ])
      | no o ↦ elim C [
        | inl s ↦ absurd (one_more z o s)
        | inr t ↦ (let r = chained-children (children fs q) fs q (eldest_found fs q) few t refl in (r.0, r.1))
      ]
    ]
  ]

  pub to_main-link : (p : ℕ) → Younger fs p → (frame_at fs p).depth ≡ 0 → younger fs p ≡ none
  to_main-link p (inl y) d = y
  to_main-link p (inr o) d = absurd (o.0 d)
