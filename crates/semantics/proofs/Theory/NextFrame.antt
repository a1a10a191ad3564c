-- R-5: the frame that the engine finds next "in that order" is the one whose view stands next.
use Rattle.std.specs.Prelude.{◌≡◌, refl, List, [], ◌∷◌, ◌++◌, map, ℕ, zero, suc, ◌+◌, ◌<◌, length}
use Rattle.std.proofs.Common.{sym, ap, ◌∙◌, subst, inl, inr, arith}
use mathlib.Core.List.Memᴰ.{append_right as In-right}
use mathlib.Core.List.Memᴰ.{head as here}
use mathlib.Core.List.Memᴰ.{tail as there}
use mathlib.Core.List.{Memᴰ as In}
use Rattle.std.proofs.lemmas.List.{map-append}
use Rattle.words.specs.Basics.{same}
use Rattle.words.specs.Tests.{decided}
use Rattle.words.specs.Distinct.{same_eq, same_ne}
use Rattle.frames.specs.declared.Frame.{Frame as FrameRecord}
use Rattle.frames.specs.Frames.{frame_at}
use Rattle.frames.specs.Siblings.{Children, first_from, next_after}
use Rattle.frames.proofs.Theory.Siblings.{live_children, children-length}
use Rattle.frames.proofs.Theory.Order.{first-stop, first-child, after_youngest, after_elder}
use Rattle.model.specs.Machine.{Name, Machine, live}
use Rattle.model.specs.Views.{Views}
use Rattle.model.proofs.Theory.Under.{Under, under_same, under_shorter}
use Rattle.model.proofs.Theory.FrameTree.{FrameTree}
use Rattle.model.proofs.Theory.ViewNames.{view_names}
use Rattle.model.proofs.Theory.PostOrder.{PostOrder, post_above, post_parent}
use Rattle.model.proofs.Theory.Siblings.{children_of, in_children, children_with}
use Rattle.model.proofs.Theory.NextView.{EldestBelow, next_parent, next-eldest, live-depth}
use Rattle.semantics.specs.Core.{Core}
use Rattle.semantics.proofs.Theory.Relation.{Trees, Relates}
use Rattle.semantics.proofs.Theory.Places.{live_few}
use Rattle.semantics.proofs.Theory.ToSoundFrames.{inside, alive, outstanding}
use Rattle.semantics.proofs.Theory.Viewed.{Viewed}
use Rattle.soundness.specs.Layout.{Layout}

module _ (layout : Layout) where
  module _ {P : Trees} {M : Machine} {c : Core} (r : Relates layout P M c) (tree : FrameTree M) (W : Views) (H : Viewed layout r W) where
    abbrev ns : List Name
    ns = view_names W.views

    abbrev fs : List FrameRecord
    fs = c.frames

    -- ---- of a name that has a view

    siblings_of : (n : Name) → In n ns → Children fs (r.at n) (map r.at (children_of n ns))
    siblings_of n m = let f = H.ordered.names.alive n m in subst (λ (z : Name). Children fs (r.at z) (map r.at (children_of z ns))) f.2 (H.siblings f.0 f.1)

    -- "Outstanding counts are right."
    outstanding_of : (n : Name) → In n ns → (frame_at fs (r.at n)).outstanding ≡ live_children fs (r.at n)
    outstanding_of n m =
        let f = H.ordered.names.alive n m in
        subst (λ (z : Name). (frame_at fs (r.at z)).outstanding ≡ live_children fs (r.at z)) f.2 (outstanding layout r tree (r.at f.0.name) (inside layout r f.0 f.1) (alive layout r f.0 f.1))

    -- ---- down the eldest children, from y to m

    module _ (y m : Name) (E : EldestBelow ns y m) (there_m : In m ns) where
      stops : (frame_at fs (r.at m)).outstanding ≡ 0
      stops = outstanding_of m there_m ∙ sym (children-length (siblings_of m there_m)) ∙ ap (λ (l : List Name). length (map r.at l)) E.childless

      down : (k : ℕ) (t : Name) → Under t y → Under m t → length m < k + length t → first_from k fs (r.at t) ≡ r.at m
      down zero t ty mt b = absurd (omega (arith, b, under_shorter m t mt))
      down (suc k) t ty mt b = elim (decided (same t m)) [
        | inl s ↦ (let e = same_eq t m s in ap (λ (z : Name). first_from (suc k) fs (r.at z)) e ∙ first-stop (suc k) fs (r.at m) stops)
        | inr s ↦ (
            let x = E.way t ty mt (same_ne s) in
            let there_t : In t ns = post_above ns H.ordered.post m t there_m mt in
            let e = in_children t x.0 ns (subst (λ (l : List Name). In x.0 l) (sym x.2) (here refl)) in
            let C : Children fs (r.at t) (r.at x.0 ∷ map r.at x.1) = subst (λ (l : List Name). Children fs (r.at t) (map r.at l)) x.2 (siblings_of t there_t) in
            first-child k C (outstanding_of t there_t)
            ∙ down k x.0 (subst (λ (z : Name). Under z y) (sym e.2) (inr ty)) x.3 (omega (arith, b, ap length e.2)))
      ]

    -- ---- the next one after g

    pub next-frame : (k : ℕ) (p m : Name) (xs ys : List Name) → ns ≡ xs ++ ((k ∷ p) ∷ m ∷ ys) → next_after fs (r.at (k ∷ p)) ≡ r.at m
    next-frame k p m xs ys e = by_sibling (children_of p (m ∷ ys)) refl
      where
        o : PostOrder (xs ++ ((k ∷ p) ∷ m ∷ ys))
        o = subst PostOrder e H.ordered.post

        later : (z : Name) → In z ((k ∷ p) ∷ m ∷ ys) → In z ns
        later z i = subst (λ (l : List Name). In z l) (sym e) (In-right xs i)

        there_p : In p ns
        there_p = post_parent ns H.ordered.post k p (later (k ∷ p) (here refl))

        there_m : In m ns
        there_m = later m (there (here refl))

        -- the parent's children, from the eldest on
        chain : (js : List Name) → children_of p (m ∷ ys) ≡ js → Children fs (r.at p) (map r.at (children_of p xs) ++ (r.at (k ∷ p) ∷ map r.at js))
        chain js d =
            subst (Children fs (r.at p)) (ap (λ (l : List Name). map r.at (children_of p l)) e ∙ ap (map r.at) (children_with k p xs (m ∷ ys) ∙ ap (λ (l : List Name). children_of p xs ++ ((k ∷ p) ∷ l)) d) ∙ map-append r.at (children_of p xs) ((k ∷ p) ∷ js)) (siblings_of p there_p)

        by_sibling : (js : List Name) → children_of p (m ∷ ys) ≡ js → next_after fs (r.at (k ∷ p)) ≡ r.at m
        by_sibling [] d = after_youngest (map r.at (children_of p xs)) (r.at (k ∷ p)) (chain [] d) ∙ ap r.at (sym (next_parent xs ys (k ∷ p) m k p refl o d))
        by_sibling (y ∷ js) d =
            let E = subst (λ (l : List Name). EldestBelow l y m) (sym e) (next-eldest xs ys (k ∷ p) m k p refl o y js d) in
            after_elder (map r.at (children_of p xs)) (r.at (k ∷ p)) (r.at y) (map r.at js) (chain (y ∷ js) d) (outstanding_of p there_p)
            ∙ down y m E there_m (length fs) y (under_same y) E.under (omega (arith, live-depth (live M) ns H.ordered m there_m, live_few layout r))
