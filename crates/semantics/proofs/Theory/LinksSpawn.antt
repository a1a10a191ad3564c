-- R-5: the links after a spawn: the child is its parent's youngest.
use Rattle.std.specs.Prelude.{◌≡◌, refl, ◌≢◌, Bool, true, false, cond, ◌&&◌, ℕ, ◌<◌, length, eqb}
use Rattle.std.proofs.Common.{sym, ap, ap₂, ◌∙◌, subst, inl, inr, arith, eq-eqb, ne_eqb}
use mathlib.Core.List.{Memᴰ as In}
use mathlib.Core.List.{List, [], ◌∷◌, ◌++◌, cons≢nil}
use Rattle.std.proofs.Math.Decide.{ℕ_discrete}
use Rattle.words.specs.Basics.{none, same}
use Rattle.words.specs.Counting.{miss, sum_zero}
use Rattle.words.specs.Tests.{decided, true≢false}
use Rattle.words.specs.Distinct.{same_eq, same_ne}
use Rattle.frames.specs.declared.Frame.{Frame as FrameRecord}
use Rattle.frames.specs.Frames.{frame_at, with_younger}
use Rattle.frames.specs.Frames.{after_spawn as continued}
use Rattle.frames.specs.Siblings.{live_child, younger, names, Children}
use Rattle.frames.specs.Steps.{link_child}
use Rattle.frames.proofs.Theory.Alike.{Alike}
use Rattle.frames.proofs.Theory.Links.{link_alike, relink-none, relink_record}
use Rattle.frames.proofs.Theory.Siblings.{no_child, children_empty, named_once}
use Rattle.frames.proofs.Theory.Relinked.{ChildAdded, children-same, children_more}
use Rattle.soundness.proofs.Theory.Facts.{child_at_lem}
use Rattle.model.specs.Machine.{Name, Frame, Machine, live}
use Rattle.model.proofs.Theory.FrameTree.{FrameTree}
use Rattle.semantics.specs.Core.{Core}
use Rattle.semantics.proofs.Theory.Relation.{Trees, parent_place, Relates, Links}
use Rattle.semantics.proofs.Theory.Places.{placed_apart}
use Rattle.semantics.proofs.Theory.ToSoundFrames.{inside, alive, parent_is, live-frame, outstanding}
use Rattle.semantics.proofs.Theory.SimSpawn.{Spawns}
use Rattle.soundness.specs.Layout.{Layout}

module _ (layout : Layout) where
  module _ {P : Trees} {M M' : Machine} {c c' : Core} (r : Relates layout P M c) (r' : Relates layout P M' c') (tree : FrameTree M) (q : Frame) (S : Spawns layout r r' q) where
    abbrev p : ℕ
    p = r.at q.name

    -- the child's place
    abbrev g : ℕ
    g = c.head.numbers.free_place

    abbrev fs : List FrameRecord
    fs = c.frames

    abbrev linked : List FrameRecord
    linked = link_child fs p g

    abbrev es : List FrameRecord
    es = c'.frames

    alike : Alike fs linked
    alike = link_alike fs p g

    p_lives : (frame_at fs p).live ≡ 1
    p_lives = alive layout r q S.bottom-lives

    not_free : p ≢ g
    not_free e = omega (arith, p_lives, S.vacant, ap (λ (x : ℕ). (frame_at fs x).live) e)

    -- ---- the records

    -- a part that a spawn leaves in its parent's record
    part_kept : {A : Type 0} (part : FrameRecord → A) → ((f : FrameRecord) → part (continued f) ≡ part f) → (x : ℕ) → x ≢ g → part (frame_at es x) ≡ part (frame_at linked x)
    part_kept part h x d = elim (ℕ_discrete x p) [
      | yes e ↦ ap (λ (y : ℕ). part (frame_at es y)) e ∙ ap part S.own ∙ h (frame_at linked p) ∙ ap (λ (y : ℕ). part (frame_at linked y)) (sym e)
      | no e ↦ ap part (S.others x d e)
    ]

    pub live_kept : (x : ℕ) → x ≢ g → (frame_at es x).live ≡ (frame_at fs x).live
    live_kept x d = part_kept (λ (f : FrameRecord). f.live) (λ f. refl) x d ∙ (alike.same x).live

    pub parent_kept : (x : ℕ) → x ≢ g → (frame_at es x).parent ≡ (frame_at fs x).parent
    parent_kept x d = part_kept (λ (f : FrameRecord). f.parent) (λ f. refl) x d ∙ (alike.same x).parent

    pub child_kept : (u x : ℕ) → x ≢ g → live_child es u x ≡ live_child fs u x
    child_kept u x d = ap₂ (λ (a b : ℕ). eqb a 1 && eqb b u) (live_kept x d) (parent_kept x d)

    -- the free place holds no child before, and p's child afterwards
    pub free_childless : (u : ℕ) → live_child fs u g ≡ false
    free_childless u = rw (ne_eqb (frame_at fs g).live 1 (λ z. omega (arith, z, S.vacant)))

    new_live : (frame_at es g).live ≡ 1
    new_live = ap (λ (f : FrameRecord). f.live) S.new

    new_parent : (frame_at es g).parent ≡ p
    new_parent = ap (λ (f : FrameRecord). f.parent) S.new

    -- ---- the links

    -- what a relink makes of a link
    picks : (t : Bool) (f : FrameRecord) → (cond t (with_younger f g) f).younger ≡ cond t g f.younger
    picks true f = refl
    picks false f = refl

    linked_other : (x : ℕ) → live_child fs p x ≡ false → younger linked x ≡ younger fs x
    linked_other x n = elim (decided (eqb (frame_at fs p).outstanding 0)) [
      | inl e ↦ rw e
      | inr e ↦ rw e (ap (λ (f : FrameRecord). f.younger) (relink-none fs p none g x (rw n)))
    ]

    linked-child : {cs : List ℕ} → Children fs p cs → (x : ℕ) → x < length fs → live_child fs p x ≡ true → younger linked x ≡ cond (eqb (younger fs x) none) g (younger fs x)
    linked-child C x b t =
        rw (ne_eqb (frame_at fs p).outstanding 0 (λ z. no_child fs p (sym (outstanding layout r tree p (inside layout r q S.bottom-lives) p_lives) ∙ z) x b t))
        (ap (λ (f : FrameRecord). f.younger) (relink_record fs p none g (named_once C none) x) ∙ picks (names fs p none x) (frame_at fs x) ∙ rw t)

    pub link_kept : (x : ℕ) → x ≢ g → live_child fs p x ≡ false → younger es x ≡ younger fs x
    link_kept x d n = part_kept (λ (f : FrameRecord). f.younger) (λ f. refl) x d ∙ linked_other x n

    pub added : {cs : List ℕ} → Children fs p cs → ChildAdded fs es p g
    added C = record {
      same_length = S.same_length;
      within = S.inside;
      new = free_childless p;
      child = rw (eq-eqb (frame_at es g).live 1 new_live, eq-eqb (frame_at es g).parent p new_parent);
      last = ap (λ (f : FrameRecord). f.younger) S.new;
      others = λ x b d. child_kept p x d;
      links = λ x b d t. part_kept (λ (f : FrameRecord). f.younger) (λ f. refl) x d ∙ linked-child C x b t;
    }

    -- ---- another frame's children: it stands at u

    pub children_kept : (u : ℕ) {cs : List ℕ} → u ≢ p → Children fs u cs → Children es u cs
    children_kept u d C = children-same S.same_length (λ x b. (
      elim (ℕ_discrete x g) [
        | yes e ↦ ap (live_child es u) e ∙ rw (ne_eqb (frame_at es g).parent u (λ z. d (sym (sym new_parent ∙ z)))) (and-false (eqb (frame_at es g).live 1)) ∙ sym (ap (live_child fs u) e ∙ free_childless u)
        | no e ↦ child_kept u x e
      ],
      λ t. link_kept x (λ e. true≢false (sym t ∙ ap (live_child fs u) e ∙ free_childless u)) (other x t),
    )) C
      where
        and-false : (b : Bool) → (b && false) ≡ false
        and-false true = refl
        and-false false = refl

        other : (x : ℕ) → live_child fs u x ≡ true → live_child fs p x ≡ false
        other x t = elim (decided (live_child fs p x)) [
          | inl s ↦ absurd (d (sym (child_at_lem fs u x t).1 ∙ (child_at_lem fs p x s).1))
          | inr s ↦ s
        ]

    -- ---- the child has no child

    no_parent : (x : ℕ) → x < length fs → (frame_at fs x).live ≡ 1 → (frame_at fs x).parent ≡ g → ⊥
    no_parent x b l e = by_name f.0.name refl
      where
        f : (h : Frame) × In h (live M) × (r.at h.name ≡ x)
        f = live-frame layout r x b l

        is : g ≡ parent_place r.at f.0.name
        is = sym e ∙ ap (λ (y : ℕ). (frame_at fs y).parent) (sym f.2) ∙ parent_is layout r f.0 f.1

        by_name : (n : Name) → f.0.name ≡ n → ⊥
        by_name [] z = omega (arith, S.inside, r.formed.few, is ∙ ap (parent_place r.at) z)
        by_name (k ∷ n) z =
            let h = tree.rooted f.0 f.1 k n z in
            omega (arith, S.vacant, alive layout r h.0 h.1, ap (λ (y : ℕ). (frame_at fs y).live) (is ∙ ap (parent_place r.at) z ∙ ap r.at (sym h.2)))

    pub new_childless : Children es g []
    new_childless = children_empty es g (omega (arith, S.same_length, r.formed.few)) (sum_zero (length es) (λ x. cond (live_child es g x) 1 0) (λ x b. miss (none_there x (omega (arith, S.same_length, b)))))
      where
        none_there : (x : ℕ) → x < length fs → live_child es g x ≡ false
        none_there x b = elim (decided (live_child es g x)) [
          | inr s ↦ s
          | inl s ↦ elim (ℕ_discrete x g) [
            | yes e ↦ absurd (not_free (sym new_parent ∙ ap (λ (y : ℕ). (frame_at es y).parent) (sym e) ∙ (child_at_lem es g x s).1))
            | no e ↦ absurd (no_parent x b (sym (live_kept x e) ∙ (child_at_lem es g x s).0) (sym (parent_kept x e) ∙ (child_at_lem es g x s).1))
          ]
        ]

    -- ---- all of them

    module _ (K : Links fs r.at (live M)) where
      children-after : (f : Frame) → In f (live M') → (cs : List ℕ) × Children es (r'.at f.name) cs
      children-after f m = elim (S.from f m) [
        | inl e ↦ ([], subst (λ (u : ℕ). Children es u []) (sym (ap r'.at e ∙ S.child-place)) new_childless)
        | inr x ↦
            let there : r'.at f.name ≡ r.at x.0.name = ap r'.at (sym x.2) ∙ S.places_kept x.0 x.1 in
            elim (decided (same x.0.name q.name)) [
              | inl s ↦ (let y = K.children q S.bottom-lives in
                  (y.0 ++ (g ∷ []), subst (λ (u : ℕ). Children es u (y.0 ++ (g ∷ []))) (ap r.at (sym (same_eq x.0.name q.name s)) ∙ sym there) (children_more (added y.1) y.1)))
              | inr s ↦ (let y = K.children x.0 x.1 in
                  (y.0, subst (λ (u : ℕ). Children es u y.0) (sym there) (children_kept (r.at x.0.name) (placed_apart layout r x.0 q x.1 S.bottom-lives (same_ne s)) y.1)))
            ]
      ]

      main-after : (f : Frame) → In f (live M') → f.name ≡ [] → younger es (r'.at f.name) ≡ none
      main-after f m z = elim (S.from f m) [
        | inl e ↦ absurd (cons≢nil (sym e ∙ z))
        | inr x ↦
            let u = r.at x.0.name in
            let orphan : (frame_at fs u).parent ≡ none = parent_is layout r x.0 x.1 ∙ ap (parent_place r.at) (x.2 ∙ z) in
            let no : live_child fs p u ≡ false = elim (decided (live_child fs p u)) [
              | inl s ↦ absurd (omega (arith, inside layout r q S.bottom-lives, orphan, (child_at_lem fs p u s).1))
              | inr s ↦ s
            ] in
            ap (younger es) (ap r'.at (sym x.2) ∙ S.places_kept x.0 x.1)
            ∙ link_kept u (λ e. omega (arith, S.vacant, alive layout r x.0 x.1, ap (λ (y : ℕ). (frame_at fs y).live) e)) no
            ∙ K.main-link x.0 x.1 (x.2 ∙ z)
      ]

      pub links-spawn : Links es r'.at (live M')
      links-spawn = record { children = children-after; main-link = main-after }
