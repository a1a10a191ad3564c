-- R-5: a spawn: "the child inherits, the continuation begins with the identity", and the child is its parent's youngest.
use Rattle.std.specs.Prelude.{◌≡◌, ◌≢◌, ℕ, length}
use Rattle.std.proofs.Common.{sym, ap, ap₂, ◌∙◌, arith}
use Rattle.std.proofs.Math.Path.{subst}
use Rattle.std.proofs.Math.Logic.{inl, inr}
use mathlib.Core.List.Memᴰ
use mathlib.Core.List.Memᴰ.{cases_cons as In-cons}
use mathlib.Core.List.Memᴰ.{eq_of_singleton as In-one}
use mathlib.Core.List.Memᴰ.{map as In-map}
use mathlib.Core.List.Memᴰ.{not-nil as not-in-nil}
use mathlib.Core.List.{Memᴰ as In}
use mathlib.Core.List.{List, [], ◌∷◌, ◌++◌, map, map-append}
use Rattle.words.specs.Basics.{same}
use Rattle.words.specs.Tests.{decided}
use Rattle.words.specs.Distinct.{same_eq, same_ne}
use Rattle.reducers.specs.Reducers.{view_of}
use Rattle.frames.specs.declared.Frame.{Frame as FrameRecord}
use Rattle.frames.specs.Frames.{frame_at}
use Rattle.frames.specs.Siblings.{Children}
use Rattle.frames.specs.Steps.{link_child}
use Rattle.frames.proofs.Theory.Links.{link_view}
use Rattle.frames.proofs.Theory.Relinked.{children_more}
use Rattle.model.specs.Machine.{Name, Frame, Machine, live, is_child}
use Rattle.model.specs.Steps.{spawn, child}
use Rattle.model.specs.Views.{View, Views, views_acted}
use Rattle.model.proofs.Theory.Filter.{filter_none}
use Rattle.model.proofs.Theory.FrameTree.{FrameTree}
use Rattle.model.proofs.Theory.ViewNames.{view_names, names_acted, in_acted, to_acted, child_acted, view_names_acted}
use Rattle.model.proofs.Theory.PostOrder.{InPostOrder, post_nodup, post_parent, post_acted}
use Rattle.model.proofs.Theory.Siblings.{children_of, of_child, in_children, children-spawn, children_other}
use Rattle.semantics.specs.Core.{Core}
use Rattle.semantics.proofs.Theory.Relation.{Trees, Relates}
use Rattle.semantics.proofs.Theory.Places.{map_cong, placed_apart}
use Rattle.semantics.proofs.Theory.ToSoundFrames.{alive}
use Rattle.semantics.proofs.Theory.SimSpawn.{Spawns}
use Rattle.semantics.proofs.Theory.LinksSpawn.{added, children_kept, new_childless}
use Rattle.semantics.proofs.Theory.Viewed.{Viewed}
use Rattle.semantics.proofs.Theory.ViewsAfter.{in_views_acted}
use Rattle.soundness.specs.Layout.{Layout}

module _ (layout : Layout) where
  module _ {P : Trees} {M M' : Machine} {c c' : Core} (r : Relates layout P M c) (r' : Relates layout P M' c') (tree : FrameTree M) (q : Frame) (S : Spawns layout r r' q) (W : Views) (H : Viewed layout r W) where
    abbrev p : ℕ
    p = r.at q.name

    -- the child's name and place
    abbrev n' : Name
    n' = (child q).name

    abbrev g : ℕ
    g = c.head.numbers.free_place

    abbrev ns : List Name
    ns = view_names W.views

    abbrev ns' : List Name
    ns' = names_acted q spawn ns

    own_there : In q.name ns
    own_there = H.ordered.names.all q S.bottom-lives

    -- ---- places

    -- a live frame is at its place, which is not the free one
    not_free : (f : Frame) → In f (live M) → r.at f.name ≢ g
    not_free f m e = omega (arith, S.vacant, alive layout r f m, ap (λ (x : ℕ). (frame_at c.frames x).live) e)

    place_kept : (n : Name) → In n ns → r'.at n ≡ r.at n
    place_kept n m = let f = H.ordered.names.alive n m in subst (λ (z : Name). r'.at z ≡ r.at z) f.2 (S.places_kept f.0 f.1)

    -- the child's name is new
    new : In n' ns → ⊥
    new m =
        let f = H.ordered.names.alive n' m in
        not_free f.0 f.1 (sym (S.places_kept f.0 f.1) ∙ ap r'.at f.2 ∙ S.child-place)

    -- ---- the order

    ordered_after : InPostOrder (live M') ns'
    ordered_after = record {
      names = record {
        alive = λ n m. elim (in_acted q spawn ns n m) [
          | inl j ↦ (let f = H.ordered.names.alive n j in let h = S.to f.0 f.1 in (h.0, h.1, h.2 ∙ f.2))
          | inr j ↦ (child q, S.new_lives, sym j.1)
        ];
        all = λ f m. elim (S.from f m) [
          | inl e ↦ Memᴰ.cast e (child_acted q ns own_there)
          | inr x ↦ Memᴰ.cast (sym x.2) (to_acted q spawn ns x.0.name (H.ordered.names.all x.0 x.1))
        ];
      };
      post = post_acted q spawn ns new H.ordered.post;
    }

    -- ---- the views

    abbrev linked : List FrameRecord
    linked = link_child c.frames p g

    -- a link is no part of a view
    linked_view : (x : ℕ) → (frame_at linked x).view ≡ (frame_at c.frames x).view
    linked_view x = link_view c.frames p g x

    abbrev ViewIs : Name → List (ℕ × ℕ) → Type 0
    ViewIs n folds = (frame_at c'.frames (r'.at n)).view ≡ view_of folds

    child_view : (u : View) → In u W.views → u.name ≡ q.name → ViewIs n' u.folds
    child_view u m e =
        ap (λ (x : ℕ). (frame_at c'.frames x).view) S.child-place ∙ ap (λ (f : FrameRecord). f.view) S.new ∙ linked_view p
        ∙ ap (λ (n : Name). (frame_at c.frames (r.at n)).view) (sym e) ∙ H.views u m

    own_view : ViewIs q.name []
    own_view = ap (λ (x : ℕ). (frame_at c'.frames x).view) (S.places_kept q S.bottom-lives) ∙ ap (λ (f : FrameRecord). f.view) S.own

    other_view : (v : View) → In v W.views → v.name ≢ q.name → ViewIs v.name v.folds
    other_view v m d =
        let i = In-map (λ (u : View). u.name) m in
        let f = H.ordered.names.alive v.name i in
        let apart : r.at v.name ≢ p = subst (λ (n : Name). r.at n ≢ p) f.2 (placed_apart layout r f.0 q f.1 S.bottom-lives (λ e. d (sym f.2 ∙ e))) in
        ap (λ (x : ℕ). (frame_at c'.frames x).view) (place_kept v.name i)
        ∙ ap (λ (z : FrameRecord). z.view) (S.others (r.at v.name) (subst (λ (n : Name). r.at n ≢ g) f.2 (not_free f.0 f.1)) apart)
        ∙ linked_view (r.at v.name)
        ∙ H.views v m

    view_is : (v : View) → In v (views_acted q spawn W.views) → ViewIs v.name v.folds
    view_is v m = elim (in_views_acted q spawn W.views (post_nodup ns H.ordered.post) v m) [
      | inl j ↦ other_view v j.0 j.1
      | inr u ↦ elim (In-cons u.3) [
        | inl e ↦ subst (λ (z : View). ViewIs z.name z.folds) (sym e) (child_view u.0 u.1 u.2)
        | inr i ↦ subst (λ (z : View). ViewIs z.name z.folds) (sym (In-one i)) own_view
      ]
    ]

    -- ---- the children

    -- of the child, none
    none_yet_born : children_of n' ns' ≡ []
    none_yet_born =
        children_other q n' ns (λ e. omega (arith, ap length e))
        ∙ filter_none (is_child n') ns (λ n m. elim (decided (is_child n' n)) [
          | inl t ↦ (let k = of_child n' n t in absurd (new (post_parent ns H.ordered.post k.0 n' (Memᴰ.cast (sym k.1) m))))
          | inr t ↦ t
        ])

    same_places : (n : Name) → map r'.at (children_of n ns) ≡ map r.at (children_of n ns)
    same_places n = map_cong r'.at r.at (children_of n ns) (λ z m. place_kept z (in_children n z ns m).0)

    own_children : map r'.at (children_of q.name ns') ≡ map r.at (children_of q.name ns) ++ (g ∷ [])
    own_children =
        ap (map r'.at) (children-spawn q ns H.ordered.post own_there) ∙ map-append r'.at (children_of q.name ns) (n' ∷ [])
        ∙ ap₂ (λ (l : List ℕ) (x : ℕ). l ++ (x ∷ [])) (same_places q.name) S.child-place

    ChildrenOf : Name → Type 0
    ChildrenOf n = Children c'.frames (r'.at n) (map r'.at (children_of n ns'))

    -- of a frame that lived before
    old_children : (f : Frame) → In f (live M) → ChildrenOf f.name
    unfolding ChildrenOf
    old_children f m = elim (decided (same f.name q.name)) [
      | inl s ↦ subst ChildrenOf (sym (same_eq f.name q.name s))
          (rw (own_children, S.places_kept q S.bottom-lives) (children_more (added layout r r' tree q S (H.siblings q S.bottom-lives)) (H.siblings q S.bottom-lives)))
      | inr s ↦ rw (children_other q f.name ns (same_ne s), same_places f.name, S.places_kept f m)
          (children_kept layout r r' tree q S (r.at f.name) (placed_apart layout r f q m S.bottom-lives (same_ne s)) (H.siblings f m))
    ]

    children-after : (f : Frame) → In f (live M') → ChildrenOf f.name
    unfolding ChildrenOf
    children-after f m = elim (S.from f m) [
      | inl e ↦ subst ChildrenOf (sym e) (rw (none_yet_born, S.child-place) (new_childless layout r r' tree q S))
      | inr x ↦ subst ChildrenOf x.2 (old_children x.0 x.1)
    ]

    pub viewed_spawn : Viewed layout r' (record { views = views_acted q spawn W.views; totals = W.totals })
    unfolding ChildrenOf
    viewed_spawn = record {
      ordered = subst (InPostOrder (live M')) (sym (view_names_acted q spawn W.views)) ordered_after;
      views = view_is;
      siblings = λ f m. subst (λ (l : List Name). Children c'.frames (r'.at f.name) (map r'.at (children_of f.name l))) (sym (view_names_acted q spawn W.views)) (children-after f m);
      none_yet = λ f m. H.none_yet q S.bottom-lives;
      totals = λ e. absurd (not-in-nil (subst (λ (l : List Frame). In (child q) l) e S.new_lives));
    }
