-- R-5: a fold into the bottom frame's view.
use Rattle.std.specs.Prelude.{◌≡◌, refl, List, [], ◌∷◌, ◌++◌, map, ℕ}
use Rattle.std.proofs.Common.{sym, ap, ◌∙◌, subst, inl, inr}
use mathlib.Core.List.Memᴰ.{eq_of_singleton as In-one}
use mathlib.Core.List.Memᴰ.{map as In-map}
use mathlib.Core.List.{Memᴰ as In}
use Rattle.reducers.specs.Reducers.{fold_view, view_of}
use Rattle.reducers.proofs.Theory.Folds.{view_snoc}
use Rattle.frames.specs.Frames.{frame_at}
use Rattle.frames.specs.Siblings.{Children}
use Rattle.model.specs.Machine.{Name, Frame, Machine, live}
use Rattle.model.specs.Steps.{fold}
use Rattle.model.specs.Views.{View, Views, views_acted}
use Rattle.model.proofs.Theory.ViewNames.{view_names, acted_same, view_names_acted}
use Rattle.model.proofs.Theory.PostOrder.{InPostOrder, post_nodup}
use Rattle.model.proofs.Theory.Siblings.{children_of}
use Rattle.semantics.specs.Core.{Core}
use Rattle.semantics.proofs.Theory.Relation.{Trees, Relates}
use Rattle.semantics.proofs.Theory.Places.{placed_apart}
use Rattle.semantics.proofs.Theory.LinksKept.{children_kept}
use Rattle.semantics.proofs.Theory.SimFold.{Folds}
use Rattle.semantics.proofs.Theory.Viewed.{Viewed}
use Rattle.semantics.proofs.Theory.ViewsAfter.{in_views_acted}
use Rattle.semantics.proofs.Theory.ViewedKept.{children_placed}
use Rattle.soundness.specs.Layout.{Layout}

module _ (layout : Layout) where
  module _ {P : Trees} {M M' : Machine} {c c' : Core} (r : Relates layout P M c) (r' : Relates layout P M' c') (q : Frame) (i x : ℕ) (F : Folds layout r r' q i x) (lives : In q (live M)) (W : Views) (H : Viewed layout r W) where
    abbrev vs' : List View
    vs' = views_acted q (fold i x) W.views

    same_names : view_names vs' ≡ view_names W.views
    same_names = view_names_acted q (fold i x) W.views ∙ acted_same q (fold i x) (view_names W.views) refl

    -- the view of the frame named n
    abbrev ViewIs : Name → List (ℕ × ℕ) → Type 0
    ViewIs n folds = (frame_at c'.frames (r'.at n)).view ≡ view_of folds

    own : (u : View) → In u W.views → u.name ≡ q.name → ViewIs q.name (u.folds ++ ((i, x) ∷ []))
    own u m e =
        ap (λ (p : ℕ). (frame_at c'.frames p).view) (F.places_kept q.name)
        ∙ F.own
        ∙ ap (λ z. fold_view z i x) (ap (λ (n : Name). (frame_at c.frames (r.at n)).view) (sym e) ∙ H.views u m)
        ∙ sym (view_snoc u.folds i x)

    view_is : (v : View) → In v vs' → ViewIs v.name v.folds
    view_is v m = elim (in_views_acted q (fold i x) W.views (post_nodup (view_names W.views) H.ordered.post) v m) [
      | inl j ↦ (let f = H.ordered.names.alive v.name (In-map (λ (u : View). u.name) j.0) in
          ap (λ (p : ℕ). (frame_at c'.frames p).view) (F.places_kept v.name)
          ∙ F.others (r.at v.name) (subst (λ (n : Name). r.at n ≡ r.at q.name → ⊥) f.2 (placed_apart layout r f.0 q f.1 lives (λ e. j.1 (sym f.2 ∙ e))))
          ∙ H.views v j.0)
      | inr u ↦ subst (λ (z : View). ViewIs z.name z.folds) (sym (In-one u.3)) (own u.0 u.1 u.2)
    ]

    pub viewed_fold : Viewed layout r' (record { views = views_acted q (fold i x) W.views; totals = W.totals })
    viewed_fold = record {
      ordered = subst (InPostOrder (live M')) (sym same_names) (subst (λ (N : Machine). InPostOrder (live N) (view_names W.views)) (sym F.same_machine) H.ordered);
      views = view_is;
      siblings = λ f m.
          subst (λ (ns : List Name). Children c'.frames (r'.at f.name) (map r'.at (children_of f.name ns))) (sym same_names)
          (children_kept c.frames c'.frames F.alike.same_length (λ p. (F.alike.same p).live) (λ p. (F.alike.same p).parent) F.link
          (children_placed r.at r'.at F.places_kept f.name (children_of f.name (view_names W.views)) (H.siblings f (subst (λ (N : Machine). In f (live N)) F.same_machine m))));
      none_yet = λ f m. H.none_yet q lives;
      totals = λ e. F.same_totals ∙ H.totals (ap live (sym F.same_machine) ∙ e);
    }
