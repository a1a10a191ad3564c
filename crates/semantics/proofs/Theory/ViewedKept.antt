-- R-5: the views where no frame begins, ends or folds.
use Rattle.std.specs.Prelude.{◌≡◌, refl, List, [], ◌∷◌, map, ℕ}
use Rattle.std.proofs.Common.{sym, ap, ◌∙◌, subst}
use mathlib.Core.List.Memᴰ
use mathlib.Core.List.Memᴰ.{head as here}
use mathlib.Core.List.Memᴰ.{not-nil as not-in-nil}
use mathlib.Core.List.{Memᴰ as In}
use Rattle.frames.specs.declared.Frame.{Frame as FrameRecord}
use Rattle.frames.specs.Frames.{frame_at}
use Rattle.frames.specs.Siblings.{Children}
use Rattle.model.specs.Machine.{Name, Frame, Machine, live}
use Rattle.model.specs.Views.{Views}
use Rattle.model.proofs.Theory.ViewNames.{view_names}
use Rattle.model.proofs.Theory.PostOrder.{InPostOrder}
use Rattle.model.proofs.Theory.Siblings.{children_of}
use Rattle.semantics.specs.Core.{Core}
use Rattle.semantics.proofs.Theory.Relation.{Trees, Relates, Keeps}
use Rattle.semantics.proofs.Theory.Places.{map_cong}
use Rattle.semantics.proofs.Theory.LinksKept.{NamedIn, children_kept}
use Rattle.semantics.proofs.Theory.Viewed.{Viewed}
use Rattle.soundness.specs.Layout.{Layout}

-- frames of the same names
post_named : {L L' : List Frame} {ns : List Name} → NamedIn L L' → NamedIn L' L → InPostOrder L ns → InPostOrder L' ns
post_named from to o = record {
  names = record {
    alive = λ n m. let x = o.names.alive n m in let y = to x.0 x.1 in (y.0, y.1, y.2 ∙ x.2);
    all = λ f m. let x = from f m in Memᴰ.cast (sym x.2) (o.names.all x.0 x.1);
  };
  post = o.post;
}

-- where none lives, none did
none_lived : (L : List Frame) {L' : List Frame} → NamedIn L' L → L' ≡ [] → L ≡ []
none_lived [] to e = refl
none_lived (f ∷ L) to e = let x = to f (here refl) in absurd (not-in-nil (subst (λ (K : List Frame). In x.0 K) e x.1))

-- the same places
pub children_placed : {fs : List FrameRecord} (at at' : Name → ℕ) → ((n : Name) → at' n ≡ at n) → (n : Name) (cs : List Name) → Children fs (at n) (map at cs) → Children fs (at' n) (map at' cs)
children_placed {fs} at at' e n cs C =
    subst (λ (p : ℕ). Children fs p (map at' cs)) (sym (e n)) (subst (Children fs (at n)) (map_cong at at' cs (λ m i. sym (e m))) C)

module _ (layout : Layout) where
  pub viewed_keeps : {P : Trees} {M M' : Machine} {c c' : Core} {r : Relates layout P M c} {r' : Relates layout P M' c'} → Keeps layout r r' → (W : Views) → Viewed layout r W → Viewed layout r' W
  viewed_keeps {M = M} {M' = M'} {c = c} {c' = c'} {r = r} {r' = r'} K W H = record {
    ordered = post_named K.from K.to H.ordered;
    views = λ v m. K.view (r'.at v.name) ∙ ap (λ (p : ℕ). (frame_at c.frames p).view) (K.places v.name) ∙ H.views v m;
    siblings = λ f m.
        let x = K.from f m in
        let ns = view_names W.views in
        children_kept c.frames c'.frames K.same_length K.live K.parent K.link
        (children_placed r.at r'.at K.places f.name (children_of f.name ns)
        (subst (λ (n : Name). Children c.frames (r.at n) (map r.at (children_of n ns))) x.2 (H.siblings x.0 x.1)));
    none_yet = λ f m. let x = K.from f m in H.none_yet x.0 x.1;
    totals = λ e. K.totals ∙ H.totals (none_lived (live M) K.to e);
  }
