-- R-5: the relation between the views beside the plain machine and the engine's words: a frame's four view words are the evaluation of what it has folded, and the
-- links chain siblings in the order of the views; once Main has returned the totals are the evaluation of the plain ones.
use Rattle.std.specs.Prelude.{◌≡◌}
use mathlib.Core.List.{Memᴰ as In}
use mathlib.Core.List.{List, [], ◌∷◌, map, Permᴰ}
use Rattle.reducers.specs.Reducers.{view_of, view_words}
use Rattle.frames.specs.Frames.{frame_at}
use Rattle.frames.specs.Siblings.{Children}
use Rattle.frames.specs.Steps.{end_frame}
use Rattle.model.specs.Machine.{Name, Frame, Machine, live}
use Rattle.model.specs.Views.{View, Views}
use Rattle.model.proofs.Theory.ViewNames.{view_names}
use Rattle.model.proofs.Theory.PostOrder.{InPostOrder}
use Rattle.model.proofs.Theory.Siblings.{children_of}
use Rattle.semantics.specs.Core.{Core, totals_after}
use Rattle.semantics.proofs.Theory.Relation.{Trees, Relates}
use Rattle.soundness.specs.Layout.{Layout}

module _ (layout : Layout) where
  pub record Viewed {P : Trees} {M : Machine} {c : Core} (r : Relates layout P M c) (W : Views) : Type 0 where
    pub ordered : InPostOrder (live M) (view_names W.views)
    pub views : (v : View) → In v W.views → (frame_at c.frames (r.at v.name)).view ≡ view_of v.folds
    pub siblings : (f : Frame) → In f (live M) → Children c.frames (r.at f.name) (map r.at (children_of f.name (view_names W.views)))
    pub none_yet : (f : Frame) → In f (live M) → W.totals ≡ []
    pub totals : live M ≡ [] → c.totals ≡ view_words (view_of W.totals)

  -- from c to c' the frame g has ended, and the frames R are left
  pub record Ended {P : Trees} {M M' : Machine} {c c' : Core} (r : Relates layout P M c) (r' : Relates layout P M' c') (g : Frame) (R : List Frame) : Type 0 where
    pub before : Permᴰ (live M) (g ∷ R)
    pub after : Permᴰ (live M') R
    pub places : (n : Name) → r'.at n ≡ r.at n
    pub frames : c'.frames ≡ end_frame c.frames c.head.numbers.free_place (r.at g.name)
    pub totals : c'.totals ≡ totals_after c (frame_at c.frames (r.at g.name))
