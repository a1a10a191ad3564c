-- R-5: the links and the views at a start: "Main begins with the identities."
use Rattle.std.specs.Prelude.{◌≡◌, refl, ℕ, length}
use Rattle.std.proofs.Common.{sym, ap, ◌∙◌, subst, arith}
use mathlib.Core.List.Memᴰ.{eq_of_singleton as In-one}
use mathlib.Core.List.Memᴰ.{head as here}
use mathlib.Core.List.{Memᴰ as In}
use mathlib.Core.List.{List, [], cons≢nil}
use Rattle.std.proofs.Math.Decide.{ℕ_discrete}
use Rattle.reducers.specs.Reducers.{view_of}
use Rattle.frames.specs.declared.Frame.{Frame as FrameRecord}
use Rattle.frames.specs.Frames.{frame_at, main_frame, init_frames}
use Rattle.frames.specs.Siblings.{Children}
use Rattle.frames.proofs.Theory.Siblings.{children_empty}
use Rattle.frames.proofs.Theory.Start.{length_init, init_main, init_free_lem}
use Rattle.model.specs.Machine.{Name, Frame, live, main, start}
use Rattle.model.specs.Views.{View, views_at_start}
use Rattle.model.proofs.Theory.Effects.{live-start}
use Rattle.model.proofs.Theory.FrameTree.{tree-start}
use Rattle.model.proofs.Theory.PostOrder.{post_start}
use Rattle.semantics.specs.Entries.{whole_nodes}
use Rattle.semantics.proofs.Theory.Relation.{child_count, Links}
use Rattle.semantics.proofs.Theory.Starts.{Fit}
use Rattle.semantics.proofs.Theory.StartRelates.{first_core, start_relates}
use Rattle.semantics.proofs.Theory.ToSoundFrames.{inside, alive, children_is}
use Rattle.semantics.proofs.Theory.Viewed.{Viewed}
use Rattle.soundness.specs.Layout.{Layout}
use Rattle.semantics.proofs.Theory.Pools.{PoolLaws}

module _ (layout : Layout) (pools : PoolLaws layout) where
  module _ (workers : ℕ) (vs : List ℕ) (lent : List FrameRecord) (ws : List ℕ) (F : Fit layout workers vs lent ws) where
    abbrev L : List Frame
    L = live (start workers vs (whole_nodes layout ws) (length lent))

    abbrev at : Name → ℕ
    at = (start_relates layout pools workers vs lent ws F).at

    abbrev fs : List FrameRecord
    fs = init_frames lent

    -- Main lives, and no other frame
    main-lives : In (main vs) L
    main-lives = subst (λ (l : List Frame). In (main vs) l) (sym (live-start workers vs (whole_nodes layout ws) (length lent))) (here refl)

    is_main : (f : Frame) → In f L → f.name ≡ []
    is_main f m = ap (λ (z : Frame). z.name) (In-one (subst (λ (l : List Frame). In f l) (live-start workers vs (whole_nodes layout ws) (length lent)) m))

    -- "Main in place 0"
    main-place : at [] ≡ 0
    main-place = elim (ℕ_discrete (at []) 0) [
      | yes e ↦ e
      | no e ↦
          let free = init_free_lem lent F.places_positive F.places_le (at []) (omega arith) (omega (arith, length_init lent, inside layout (start_relates layout pools workers vs lent ws F) (main vs) main-lives)) in
          absurd (omega (arith, alive layout (start_relates layout pools workers vs lent ws F) (main vs) main-lives, ap (λ (z : FrameRecord). z.live) free))
    ]

    main_record : frame_at fs (at []) ≡ main_frame 0
    main_record = ap (frame_at fs) main-place ∙ init_main lent F.places_positive F.places_le

    no_children : Children fs (at []) []
    no_children = children_empty fs (at []) (omega (arith, length_init lent, F.places_le)) (children_is layout (start_relates layout pools workers vs lent ws F) (tree-start workers vs (whole_nodes layout ws) (length lent)) (main vs) main-lives ∙ ap (child_count []) (live-start workers vs (whole_nodes layout ws) (length lent)))

    pub start-links : Links (first_core layout workers vs lent ws).frames (start_relates layout pools workers vs lent ws F).at (live (start workers vs (whole_nodes layout ws) (length lent)))
    start-links = record {
      children = λ f m. ([], subst (λ (n : Name). Children fs (at n) []) (sym (is_main f m)) no_children);
      main-link = λ f m e. ap (λ (n : Name). (frame_at fs (at n)).younger) e ∙ ap (λ (z : FrameRecord). z.younger) main_record;
    }

    pub viewed_start : Viewed layout (start_relates layout pools workers vs lent ws F) views_at_start
    viewed_start = record {
      ordered = post_start workers vs (whole_nodes layout ws) (length lent);
      views = λ v m. subst (λ (u : View). (frame_at fs (at u.name)).view ≡ view_of u.folds) (sym (In-one m)) (ap (λ (z : FrameRecord). z.view) main_record);
      siblings = λ f m. rw (is_main f m) no_children;
      none_yet = λ f m. refl;
      totals = λ e. absurd (cons≢nil (sym (live-start workers vs (whole_nodes layout ws) (length lent)) ∙ e));
    }
