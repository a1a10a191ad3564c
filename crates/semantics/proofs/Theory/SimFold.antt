-- R-5: a fold stores the bottom frame's view, and nothing else.
use Rattle.std.specs.Prelude.{◌≡◌, refl, ◌≢◌, List, ◌∷◌, ℕ, ◌<◌, length}
use Rattle.std.proofs.Common.{sym, ◌∙◌, subst}
use Rattle.std.proofs.Math.Path.{ap}
use mathlib.Core.List.{Memᴰ as In}
use Rattle.std.proofs.Math.Decide.{ℕ_discrete}
use Rattle.reducers.specs.Reducers.{fold_view}
use Rattle.frames.specs.declared.Frame.{Frame as FrameRecord}
use Rattle.frames.specs.Frames.{frame_at, with_view}
use Rattle.frames.specs.Siblings.{younger}
use Rattle.frames.specs.Steps.{fold as foldTable}
use Rattle.frames.proofs.Theory.Records.{frame-set-same, frame-set_other}
use Rattle.frames.proofs.Theory.Alike.{Alike, fold_alike}
use Rattle.model.specs.Machine.{Name, Frame, Machine, live, deque}
use Rattle.model.specs.Steps.{fold, acting, after_turn, turn_answer}
use Rattle.model.proofs.Theory.Effects.{Passes, acts}
use Rattle.semantics.specs.Answers.{answer_words}
use Rattle.semantics.specs.Core.{Core, table_of, fold_on}
use Rattle.semantics.proofs.Theory.Relation.{Trees, Relates, Links}
use Rattle.semantics.proofs.Theory.Places.{acting-place, acting_record}
use Rattle.semantics.proofs.Theory.LinksKept.{links_kept}
use Rattle.semantics.proofs.Theory.AlikeTables.{with_frame_table, relates_alike}
use Rattle.soundness.specs.Layout.{Layout}

module _ (layout : Layout) where
  -- what a fold of x into reducer i leaves of the places and records: q folded
  pub record Folds {P : Trees} {M M' : Machine} {c c' : Core} (r : Relates layout P M c) (r' : Relates layout P M' c') (q : Frame) (i x : ℕ) : Type 0 where
    pub same_machine : M' ≡ M
    pub places_kept : (n : Name) → r'.at n ≡ r.at n
    pub alike : Alike c.frames c'.frames
    pub link : (p : ℕ) → younger c'.frames p ≡ younger c.frames p
    pub own : (frame_at c'.frames (r.at q.name)).view ≡ fold_view (frame_at c.frames (r.at q.name)).view i x
    pub others : (p : ℕ) → p ≢ r.at q.name → (frame_at c'.frames p).view ≡ (frame_at c.frames p).view
    pub same_totals : c'.totals ≡ c.totals

  module _ {P : Trees} {M : Machine} {c : Core} (r : Relates layout P M c) (w i x : ℕ) (q : Frame) (d : List Frame) (lt : w < length M.deques) (e : deque M w ≡ q ∷ d) where
    abbrev p : ℕ
    p = r.at q.name

    abbrev after : List FrameRecord
    after = (foldTable (table_of c) w i x).frames

    own : frame_at after p ≡ with_view (frame_at c.frames p) (fold_view (frame_at c.frames p).view i x)
    unfolding foldTable
    own = rw (acting-place layout r w q d lt e) (frame-set-same c.frames p _ (acting_record layout r w q d lt e).inside)

    other : (y : ℕ) → y ≢ p → frame_at after y ≡ frame_at c.frames y
    unfolding foldTable
    other y n = rw (acting-place layout r w q d lt e) (frame-set_other c.frames p y _ n)

    alike : Alike c.frames after
    alike =
        fold_alike (table_of c) w i x (subst (λ (y : ℕ). y < length c.frames) (sym (acting-place layout r w q d lt e)) (acting_record layout r w q d lt e).inside)
        (ap (λ (y : ℕ). (frame_at c.frames y).live) (acting-place layout r w q d lt e) ∙ (acting_record layout r w q d lt e).live)

    same-link : (y : ℕ) → younger after y ≡ younger c.frames y
    same-link y = elim (ℕ_discrete y p) [
      | yes z ↦ ap (younger after) z ∙ ap (λ (f : FrameRecord). f.younger) own ∙ ap (younger c.frames) (sym z)
      | no z ↦ ap (λ (f : FrameRecord). f.younger) (other y z)
    ]

    related : Relates layout P M (with_frame_table c after)
    related = relates_alike layout r after alike

    folds : Folds r related q i x
    unfolding related
    folds = record {
      same_machine = refl;
      places_kept = λ n. refl;
      alike = alike;
      link = same-link;
      own = ap (λ (f : FrameRecord). f.view) own;
      others = λ y n. ap (λ (f : FrameRecord). f.view) (other y n);
      same_totals = refl;
    }

  pub fold-links : {P : Trees} {M M' : Machine} {c c' : Core} {r : Relates layout P M c} {r' : Relates layout P M' c'} {q : Frame} {i x : ℕ} → Folds r r' q i x → Links c.frames r.at (live M) → Links c'.frames r'.at (live M')
  fold-links {M = M} {M' = M'} {c = c} {c' = c'} {r = r} {r' = r'} F =
      links_kept c.frames c'.frames F.alike.same_length (λ y. (F.alike.same y).live) (λ y. (F.alike.same y).parent) F.link r.at r'.at (live M) (live M') F.places_kept
      (λ f m. (f, subst (λ (N : Machine). In f (live N)) F.same_machine m, refl))

  pub sim_fold : (P : Trees) (M : Machine) (c : Core) (w i x : ℕ) → (h : Passes M (acting w (fold i x))) → (r : Relates layout P M c)
      → (r' : Relates layout P (after_turn M (acting w (fold i x))) (fold_on c w i x).core) × Folds r r' (acts M w (fold i x) h).actor i x × (answer_words (fold_on c w i x).answer ≡ turn_answer M (acting w (fold i x)))
  unfolding fold_on
  sim_fold P M c w i x h r =
      let a = acts M w (fold i x) h in
      rw a.at (related r w i x a.actor a.above a.worker a.at, folds r w i x a.actor a.above a.worker a.at, refl)
