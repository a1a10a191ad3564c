-- "the parent resumes on this worker, past its sync": a frame that waits at its sync goes to a deque that is empty, as it is.
use Rattle.std.specs.Prelude.{◌≡◌, ℕ, ◌<◌, length}
use Rattle.std.proofs.Math.Path.{refl}
use Rattle.std.proofs.Common.{sym, ap, ◌∙◌, subst, inl, inr, length-set}
use mathlib.Core.List.Memᴰ.{append_cases as In-cases}
use mathlib.Core.List.Memᴰ.{append_left as In-left}
use mathlib.Core.List.Memᴰ.{append_right as In-right}
use mathlib.Core.List.Memᴰ.{cases_cons as In-cons}
use mathlib.Core.List.Memᴰ.{eq_of_singleton as In-one}
use mathlib.Core.List.{Memᴰ as In}
use mathlib.Core.List.Permᴰ
use mathlib.Core.List.{List, [], ◌∷◌, ◌++◌, Permᴰ}
use Rattle.words.specs.Basics.{joined}
use Rattle.words.specs.Lists.{In-perm, joined-set}
use Rattle.frames.specs.Frames.{frame_at, with_suspended}
use Rattle.frames.specs.Steps.{Table}
use Rattle.frames.specs.Steps.{resume as resumeTable}
use Rattle.frames.proofs.Theory.Tables.{After}
use Rattle.frames.proofs.Theory.Summary.{resume_does}
use Rattle.model.specs.Machine.{Name, Frame, Machine, live, deque, those, others}
use Rattle.model.specs.Steps.{waits_at_sync, resume}
use Rattle.model.proofs.Theory.Effects.{perm_those, resume-live}
use Rattle.model.proofs.Theory.DequeShape.{in_others}
use Rattle.semantics.specs.Core.{Core, table_of, with_table}
use Rattle.semantics.proofs.Theory.Relation.{Trees, TreeLaws, places_of, root_of, Recorded, Relates, Keeps}
use Rattle.semantics.proofs.Theory.Places.{placed_taken, same_numbers}
use Rattle.semantics.proofs.Theory.RelationFacts.{trees_perm, in_rest, lists_with, workers_le}
use Rattle.semantics.proofs.Theory.Stored.{Carried, carried, keeps_stored}
use Rattle.soundness.specs.Layout.{Layout}

module _ (layout : Layout) where
  -- g is the one suspended frame of the name p that waits at its sync
  module _ {P : Trees} {M : Machine} {c : Core} (r : Relates layout P M c) (w : ℕ) (lt : w < length M.deques) (idle : deque M w ≡ []) (g : Frame) (m : In g M.suspended)
      (one : those (waits_at_sync g.name) M.suspended ≡ g ∷ []) where
    abbrev p : Name
    p = g.name

    abbrev next : Machine
    next = resume M w p

    abbrev table : Table
    table = resumeTable (table_of c) w (r.at p)

    lives : In g (live M)
    lives = In-left (joined M.deques) m

    does : After (table_of c) table w (r.at p ∷ []) r.gs (r.at p ∷ []) × (frame_at table.frames (r.at p) ≡ with_suspended (frame_at c.frames (r.at p)) 0)
    does =
        resume_does (table_of c) w (r.at p) r.gs r.formed (workers_le layout r lt) (r.deques w (workers_le layout r lt) ∙ ap (places_of r.at) idle) (r.waiting g m).inside
        (placed_taken layout r g lives)

    abbrev R : List Frame
    R = others (waits_at_sync p) M.suspended ++ joined M.deques

    before : Permᴰ (live M) (g ∷ R)
    before = subst (λ (z : List Frame). Permᴰ (live M) (z ++ R)) one (perm_those (waits_at_sync p) M.suspended (joined M.deques))

    afterwards : Permᴰ (g ∷ R) (live next)
    afterwards = Permᴰ.trans (Permᴰ.symm before) (resume-live M w p lt idle)

    carries : Carried layout r next table.frames g g R 0 (root_of c.frames r.at g)
    carries =
        carried layout r next table.frames g g R 0 (root_of c.frames r.at g) (frame_at c.frames (r.at p)).returning refl (r.waiting g m).returning does.0.same_length before afterwards does.1 (λ z n. does.0.records z (n, tt))

    same_root : (f : Frame) → In f (g ∷ R) → root_of table.frames r.at f ≡ root_of c.frames r.at f
    same_root f i = elim (In-cons i) [
      | inl z ↦ subst (λ (h : Frame). root_of table.frames r.at h ≡ root_of c.frames r.at h) (sym z) carries.own_root
      | inr j ↦ carries.other_root f j
    ]

    pub resumes-frame : TreeLaws layout c.head.numbers.nodes M.splitters P → Relates layout P next (with_table c table)
    resumes-frame laws = record {
      at = r.at;
      gs = r.gs;
      numbers = same_numbers M c (with_table c table) next.deques next.suspended (length-set M.deques w (those (waits_at_sync p) M.suspended)) r.numbers refl refl refl refl refl does.0.same_length;
      formed = does.0.formed;
      deques = lists_with r.at table.deques M.deques w (those (waits_at_sync p) M.suspended) lt (does.0.deque ∙ ap (places_of r.at) (sym one)) (λ u h n. does.0.deques u h n ∙ r.deques u h);
      running = λ f i. elim (In-cases (those (waits_at_sync p) M.suspended) (In-perm (joined-set M.deques w (those (waits_at_sync p) M.suspended) lt) i)) [
        | inl j ↦ subst (λ (h : Frame). Recorded table.frames r.at (live next) 0 h) (sym (In-one (subst (λ (z : List Frame). In f z) one j))) (carries.own_record 1 (r.waiting g m))
        | inr j ↦ (let k = in_rest M.deques w j in carries.other_record 0 f (In-right (others (waits_at_sync p) M.suspended) k) (r.running f k))
      ];
      waiting = λ f i. carries.other_record 1 f (In-left (joined M.deques) i) (r.waiting f (in_others (waits_at_sync p) M.suspended f i).0);
      once = carries.once;
      vacant = carries.vacant;
      totals = carries.totals;
      trees = trees_perm layout table.frames r.at laws afterwards (rw (carries.other_roots, carries.own_root) (trees_perm layout c.frames r.at laws before r.trees));
      values = λ f i x h. (let k = In-perm (Permᴰ.symm afterwards) i in rw (same_root f k) (r.values f (In-perm (Permᴰ.symm before) k) x h));
    }

    pub resumes_keeps : (laws : TreeLaws layout c.head.numbers.nodes M.splitters P) → Keeps layout r (resumes-frame laws)
    unfolding resumes-frame
    resumes_keeps laws = keeps_stored layout r (resumes-frame laws) (λ n. refl) refl carries
