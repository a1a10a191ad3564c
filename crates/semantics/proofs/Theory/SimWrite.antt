-- A write gives the bottom frame a new tree; "Write alters one place of the bottom frame's list".
use Rattle.std.specs.Prelude.{◌≡◌, ◌≢◌, ℕ, ◌≤◌, ◌<◌, length, get_or, set, Ok}
use Rattle.std.proofs.Math.Path.{refl}
use Rattle.std.proofs.Common.{sym, ap, ◌∙◌, subst, inl, inr, arith, length-set, get_or-set_same, get_or-set_other}
use mathlib.Core.List.Memᴰ.{append_cases as In-cases}
use mathlib.Core.List.Memᴰ.{append_left as In-left}
use mathlib.Core.List.Memᴰ.{append_right as In-right}
use mathlib.Core.List.Memᴰ.{cases_cons as In-cons}
use mathlib.Core.List.Memᴰ.{tail as there}
use mathlib.Core.List.{Memᴰ as In}
use mathlib.Core.List.Memᴰ
use mathlib.Core.List.Permᴰ
use mathlib.Core.List.{List, [], ◌∷◌, ◌++◌, cons≢nil, Permᴰ}
use Rattle.std.proofs.Math.Decide.{ℕ_discrete}
use Rattle.std.proofs.lemmas.List.{length-map}
use Rattle.words.specs.Basics.{joined}
use Rattle.words.specs.Lists.{In-perm, perm_length, joined-set}
use Rattle.sizes.specs.Sizes.{height}
use Rattle.frames.specs.Widths.{max_places}
use Rattle.frames.specs.declared.Frame.{Frame as FrameRecord}
use Rattle.frames.specs.Frames.{frame_at, set_frame, with_root}
use Rattle.frames.proofs.Theory.Records.{length-set_frame, frame-set-same, frame-set_other}
use Rattle.frames.proofs.Theory.Places.{free_elsewhere}
use Rattle.model.specs.History.{History}
use Rattle.model.specs.Machine.{Frame, Machine, live, deque, with_deque}
use Rattle.model.specs.Steps.{write, acting, written, after_turn}
use Rattle.model.proofs.Theory.Effects.{Passes, acts, rest, live_at_lem, live_with}
use Rattle.model.proofs.Theory.FreshMarks.{MarkInvariant, mark-fresh}
use Rattle.model.proofs.Theory.Bounds.{Bounded}
use Rattle.semantics.specs.declared.Done.TheVariants.{Written}
use Rattle.semantics.specs.Answers.{answer_words}
use Rattle.semantics.specs.Core.{Core, StepResult, step_result, with_free_nodes, write_on}
use Rattle.semantics.proofs.Theory.Relation.{Trees, Kept, Fresh, event, TreeLaws, root_of, roots_of, Recorded, Relates, Keeps}
use Rattle.semantics.proofs.Theory.Places.{placed_inside, placed_taken, tree_of, same_numbers, acting-deque, acting-place, acting_record}
use Rattle.semantics.proofs.Theory.RelationFacts.{trees_perm, in_rest, lists_with, bottom-lives, above_runs}
use Rattle.semantics.proofs.Theory.Stored.{Carried, carried, keeps_stored}
use Rattle.soundness.specs.Layout.{Layout}

module _ (layout : Layout) where
  module _ (P : Trees) (M : Machine) (c : Core) (w x v : ℕ) (q : Frame) (d : List Frame) (lt : w < length M.deques) (e : deque M w ≡ q ∷ d) (r : Relates layout P M c) where
    abbrev root : ℕ
    root = root_of c.frames r.at q

    -- the new pool, first free node, number of free nodes and root
    abbrev after : List ℕ × ℕ × ℕ × ℕ
    after = layout.write (height M.splitters) c.pool c.head.numbers.free_node c.head.free_count root x v

    abbrev new_record : FrameRecord
    new_record = with_root (frame_at c.frames (r.at q.name)) after.3

    abbrev new_frames : List FrameRecord
    new_frames = set_frame c.frames (r.at q.name) new_record

    abbrev new_did : StepResult
    new_did = step_result (with_free_nodes c.head after.1 after.2) c.totals c.deques new_frames after.0 (Ok (Written after.2))

    write_is : write_on layout c w x v ≡ new_did
    unfolding write_on
    write_is =
        rw (acting-place layout r w q d lt e)
        (ap (λ (h : ℕ). let p = layout.write h c.pool c.head.numbers.free_node c.head.free_count root x v in
        step_result (with_free_nodes c.head p.1 p.2) c.totals c.deques (set_frame c.frames (r.at q.name) (with_root (frame_at c.frames (r.at q.name)) p.3)) p.0 (Ok (Written p.2))) r.numbers.height_is)

    abbrev others : List Frame
    others = d ++ rest M w

    abbrev next : Machine
    next = with_deque M w (written q x v ∷ d)

    before : Permᴰ (live M) (q ∷ others)
    before = live_at_lem M w (q ∷ d) lt e

    afterwards : Permᴰ (written q x v ∷ others) (live next)
    afterwards = Permᴰ.symm (live_with M w (written q x v ∷ d) lt)

    q_lives : In q (live M)
    q_lives = bottom-lives layout r w q d e

    -- ---- the record

    carries : Carried layout r next new_frames q (written q x v) others new_record.suspended after.3
    carries =
        carried layout r next new_frames q (written q x v) others new_record.suspended after.3 new_record.returning refl (acting_record layout r w q d lt e).returning
        (length-set_frame c.frames (r.at q.name) new_record) before afterwards
        (frame-set-same c.frames (r.at q.name) new_record (placed_inside layout r q q_lives))
        (λ p n. frame-set_other c.frames (r.at q.name) p new_record n)

    recorded : Recorded new_frames r.at (live next) 0 (written q x v)
    recorded =
        let k = acting_record layout r w q d lt e in
        subst (λ (z : ℕ). Recorded new_frames r.at (live next) z (written q x v)) k.suspended (carries.own_record 0 k)

    -- ---- the tree

    pub fresh : MarkInvariant (live M) → Fresh (length q.history ∷ q.name) (roots_of c.frames r.at (q ∷ others))
    fresh marks F m v mv =
        let o = Memᴰ.of_map (tree_of c.frames r.at) (q ∷ others) m in
        mark-fresh (live M) marks q o.0 q_lives (In-perm (Permᴰ.symm before) o.1) v (subst (λ (z : ℕ × History). In v z.1) (sym o.2) mv)

    module _ (laws : TreeLaws layout c.head.numbers.nodes M.splitters P) (marks : MarkInvariant (live M)) (bounds : Bounded M.splitters M.places (live M)) (below : x < M.splitters)
        (room : layout.rest (height M.splitters) c.pool root x ≤ c.head.free_count) where
      few : length (roots_of c.frames r.at others) < max_places
      few = omega (arith, length-map others (tree_of c.frames r.at), perm_length before, bounds.0, r.numbers.table, r.formed.few)

      law : P after.0 after.1 after.2 ((after.3, event x (length q.history ∷ q.name) ∷ q.history) ∷ roots_of c.frames r.at others)
          × Kept layout (height M.splitters) M.splitters c.pool after.0 (roots_of c.frames r.at others)
          × (layout.read (height M.splitters) after.0 after.3 x ≡ v)
          × ((y : ℕ) → y < M.splitters → y ≢ x → layout.read (height M.splitters) after.0 after.3 y ≡ layout.read (height M.splitters) c.pool root y)
      law = laws.write c.pool c.head.numbers.free_node c.head.free_count root q.history (roots_of c.frames r.at others) x v (length q.history ∷ q.name) few below room
          cons≢nil (fresh marks) (trees_perm layout c.frames r.at laws before r.trees)

      -- ---- what each frame reads

      new_value : (y : ℕ) → y < M.splitters → layout.read (height M.splitters) after.0 (root_of new_frames r.at (written q x v)) y ≡ get_or (set q.values x v) y 0
      new_value y h = rw carries.own_root (elim (ℕ_discrete y x) [
        | yes z ↦ rw z (law.2 ∙ sym (get_or-set_same q.values x v 0 (rw (bounds.1 q q_lives).values below)))
        | no z ↦ law.3 y h z ∙ r.values q q_lives y h ∙ sym (get_or-set_other q.values x y v 0 z)
      ])

      old_value : (f : Frame) → In f others → (y : ℕ) → y < M.splitters → layout.read (height M.splitters) after.0 (root_of new_frames r.at f) y ≡ get_or f.values y 0
      old_value f m y h =
          rw (carries.other_root f m)
          (law.1 (tree_of c.frames r.at f) (Memᴰ.map (tree_of c.frames r.at) m) y h
          ∙ r.values f (In-perm (Permᴰ.symm before) (there m)) y h)

      related : Relates layout P next new_did.core
      related = record {
        at = r.at;
        gs = r.gs;
        numbers = same_numbers M c new_did.core next.deques M.suspended (length-set M.deques w (written q x v ∷ d)) r.numbers refl refl refl refl refl (length-set_frame c.frames (r.at q.name) new_record);
        formed = record {
          shaped = r.formed.shaped;
          few = omega (arith, length-set_frame c.frames (r.at q.name) new_record, r.formed.few);
          places = free_elsewhere c.frames c.head.numbers.free_place (r.at q.name) r.gs (placed_taken layout r q q_lives) r.formed.places new_record;
        };
        deques = lists_with r.at c.deques M.deques w (written q x v ∷ d) lt (acting-deque layout r w q d lt e) (λ u h n. r.deques u h);
        running = λ f m. elim (In-cases (written q x v ∷ d) (In-perm (joined-set M.deques w (written q x v ∷ d) lt) m)) [
          | inl i ↦ elim (In-cons i) [
            | inl z ↦ subst (λ (g : Frame). Recorded new_frames r.at (live next) 0 g) (sym z) recorded
            | inr j ↦ carries.other_record 0 f (In-left (rest M w) j) (r.running f (above_runs layout r w q d e f j))
          ]
          | inr i ↦ carries.other_record 0 f (In-right d (In-right M.suspended i)) (r.running f (in_rest M.deques w i))
        ];
        waiting = λ f m. carries.other_record 1 f (In-right d (In-left (joined (set M.deques w [])) m)) (r.waiting f m);
        once = carries.once;
        vacant = carries.vacant;
        totals = carries.totals;
        trees = trees_perm layout new_frames r.at laws afterwards (rw (carries.other_roots, carries.own_root) law.0);
        values = λ f m y h. elim (In-cons (In-perm (Permᴰ.symm afterwards) m)) [
          | inl z ↦ subst (λ (g : Frame). layout.read (height M.splitters) after.0 (root_of new_frames r.at g) y ≡ get_or g.values y 0) (sym z) (new_value y h)
          | inr i ↦ old_value f i y h
        ];
      }

      related_keeps : Keeps layout r related
      unfolding related
      related_keeps = keeps_stored layout r related (λ n. refl) refl carries

  pub sim_write : (P : Trees) (M : Machine) (c : Core) (w x v : ℕ) → TreeLaws layout c.head.numbers.nodes M.splitters P → MarkInvariant (live M) → Bounded M.splitters M.places (live M)
      → (h : Passes M (acting w (write x v))) (r : Relates layout P M c) → layout.rest (height M.splitters) c.pool (root_of c.frames r.at (acts M w (write x v) h).actor) x ≤ c.head.free_count
      → (r' : Relates layout P (after_turn M (acting w (write x v))) (write_on layout c w x v).core) × Keeps layout r r' × (answer_words (write_on layout c w x v).answer ≡ (106, (write_on layout c w x v).core.head.free_count))
  sim_write P M c w x v laws marks bounds h r room =
      let a = acts M w (write x v) h in
      rw (a.at, write_is P M c w x v a.actor a.above a.worker a.at r) (
        related P M c w x v a.actor a.above a.worker a.at r laws marks bounds a.allowed.0 room,
        related_keeps P M c w x v a.actor a.above a.worker a.at r laws marks bounds a.allowed.0 room,
        refl,
      )
