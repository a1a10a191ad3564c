-- The engine refuses as the plain machine does: each of its tests is the plain machine's test of that number.
use Rattle.std.specs.Prelude.{◌≡◌, Bool, true, false, not, ◌||◌, ℕ, zero, suc, ◌+◌, ◌*◌, ◌≤◌, ◌<◌, get_or, eqb, ltb, Err}
use Rattle.std.proofs.Math.Path.{refl, sym, ap}
use Rattle.std.proofs.Common.{ap₂, ◌∙◌, subst, inl, inr, arith, eq-eqb, ne_eqb}
use mathlib.Core.List.Memᴰ.{append_cases as In-cases}
use mathlib.Core.List.Memᴰ.{append_right as In-right}
use mathlib.Core.List.Memᴰ.{head as here}
use mathlib.Core.List.Memᴰ.{not-nil as not-in-nil}
use mathlib.Core.List.Memᴰ.{of_map as In-unmap}
use mathlib.Core.List.{Memᴰ as In}
use mathlib.Core.List.{List, [], ◌∷◌, ◌++◌}
use Rattle.std.proofs.Math.Decide.{dec_lt}
use Rattle.std.proofs.Math.ListN.{length, length-map, get_or-eq_default}
use Rattle.words.specs.Basics.{none, joined}
use Rattle.words.specs.Tests.{decided, true≢false, ltb_of, nltb_of, lt_of, ge_of, not-false}
use Rattle.words.specs.Counting.{δ_same, count, count_nil, count_cons, sum_zero, sum_ge, all_at, all_of}
use Rattle.sizes.specs.Sizes.{height}
use Rattle.frames.specs.declared.Frame.{Frame as FrameRecord}
use Rattle.frames.specs.Widths.{deque_stride}
use Rattle.frames.specs.Deques.{size}
use Rattle.frames.proofs.Theory.Lists.{list_length}
use Rattle.frames.proofs.Theory.Places.{FreePlaces}
use Rattle.model.specs.declared.Step.{Step}
use Rattle.model.specs.declared.Step.TheVariants.{Spawn, Return, Steal, Sync, Read, Write, Fold}
use Rattle.model.specs.Machine.{Frame, Machine, live, deque, is_empty, in_use}
use Rattle.model.specs.Steps.{Action, spawn, return, sync, read, write, fold, acting, turn_of, written, after_write, first_true, not_below, action_tests, turn_tests, refusal}
use Rattle.model.specs.Steps.{no_worker as missing}
use Rattle.model.proofs.Theory.Children.{has_child_In}
use Rattle.model.proofs.Theory.FrameTree.{FrameTree}
use Rattle.model.proofs.Theory.DequeShape.{DequeInvariant}
use Rattle.model.proofs.Theory.Effects.{Passes, acts, live_with, is_empty_nil, there_is_worker}
use Rattle.model.proofs.Theory.Histories.{in_use_perm}
use Rattle.semantics.specs.declared.Refusal.{Refusal}
use Rattle.semantics.specs.declared.Refusal.TheVariants.{Values, Workers, Nodes, Tape, Work, Unsound, Record, NoWorker, MainReturned, WorkerIdle, ThiefBusy, NoVictim, FramesFull, NoSplitter, PoolFull, Blocks, BlockCheck, Target, NoReducer, Places, Span, Lengths}
use Rattle.semantics.specs.Answers.{refusal_number}
use Rattle.semantics.specs.Core.{Core, StepResult, acting_in, idle, no_worker, all_idle, judged, acting_tests, step_on, tests_of, done_by, kind_tests}
use Rattle.semantics.proofs.Theory.Relation.{Trees, places_of, root_of, Relates}
use Rattle.semantics.proofs.Theory.Places.{in_deque_lem, sum-count, all_once, depth_few, placed_inside, acting-frame}
use Rattle.soundness.specs.Layout.{Layout}

-- ---- two lists of tests

-- in order, as far as none before holds, the tests are equal, and their numbers
abbrev pub Alike : List (Bool × Refusal) → List (Bool × ℕ) → Type 0
Alike [] [] = Unit {0}
Alike [] (u ∷ us) = ⊥
Alike (t ∷ ts) [] = ⊥
Alike (t ∷ ts) (u ∷ us) = (t.0 ≡ u.0) × (refusal_number t.1 ≡ u.1) × (u.0 ≡ false → Alike ts us)

module _ (layout : Layout) where
  -- 16 alike: by the rest of the path here, by the count of nodes there
  abbrev pub SameRoom : Machine → Core → Step → Type 0
  SameRoom M c (Spawn w) = Unit {0}
  SameRoom M c (Return w) = Unit {0}
  SameRoom M c (Steal w v) = Unit {0}
  SameRoom M c (Sync w) = Unit {0}
  SameRoom M c (Read w x) = Unit {0}
  SameRoom M c (Fold w x v) = Unit {0}
  SameRoom M c (Write w x v) = (q : Frame) (d : List Frame) → w < length M.deques → deque M w ≡ q ∷ d → x < M.splitters →
      ltb c.head.free_count (layout.rest c.head.height c.pool (acting_in c w).root x) ≡ ltb M.nodes (in_use M.splitters (live (after_write M w q d x v)))

abbrev pub refused_by : Core → Refusal → StepResult
refused_by c r = record { core = c; answer = Err r }

-- the numbers are 1 to 21, and 99
pub number_range : (r : Refusal) → (0 < refusal_number r) × (refusal_number r ≤ 99)
number_range Values = omega arith
number_range Workers = omega arith
number_range Nodes = omega arith
number_range Tape = omega arith
number_range Work = omega arith
number_range Unsound = omega arith
number_range Record = omega arith
number_range NoWorker = omega arith
number_range MainReturned = omega arith
number_range WorkerIdle = omega arith
number_range ThiefBusy = omega arith
number_range NoVictim = omega arith
number_range FramesFull = omega arith
number_range NoSplitter = omega arith
number_range PoolFull = omega arith
number_range Blocks = omega arith
number_range BlockCheck = omega arith
number_range Target = omega arith
number_range NoReducer = omega arith
number_range Places = omega arith
number_range Span = omega arith
number_range Lengths = omega arith

judged_passes : (ts : List (Bool × Refusal)) (us : List (Bool × ℕ)) (c : Core) (d : StepResult) → Alike ts us → first_true 0 us ≡ 0 → judged ts c d ≡ d
judged_passes [] [] c d a e = refl
judged_passes (t ∷ ts) (u ∷ us) c d a e = elim (decided u.0) [
  | inl s ↦ absurd (omega (arith, (number_range t.1).0, a.1, rw s at e))
  | inr s ↦ rw (a.0 ∙ s) (judged_passes ts us c d (a.2 s) (rw s at e))
]
judged_passes [] (u ∷ us) c d a e = elim a [ ]
judged_passes (t ∷ ts) [] c d a e = elim a [ ]

judged_refuses : (ts : List (Bool × Refusal)) (us : List (Bool × ℕ)) (c : Core) (d : StepResult) → Alike ts us → (k : ℕ) → first_true 0 us ≡ suc k
    → (r : Refusal) × (judged ts c d ≡ refused_by c r) × (refusal_number r ≡ suc k)
judged_refuses [] [] c d a k e = absurd (omega arith)
judged_refuses (t ∷ ts) (u ∷ us) c d a k e = elim (decided u.0) [
  | inl s ↦ (t.1, rw (a.0 ∙ s), a.1 ∙ (rw s at e))
  | inr s ↦ rw (a.0 ∙ s) (judged_refuses ts us c d (a.2 s) k (rw s at e))
]
judged_refuses [] (u ∷ us) c d a k e = elim a [ ]
judged_refuses (t ∷ ts) [] c d a k e = elim a [ ]

-- ---- lists and tests

empty_test : {A : Type 0} (l : List A) → eqb (length l) 0 ≡ is_empty l
empty_test [] = eq-eqb 0 0 refl
empty_test (x ∷ l) = ne_eqb (suc (length l)) 0 (λ e. omega arith)

-- each element of the lists joined stands in one of them
pub in_some : {A : Type 0} {h : A} (ds : List (List A)) → In h (joined ds) → (v : ℕ) × (v < length ds) × In h (get_or ds v [])
in_some [] m = absurd (not-in-nil m)
in_some (d ∷ ds) m = elim (In-cases d m) [
  | inl i ↦ (0, omega arith, i)
  | inr i ↦ (let x = in_some ds i in (suc x.0, omega (arith, x.1), x.2))
]

-- each number below N stands once in one of the two lists
module _ (N : ℕ) (gs ps : List ℕ) (once : (p : ℕ) → p < N → count p gs + count p ps ≡ 1) (inside : (p : ℕ) → In p ps → p < N) where
  none_free : gs ≡ [] → length ps ≡ N
  none_free e = omega (arith, all_once N gs ps once, sum-count N ps inside, sum_zero N (λ p. count p gs) (λ p b. ap (count p) e ∙ count_nil p))

  free_positive : (x : ℕ) (xs : List ℕ) → x < N → gs ≡ x ∷ xs → length ps < N
  free_positive x xs h e = omega (arith, all_once N gs ps once, sum-count N ps inside, sum_ge N x (λ p. count p gs) h, ap (count x) e, count_cons x x xs, δ_same x)

module _ (layout : Layout) where
  -- ---- single tests

  module _ {P : Trees} {M : Machine} {c : Core} (r : Relates layout P M c) where
    -- of every number, a worker's or not
    pub size_same : (w : ℕ) → size c.deques w ≡ length (deque M w)
    unfolding size
    size_same w = elim (dec_lt w 8) [
      | yes h ↦ sym (list_length c.deques w) ∙ ap length (r.deques w h) ∙ length-map (deque M w) (λ (f : Frame). r.at f.name)
      | no h ↦ get_or-eq_default c.deques 0 {n = deque_stride * w} (omega (arith, r.formed.shaped.long))
          ∙ sym (ap length (get_or-eq_default M.deques [] {n = w} (omega (arith, r.numbers.workers_le))))
    ]

    pub idle-same : (w : ℕ) → idle c w ≡ is_empty (deque M w)
    idle-same w = ap (λ (n : ℕ). eqb n 0) (size_same w) ∙ empty_test (deque M w)

    pub worker_same : (w : ℕ) → no_worker c w ≡ missing M w
    worker_same w = ap (λ (n : ℕ). not (ltb w n)) r.numbers.workers

    pub splitter_same : (x : ℕ) → not (ltb x c.head.numbers.splitters) ≡ not_below x M.splitters
    splitter_same x = ap (λ (n : ℕ). not (ltb x n)) r.numbers.splitters

    pub victim_same : (v : ℕ) → no_worker c v || ltb (size c.deques v) 2 ≡ missing M v || ltb (length (deque M v)) 2
    victim_same v = ap₂ ◌||◌ (worker_same v) (ap (λ (n : ℕ). ltb n 2) (size_same v))

    -- ---- no place is free

    placed : (p : ℕ) → In p (places_of r.at (live M)) → p < length c.frames
    placed p m = let u = In-unmap (λ (f : Frame). r.at f.name) (live M) m in omega (arith, placed_inside layout r u.0 u.1, u.2)

    full : (gs : List ℕ) → r.gs ≡ gs → eqb c.head.numbers.free_place none ≡ not_below (length (live M)) (length c.frames)
    full [] e =
        let z : c.head.numbers.free_place ≡ none = subst (λ (g : List ℕ). FreePlaces c.frames c.head.numbers.free_place g) e r.formed.places in
        let many : length c.frames ≤ length (live M) = omega (arith, none_free (length c.frames) r.gs (places_of r.at (live M)) r.once placed e, length-map (live M) (λ (f : Frame). r.at f.name)) in
        eq-eqb c.head.numbers.free_place none z ∙ sym (ap not (nltb_of many))
    full (g ∷ gs) e =
        let z = subst (λ (l : List ℕ). FreePlaces c.frames c.head.numbers.free_place l) e r.formed.places in
        let few : length (live M) < length c.frames = omega (arith, free_positive (length c.frames) r.gs (places_of r.at (live M)) r.once placed g gs z.1 e, length-map (live M) (λ (f : Frame). r.at f.name)) in
        ne_eqb c.head.numbers.free_place none (λ n. omega (arith, z.0, z.1, r.formed.few)) ∙ sym (ap not (ltb_of few))

    pub vacant-same : eqb c.head.numbers.free_place none ≡ not_below (length (live M)) M.places
    vacant-same = full r.gs refl ∙ ap (not_below (length (live M))) (sym r.numbers.table)

    -- ---- Main has returned

    module _ (tree : FrameTree M) (shape : DequeInvariant M) where
      -- with all workers idle each live frame is suspended, and has a live child
      deeper : ((g : Frame) → In g (live M) → In g M.suspended) → (n : ℕ) (f : Frame) → In f (live M) → (g : Frame) × In g (live M) × (n ≤ length g.name)
      deeper waits zero f m = (f, m, omega arith)
      deeper waits (suc n) f m =
          let x = deeper waits n f m in
          let y = has_child_In x.0.name (live M) (shape.waits x.0 (waits x.0 x.1)) in
          (y.0, y.1, omega (arith, ap length y.3, x.2))

      not_all-idle : (f : Frame) → In f (live M) → all_idle c ≡ true → ⊥
      not_all-idle f m s =
          let x = deeper waits (length (live M)) f m in
          omega (arith, x.2, depth_few (live M) tree.rooted x.0 x.1)
        where
          none_runs : (g : Frame) → In g (joined M.deques) → ⊥
          none_runs g i =
              let x = in_some M.deques i in
              let empty = sym (idle-same x.0) ∙ all_at c.head.numbers.workers (idle c) s x.0 (rw r.numbers.workers x.1) in
              not-in-nil (subst (λ (d : List Frame). In g d) (is_empty_nil (deque M x.0) empty) x.2)

          waits : (g : Frame) → In g (live M) → In g M.suspended
          waits g i = elim (In-cases M.suspended i) [ inl j ↦ j | inr j ↦ absurd (none_runs g j) ]

      pub ended_same : all_idle c ≡ is_empty (live M)
      ended_same = go (live M) refl
        where
          no_frame : (w : ℕ) → live M ≡ [] → (d : List Frame) → deque M w ≡ d → is_empty d ≡ true
          no_frame w e [] z = refl
          no_frame w e (f ∷ d) z =
              absurd (not-in-nil (subst (λ (L : List Frame). In f L) e (In-right M.suspended (in_deque_lem M.deques w (subst (λ (y : List Frame). In f y) (sym z) (here refl))))))

          go : (L : List Frame) → live M ≡ L → all_idle c ≡ is_empty L
          go [] e = all_of c.head.numbers.workers (idle c) (λ w b. idle-same w ∙ no_frame w e (deque M w) refl)
          go (f ∷ L) e = elim (decided (all_idle c)) [ inl s ↦ absurd (not_all-idle f (subst (λ (K : List Frame). In f K) (sym e) (here refl)) s) | inr s ↦ s ]

      -- ---- all tests of a step

      acting_alike : (w : ℕ) (a : Action) (ts : List (Bool × Refusal)) → ((q : Frame) (d : List Frame) → w < length M.deques → deque M w ≡ q ∷ d → Alike ts (action_tests M w (q ∷ d) a))
          → Alike (acting_tests c w ++ ts) (turn_tests M (acting w a))
      acting_alike w a ts h = (worker_same w, refl, λ x. (ended_same, refl, λ y. (idle-same w, refl, go (deque M w) refl)))
        where
          go : (d : List Frame) → deque M w ≡ d → is_empty (deque M w) ≡ false → Alike ts (action_tests M w d a)
          go [] e i = absurd (true≢false (rw e at i))
          go (q ∷ d) e i = h q d (there_is_worker M w (omega (arith, ap length e))) e

  -- a write that the plain machine does not refuse has the nodes that it takes
  pub enough : {P : Trees} {M : Machine} {c : Core} (r : Relates layout P M c) (w x v : ℕ) → SameRoom layout M c (Write w x v) → (h : Passes M (acting w (write x v)))
      → layout.rest (height M.splitters) c.pool (root_of c.frames r.at (acts M w (write x v) h).actor) x ≤ c.head.free_count
  enough {P} {M} {c} r w x v same h =
      let a = acts M w (write x v) h in
      let few = subst (λ (k : ℕ). k ≤ M.nodes) (sym (in_use_perm M.splitters (live_with M w (written a.actor x v ∷ a.above) a.worker))) a.allowed.1 in
      let room = ge_of (same a.actor a.above a.worker a.at a.allowed.0 ∙ nltb_of few) in
      subst (λ (t : ℕ). layout.rest t c.pool (root_of c.frames r.at a.actor) x ≤ c.head.free_count) r.numbers.height_is
      (subst (λ (f : FrameRecord). layout.rest c.head.height c.pool f.root x ≤ c.head.free_count) (acting-frame layout r w a.actor a.above a.worker a.at) room)

  pub step-judged : (c : Core) (st : Step) → step_on layout c st ≡ judged (tests_of layout c st) c (done_by layout c st)
  unfolding step_on
  step-judged c st = refl

  module _ {P : Trees} {M : Machine} {c : Core} (r : Relates layout P M c) (tree : FrameTree M) (shape : DequeInvariant M) where
    alike : (st : Step) → SameRoom layout M c st → Alike (tests_of layout c st) (turn_tests M (turn_of st))
    alike (Spawn w) same = acting_alike r tree shape w spawn (kind_tests layout c (Spawn w)) (λ q d lt e. (vacant-same r, refl, λ x. tt))
    alike (Return w) same = acting_alike r tree shape w return [] (λ q d lt e. tt)
    alike (Steal w v) same = (worker_same r w, refl, λ x. (ended_same r tree shape, refl, λ y. (ap not (idle-same r w), refl, λ z. (victim_same r v, refl, λ u. tt))))
    alike (Sync w) same = acting_alike r tree shape w sync [] (λ q d lt e. tt)
    alike (Read w x) same = acting_alike r tree shape w (read x) (kind_tests layout c (Read w x)) (λ q d lt e. (splitter_same r x, refl, λ y. tt))
    alike (Write w x v) same =
        acting_alike r tree shape w (write x v) (kind_tests layout c (Write w x v))
        (λ q d lt e. (splitter_same r x, refl, λ y. (same q d lt e (lt_of (not-false _ y)), refl, λ z. tt)))
    alike (Fold w i x) same = acting_alike r tree shape w (fold i x) (kind_tests layout c (Fold w i x)) (λ q d lt e. (refl, refl, λ y. tt))

    pub refused_alike : (st : Step) → SameRoom layout M c st
        → (refusal M st ≡ 0 → step_on layout c st ≡ done_by layout c st)
        × ((k : ℕ) → refusal M st ≡ suc k → (o : Refusal) × (step_on layout c st ≡ record { core = c; answer = Err o }) × (refusal_number o ≡ suc k))
    unfolding refusal
    refused_alike st same = (
      λ e. step-judged c st ∙ judged_passes (tests_of layout c st) (turn_tests M (turn_of st)) c (done_by layout c st) (alike st same) e,
      λ k e. rw (step-judged c st) (judged_refuses (tests_of layout c st) (turn_tests M (turn_of st)) c (done_by layout c st) (alike st same) k e),
    )
