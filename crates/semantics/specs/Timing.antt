-- R-7: clocks beside a run of the engine, two words for each place of the frame table; work and span. Definitions only; every one is total.
use Rattle.model.specs.Record.{Decoded}
use Rattle.std.specs.Prelude.{Bool, false, cond, ◌&&◌, List, [], ◌∷◌, ℕ, zero, suc, ◌*◌, max, length, get_or, set, replicate, eqb, leb, None, Some}
use Rattle.words.specs.Basics.{none}
use Rattle.frames.specs.declared.Frame.{Frame}
use Rattle.frames.specs.Frames.{frame_at}
use Rattle.frames.specs.Deques.{bottom}
use Rattle.model.specs.declared.Step.{Step}
use Rattle.model.specs.declared.Step.TheVariants.{Spawn, Return, Steal, Sync, Read, Write, Fold}
use Rattle.semantics.specs.declared.Rise.{Rise}
use Rattle.semantics.specs.Answers.{answer_words}
use Rattle.semantics.specs.Core.{Core}
use Rattle.semantics.specs.Entries.{record_on}
use Rattle.soundness.specs.Layout.{Layout}

-- ---- the clock words ks: of the frame at place p its own clock, then the latest of its ended children's

abbrev pub own_clock : List ℕ → ℕ → ℕ
own_clock ks p = get_or ks (2 * p) 0

abbrev pub child_clock : List ℕ → ℕ → ℕ
child_clock ks p = get_or ks (suc (2 * p)) 0

-- "the latest of its own and its ended children's"
abbrev pub latest : List ℕ → ℕ → ℕ
latest ks p = max (own_clock ks p) (child_clock ks p)

-- "costs 1"
abbrev pub ticked : List ℕ → ℕ → List ℕ
ticked ks p = set ks (2 * p) (suc (own_clock ks p))

-- "A sync moves the clock to the latest of its own and its ended children's, counted when it passes, then adds 1"
abbrev pub passed : List ℕ → ℕ → List ℕ
passed ks p = set ks (2 * p) (suc (latest ks p))

-- a child of the frame at q has ended at the time t
abbrev pub heard : List ℕ → ℕ → ℕ → List ℕ
heard ks q t = set ks (suc (2 * q)) (max (child_clock ks q) t)

-- a spawn of the frame at p, whose child is at g. "A child's clock begins at its parent's after the spawn."
abbrev pub begun : List ℕ → ℕ → ℕ → List ℕ
begun ks p g = set (set (ticked ks p) (2 * g) (suc (own_clock ks p))) (suc (2 * g)) 0

-- ---- the ends of a return, from the table before it (Rise, src/lib.rt, has where they stop)

-- the frame f is suspended and waits for one child
abbrev pub waits_for_one : Frame → Bool
waits_for_one f = eqb f.suspended 1 && eqb f.outstanding 1

-- the frame at place p, of depth d, ends at the time t. "a return likewise waits but adds nothing": R-3, its parent, if it waits in its return for this child alone,
-- ends too, and so on upward
unfoldable pub rise : ℕ → List Frame → List ℕ → ℕ → ℕ → Rise
rise zero fs ks p t = record { place = none; passes = false; clock = t }
rise (suc d) fs ks p t =
    let q : ℕ = (frame_at fs p).parent in
    let f : Frame = frame_at fs q in
    let ends = rise d fs ks q (max (latest ks q) t) in
    let stops : Rise = record { place = q; passes = waits_for_one f; clock = t } in
    cond (waits_for_one f && eqb f.returning 1) ends stops

-- ---- clocks, work and span

pub record Timing : Type 0 where
  pub clocks : List ℕ
  -- "the sum of costs"
  pub work : ℕ
  -- "Main's clock at its return"; 0 before
  pub span : ℕ

-- over lent words, whatever they hold
abbrev pub timing_at_start : List ℕ → Timing
timing_at_start ks = record { clocks = replicate (length ks) 0; work = 0; span = 0 }

-- a step that "costs 1" leaves the clocks ks
abbrev pub costing : Timing → List ℕ → Timing
costing t ks = record { clocks = ks; work = suc t.work; span = t.span }

abbrev pub ended : Timing → Rise → Timing
ended t r =
    let ks = heard t.clocks r.place r.clock in
    let main : Timing = record { clocks = t.clocks; work = t.work; span = r.clock } in
    let other : Timing = record { clocks = cond r.passes (passed ks r.place) ks; work = t.work; span = t.span } in
    cond (eqb r.place none) main other

-- the ends that the return of worker w's bottom frame begins
abbrev pub rise_from : Core → List ℕ → ℕ → Rise
rise_from c ks w =
    let p : ℕ = bottom c.deques w in
    rise (frame_at c.frames p).depth c.frames ks p (latest ks p)

-- a step with these answer words, of the frame at p; g is the first free place, where a spawn puts the child, r the ends of a return. "Each accepted spawn, sync, read,
-- write and fold costs 1, returns and steals 0": 105 to 107, 101 and 104; a return with outcome 4 waits, and a sync with outcome 1
unfoldable pub timed_with : ℕ × ℕ → ℕ → ℕ → Rise → Timing → Timing
timed_with a p g r t =
    let ends = ended t r in
    cond (leb 105 a.0) (costing t (ticked t.clocks p))
    (cond (eqb a.0 101) (costing t (begun t.clocks p g))
    (cond (eqb a.0 102) (cond (eqb a.1 4) t ends)
    (cond (eqb a.0 104) (costing t (cond (eqb a.1 0) (passed t.clocks p) t.clocks)) t)))

-- a step of worker w from the core c
abbrev pub timed_by : Core → ℕ → ℕ × ℕ → Timing → Timing
timed_by c w a t = timed_with a (bottom c.deques w) c.head.numbers.free_place (rise_from c t.clocks w) t

-- ---- records

abbrev pub worker_of : Step → ℕ
worker_of (Spawn w) = w
worker_of (Return w) = w
worker_of (Steal w v) = w
worker_of (Sync w) = w
worker_of (Read w x) = w
worker_of (Write w x v) = w
worker_of (Fold w r v) = w

-- a record that is no step is refused, and moves no clock
abbrev pub worker_in : Decoded → ℕ
worker_in (Some st) = worker_of st
worker_in None = 0

abbrev pub timed_record : Layout → Core → Decoded → Timing → Timing
timed_record L c d t = timed_by c (worker_in d) (answer_words (record_on L c d).answer) t

-- the records in order, beside run_on
unfoldable pub timed_over : Layout → Core → List Decoded → Timing → Timing
timed_over L c [] t = t
timed_over L c (d ∷ ds) t = timed_over L (record_on L c d).core ds (timed_record L c d t)
