-- The one-worker run does the child-first list, step by step.
use Rattle.std.specs.Prelude.{◌≡◌, refl, false, ℕ, suc, ◌≤◌, length}
use Rattle.std.proofs.Common.{sym, ap, ◌∙◌, subst, inl, inr, le_refl, le_trans, arith}
use mathlib.Core.List.Memᴰ.{append_left as In-left}
use mathlib.Core.List.Memᴰ.{append_right as In-right}
use mathlib.Core.List.Memᴰ.{cases_cons as In-cons}
use mathlib.Core.List.Memᴰ.{head as here}
use mathlib.Core.List.Memᴰ.{not-nil as not-in-nil}
use mathlib.Core.List.Memᴰ.{tail as there}
use mathlib.Core.List.{Memᴰ as In}
use mathlib.Core.List.Permᴰ
use mathlib.Core.List.{List, [], ◌∷◌, ◌++◌, append-nil, Permᴰ}
use Rattle.words.specs.Tests.{true≢false, ltb_of, nltb_of}
use Rattle.words.specs.Lists.{In-perm, perm_length}
use Rattle.words.specs.Distinct.{same_refl, same_differ}
use Rattle.model.specs.Machine.{Name, Frame, depth, Machine, has_child, in_use}
use Rattle.model.specs.Steps.{Action, spawn, return, sync, read, write, fold, acting, turn_of, step_of, refusal, child, after_spawn, written, upward, after_end, after_turn, step}
use Rattle.model.specs.Run.{run, AllAccepted, no_step, accepted_then, Entry, entry, turn_entry, trace, entries_of, follow, for_worker0}
use Rattle.model.proofs.Theory.ChildFirst.{child_first, child_first_skip, child_first_mine, child_first-none}
use Rattle.model.proofs.Theory.Extends.{WritesAt, Extends, writes-append, extends_same, extends_trans, extends_written}
use Rattle.model.proofs.Theory.LiveRun.{successors, successor, Allowed, Ends, LiveRun, Disjoint, backward}
use Rattle.model.proofs.Theory.Children.{In-hasChild, is_child_short}
use Rattle.model.proofs.Theory.StepsKept.{unmet, still}
use Rattle.model.proofs.Theory.Ancestors.{Twin, Link, link_to_lem, Ancestors, no_more_frames, no_more_nodes}
use Rattle.model.proofs.Theory.Effects.{Passes}
use Rattle.model.proofs.Theory.RunSteps.{Accepted, accepted_at}

-- one worker, whose deque is C
abbrev pub solo : ℕ → ℕ → ℕ → List Frame → Machine
solo n nodes places C = record { splitters = n; nodes = nodes; places = places; deques = C ∷ []; suspended = [] }

-- from M the steps of es, all for worker 0, are accepted, leave es as the trace, and end at M'
abbrev pub Performs : List Entry → Machine → Machine → Type 0
Performs [] M M' = M ≡ M'
Performs (e ∷ es) M M' = (refusal M (step_of 0 e.action) ≡ 0) × (turn_entry M (turn_of (step_of 0 e.action)) ≡ e ∷ []) × Performs es (step M (step_of 0 e.action)) M'

performs_append : (es fs : List Entry) (M M₁ M₂ : Machine) → Performs es M M₁ → Performs fs M₁ M₂ → Performs (es ++ fs) M M₂
performs_append [] fs M M₁ M₂ d d' = rw d d'
performs_append (e ∷ es) fs M M₁ M₂ d d' = (d.0, d.1, performs_append es fs (step M (step_of 0 e.action)) M₁ M₂ d.2 d')

pub performs_accepted : (es : List Entry) (M M' : Machine) → Performs es M M' → AllAccepted M (for_worker0 es)
performs_accepted [] M M' d = no_step
performs_accepted (e ∷ es) M M' d = accepted_then d.0 (performs_accepted es (step M (step_of 0 e.action)) M' d.2)

pub performs_run : (es : List Entry) (M M' : Machine) → Performs es M M' → run M (for_worker0 es) ≡ M'
performs_run [] M M' d = d
performs_run (e ∷ es) M M' d = performs_run es (step M (step_of 0 e.action)) M' d.2

pub performs_trace : (es : List Entry) (M M' : Machine) → Performs es M M' → trace M (for_worker0 es) ≡ es
performs_trace [] M M' d = refl
performs_trace (e ∷ es) M M' d = rw (d.0, d.1) (ap (λ z. e ∷ z) (performs_trace es (step M (step_of 0 e.action)) M' d.2))

-- ---- the chain along a step

-- the chain's bottom goes on
ancestors_head : (L : List Frame) (f f' : Frame) (C : List Frame) → Ancestors L f C → f'.name ≡ f.name → Extends (depth f) f.history f'.history → Ancestors L f' C
ancestors_head L f f' [] a n k = (n ∙ a.0, rw k.split (writes-append 0 k.later f.history (subst (λ d. WritesAt d k.later) (ap length a.0) k.marked) a.1))
ancestors_head L f f' (g ∷ C) a n k = (record { ordinal = a.0.ordinal; named = n ∙ a.0.named; extends = rw n (extends_trans a.0.extends k); twin = a.0.twin }, a.1)

module _ {L L' : List Frame} (keeps : (f : Frame) → In f L → (c g : Frame) → In c L → (k : ℕ) → c.name ≡ k ∷ f.name → Twin L' f) where
  -- f' stands for f in L: the parent of f does not end
  link_kept : (f f' g : Frame) → In f' L → f'.name ≡ f.name → Link L f g → Link L' f g
  link_kept f f' g m n k =
      let t = k.twin in
      let u = keeps t.frame t.there_is f' g m k.ordinal (n ∙ k.named ∙ ap (λ z. k.ordinal ∷ z) (sym t.named)) in
      link_to_lem k (record {
        frame = u.frame;
        there_is = u.there_is;
        named = u.named ∙ t.named;
        extends = extends_trans t.extends (subst (λ z. Extends (length z) t.frame.history u.frame.history) t.named u.extends);
      })

  ancestors_kept : (f f' : Frame) (C : List Frame) → In f' L → f'.name ≡ f.name → Ancestors L f C → Ancestors L' f C
  ancestors_kept f f' [] m n ab = ab
  ancestors_kept f f' (g ∷ C) m n ab = (link_kept f f' g m n ab.0, ancestors_kept g ab.0.twin.frame C ab.0.twin.there_is ab.0.twin.named ab.1)

twin_same : {L : List Frame} (f : Frame) → In f L → Twin L f
twin_same f m = record { frame = f; there_is = m; named = refl; extends = extends_same (depth f) f.history }

-- along a step of q each frame has a twin
ancestors_acted : {L L' : List Frame} (q : Frame) (a : Action) (R : List Frame) → Permᴰ L (q ∷ R) → Permᴰ (successors q a ++ R) L' → (f : Frame) (C : List Frame) → In f L → Ancestors L f C → Ancestors L' f C
ancestors_acted {L} {L'} q a R p p' f C m = ancestors_kept {L' = L'} (λ g mg c x mc k n. elim (In-cons (In-perm p mg)) [ inl e ↦ subst (Twin L') (sym e) onto | inr i ↦ twin_same g (In-perm p' (In-right (successors q a) i)) ]) f f C m refl
  where
    onto : Twin L' q
    onto = let h = successor q a in record { frame = h.frame; there_is = In-perm p' (In-left R h.new); named = h.named; extends = h.extends }

-- where a frame ends, each frame with a child has one
ancestors_dropped : {L : List Frame} (q : Frame) (R : List Frame) → Permᴰ L (q ∷ R) → Ends q R → (f : Frame) (C : List Frame) → In f L → Ancestors L f C → Ancestors R f C
ancestors_dropped {L} q R p e f C m = ancestors_kept {L' = R} (λ g mg c x mc k n. elim (In-cons (In-perm p mg)) [
  | inl d ↦ absurd (true≢false (sym (In-hasChild k q.name (In-perm p mc) (n ∙ ap (λ z. k ∷ z.name) d)) ∙ e.1))
  | inr i ↦ twin_same g i
]) f f C m refl

-- a write leaves no more nodes in use in the chain than in the other run
pub no_more_nodes-after : (n : ℕ) (L : List Frame) (q : Frame) (R C : List Frame) (x v : ℕ) → Permᴰ L (q ∷ R) → Ancestors L q C → in_use n (written q x v ∷ C) ≤ in_use n (written q x v ∷ R)
no_more_nodes-after n L q R C x v p ab = no_more_nodes (written q x v ∷ R) n (written q x v) C (here refl) (ancestors_head (written q x v ∷ R) q (written q x v) C on refl (extends_written q x v))
  where
    on : Ancestors (written q x v ∷ R) q C
    on = ancestors_acted q (write x v) R p (Permᴰ.refl (written q x v ∷ R)) q C (In-perm (Permᴰ.symm p) (here refl)) ab

-- ---- the bottom of a chain has no child in it

has_child_short : (L : List Frame) (p : Name) (f : Frame) (C : List Frame) → Ancestors L f C → depth f ≤ length p → has_child p (f ∷ C) ≡ false
has_child_short L p f [] a h = rw (is_child_short p f.name h)
has_child_short L p f (g ∷ C) a h = rw (is_child_short p f.name h) (has_child_short L p g C a.1 (omega (arith, h, ap length a.0.named)))

-- ---- the one worker's steps

upward-solo : (n nodes places : ℕ) (r : Name) → upward (solo n nodes places []) 0 r ≡ solo n nodes places []
upward-solo n nodes places [] = refl
upward-solo n nodes places (k ∷ p) = refl

end_solo : (n nodes places : ℕ) (f : Frame) (C : List Frame) → after_end (solo n nodes places (f ∷ C)) 0 f C ≡ solo n nodes places C
end_solo n nodes places f [] = upward-solo n nodes places f.name
end_solo n nodes places f (g ∷ C) = refl

-- what stands in the deque in the place of q after its step: one worker's return ends it
abbrev onward : Frame → Action → List Frame
onward q return = []
onward q spawn = successors q spawn
onward q sync = successors q sync
onward q (read x) = successors q (read x)
onward q (fold x y) = successors q (fold x y)
onward q (write x v) = successors q (write x v)

pub turn_of_step : (w : ℕ) (a : Action) → turn_of (step_of w a) ≡ acting w a
turn_of_step w spawn = refl
turn_of_step w return = refl
turn_of_step w sync = refl
turn_of_step w (read x) = refl
turn_of_step w (fold x y) = refl
turn_of_step w (write x v) = refl

passes_solo : (n nodes places : ℕ) (f : Frame) (C : List Frame) (a : Action) → Allowed n nodes places f C a → Passes (solo n nodes places (f ∷ C)) (acting 0 a)
passes_solo n nodes places f C spawn ok = rw (append-nil C, ltb_of ok)
passes_solo n nodes places f C return ok = refl
passes_solo n nodes places f C sync ok = refl
passes_solo n nodes places f C (read x) ok = rw (ltb_of ok)
passes_solo n nodes places f C (fold x y) ok = rw (ltb_of ok)
passes_solo n nodes places f C (write x v) ok = rw (ltb_of ok.0, append-nil C, nltb_of {a = nodes} {b = in_use n (written f x v ∷ C)} ok.1)

after-solo : (n nodes places : ℕ) (f : Frame) (C : List Frame) (a : Action) → has_child f.name (f ∷ C) ≡ false → after_turn (solo n nodes places (f ∷ C)) (acting 0 a) ≡ solo n nodes places (onward f a ++ C)
after-solo n nodes places f C spawn h = refl
after-solo n nodes places f C return h = rw (append-nil C, h) (end_solo n nodes places f C)
after-solo n nodes places f C sync h = rw (append-nil C, h)
after-solo n nodes places f C (read x) h = refl
after-solo n nodes places f C (fold x y) h = refl
after-solo n nodes places f C (write x v) h = refl

-- ---- the child-first list

-- with f, which has not returned, on any chain of its ancestors, one worker does what is left of f's child-first list and ends with the chain
abbrev ChildFirstRuns : ℕ → ℕ → ℕ → List Entry → List Frame → Type 0
ChildFirstRuns n nodes places es L = (f : Frame) (C : List Frame) → In f L → f.returning ≡ false → Ancestors L f C → Performs (child_first es f.name (suc f.spawned)) (solo n nodes places (f ∷ C)) (solo n nodes places C)

-- one step of the chain's bottom: where it leads is where the rest goes on
performs_step : (n nodes places : ℕ) (f : Frame) (C : List Frame) (a : Action) (es : List Entry) (M : Machine) → Allowed n nodes places f C a → has_child f.name (f ∷ C) ≡ false
    → Performs es (solo n nodes places (onward f a ++ C)) M → Performs (entry f a ∷ es) (solo n nodes places (f ∷ C)) M
performs_step n nodes places f C a es M ok h d = (ac.zero_refusal, rw (turn_of_step 0 a), rw (ac.after, turn_of_step 0 a, after-solo n nodes places f C a h) d)
  where
    ac : Accepted (solo n nodes places (f ∷ C)) (step_of 0 a)
    ac = accepted_at (solo n nodes places (f ∷ C)) (step_of 0 a) (rw (turn_of_step 0 a) (passes_solo n nodes places f C a ok))

-- f itself took the step
runs_mine : (n nodes places : ℕ) (L' : List Frame) (q : Frame) (C : List Frame) (a : Action) (es : List Entry) → q.returning ≡ false → Allowed n nodes places q C a → has_child q.name (q ∷ C) ≡ false
    → ((t : Frame) → In t (successors q a) → In t L') → (a ≡ return → entries_of q.name es ≡ []) → Ancestors L' q C → ChildFirstRuns n nodes places es L'
    → Performs (follow a (entry q a) (child_first es (suc q.spawned ∷ q.name) 1) (child_first es q.name (suc (suc q.spawned))) (child_first es q.name (suc q.spawned)))
    (solo n nodes places (q ∷ C)) (solo n nodes places C)
runs_mine n nodes places L' q C spawn es live ok h new out ab ih =
    performs_step n nodes places q C spawn (child_first es (suc q.spawned ∷ q.name) 1 ++ child_first es q.name (suc (suc q.spawned))) (solo n nodes places C) ok h
    (performs_append (child_first es (suc q.spawned ∷ q.name) 1) (child_first es q.name (suc (suc q.spawned))) (solo n nodes places (child q ∷ after_spawn q ∷ C)) (solo n nodes places (after_spawn q ∷ C)) (solo n nodes places C)
    (ih (child q) (after_spawn q ∷ C) (new (child q) (here refl)) refl (link, on)) (ih (after_spawn q) C (new (after_spawn q) (there (here refl))) live on))
  where
    on : Ancestors L' (after_spawn q) C
    on = ancestors_head L' q (after_spawn q) C ab refl (extends_same (depth q) q.history)

    link : Link L' (child q) (after_spawn q)
    link = record {
      ordinal = suc q.spawned;
      named = refl;
      extends = extends_same (suc (depth q)) q.history;
      twin = record { frame = after_spawn q; there_is = new (after_spawn q) (there (here refl)); named = refl; extends = extends_same (depth q) q.history };
    }
runs_mine n nodes places L' q C return es live ok h new out ab ih =
    performs_step n nodes places q C return (child_first es q.name (suc q.spawned)) (solo n nodes places C) ok h
    (subst (λ z. Performs z (solo n nodes places C) (solo n nodes places C)) (sym (child_first-none es q.name (suc q.spawned) (out refl))) refl)
runs_mine n nodes places L' q C sync es live ok h new out ab ih =
    performs_step n nodes places q C sync (child_first es q.name (suc q.spawned)) (solo n nodes places C) ok h (ih q C (new q (here refl)) live ab)
runs_mine n nodes places L' q C (read x) es live ok h new out ab ih =
    performs_step n nodes places q C (read x) (child_first es q.name (suc q.spawned)) (solo n nodes places C) ok h (ih q C (new q (here refl)) live ab)
runs_mine n nodes places L' q C (fold x y) es live ok h new out ab ih =
    performs_step n nodes places q C (fold x y) (child_first es q.name (suc q.spawned)) (solo n nodes places C) ok h (ih q C (new q (here refl)) live ab)
runs_mine n nodes places L' q C (write x v) es live ok h new out ab ih =
    performs_step n nodes places q C (write x v) (child_first es q.name (suc q.spawned)) (solo n nodes places C) ok h
    (ih (written q x v) C (new (written q x v) (here refl)) live (ancestors_head L' q (written q x v) C ab refl (extends_written q x v)))

-- what the other run allowed is allowed in the chain
allowed_chain : (n nodes places : ℕ) (L : List Frame) (q : Frame) (R C : List Frame) (a : Action) → Permᴰ L (q ∷ R) → Ancestors L q C → Allowed n nodes places q R a → Allowed n nodes places q C a
allowed_chain n nodes places L q R C spawn p ab ok = let h = no_more_frames L q C (In-perm (Permᴰ.symm p) (here refl)) ab in omega (arith, ok, h, perm_length p)
allowed_chain n nodes places L q R C return p ab ok = tt
allowed_chain n nodes places L q R C sync p ab ok = tt
allowed_chain n nodes places L q R C (read x) p ab ok = ok
allowed_chain n nodes places L q R C (fold x y) p ab ok = ok
allowed_chain n nodes places L q R C (write x v) p ab ok = (ok.0, le_trans (no_more_nodes-after n L q R C x v p ab) ok.1)

runs_acted : (n nodes places : ℕ) {L L' : List Frame} {es : List Entry} (q : Frame) (a : Action) (R : List Frame) → Permᴰ L (q ∷ R) → q.returning ≡ false → Allowed n nodes places q R a → Permᴰ (successors q a ++ R) L'
    → LiveRun n nodes places L' es → Disjoint (q ∷ R) → ChildFirstRuns n nodes places es L' → ChildFirstRuns n nodes places (entry q a ∷ es) L
runs_acted n nodes places {L} {L'} {es} q a R p on ok p' g c ih f C m live ab = elim (In-cons (In-perm p m)) [ inl e ↦ mine e | inr i ↦ other i ]
  where
    mine_as : In q L → Ancestors L q C → Performs (child_first (entry q a ∷ es) q.name (suc q.spawned)) (solo n nodes places (q ∷ C)) (solo n nodes places C)
    mine_as mq abq =
        rw (child_first_mine (entry q a) es q.name (suc q.spawned) (same_refl q.name))
        (runs_mine n nodes places L' q C a es on (allowed_chain n nodes places L q R C a p abq ok) (has_child_short L q.name q C abq (le_refl (depth q)))
        (λ t i. In-perm p' (In-left R i)) (unmet q a R p' g c q.name (inl refl))
        (ancestors_acted q a R p p' q C mq abq) ih)

    mine : f ≡ q → Performs (child_first (entry q a ∷ es) f.name (suc f.spawned)) (solo n nodes places (f ∷ C)) (solo n nodes places C)
    mine e = subst (λ z. In z L → Ancestors L z C → Performs (child_first (entry q a ∷ es) z.name (suc z.spawned)) (solo n nodes places (z ∷ C)) (solo n nodes places C)) (sym e) mine_as m ab

    other : In f R → Performs (child_first (entry q a ∷ es) f.name (suc f.spawned)) (solo n nodes places (f ∷ C)) (solo n nodes places C)
    other i =
        rw (child_first_skip (entry q a) es f.name (suc f.spawned) (same_differ (λ d. c.0 f i q.name (inl refl) (inl d))))
        (ih f C (In-perm p' (In-right (successors q a) i)) live (ancestors_acted q a R p p' f C m ab))

ancestors_moved : {L L' : List Frame} → Permᴰ L L' → (f : Frame) (C : List Frame) → Ancestors L f C → Ancestors L' f C
ancestors_moved p f [] ab = ab
ancestors_moved {L} p f (g ∷ C) ab = (link_to_lem ab.0 (record { frame = t.frame; there_is = In-perm p t.there_is; named = t.named; extends = t.extends }), ancestors_moved p g C ab.1)
  where
    t : Twin L g
    t = ab.0.twin

pub child-first_runs : (n nodes places : ℕ) {L : List Frame} {es : List Entry} → LiveRun n nodes places L es → Disjoint L → ChildFirstRuns n nodes places es L
child-first_runs n nodes places =
    backward n nodes places (ChildFirstRuns n nodes places) (λ f C m. absurd (not-in-nil m)) (λ L L' es p k f C m l ab. k f C (In-perm p m) l (ancestors_moved p f C ab))
    (λ L es q R p e k f C m l ab. k f C (still p e m l) l (ancestors_dropped q R p e f C m ab))
    (λ L L' es q a R p on ok p' g c ih. runs_acted n nodes places q a R p on ok p' g c ih)
