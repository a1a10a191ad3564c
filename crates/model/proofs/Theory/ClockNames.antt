-- The names of the clocks, which are those of the views; and whose a clock is after a step.
use Rattle.std.specs.Prelude.{◌≡◌, refl, ◌≢◌, ◌⊎◌, Bool, true, false, List, [], ◌∷◌, ◌++◌, map, ℕ, zero, suc, ◌+◌, ◌<◌, max}
use Rattle.std.proofs.Common.{sym, ap, ap₂, ◌∙◌, subst, inl, inr, arith}
use mathlib.Core.List.Memᴰ
use mathlib.Core.List.Memᴰ.{append_cases as In-cases}
use mathlib.Core.List.Memᴰ.{cases_cons as In-cons}
use mathlib.Core.List.Memᴰ.{head as here}
use mathlib.Core.List.Memᴰ.{map as In-map}
use mathlib.Core.List.Memᴰ.{not-nil as not-in-nil}
use mathlib.Core.List.Memᴰ.{tail as there}
use mathlib.Core.List.{Memᴰ as In}
use Rattle.words.specs.Basics.{same}
use Rattle.words.specs.Tests.{true≢false, decided}
use Rattle.words.specs.Distinct.{same_eq, same_ne, same_of}
use Rattle.words.specs.NoDup.{NoDup}
use Rattle.model.specs.declared.Step.{Step}
use Rattle.model.specs.Machine.{Frame, Machine, live, deque, is_empty, has_child, has_frame, start}
use Rattle.model.specs.Steps.{Action, spawn, return, sync, read, write, fold, Turn, acting, stealing, turn_of, refusal, child, after_turn, step}
use Rattle.model.specs.Run.{run}
use Rattle.model.specs.Views.{Views, views_after, run_views}
use Rattle.model.specs.Clocks.{Clock, Clocks, clocks_at_start, ticked, moved, clocks_moved, bottom_clocks, turn_clocks, turn_cost, best, woken, settle, clocks_after, run_clocks}
use Rattle.model.proofs.Theory.Effects.{Passes}
use Rattle.model.proofs.Theory.RunSteps.{Accepted, Refused, accepted_or_refused}
use Rattle.model.proofs.Theory.FrameTree.{FrameTree, tree-step, tree-start}
use Rattle.model.proofs.Theory.ViewNames.{view_names, spawns_in, names_acted, bottom_names, turn_names, live_names, views_accepted, views_refused, view_names-after}
use Rattle.model.proofs.Theory.PostOrder.{InPostOrder, post_turn, post_start}
use Rattle.model.proofs.Theory.SettleClocks.{clock_names, clock_names_settled, clock_names-woken}

-- ---- an accepted step, and a refused one

abbrev pub clocks_turned : Machine → Clocks → Turn → Clocks
clocks_turned M C t =
    let r = settle (live (after_turn M t)) [] (turn_clocks M t C.clocks) in
    record { clocks = map (woken (after_turn M t).suspended) r.0; work = turn_cost t + C.work; span = max C.span (best is_empty r.1) }

pub clocks_accepted : (M : Machine) (C : Clocks) (u : Step) → Accepted M u → clocks_after M C u ≡ clocks_turned M C (turn_of u)
clocks_accepted M C u a = rw (a.zero_refusal, a.after)

pub clocks_refused : (M : Machine) (C : Clocks) (u : Step) → Refused M u → clocks_after M C u ≡ C
clocks_refused M C u r = go (refusal M u) refl r.some-refusal
  where
    go : (k : ℕ) → refusal M u ≡ k → 0 < k → clocks_after M C u ≡ C
    go zero e l = absurd (omega arith)
    go (suc k) e l = rw e

-- what an accepted turn keeps, a step keeps
pub clocks_kept : (P : Machine → Clocks → Type 0) (M : Machine) (s : Step) (C : Clocks) → (Passes M (turn_of s) → P (after_turn M (turn_of s)) (clocks_turned M C (turn_of s))) → P M C → P (step M s) (clocks_after M C s)
clocks_kept P M s C turn o =
    elim (accepted_or_refused M s) [
      | inl a ↦ subst Right (sym (ap₂ (λ x y. (x, y)) a.after (clocks_accepted M C s a))) (turn a.passes)
      | inr r ↦ subst Right (sym (ap₂ (λ x y. (x, y)) r.after (clocks_refused M C s r))) o
    ]
  where
    Right : Machine × Clocks → Type 0
    Right Z = P Z.0 Z.1

-- ---- the names

pub clock_names-moved : (q : Frame) (a : Action) (busy : Bool) (cs : List Clock) → clock_names (clocks_moved q a busy cs) ≡ names_acted q a (clock_names cs)
clock_names-moved q a busy [] = refl
clock_names-moved q a busy (c ∷ cs) =
    elim (decided (same c.name q.name)) [
      | inl t ↦ rw t (by_kind a busy)
      | inr t ↦ rw t (ap (λ z. c.name ∷ z) (clock_names-moved q a busy cs))
    ]
  where
    by_kind : (a : Action) (b : Bool) → clock_names (moved q a b c ++ cs) ≡ spawns_in (child q).name (c.name ∷ clock_names cs) a
    by_kind spawn b = refl
    by_kind return b = refl
    by_kind sync true = refl
    by_kind sync false = refl
    by_kind (read x) b = refl
    by_kind (write x u) b = refl
    by_kind (fold r x) b = refl

pub clock_names_turn : (M : Machine) (t : Turn) (cs : List Clock) → clock_names (turn_clocks M t cs) ≡ turn_names M t (clock_names cs)
clock_names_turn M (acting w a) cs = at (deque M w)
  where
    at : (d : List Frame) → clock_names (bottom_clocks M d a cs) ≡ bottom_names d a (clock_names cs)
    at [] = refl
    at (q ∷ d) = clock_names-moved q a (has_child q.name (live M)) cs
clock_names_turn M (stealing w v) cs = refl

-- the frames that still live after the turn
pub clock_names-after : (M : Machine) (t : Turn) (C : Clocks) → clock_names (clocks_turned M C t).clocks ≡ live_names (live (after_turn M t)) (turn_names M t (clock_names C.clocks))
clock_names-after M t C =
    let L = live (after_turn M t) in
    let cs = turn_clocks M t C.clocks in
    clock_names-woken (after_turn M t).suspended (settle L [] cs).0 ∙ clock_names_settled (λ n. has_frame n L) [] cs ∙ ap (live_names L) (clock_names_turn M t C.clocks)

-- they are the names of the views
pub same-names-step : (M : Machine) (s : Step) (C : Clocks) (W : Views) → clock_names C.clocks ≡ view_names W.views → clock_names (clocks_after M C s).clocks ≡ view_names (views_after M W s).views
same-names-step M s C W e =
    let L = live (after_turn M (turn_of s)) in
    elim (accepted_or_refused M s) [
      | inl a ↦ ap (λ Z. clock_names Z.clocks) (clocks_accepted M C s a) ∙ clock_names-after M (turn_of s) C ∙ ap (λ ns. live_names L (turn_names M (turn_of s) ns)) e
          ∙ sym (ap (λ Z. view_names Z.views) (views_accepted M W s a) ∙ view_names-after M (turn_of s) L W)
      | inr r ↦ ap (λ Z. clock_names Z.clocks) (clocks_refused M C s r) ∙ e ∙ sym (ap (λ Z. view_names Z.views) (views_refused M W s r))
    ]

pub same_names : (M : Machine) (C : Clocks) (W : Views) (ss : List Step) → clock_names C.clocks ≡ view_names W.views → clock_names (run_clocks M C ss).clocks ≡ view_names (run_views M W ss).views
same_names M C W [] e = e
same_names M C W (s ∷ ss) e = same_names (step M s) (clocks_after M C s) (views_after M W s) ss (same-names-step M s C W e)

-- so they stand in post-order
pub clocks_turn : (M : Machine) (t : Turn) (C : Clocks) → Passes M t → FrameTree M → InPostOrder (live M) (clock_names C.clocks) → InPostOrder (live (after_turn M t)) (clock_names (clocks_turned M C t).clocks)
clocks_turn M t C h tree o = subst (InPostOrder (live (after_turn M t))) (sym (clock_names-after M t C)) (post_turn M t (clock_names C.clocks) h tree o)

pub clocks_step : (M : Machine) (s : Step) (C : Clocks) → FrameTree M → InPostOrder (live M) (clock_names C.clocks) → InPostOrder (live (step M s)) (clock_names (clocks_after M C s).clocks)
clocks_step M s C tree o = clocks_kept (λ N Z. InPostOrder (live N) (clock_names Z.clocks)) M s C (λ h. clocks_turn M (turn_of s) C h tree o) o

pub clocks_start : (w : ℕ) (vs : List ℕ) (nodes places : ℕ) → InPostOrder (live (start w vs nodes places)) (clock_names clocks_at_start.clocks)
clocks_start = post_start

-- at every moment of a run from a start there is one clock for each live frame, and they stand in post-order
pub clocks_run : (M : Machine) (C : Clocks) (ss : List Step) → FrameTree M → InPostOrder (live M) (clock_names C.clocks) → InPostOrder (live (run M ss)) (clock_names (run_clocks M C ss).clocks)
clocks_run M C [] tree o = o
clocks_run M C (s ∷ ss) tree o = clocks_run (step M s) (clocks_after M C s) ss (tree-step M s tree) (clocks_step M s C tree o)

pub clocks_from_start : (w : ℕ) (vs : List ℕ) (nodes places : ℕ) (ss : List Step) → InPostOrder (live (run (start w vs nodes places) ss)) (clock_names (run_clocks (start w vs nodes places) clocks_at_start ss).clocks)
clocks_from_start w vs nodes places ss = clocks_run (start w vs nodes places) clocks_at_start ss (tree-start w vs nodes places) (clocks_start w vs nodes places)

-- ---- the clocks after a step of q

-- where q's clock is
pub moved_at : (q : Frame) (a : Action) (busy : Bool) (us vs : List Clock) (c : Clock) → (In q.name (clock_names us) → ⊥) → c.name ≡ q.name → clocks_moved q a busy (us ++ (c ∷ vs)) ≡ us ++ (moved q a busy c ++ vs)
moved_at q a busy [] vs c d e = rw (same_of e)
moved_at q a busy (u ∷ us) vs c d e =
    elim (decided (same u.name q.name)) [ inl t ↦ absurd (d (here (sym (same_eq u.name q.name t)))) | inr t ↦ rw t (ap (λ z. u ∷ z) (moved_at q a busy us vs c (λ m. d (there m)) e)) ]

-- one that is not q's, or what became of q's
pub in_moved : (q : Frame) (a : Action) (busy : Bool) (cs : List Clock) → NoDup (clock_names cs) → (u : Clock) → In u (clocks_moved q a busy cs)
    → (In u cs × (u.name ≢ q.name)) ⊎ ((c : Clock) × In c cs × (c.name ≡ q.name) × In u (moved q a busy c))
in_moved q a busy [] d u m = absurd (not-in-nil m)
in_moved q a busy (x ∷ cs) d u m =
    elim (decided (same x.name q.name)) [
      | inl t ↦ (let e = same_eq x.name q.name t in elim (In-cases (moved q a busy x) (rw t at m)) [
        | inl i ↦ inr (x, here refl, e, i)
        | inr i ↦ inl (there i, λ z. d.0 (Memᴰ.cast (e ∙ sym z) (In-map (λ (c : Clock). c.name) i)))
      ])
      | inr t ↦ elim (In-cons (rw t at m)) [
        | inl e ↦ inl (here e, λ z. same_ne t (ap (λ (c : Clock). c.name) (sym e) ∙ z))
        | inr i ↦ elim (in_moved q a busy cs d.1 u i) [ inl j ↦ inl (there j.0, j.1) | inr r ↦ inr (r.0, there r.1, r.2, r.3) ]
      ]
    ]

-- what q's clock c becomes is q's, or the child's; and it waits only if c did, or if q's sync waits
pub record Became (q : Frame) (a : Action) (busy : Bool) (c u : Clock) : Type 0 where
  pub whose : (u.name ≡ c.name) ⊎ ((a ≡ spawn) × (u.name ≡ (child q).name))
  pub waits : u.waits ≡ true → (u.name ≡ c.name) × ((c.waits ≡ true) ⊎ ((a ≡ sync) × (busy ≡ true)))

became_as : (q : Frame) (a : Action) (busy : Bool) (c u v : Clock) → u ≡ v → v.name ≡ c.name → v.waits ≡ c.waits → Became q a busy c u
became_as q a busy c u v e n h = record { whose = inl (ap (λ z. z.name) e ∙ n); waits = λ w. (ap (λ z. z.name) e ∙ n, inl (sym h ∙ ap (λ z. z.waits) (sym e) ∙ w)) }

pub became : (q : Frame) (a : Action) (busy : Bool) (c u : Clock) → In u (moved q a busy c) → Became q a busy c u
became q spawn busy c u (here e) = record { whose = inr (refl, ap (λ z. z.name) e); waits = λ w. absurd (true≢false (sym w ∙ ap (λ z. z.waits) e)) }
became q spawn busy c u (there (here e)) = became_as q spawn busy c u (ticked c) e refl refl
became q return busy c u (here e) = became_as q return busy c u c e refl refl
became q sync true c u (here e) = record { whose = inl (ap (λ z. z.name) e); waits = λ w. (ap (λ z. z.name) e, inr (refl, refl)) }
became q sync false c u (here e) = record { whose = inl (ap (λ z. z.name) e); waits = λ w. absurd (true≢false (sym w ∙ ap (λ z. z.waits) e)) }
became q (read x) busy c u (here e) = became_as q (read x) busy c u (ticked c) e refl refl
became q (write x v) busy c u (here e) = became_as q (write x v) busy c u (ticked c) e refl refl
became q (fold x v) busy c u (here e) = became_as q (fold x v) busy c u (ticked c) e refl refl
became q spawn busy c u (there (there x9)) = elim x9 [ ]
became q return busy c u (there x6) = elim x6 [ ]
became q sync false c u (there x8) = elim x8 [ ]
became q sync true c u (there x9) = elim x9 [ ]
became q (read x) busy c u (there x9) = elim x9 [ ]
became q (write x v) busy c u (there x10) = elim x10 [ ]
became q (fold x v) busy c u (there x11) = elim x11 [ ]
