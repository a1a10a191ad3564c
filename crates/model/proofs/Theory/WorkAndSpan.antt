-- R-7: "Two runs with the same frames' steps give the same pair." And the span is at most the work.
use Rattle.std.specs.Prelude.{◌≡◌, refl, ◌≢◌, true, cond, ℕ, zero, suc, ◌+◌, ◌≤◌, max, length}
use Rattle.std.proofs.Common.{sym, ap, ap₂, ◌∙◌, subst, inl, inr, le_refl, arith}
use mathlib.Core.List.Memᴰ.{eq_of_singleton as In-one}
use mathlib.Core.List.Memᴰ.{head as here}
use mathlib.Core.List.{Memᴰ as In}
use mathlib.Core.List.{List, [], ◌∷◌, ◌++◌, map, nil≢cons}
use Rattle.words.specs.Basics.{same}
use Rattle.words.specs.Tests.{true≢false, decided}
use Rattle.words.specs.Distinct.{same_eq, same_refl, same_of, same_differ}
use Rattle.model.specs.declared.Step.{Step}
use Rattle.model.specs.Machine.{Name, Machine, main, start}
use Rattle.model.specs.Steps.{Action, spawn, return, sync, read, write, fold, Turn, acting, stealing, turn_of, after_turn}
use Rattle.model.specs.Run.{Returned, Entry, bottom_entry, turn_entry, trace, steps_of, follow, child_first_list}
use Rattle.model.specs.Demand3.{trace_of, one_worker_of}
use Rattle.model.specs.Clocks.{Clocks, clocks_at_start, cost, turn_cost, run_clocks, pair_of}
use Rattle.model.proofs.Theory.ChildFirst.{child_first, of_mine, of_skip, child_first_skip, child_first_mine}
use Rattle.model.proofs.Theory.Effects.{Passes, live-start, acts}
use Rattle.model.proofs.Theory.RunSteps.{accepted_or_refused}
use Rattle.model.proofs.Theory.FrameTree.{tree-start}
use Rattle.model.proofs.Theory.Deques.{deques-start}
use Rattle.model.proofs.Theory.MainEnds.{returned_ends}
use Rattle.model.proofs.Theory.TraceFold.{combine, from_steps, steps_in, along_skip, along_mine, from_eq, agrees}
use Rattle.model.proofs.Theory.ClockNames.{clocks_turned, clocks_accepted, clocks_refused, clocks_start}
use Rattle.model.proofs.Theory.AtSync.{at_sync-start}
use Rattle.model.proofs.Theory.Foretold.{Ahead, span_algebra, final}
use Rattle.model.proofs.Theory.Spans.{span_run}
use Rattle.model.proofs.Theory.Demand3Proof.{run_of, disjoint, main_list, same_of_name, demand3}

-- ---- the work

abbrev cost_in : List Entry → ℕ
cost_in [] = 0
cost_in (e ∷ es) = cost e.action + cost_in es

cost-append : (es fs : List Entry) → cost_in (es ++ fs) ≡ cost_in es + cost_in fs
cost-append [] fs = omega arith
cost-append (e ∷ es) fs = omega (arith, cost-append es fs)

turn_cost_lem : (M : Machine) (t : Turn) → Passes M t → cost_in (turn_entry M t) ≡ turn_cost t
turn_cost_lem M (acting w a) h = subst (λ z. cost_in (bottom_entry z a) ≡ cost a) (sym (acts M w a h).at) (omega arith)
turn_cost_lem M (stealing w v) h = refl

work_run : (M : Machine) (ss : List Step) (C : Clocks) → (run_clocks M C ss).work ≡ cost_in (trace M ss) + C.work
work_run M [] C = omega arith
work_run M (u ∷ ss) C =
    elim (accepted_or_refused M u) [
      | inl a ↦ ap₂ (λ N Z. (run_clocks N Z ss).work) a.after (clocks_accepted M C u a) ∙ work_run (after_turn M (turn_of u)) ss (clocks_turned M C (turn_of u))
          ∙ adds _ _ _ _ (turn_cost_lem M (turn_of u) a.passes) (cost-append (turn_entry M (turn_of u)) (trace (after_turn M (turn_of u)) ss)) ∙ ap (λ z. cost_in z + C.work) (sym (a.traced ss))
      | inr r ↦ ap₂ (λ N Z. (run_clocks N Z ss).work) r.after (clocks_refused M C u r) ∙ work_run M ss C ∙ ap (λ z. cost_in z + C.work) (sym (r.traced ss))
    ]
  where
    adds : (x y z c : ℕ) → x ≡ c → y ≡ x + z → z + (c + C.work) ≡ y + C.work
    adds x y z c e f = omega (arith, e, f)

-- ---- costs depend only on the frames' steps

abbrev not_of : Name → List Entry → List Entry
not_of r [] = []
not_of r (e ∷ es) = cond (same e.frame r) (not_of r es) (e ∷ not_of r es)

abbrev cost_of : List Action → ℕ
cost_of [] = 0
cost_of (a ∷ as') = cost a + cost_of as'

cost_split : (r : Name) (es : List Entry) → cost_in es ≡ cost_of (steps_of r es) + cost_in (not_of r es)
cost_split r [] = omega arith
cost_split r (e ∷ es) = elim (decided (same e.frame r)) [ inl t ↦ rw t (omega (arith, cost_split r es)) | inr t ↦ rw t (omega (arith, cost_split r es)) ]

not_of_length : (r : Name) (es : List Entry) → length (not_of r es) ≤ length es
not_of_length r [] = omega arith
not_of_length r (e ∷ es) = elim (decided (same e.frame r)) [ inl t ↦ rw t (omega (arith, not_of_length r es)) | inr t ↦ rw t (omega (arith, not_of_length r es)) ]

not_of_own : (r : Name) (es : List Entry) → steps_of r (not_of r es) ≡ []
not_of_own r [] = refl
not_of_own r (e ∷ es) = elim (decided (same e.frame r)) [ inl t ↦ rw t (not_of_own r es) | inr t ↦ rw (t, t) (not_of_own r es) ]

not_of_other : (r p : Name) (es : List Entry) → p ≢ r → steps_of p (not_of r es) ≡ steps_of p es
not_of_other r p [] n = refl
not_of_other r p (e ∷ es) n =
    elim (decided (same e.frame r)) [
      | inl t ↦ rw t (not_of_other r p es n ∙ sym (ap (map (λ x. x.action)) (of_skip p e es (same_differ (λ d. n (sym d ∙ same_eq e.frame r t))))))
      | inr t ↦ rw t (elim (decided (same e.frame p)) [ inl u ↦ rw u (ap (λ z. e.action ∷ z) (not_of_other r p es n)) | inr u ↦ rw u (not_of_other r p es n) ])
    ]

abbrev CostSame : ℕ → Type 0
CostSame n = (es fs : List Entry) → length es ≤ n → ((p : Name) → steps_of p es ≡ steps_of p fs) → cost_in es ≡ cost_in fs

cost-none : (fs : List Entry) → ((p : Name) → [] ≡ steps_of p fs) → 0 ≡ cost_in fs
cost-none [] h = refl
cost-none (f ∷ fs) h = absurd (nil≢cons (h f.frame ∙ ap (map (λ x. x.action)) (of_mine f.frame f fs (same_refl f.frame))))

cost-next : (n : ℕ) → CostSame n → CostSame (suc n)
cost-next n ih [] fs l h = cost-none fs h
cost-next n ih (e ∷ es) fs l h = cost_split r (e ∷ es) ∙ ap₂ ◌+◌ (ap cost_of (h r)) (ih (not_of r (e ∷ es)) (not_of r fs) shorter left) ∙ sym (cost_split r fs)
  where
    r : Name
    r = e.frame

    skips : same r r ≡ true → not_of r (e ∷ es) ≡ not_of r es
    skips t = rw t

    shorter : length (not_of r (e ∷ es)) ≤ n
    shorter = subst (λ z. length z ≤ n) (sym (skips (same_refl r))) (let k = not_of_length r es in omega (arith, l, k))

    left : (p : Name) → steps_of p (not_of r (e ∷ es)) ≡ steps_of p (not_of r fs)
    left p = elim (decided (same p r)) [
      | inl t ↦ subst (λ z. steps_of z (not_of r (e ∷ es)) ≡ steps_of z (not_of r fs)) (sym (same_eq p r t)) (not_of_own r (e ∷ es) ∙ sym (not_of_own r fs))
      | inr t ↦ (let ne : p ≢ r = λ d. true≢false (sym (same_of d) ∙ t) in not_of_other r p (e ∷ es) ne ∙ h p ∙ sym (not_of_other r p fs ne))
    ]

cost_zero : CostSame 0
cost_zero [] fs l h = cost-none fs h
cost_zero (e ∷ es) fs l h = absurd (omega arith)

cost-same : (n : ℕ) → CostSame n
cost-same zero = cost_zero
cost-same (suc n) = cost-next n (cost-same n)

-- ---- a frame's clock passes its start by no more than what it and its children still cost

Bound : Ahead → List Entry → Type 0
Bound f es = (c l : ℕ) → f c l ≤ max c l + cost_in es

bound_kind : (a : Action) (e : Entry) (x y z : Ahead) (inner after on : List Entry) → e.action ≡ a → Bound x inner → Bound y after → Bound z on → Bound (combine span_algebra a x y z) (follow a e inner after on)
unfolding Bound
bound_kind spawn e x y z inner after on h i a o c l =
    let hi = i (suc c) 0 in
    let ha = a (suc c) (max l (x (suc c) 0)) in
    let hc = ap cost h in
    omega (arith, hi, ha, hc, cost-append inner after)
bound_kind return e x y z inner after on h i a o c l = omega (arith, o c l)
bound_kind sync e x y z inner after on h i a o c l = omega (arith, o (suc (max c l)) l, ap cost h)
bound_kind (read v) e x y z inner after on h i a o c l = omega (arith, o (suc c) l, ap cost h)
bound_kind (write v u) e x y z inner after on h i a o c l = omega (arith, o (suc c) l, ap cost h)
bound_kind (fold v u) e x y z inner after on h i a o c l = omega (arith, o (suc c) l, ap cost h)

final_bound : (es : List Entry) (p : Name) (k : ℕ) → Bound (final es p k) (child_first es p k)
unfolding Bound
final_bound [] p k = λ c l. omega arith
final_bound (e ∷ es) p k =
    elim (decided (same e.frame p)) [
      | inl t ↦ rw (along_mine span_algebra e es p k t, child_first_mine e es p k t) (bound_kind e.action e _ _ _ _ _ _ refl (final_bound es (k ∷ p) 1) (final_bound es p (suc k)) (final_bound es p k))
      | inr t ↦ rw (along_skip span_algebra e es p k t, child_first_skip e es p k t) (final_bound es p k)
    ]

-- ---- from a start

module _ (w : ℕ) (vs : List ℕ) (nodes places : ℕ) (ss : List Step) (returned : Returned (start w vs nodes places) ss) where
  abbrev T : List Entry
  T = trace_of w vs nodes places ss

  work_is : (pair_of w vs nodes places ss).0 ≡ cost_in T
  work_is = work_run (start w vs nodes places) ss clocks_at_start ∙ (let x : cost_in T + 0 ≡ cost_in T = omega arith in x)

  span_is : (pair_of w vs nodes places ss).1 ≡ final T [] 1 0 0
  span_is =
      span_run (start w vs nodes places) ss (tree-start w vs nodes places) (deques-start w vs nodes places) clocks_at_start (λ r. 0) (clocks_start w vs nodes places) (at_sync-start w vs nodes places)
      (λ f m. ap (λ z. z.spawned) (sym (In-one (subst (λ L. In f L) (live-start w vs nodes places) m)))) (returned_ends (start w vs nodes places) ss (tree-start w vs nodes places) returned)
      ∙ (let x : max 0 (max (final T [] 1 0 (max 0 0)) 0) ≡ final T [] 1 0 0 = omega arith in x)

  -- the span from the frames' steps
  span_from : (fuel : ℕ) → length T ≤ fuel → final T [] 1 ≡ from_steps span_algebra (suc fuel) (steps_in T) []
  span_from fuel h = sym (agrees span_algebra (length vs) nodes places (run_of w vs nodes places ss returned) (disjoint w vs nodes places ss returned) (main vs) (here refl) refl fuel h)

  -- "Give work divided by span": the span is at most the work
  pub span_at_most_work : (pair_of w vs nodes places ss).1 ≤ (pair_of w vs nodes places ss).0
  unfolding Bound
  span_at_most_work = rw (span_is, work_is) (omega (arith, final_bound T [] 1 0 0, same-cost))
    where
      list : List Entry
      list = child_first_list (suc (length T)) T []

      same-cost : cost_in (child_first T [] 1) ≡ cost_in T
      same-cost = ap cost_in (sym (main_list w vs nodes places ss returned)) ∙ cost-same (length list) list T (le_refl (length list)) (λ p. ap (map (λ x. x.action)) (same_of_name w vs nodes places ss returned p))

-- "Two runs with the same frames' steps give the same pair."
pub same_pair : (w w' : ℕ) (vs vs' : List ℕ) (nodes nodes' places places' : ℕ) (ss ss' : List Step) → Returned (start w vs nodes places) ss → Returned (start w' vs' nodes' places') ss'
    → ((p : Name) → steps_of p (trace_of w vs nodes places ss) ≡ steps_of p (trace_of w' vs' nodes' places' ss')) → pair_of w vs nodes places ss ≡ pair_of w' vs' nodes' places' ss'
same_pair w w' vs vs' nodes nodes' places places' ss ss' r r' h = ap₂ (λ x y. (x, y)) same_work same_span
  where
    given : List Entry
    given = trace_of w vs nodes places ss

    other : List Entry
    other = trace_of w' vs' nodes' places' ss'

    fuel : ℕ
    fuel = length given + length other

    same_work : (pair_of w vs nodes places ss).0 ≡ (pair_of w' vs' nodes' places' ss').0
    same_work = work_is w vs nodes places ss r ∙ cost-same (length given) given other (le_refl (length given)) h ∙ sym (work_is w' vs' nodes' places' ss' r')

    same-final : final given [] 1 ≡ final other [] 1
    same-final = span_from w vs nodes places ss r fuel (omega arith) ∙ from_eq span_algebra (suc fuel) (steps_in given) (steps_in other) [] (λ p o. h p) ∙ sym (span_from w' vs' nodes' places' ss' r' fuel (omega arith))

    same_span : (pair_of w vs nodes places ss).1 ≡ (pair_of w' vs' nodes' places' ss').1
    same_span = span_is w vs nodes places ss r ∙ ap (λ (f : Ahead). f 0 0) same-final ∙ sym (span_is w' vs' nodes' places' ss' r')

-- so has the one-worker run
pub one_worker_pair : (w : ℕ) (vs : List ℕ) (nodes places : ℕ) (ss : List Step) → Returned (start w vs nodes places) ss → pair_of 1 vs nodes places (one_worker_of w vs nodes places ss) ≡ pair_of w vs nodes places ss
one_worker_pair w vs nodes places ss r =
    let d = demand3 w vs nodes places ss r in
    same_pair 1 w vs vs nodes nodes places places (one_worker_of w vs nodes places ss) ss d.returns r d.same_steps
