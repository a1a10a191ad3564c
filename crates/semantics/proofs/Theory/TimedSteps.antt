-- R-7: every step carries the clocks beside the plain machine and the clock words beside the engine's run on.
use Rattle.std.specs.Prelude.{◌≡◌, ◌⊎◌, Bool, true, false, List, [], ◌∷◌, ℕ, ◌≤◌, ◌<◌, max, length}
use Rattle.std.proofs.Math.Path.{refl}
use Rattle.std.proofs.Common.{sym, ap, ◌∙◌, subst, inl, inr, arith, le-leb, ne_eqb}
use mathlib.Core.List.Memᴰ.{append_cases as In-cases}
use mathlib.Core.List.Memᴰ.{cases_cons as In-cons}
use mathlib.Core.List.Memᴰ.{eq_of_singleton as In-one}
use mathlib.Core.List.Memᴰ.{head as here}
use mathlib.Core.List.Memᴰ.{map as In-map}
use mathlib.Core.List.Memᴰ.{not-nil as not-in-nil}
use mathlib.Core.List.Memᴰ.{tail as there}
use mathlib.Core.List.{Memᴰ as In}
use mathlib.Core.List.Permᴰ
use Rattle.std.proofs.lemmas.Bool.{lt-leb}
use Rattle.words.specs.Tests.{decided, true≢false}
use Rattle.words.specs.Lists.{In-perm}
use Rattle.frames.specs.Deques.{bottom}
use Rattle.model.specs.declared.Step.{Step}
use Rattle.model.specs.declared.Step.TheVariants.{Spawn, Return, Steal, Sync, Read, Write, Fold}
use Rattle.model.specs.Machine.{Name, Frame, Machine, live, is_empty, has_child, has_frame}
use Rattle.model.specs.Steps.{Action, spawn, return, sync, read, write, fold, acting, stealing, turn_of, refusal, after_turn, step, action_answer, turn_answer, answer}
use Rattle.model.specs.Clocks.{Clock, Clocks, Final, best, settle_by, settle, final_clock, heard, clocks_after}
use Rattle.model.proofs.Theory.LiveRun.{successors}
use Rattle.model.proofs.Theory.Effects.{Passes, Acts, acts, steals}
use Rattle.model.proofs.Theory.RunSteps.{Accepted, Refused, accepted_or_refused, sizes_step}
use Rattle.model.proofs.Theory.FrameTree.{FrameTree, tree-step}
use Rattle.model.proofs.Theory.Outcomes.{main_there}
use Rattle.model.proofs.Theory.DequeShape.{DequeInvariant}
use Rattle.model.proofs.Theory.MainEnds.{In-hasFrame}
use Rattle.model.proofs.Theory.PostOrder.{InPostOrder}
use Rattle.model.proofs.Theory.ViewNames.{is_spawn, settles_in}
use Rattle.model.proofs.Theory.SettleClocks.{clock_names, best_zero}
use Rattle.model.proofs.Theory.ClockNames.{clocks_refused, clocks_step}
use Rattle.model.proofs.Theory.AtSync.{at_sync-step}
use Rattle.model.proofs.Theory.ClocksAfter.{clocks_spawn, clocks_sync, clocks_read, clocks_write, clocks_fold, clocks_steal, clocks_return}
use Rattle.semantics.specs.Core.{Core}
use Rattle.semantics.specs.Timing.{ticked, passed, begun, Timing, costing, timed_by, worker_of, timed_with}
use Rattle.semantics.proofs.Theory.Relation.{Trees, Relates, SamePlaces}
use Rattle.semantics.proofs.Theory.Places.{acting-place}
use Rattle.semantics.proofs.Theory.Words.{refusal_low}
use Rattle.semantics.proofs.Theory.Timed.{Held, Timed, held_of, held_as}
use Rattle.semantics.proofs.Theory.TimedActions.{held_ticked, held_passed, held_waiting}
use Rattle.semantics.proofs.Theory.TimedSpawn.{held_begun}
use Rattle.semantics.proofs.Theory.TimedReturn.{held_returned}
use Rattle.soundness.specs.Layout.{Layout}

-- ---- the answer words

words_refused : (c : Core) (w k v : ℕ) (t : Timing) → k < 100 → timed_by c w (k, v) t ≡ t
unfolding timed_with
words_refused c w k v t b = rw (lt-leb 105 k (omega arith), ne_eqb k 101 (λ z. omega arith), ne_eqb k 102 (λ z. omega arith), ne_eqb k 104 (λ z. omega arith))

words-steal : (c : Core) (w v : ℕ) (t : Timing) → timed_by c w (103, v) t ≡ t
unfolding timed_with
words-steal c w v t = refl

-- the bottom frame of worker w is at place p
module _ (c : Core) (w p : ℕ) (at : bottom c.deques w ≡ p) (t : Timing) where
  words_tick : (k v : ℕ) → 105 ≤ k → timed_by c w (k, v) t ≡ costing t (ticked t.clocks p)
  unfolding timed_with
  words_tick k v b = rw (le-leb 105 k b, at)

  words-spawn : (v : ℕ) → timed_by c w (101, v) t ≡ costing t (begun t.clocks p c.head.numbers.free_place)
  unfolding timed_with
  words-spawn v = rw at

  words-passed : timed_by c w (104, 0) t ≡ costing t (passed t.clocks p)
  unfolding timed_with
  words-passed = rw at

  words-waiting : timed_by c w (104, 1) t ≡ costing t t.clocks
  unfolding timed_with
  words-waiting = refl

module _ (layout : Layout) where
  -- ---- the kinds but spawn: the places are those before

  module _ {P : Trees} {M : Machine} {c : Core} (r : Relates layout P M c) (C : Clocks) (t : Timing) (H : Timed layout r C t) where
    abbrev n : ℕ
    n = length c.frames

    abbrev After : Step → ℕ → ℕ × ℕ → Type 0
    After st w a = Held r.at n (clocks_after M C st) (timed_by c w a t)

    module _ (w : ℕ) (a : Action) (h : Passes M (acting w a)) where
      abbrev x : Acts M w a
      x = acts M w a h

      abbrev busy : Bool
      busy = has_child x.actor.name (live M)

      place : bottom c.deques w ≡ r.at x.actor.name
      place = acting-place layout r w x.actor x.above x.worker x.at

      -- the answer to the bottom frame's step
      told : timed_by c w (turn_answer M (acting w a)) t ≡ timed_by c w (action_answer M w (x.actor ∷ x.above) a) t
      told = ap (λ (l : List Frame). timed_by c w (action_answer M w l a) t) x.at

    held_read : (w y : ℕ) (h : Passes M (acting w (read y))) → After (Read w y) w (turn_answer M (acting w (read y)))
    held_read w y h =
        held_of r.at n (clocks_read M C H.ordered.names H.at_sync w y h) (told w (read y) h ∙ words_tick c w _ (place w (read y) h) t 105 _ (omega arith))
        (held_ticked layout r C t H w (read y) (x w (read y) h) (busy w (read y) h) (λ k. refl))

    held_write : (w y v : ℕ) (h : Passes M (acting w (write y v))) → After (Write w y v) w (turn_answer M (acting w (write y v)))
    held_write w y v h =
        held_of r.at n (clocks_write M C H.ordered.names H.at_sync w y v h) (told w (write y v) h ∙ words_tick c w _ (place w (write y v) h) t 106 _ (omega arith))
        (held_ticked layout r C t H w (write y v) (x w (write y v) h) (busy w (write y v) h) (λ k. refl))

    held_fold : (w i y : ℕ) (h : Passes M (acting w (fold i y))) → After (Fold w i y) w (turn_answer M (acting w (fold i y)))
    held_fold w i y h =
        held_of r.at n (clocks_fold M C H.ordered.names H.at_sync w i y h) (told w (fold i y) h ∙ words_tick c w _ (place w (fold i y) h) t 107 _ (omega arith))
        (held_ticked layout r C t H w (fold i y) (x w (fold i y) h) (busy w (fold i y) h) (λ k. refl))

    held_sync : (w : ℕ) (h : Passes M (acting w sync)) → After (Sync w) w (turn_answer M (acting w sync))
    held_sync w h =
        held_of r.at n (clocks_sync M C H.ordered.names H.at_sync w h) (told w sync h)
        (elim (decided (busy w sync h)) [
          | inl b ↦ rw b (held_of r.at n refl (words-waiting c w _ (place w sync h) t) (held_waiting layout r C t H w sync (x w sync h) true (λ k. refl)))
          | inr b ↦ rw b (held_of r.at n refl (words-passed c w _ (place w sync h) t) (held_passed layout r C t H w sync (x w sync h) false (λ k. refl)))
        ])

    held_steal : (w v : ℕ) → Passes M (stealing w v) → After (Steal w v) w (turn_answer M (stealing w v))
    held_steal w v h = held_of r.at n (clocks_steal M C H.ordered.names H.at_sync w v h) (words-steal c w _ t) H.held

-- ---- a frame that lives after a step that is no spawn lived before, by its name

abbrev NamedBefore : Machine → Machine → Type 0
NamedBefore M M' = (f : Frame) → In f (live M') → (g : Frame) × In g (live M) × (g.name ≡ f.name)

same_name : (q : Frame) (a : Action) → is_spawn a ≡ false → (f : Frame) → In f (successors q a) → f.name ≡ q.name
same_name q spawn s f m = absurd (true≢false s)
same_name q return s f m = ap (λ (g : Frame). g.name) (In-one m)
same_name q sync s f m = ap (λ (g : Frame). g.name) (In-one m)
same_name q (read y) s f m = ap (λ (g : Frame). g.name) (In-one m)
same_name q (write y v) s f m = ap (λ (g : Frame). g.name) (In-one m)
same_name q (fold i y) s f m = ap (λ (g : Frame). g.name) (In-one m)

module _ (layout : Layout) where
  acted_before : (M : Machine) (w : ℕ) (a : Action) → is_spawn a ≡ false → Passes M (acting w a) → NamedBefore M (after_turn M (acting w a))
  acted_before M w a s h f m =
      let x = acts M w a h in
      let π = Permᴰ.symm x.before in
      elim (In-cases (successors x.actor a) (settles_in x.after f m)) [
        | inl i ↦ (x.actor, In-perm π (here refl), sym (same_name x.actor a s f i))
        | inr i ↦ (f, In-perm π (there i), refl)
      ]

stolen_before : (M : Machine) (w v : ℕ) → Passes M (stealing w v) → NamedBefore M (after_turn M (stealing w v))
stolen_before M w v h f m = (f, In-perm (Permᴰ.symm (steals M w v h).same-frames) m, refl)

-- ---- the frames that have ended at a return

in_finals : (s : Name → Bool) (ended : List Final) (cs : List Clock) (f : Final) → In f (settle_by s ended cs).1 → In f ended ⊎ (s f.0 ≡ false)
in_finals s ended [] f m = inl m
in_finals s ended (c ∷ cs) f m =
    elim (decided (s c.name)) [
      | inl e ↦ in_finals s ended cs f (rw e at m)
      | inr e ↦ elim (in_finals s ((c.name, final_clock (heard ended c)) ∷ ended) cs f (rw e at m)) [
        | inl i ↦ elim (In-cons i) [ inl d ↦ inr (ap (λ (z : Final). s z.0) d ∙ e) | inr k ↦ inl k ]
        | inr i ↦ inr i
      ]
    ]

-- Main has not, while a frame lives
none-main : (L : List Frame) (cs : List Clock) → has_frame [] L ≡ true → best is_empty (settle L [] cs).1 ≡ 0
none-main L cs main = best_zero is_empty (settle L [] cs).1 (λ f m. elim (in_finals (λ y. has_frame y L) [] cs f m) [ inl i ↦ absurd (not-in-nil i) | inr e ↦ other f.0 e ])
  where
    other : (y : Name) → has_frame y L ≡ false → is_empty y ≡ false
    other [] e = absurd (true≢false (sym main ∙ e))
    other (k ∷ y) e = refl

module _ (layout : Layout) where
  -- ---- every step

  module _ {P P' : Trees} {M : Machine} {c c' : Core} (r : Relates layout P M c) (st : Step) (r' : Relates layout P' (step M st) c') (S : SamePlaces layout r r') (tree : FrameTree M) (dq : DequeInvariant M) (C : Clocks) (t : Timing) (H : Timed layout r C t) where
    abbrev C' : Clocks
    C' = clocks_after M C st

    same_length : length c'.frames ≡ length c.frames
    same_length = sym r'.numbers.table ∙ (sizes_step M st).places ∙ r.numbers.table

    ordered : InPostOrder (live (step M st)) (clock_names C'.clocks)
    ordered = clocks_step M st C tree H.ordered

    quiet_before : (f : Frame) → NamedBefore M (step M st) → In f (live (step M st)) → C.span ≡ 0
    quiet_before f old m = let g = old f m in H.quiet g.0 g.1

    whole : (t' : Timing) → Held r'.at (length c'.frames) C' t' → ((f : Frame) → In f (live (step M st)) → C'.span ≡ 0) → Timed layout r' C' t'
    whole t' K quiet = record { ordered = ordered; at_sync = at_sync-step M st C tree dq H.ordered H.at_sync; held = K; quiet = quiet }

    -- no frame is new
    none_new : (t' : Timing) → NamedBefore M (step M st) → Held r.at (length c.frames) C' t' → ((f : Frame) → In f (live (step M st)) → C'.span ≡ 0) → Timed layout r' C' t'
    none_new t' old K quiet = whole t' (held_as r.at r'.at (length c.frames) (length c'.frames) C' t' same same_length K) quiet
      where
        same : (k : Clock) → In k C'.clocks → r'.at k.name ≡ r.at k.name
        same k m =
            let f = ordered.names.alive k.name (In-map (λ (u : Clock). u.name) m) in
            let g = old f.0 f.1 in
            ap r'.at (sym (g.2 ∙ f.2)) ∙ S.kept g.0 g.1 ∙ ap r.at (g.2 ∙ f.2)

    refused : Refused M st → Timed layout r' C' (timed_by c (worker_of st) (answer M st) t)
    refused f =
        let same = clocks_refused M C st f in
        let old : NamedBefore M (step M st) = λ g m. (g, subst (λ (N : Machine). In g (live N)) f.after m, refl) in
        none_new (timed_by c (worker_of st) (answer M st) t) old
        (held_of r.at (length c.frames) same (ap (λ (a : ℕ × ℕ). timed_by c (worker_of st) a t) f.answered ∙ words_refused c (worker_of st) (refusal M st) 0 t (refusal_low M st)) H.held)
        (λ g m. ap (λ (Z : Clocks). Z.span) same ∙ quiet_before g old m)

    -- an accepted step that is no spawn
    accepted : Accepted M st → NamedBefore M (after_turn M (turn_of st)) → Held r.at (length c.frames) C' (timed_by c (worker_of st) (turn_answer M (turn_of st)) t) → ((f : Frame) → In f (live (step M st)) → C.span ≡ 0 → C'.span ≡ 0)
        → Timed layout r' C' (timed_by c (worker_of st) (answer M st) t)
    accepted a old K quiet =
        let old' : NamedBefore M (step M st) = subst (NamedBefore M) (sym a.after) old in
        none_new (timed_by c (worker_of st) (answer M st) t) old' (held_of r.at (length c.frames) refl (ap (λ (w : ℕ × ℕ). timed_by c (worker_of st) w t) a.answered) K) (λ f m. quiet f m (quiet_before f old' m))

  -- "Work is the sum of costs, span is Main's clock at its return."
  module _ {P : Trees} (P' : Trees) {M : Machine} {c : Core} (c' : Core) (r : Relates layout P M c) (tree : FrameTree M) (dq : DequeInvariant M) (C : Clocks) (t : Timing) (H : Timed layout r C t) where
    abbrev Stepped : Step → Type 0
    Stepped st = (r' : Relates layout P' (step M st) c') → SamePlaces layout r r' → Accepted M st → Timed layout r' (clocks_after M C st) (timed_by c (worker_of st) (answer M st) t)

    timed_spawn : (w : ℕ) → Stepped (Spawn w)
    timed_spawn w r' S a =
        let h = a.passes in
        let x = acts M w spawn h in
        let busy = has_child x.actor.name (live M) in
        let e = clocks_spawn M C H.ordered.names H.at_sync w h in
        let after = subst (λ (Z : Clocks). InPostOrder (live (step M (Spawn w))) (clock_names Z.clocks)) e (ordered r (Spawn w) r' S tree dq C t H) in
        let place = acting-place layout r w x.actor x.above x.worker x.at in
        let words = ap (λ (k : ℕ × ℕ). timed_by c w k t) (a.answered ∙ ap (λ (l : List Frame). action_answer M w l spawn) x.at) ∙ words-spawn c w (r.at x.actor.name) place t _ in
        whole r (Spawn w) r' S tree dq C t H (timed_by c w (answer M (Spawn w)) t)
        (held_of r'.at (length c'.frames) e words (held_begun layout r r' S (same_length r (Spawn w) r' S tree dq C t H) tree C t H w x busy after))
        (λ f m. ap (λ (Z : Clocks). Z.span) e ∙ H.quiet x.actor (In-perm (Permᴰ.symm x.before) (here refl)))

    timed_return : (w : ℕ) → Stepped (Return w)
    timed_return w r' S a =
        let h = a.passes in
        let M' = after_turn M (acting w return) in
        accepted r (Return w) r' S tree dq C t H a (acted_before layout M w return refl h) (held_returned layout r C t H tree dq w h)
        (λ f m z.
        let b = none-main (live M') C.clocks (subst (λ (N : Machine). has_frame [] (live N) ≡ true) a.after (main_there (live (step M (Return w))) (tree-step M (Return w) tree).rooted f.name (In-hasFrame f.name (live (step M (Return w))) f m refl))) in
        ap (λ (Z : Clocks). Z.span) (clocks_return M C w h) ∙ (let y : max C.span (best is_empty (settle (live M') [] C.clocks).1) ≡ 0 = omega (arith, z, b) in y))

    timed_steal : (w v : ℕ) → Stepped (Steal w v)
    timed_steal w v r' S a = accepted r (Steal w v) r' S tree dq C t H a (stolen_before M w v a.passes) (held_steal layout r C t H w v a.passes) (λ f m z. ap (λ (Z : Clocks). Z.span) (clocks_steal M C H.ordered.names H.at_sync w v a.passes) ∙ z)

    timed_sync : (w : ℕ) → Stepped (Sync w)
    timed_sync w r' S a = accepted r (Sync w) r' S tree dq C t H a (acted_before layout M w sync refl a.passes) (held_sync layout r C t H w a.passes) (λ f m z. ap (λ (Z : Clocks). Z.span) (clocks_sync M C H.ordered.names H.at_sync w a.passes) ∙ z)

    timed_read : (w y : ℕ) → Stepped (Read w y)
    timed_read w y r' S a =
        accepted r (Read w y) r' S tree dq C t H a (acted_before layout M w (read y) refl a.passes) (held_read layout r C t H w y a.passes) (λ f m z. ap (λ (Z : Clocks). Z.span) (clocks_read M C H.ordered.names H.at_sync w y a.passes) ∙ z)

    timed_write : (w y v : ℕ) → Stepped (Write w y v)
    timed_write w y v r' S a =
        accepted r (Write w y v) r' S tree dq C t H a (acted_before layout M w (write y v) refl a.passes) (held_write layout r C t H w y v a.passes) (λ f m z. ap (λ (Z : Clocks). Z.span) (clocks_write M C H.ordered.names H.at_sync w y v a.passes) ∙ z)

    timed_fold : (w i y : ℕ) → Stepped (Fold w i y)
    timed_fold w i y r' S a =
        accepted r (Fold w i y) r' S tree dq C t H a (acted_before layout M w (fold i y) refl a.passes) (held_fold layout r C t H w i y a.passes) (λ f m z. ap (λ (Z : Clocks). Z.span) (clocks_fold M C H.ordered.names H.at_sync w i y a.passes) ∙ z)

    by_kind : (st : Step) → Stepped st
    by_kind (Spawn w) = timed_spawn w
    by_kind (Return w) = timed_return w
    by_kind (Steal w v) = timed_steal w v
    by_kind (Sync w) = timed_sync w
    by_kind (Read w y) = timed_read w y
    by_kind (Write w y v) = timed_write w y v
    by_kind (Fold w i y) = timed_fold w i y

  -- r' relates what the step leaves, and the frames keep their places
  pub timed_step : {P P' : Trees} {M : Machine} {c c' : Core} (r : Relates layout P M c) (st : Step) (r' : Relates layout P' (step M st) c') → SamePlaces layout r r' → FrameTree M → DequeInvariant M → (C : Clocks) (t : Timing) → Timed layout r C t
      → Timed layout r' (clocks_after M C st) (timed_by c (worker_of st) (answer M st) t)
  timed_step {P' = P'} {M = M} {c' = c'} r st r' S tree dq C t H = elim (accepted_or_refused M st) [
    | inl a ↦ by_kind P' c' r tree dq C t H st r' S a
    | inr f ↦ refused r st r' S tree dq C t H f
  ]
