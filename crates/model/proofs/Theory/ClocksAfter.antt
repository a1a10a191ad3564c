-- The clocks after each kind of accepted step.
use Rattle.std.specs.Prelude.{◌≡◌, refl, ◌≢◌, Bool, true, ℕ, ◌+◌, max}
use Rattle.std.proofs.Common.{sym, ap, ap₂, ◌∙◌, subst, inl, inr, arith}
use mathlib.Core.List.Memᴰ.{append_cases as In-cases}
use mathlib.Core.List.Memᴰ.{cases_cons as In-cons}
use mathlib.Core.List.Memᴰ.{head as here}
use mathlib.Core.List.Memᴰ.{map as In-map}
use mathlib.Core.List.Memᴰ.{not-nil as not-in-nil}
use mathlib.Core.List.Memᴰ.{tail as there}
use mathlib.Core.List.{Memᴰ as In}
use mathlib.Core.List.Permᴰ
use mathlib.Core.List.{List, [], ◌∷◌, ◌++◌, map, Permᴰ}
use Rattle.words.specs.Basics.{same}
use Rattle.words.specs.Tests.{decided}
use Rattle.words.specs.Distinct.{same_eq}
use Rattle.words.specs.Lists.{In-perm}
use Rattle.model.specs.declared.Step.{Step}
use Rattle.model.specs.declared.Step.TheVariants.{Spawn, Return, Steal, Sync, Read, Write, Fold}
use Rattle.model.specs.Machine.{Name, Frame, Machine, live, is_empty, has_child, has_frame}
use Rattle.model.specs.Steps.{Action, spawn, return, sync, read, write, fold, acting, stealing, turn_of, after_action, after_turn}
use Rattle.model.specs.Clocks.{Clock, Clocks, cost, moved, clocks_moved, bottom_clocks, Final, best, woken, settle, clocks_after}
use Rattle.model.proofs.Theory.LiveRun.{successors}
use Rattle.model.proofs.Theory.Effects.{Passes, rest, other_action, action_live, Acts, acts}
use Rattle.model.proofs.Theory.RunSteps.{accepted_at}
use Rattle.model.proofs.Theory.MainEnds.{In-hasFrame}
use Rattle.model.proofs.Theory.ViewNames.{names_acted, NamesOf, acted_alive}
use Rattle.model.proofs.Theory.SettleClocks.{clock_names, AllGoOn, settle-none, AllAsleep, woken-none}
use Rattle.model.proofs.Theory.ClockNames.{clocks_turned, clocks_accepted, clock_names-moved, became}
use Rattle.model.proofs.Theory.AtSync.{AtSync, still_suspended, suspended_self, clocks_stolen}

-- ---- no frame ends, and no sync passes

still_asleep : (q : Frame) (a : Action) (busy : Bool) (fs : List Frame) (cs : List Clock) → AllAsleep fs cs → (a ≡ sync → busy ≡ true → has_frame q.name fs ≡ true) → AllAsleep fs (clocks_moved q a busy cs)
still_asleep q a busy fs [] h s u m t = absurd (not-in-nil m)
still_asleep q a busy fs (c ∷ cs) h s u m t =
    elim (decided (same c.name q.name)) [
      | inl e ↦ elim (In-cases (moved q a busy c) (rw e at m)) [
        | inl i ↦ (let b = (became q a busy c u i).waits t in
            ap (λ n. has_frame n fs) b.0 ∙ elim b.1 [ inl z ↦ h c (here refl) z | inr z ↦ ap (λ n. has_frame n fs) (same_eq c.name q.name e) ∙ s z.0 z.1 ])
        | inr i ↦ h u (there i) t
      ]
      | inr e ↦ elim (In-cons (rw e at m)) [ inl d ↦ h u (here d) t | inr i ↦ still_asleep q a busy fs cs (λ x j. h x (there j)) s u i t ]
    ]

module _ (M : Machine) (C : Clocks) (o : NamesOf (live M) (clock_names C.clocks)) (k : AtSync M C.clocks) where
  -- each clock after the step is of a frame that lives then
  stays : (w : ℕ) (a : Action) (x : Acts M w a) (L' : List Frame) → Permᴰ L' (successors x.actor a ++ (x.above ++ rest M w)) → (busy : Bool) → AllGoOn (λ n. has_frame n L') (clocks_moved x.actor a busy C.clocks)
  stays w a x L' π busy c m =
      let i : In c.name (names_acted x.actor a (clock_names C.clocks)) = subst (λ (l : List Name). In c.name l) (clock_names-moved x.actor a busy C.clocks) (In-map (λ (u : Clock). u.name) m) in
      let f = acted_alive M w a (clock_names C.clocks) x o c.name i in
      In-hasFrame c.name L' f.0 (In-perm (Permᴰ.symm π) f.1) f.2

  -- a step other than a return and a steal
  pub clocks_action : (st : Step) (w : ℕ) (a : Action) → turn_of st ≡ acting w a → a ≢ return → (h : Passes M (acting w a))
      → clocks_after M C st ≡ record { clocks = clocks_moved (acts M w a h).actor a (has_child (acts M w a h).actor.name (live M)) C.clocks; work = cost a + C.work; span = C.span }
  clocks_action st w a t n h =
      clocks_accepted M C st (accepted_at M st (subst (Passes M) (sym t) h))
      ∙ ap (clocks_turned M C) t
      ∙ ap (λ d. turned (after_action M w d a) (bottom_clocks M d a C.clocks)) x.at
      ∙ ap (λ (r : List Clock × List Final). record { clocks = map (woken M'.suspended) r.0; work = cost a + C.work; span = max C.span (best is_empty r.1) })
      (settle-none (λ n. has_frame n (live M')) cs₁ (stays w a x (live M') (action_live M w q x.above a n x.worker x.at) busy))
      ∙ ap₂ (λ cs y. record { clocks = cs; work = cost a + C.work; span = y })
      (woken-none M'.suspended cs₁ (still_asleep q a busy M'.suspended C.clocks asleep (suspended_self M w q x.above a)))
      (let z : max C.span 0 ≡ C.span = omega arith in z)
    where
      x : Acts M w a
      x = acts M w a h

      q : Frame
      q = x.actor

      busy : Bool
      busy = has_child q.name (live M)

      cs₁ : List Clock
      cs₁ = clocks_moved q a busy C.clocks

      M' : Machine
      M' = after_action M w (q ∷ x.above) a

      turned : Machine → List Clock → Clocks
      turned N cs = let r = settle (live N) [] cs in record { clocks = map (woken N.suspended) r.0; work = cost a + C.work; span = max C.span (best is_empty r.1) }

      asleep : AllAsleep M'.suspended C.clocks
      asleep c m t = let f = k.suspended c m t in In-hasFrame c.name M'.suspended f.0 (still_suspended M w q x.above a n f.0 f.1) f.2

  pub clocks_spawn : (w : ℕ) (h : Passes M (acting w spawn))
      → clocks_after M C (Spawn w) ≡ record { clocks = clocks_moved (acts M w spawn h).actor spawn (has_child (acts M w spawn h).actor.name (live M)) C.clocks; work = 1 + C.work; span = C.span }
  clocks_spawn w h = clocks_action (Spawn w) w spawn refl (λ z. other_action z refl) h

  pub clocks_sync : (w : ℕ) (h : Passes M (acting w sync))
      → clocks_after M C (Sync w) ≡ record { clocks = clocks_moved (acts M w sync h).actor sync (has_child (acts M w sync h).actor.name (live M)) C.clocks; work = 1 + C.work; span = C.span }
  clocks_sync w h = clocks_action (Sync w) w sync refl (λ z. other_action z refl) h

  pub clocks_read : (w x : ℕ) (h : Passes M (acting w (read x)))
      → clocks_after M C (Read w x) ≡ record { clocks = clocks_moved (acts M w (read x) h).actor (read x) (has_child (acts M w (read x) h).actor.name (live M)) C.clocks; work = 1 + C.work; span = C.span }
  clocks_read w x h = clocks_action (Read w x) w (read x) refl (λ z. other_action z refl) h

  pub clocks_write : (w x v : ℕ) (h : Passes M (acting w (write x v)))
      → clocks_after M C (Write w x v) ≡ record { clocks = clocks_moved (acts M w (write x v) h).actor (write x v) (has_child (acts M w (write x v) h).actor.name (live M)) C.clocks; work = 1 + C.work; span = C.span }
  clocks_write w x v h = clocks_action (Write w x v) w (write x v) refl (λ z. other_action z refl) h

  pub clocks_fold : (w i x : ℕ) (h : Passes M (acting w (fold i x)))
      → clocks_after M C (Fold w i x) ≡ record { clocks = clocks_moved (acts M w (fold i x) h).actor (fold i x) (has_child (acts M w (fold i x) h).actor.name (live M)) C.clocks; work = 1 + C.work; span = C.span }
  clocks_fold w i x h = clocks_action (Fold w i x) w (fold i x) refl (λ z. other_action z refl) h

  pub clocks_steal : (w v : ℕ) → Passes M (stealing w v) → clocks_after M C (Steal w v) ≡ C
  clocks_steal w v h = clocks_accepted M C (Steal w v) (accepted_at M (Steal w v) h) ∙ clocks_stolen M C o k w v h

-- ---- a return: frames end, and a sync may pass

returned-none : (q : Frame) (busy : Bool) (cs : List Clock) → clocks_moved q return busy cs ≡ cs
returned-none q busy [] = refl
returned-none q busy (c ∷ cs) = elim (decided (same c.name q.name)) [ inl t ↦ rw t | inr t ↦ rw t (ap (λ z. c ∷ z) (returned-none q busy cs)) ]

pub clocks_return : (M : Machine) (C : Clocks) (w : ℕ) → Passes M (acting w return)
    → clocks_after M C (Return w) ≡ (let M' = after_turn M (acting w return) in let r = settle (live M') [] C.clocks in record { clocks = map (woken M'.suspended) r.0; work = C.work; span = max C.span (best is_empty r.1) })
clocks_return M C w h =
    let M' = after_turn M (acting w return) in
    let x = acts M w return h in
    clocks_accepted M C (Return w) (accepted_at M (Return w) h)
    ∙ ap₂ (λ (cs : List Clock) (n : ℕ). (let r = settle (live M') [] cs in record { clocks = map (woken M'.suspended) r.0; work = n; span = max C.span (best is_empty r.1) }))
    (ap (λ (d : List Frame). bottom_clocks M d return C.clocks) x.at ∙ returned-none x.actor (has_child x.actor.name (live M)) C.clocks)
    (let z : 0 + C.work ≡ C.work = omega arith in z)
