-- Which clocks wait: those of the frames that are suspended at a sync.
use Rattle.std.specs.Prelude.{◌≡◌, refl, ◌≢◌, ◌⊎◌, Bool, true, false, List, [], ◌∷◌, map, ℕ, ◌+◌, max, set}
use Rattle.std.proofs.Common.{sym, ap, ap₂, ◌∙◌, subst, inl, inr, arith}
use mathlib.Core.List.Memᴰ
use mathlib.Core.List.Memᴰ.{append_left as In-left}
use mathlib.Core.List.Memᴰ.{append_right as In-right}
use mathlib.Core.List.Memᴰ.{cases_cons as In-cons}
use mathlib.Core.List.Memᴰ.{eq_of_singleton as In-one}
use mathlib.Core.List.Memᴰ.{head as here}
use mathlib.Core.List.Memᴰ.{map as In-map}
use mathlib.Core.List.Memᴰ.{not-nil as not-in-nil}
use mathlib.Core.List.Memᴰ.{tail as there}
use mathlib.Core.List.{Memᴰ as In}
use Rattle.words.specs.Basics.{joined}
use Rattle.words.specs.Tests.{true≢false, decided}
use Rattle.words.specs.Lists.{In-perm}
use Rattle.model.specs.declared.Step.{Step}
use Rattle.model.specs.Machine.{Name, Frame, Machine, live, with_deque, is_empty, has_child, has_frame, those, start}
use Rattle.model.specs.Steps.{Action, spawn, return, sync, read, write, fold, Turn, acting, stealing, turn_of, child, as_returning, waits_in_return, waits_at_sync, leave, upward, after_end, after_action, after_turn, step}
use Rattle.model.specs.Clocks.{Clock, Clocks, clocks_at_start, moved, clocks_moved, bottom_clocks, Final, best, heard, woken, settle, clocks_after}
use Rattle.model.proofs.Theory.LiveRun.{disjoint_perm}
use Rattle.model.proofs.Theory.Effects.{Passes, other_action, Acts, acts, steals}
use Rattle.model.proofs.Theory.FrameTree.{FrameTree}
use Rattle.model.proofs.Theory.DequeShape.{DequeInvariant, one_named, in_others}
use Rattle.model.proofs.Theory.MainEnds.{In-hasFrame, has_frame_In}
use Rattle.model.proofs.Theory.ViewNames.{NamesOf, child_new}
use Rattle.model.proofs.Theory.PostOrder.{post_nodup, InPostOrder}
use Rattle.model.proofs.Theory.SettleClocks.{clock_names, settle-none, woken_not, woken_yes, woken-none, woken_name, in_settled}
use Rattle.model.proofs.Theory.ClockNames.{clocks_turned, clocks_kept, in_moved, became}

-- ---- the frames that are suspended after a step of q

-- those that were, while no frame ends
pub still_suspended : (M : Machine) (w : ℕ) (q : Frame) (d : List Frame) (a : Action) → a ≢ return → (f : Frame) → In f M.suspended → In f (after_action M w (q ∷ d) a).suspended
still_suspended M w q d spawn n f m = m
still_suspended M w q d return n f m = absurd (n refl)
still_suspended M w q d sync n f m = elim (decided (has_child q.name (live M))) [ inl c ↦ rw c (there m) | inr c ↦ rw c m ]
still_suspended M w q d (read x) n f m = m
still_suspended M w q d (write x v) n f m = m
still_suspended M w q d (fold x v) n f m = m

upward_suspended : (M : Machine) (w : ℕ) (r : Name) (f : Frame) → In f (upward M w r).suspended → In f M.suspended
upward_suspended M w [] f m = m
upward_suspended M w (k ∷ p) f m =
    elim (decided (has_child p (live M))) [
      | inl c ↦ rw c at m
      | inr c ↦ elim (decided (is_empty (those (waits_in_return p) M.suspended))) [
        | inl s ↦ (in_others (waits_at_sync p) M.suspended f (rw (c, s) at m)).0
        | inr s ↦ (in_others (waits_in_return p) M.suspended f (upward_suspended (leave M p) w p f (rw (c, s) at m))).0
      ]
    ]

-- one that is suspended was so before, or is q at its sync, or q in its return
pub suspended_from : (M : Machine) (w : ℕ) (q : Frame) (d : List Frame) (a : Action) (f : Frame) → In f (after_action M w (q ∷ d) a).suspended
    → In f M.suspended ⊎ (((a ≡ sync) × (has_child q.name (live M) ≡ true) × (f ≡ q)) ⊎ ((a ≡ return) × (f ≡ as_returning q)))
suspended_from M w q d spawn f m = inl m
suspended_from M w q d return f m =
    elim (decided (has_child q.name (live M))) [ inl c ↦ elim (In-cons (rw c at m)) [ inl e ↦ inr (inr (refl, e)) | inr i ↦ inl i ] | inr c ↦ inl (ends d (rw c at m)) ]
  where
    ends : (d : List Frame) → In f (after_end M w q d).suspended → In f M.suspended
    ends [] i = upward_suspended (with_deque M w []) w q.name f i
    ends (g ∷ d) i = i
suspended_from M w q d sync f m = elim (decided (has_child q.name (live M))) [ inl c ↦ elim (In-cons (rw c at m)) [ inl e ↦ inr (inl (refl, c, e)) | inr i ↦ inl i ] | inr c ↦ inl (rw c at m) ]
suspended_from M w q d (read x) f m = inl m
suspended_from M w q d (write x v) f m = inl m
suspended_from M w q d (fold x v) f m = inl m

-- q, whose sync waits, is suspended
pub suspended_self : (M : Machine) (w : ℕ) (q : Frame) (d : List Frame) (a : Action) → a ≡ sync → has_child q.name (live M) ≡ true → has_frame q.name (after_action M w (q ∷ d) a).suspended ≡ true
suspended_self M w q d a e b =
    let fs : List Frame = (after_action M w (q ∷ d) sync).suspended in
    ap (λ z. has_frame q.name (after_action M w (q ∷ d) z).suspended) e ∙ In-hasFrame q.name fs q (rw b (here refl)) refl

-- ---- a clock waits just when its frame is suspended at its sync

pub record AtSync (M : Machine) (cs : List Clock) : Type 0 where
  pub suspended : (c : Clock) → In c cs → c.waits ≡ true → (f : Frame) × In f M.suspended × (f.name ≡ c.name) × (f.returning ≡ false)
  pub waits : (c : Clock) → In c cs → (f : Frame) → In f M.suspended → f.name ≡ c.name → f.returning ≡ false → c.waits ≡ true

-- what a clock that is left came from
left_from : (fs : List Frame) (L : List Frame) (cs : List Clock) (u : Clock) → In u (map (woken fs) (settle L [] cs).0) → (c : Clock) × In c cs × (ended : List Final) × (u ≡ woken fs (heard ended c))
left_from fs L cs u m =
    let x = Memᴰ.of_map (woken fs) (settle L [] cs).0 m in
    let y = in_settled (λ n. has_frame n L) [] cs x.0 x.1 in
    (y.0, y.1, y.2, sym x.2 ∙ ap (woken fs) y.3)

still_waits : (fs : List Frame) (c : Clock) → (woken fs c).waits ≡ true → (c.waits ≡ true) × (has_frame c.name fs ≡ true)
still_waits fs c w = elim (decided c.waits) [
  | inl e ↦ elim (decided (has_frame c.name fs)) [ inl h ↦ (e, h) | inr h ↦ absurd (true≢false (sym w ∙ ap (λ z. z.waits) (woken_yes fs c e h))) ]
  | inr e ↦ absurd (true≢false (sym w ∙ ap (λ z. z.waits) (woken_not fs c (λ z. absurd (true≢false (sym z ∙ e)))) ∙ e))
]

-- ---- a step of q keeps that

module _ (M : Machine) (w : ℕ) (a : Action) (C : Clocks) (x : Acts M w a) (tree : FrameTree M) (dq : DequeInvariant M) (o : InPostOrder (live M) (clock_names C.clocks)) (k : AtSync M C.clocks) where
  abbrev q : Frame
  q = x.actor

  abbrev M' : Machine
  M' = after_action M w (q ∷ x.above) a

  abbrev busy : Bool
  busy = has_child q.name (live M)

  abbrev cs₁ : List Clock
  cs₁ = clocks_moved q a busy C.clocks

  -- q is in a deque
  not_suspended : (f : Frame) → In f M.suspended → f.name ≢ q.name
  not_suspended f m e = (disjoint_perm x.before tree.disjoint).0 f (In-right x.above (In-left (joined (set M.deques w [])) m)) q.name (inl refl) (inl (sym e))

  active : q.returning ≡ false
  active = dq.active w q (subst (λ z. In q z) (sym x.at) (here refl))

  not_child : (f : Frame) → In f M.suspended → f.name ≢ (child q).name
  not_child f m e = child_new M w a (clock_names C.clocks) x tree o.names (Memᴰ.cast (sym e) (o.names.all f (In-left (joined M.deques) m)))

  -- q's own clock does not wait
  pub awake : (c : Clock) → In c C.clocks → c.name ≡ q.name → c.waits ≡ false
  awake c m n = elim (decided c.waits) [ inl t ↦ (let g = k.suspended c m t in absurd (not_suspended g.0 g.1 (g.2 ∙ n))) | inr t ↦ t ]

  -- a clock that waits before the frames that end have ended
  pub waits_from : (u : Clock) → In u cs₁ → u.waits ≡ true → ((f : Frame) × In f M.suspended × (f.name ≡ u.name) × (f.returning ≡ false)) ⊎ ((a ≡ sync) × (busy ≡ true) × (u.name ≡ q.name))
  waits_from u m t = elim (in_moved q a busy C.clocks (post_nodup (clock_names C.clocks) o.post) u m) [
    | inl i ↦ inl (k.suspended u i.0 t)
    | inr r ↦ (let b = (became q a busy r.0 u r.3).waits t in elim b.1 [ inl z ↦ absurd (true≢false (sym z ∙ awake r.0 r.1 r.2)) | inr z ↦ inr (z.0, z.1, b.0 ∙ r.2) ])
  ]

  kept_suspended : (u : Clock) → In u (map (woken M'.suspended) (settle (live M') [] cs₁).0) → u.waits ≡ true → (f : Frame) × In f M'.suspended × (f.name ≡ u.name) × (f.returning ≡ false)
  kept_suspended u m t =
      let y = left_from M'.suspended (live M') cs₁ u m in
      let h = heard y.2 y.0 in
      let s = still_waits M'.suspended h (ap (λ z. z.waits) (sym y.3) ∙ t) in
      let f = has_frame_In y.0.name M'.suspended s.1 in
      (f.0, f.1, f.2 ∙ sym (ap (λ z. z.name) y.3 ∙ woken_name M'.suspended h), not_returning y.0 y.1 s.0 f.0 f.1 f.2)
    where
      not_returning : (c : Clock) → In c cs₁ → c.waits ≡ true → (f : Frame) → In f M'.suspended → f.name ≡ c.name → f.returning ≡ false
      not_returning c i t f j e = elim (waits_from c i t) [
        | inl g ↦ elim (suspended_from M w q x.above a f j) [
          | inl j' ↦ ap (λ z. z.returning) (one_named (live M) tree.disjoint f g.0 (In-left (joined M.deques) j') (In-left (joined M.deques) g.1) (e ∙ sym g.2)) ∙ g.3
          | inr z ↦ absurd (not_suspended g.0 g.1 (g.2 ∙ sym e ∙ elim z [ inl y ↦ ap (λ v. v.name) y.2 | inr y ↦ ap (λ v. v.name) y.1 ]))
        ]
        | inr g ↦ elim (suspended_from M w q x.above a f j) [
          | inl j' ↦ absurd (not_suspended f j' (e ∙ g.2))
          | inr z ↦ elim z [ inl y ↦ ap (λ v. v.returning) y.2 ∙ active | inr y ↦ absurd (other_action (sym g.0 ∙ y.0) refl) ]
        ]
      ]

  kept_waits : (u : Clock) → In u (map (woken M'.suspended) (settle (live M') [] cs₁).0) → (f : Frame) → In f M'.suspended → f.name ≡ u.name → f.returning ≡ false → u.waits ≡ true
  kept_waits u m f j e on =
      let y = left_from M'.suspended (live M') cs₁ u m in
      let h = heard y.2 y.0 in
      let named = e ∙ ap (λ z. z.name) y.3 ∙ woken_name M'.suspended h in
      ap (λ z. z.waits) (y.3 ∙ woken_not M'.suspended h (λ t. In-hasFrame y.0.name M'.suspended f j named)) ∙ waits_on y.0 y.1 named
    where
      waits_on : (c : Clock) → In c cs₁ → f.name ≡ c.name → c.waits ≡ true
      waits_on c i n = elim (suspended_from M w q x.above a f j) [
        | inl j' ↦ elim (in_moved q a busy C.clocks (post_nodup (clock_names C.clocks) o.post) c i) [
          | inl r ↦ k.waits c r.0 f j' n on
          | inr r ↦ absurd (elim (became q a busy r.0 c r.3).whose [ inl z ↦ not_suspended f j' (n ∙ z ∙ r.2) | inr z ↦ not_child f j' (n ∙ z.1) ])
        ]
        | inr z ↦ elim z [ inl y ↦ own y.0 y.1 (sym n ∙ ap (λ v. v.name) y.2) | inr y ↦ absurd (true≢false (ap (λ v. v.returning) (sym y.1) ∙ on)) ]
      ]
        where
          own : a ≡ sync → busy ≡ true → c.name ≡ q.name → c.waits ≡ true
          own s b e = elim (in_moved q a busy C.clocks (post_nodup (clock_names C.clocks) o.post) c i) [
            | inl r ↦ absurd (r.1 e)
            | inr r ↦ ap (λ z. z.waits) (In-one (subst (λ (z : Action × Bool). In c (moved q z.0 z.1 r.0)) (ap₂ (λ y z. (y, z)) s b) r.3))
          ]

  at_sync-acting : AtSync M' (map (woken M'.suspended) (settle (live M') [] cs₁).0)
  at_sync-acting = record { suspended = kept_suspended; waits = kept_waits }

-- ---- a steal alters no clock

pub clocks_stolen : (M : Machine) (C : Clocks) → NamesOf (live M) (clock_names C.clocks) → AtSync M C.clocks → (w v : ℕ) → Passes M (stealing w v) → clocks_turned M C (stealing w v) ≡ C
clocks_stolen M C o k w v h =
    let M' = after_turn M (stealing w v) in
    ap (λ (r : List Clock × List Final). record { clocks = map (woken M.suspended) r.0; work = 0 + C.work; span = max C.span (best is_empty r.1) })
    (settle-none (λ n. has_frame n (live M')) C.clocks
    (λ u m. let f = o.alive u.name (In-map (λ (z : Clock). z.name) m) in In-hasFrame u.name (live M') f.0 (In-perm (steals M w v h).same-frames f.1) f.2))
    ∙ ap (λ cs. record { clocks = cs; work = 0 + C.work; span = max C.span 0 }) (woken-none M.suspended C.clocks (λ c m t. let f = k.suspended c m t in In-hasFrame c.name M.suspended f.0 f.1 f.2))
    ∙ ap₂ (λ x y. record { clocks = C.clocks; work = x; span = y }) (let z : 0 + C.work ≡ C.work = omega arith in z) (let z : max C.span 0 ≡ C.span = omega arith in z)

-- ---- every step keeps it

pub at_sync_turn : (M : Machine) (t : Turn) (C : Clocks) → Passes M t → FrameTree M → DequeInvariant M → InPostOrder (live M) (clock_names C.clocks) → AtSync M C.clocks → AtSync (after_turn M t) (clocks_turned M C t).clocks
at_sync_turn M (acting w a) C h tree dq o k =
    let x = acts M w a h in
    subst (λ d. AtSync (after_action M w d a) (map (woken (after_action M w d a).suspended) (settle (live (after_action M w d a)) [] (bottom_clocks M d a C.clocks)).0)) (sym x.at) (at_sync-acting M w a C x tree dq o k)
at_sync_turn M (stealing w v) C h tree dq o k = subst (λ Z. AtSync (after_turn M (stealing w v)) Z.clocks) (sym (clocks_stolen M C o.names k w v h)) (record { suspended = k.suspended; waits = k.waits })

pub at_sync-step : (M : Machine) (s : Step) (C : Clocks) → FrameTree M → DequeInvariant M → InPostOrder (live M) (clock_names C.clocks) → AtSync M C.clocks → AtSync (step M s) (clocks_after M C s).clocks
at_sync-step M s C tree dq o k = clocks_kept (λ N Z. AtSync N Z.clocks) M s C (λ h. at_sync_turn M (turn_of s) C h tree dq o k) k

pub at_sync-start : (w : ℕ) (vs : List ℕ) (nodes places : ℕ) → AtSync (start w vs nodes places) clocks_at_start.clocks
at_sync-start w vs nodes places = record { suspended = λ c m t. absurd (true≢false (sym t ∙ ap (λ z. z.waits) (In-one m))); waits = λ c m f i. absurd (not-in-nil i) }
