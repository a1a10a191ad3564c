-- Main has returned, that is, a return was answered with outcome 3, just when no frame is live.
use Rattle.std.specs.Prelude.{◌≡◌, refl, ◌≢◌, Bool, true, false, not, ℕ, ◌<◌, length}
use Rattle.std.proofs.Common.{sym, ap, ◌∙◌, subst, inl, inr, arith}
use mathlib.Core.List.Memᴰ.{append_left as In-left}
use mathlib.Core.List.Memᴰ.{cases_cons as In-cons}
use mathlib.Core.List.Memᴰ.{head as here}
use mathlib.Core.List.Memᴰ.{not-nil as not-in-nil}
use mathlib.Core.List.Memᴰ.{tail as there}
use mathlib.Core.List.{Memᴰ as In}
use mathlib.Core.List.Permᴰ
use mathlib.Core.List.{List, [], ◌∷◌, ◌++◌, cons≢nil}
use Rattle.words.specs.Tests.{true≢false, decided, not-true}
use Rattle.words.specs.Basics.{same}
use Rattle.words.specs.Distinct.{same_of, same_eq}
use Rattle.words.specs.Lists.{In-perm}
use Rattle.model.specs.declared.Step.{Step}
use Rattle.model.specs.Machine.{Name, Frame, Machine, live, deque, is_empty, has_child, has_frame}
use Rattle.model.specs.Steps.{Action, spawn, return, sync, read, write, fold, Turn, acting, stealing, turn_of, first_true, as_returning, suspend, after_end, after_action, after_turn, step, end_outcome, action_answer, turn_answer, answer}
use Rattle.model.specs.Run.{run, Returned}
use Rattle.model.proofs.Theory.LiveRun.{successor}
use Rattle.model.proofs.Theory.Effects.{Passes, rest, is_empty_nil, other_action, action_live, acts, steals}
use Rattle.model.proofs.Theory.RunSteps.{accepted_or_refused}
use Rattle.model.proofs.Theory.FrameTree.{Rooted, FrameTree, tree_turn, tree-step, main-lives}

-- ---- Main ends last

empty_of : (L : List Frame) → ((f : Frame) → In f L → ⊥) → L ≡ []
empty_of [] h = refl
empty_of (f ∷ L) h = absurd (h f (here refl))

pub In-hasFrame : (p : Name) (L : List Frame) (f : Frame) → In f L → f.name ≡ p → has_frame p L ≡ true
In-hasFrame p [] f m n = absurd (not-in-nil m)
In-hasFrame p (g ∷ L) f m n =
    elim (In-cons m) [ inl e ↦ rw (same_of (ap (λ z. z.name) (sym e) ∙ n)) | inr i ↦ elim (decided (same g.name p)) [ inl s ↦ rw s | inr s ↦ rw s (In-hasFrame p L f i n) ] ]

pub has_frame_In : (p : Name) (L : List Frame) → has_frame p L ≡ true → (f : Frame) × In f L × (f.name ≡ p)
has_frame_In p [] h = absurd (true≢false (sym h))
has_frame_In p (f ∷ L) h =
    elim (decided (same f.name p)) [ inl t ↦ (f, here refl, same_eq f.name p t) | inr t ↦ (let r = has_frame_In p L (rw t at h) in (r.0, there r.1, r.2)) ]

-- where Main does not live, no frame does
none_left : (L : List Frame) → Rooted L → not (has_frame [] L) ≡ true → L ≡ []
none_left L r h = empty_of L (λ f m. let x = main-lives L r f.name f m refl in true≢false (sym (In-hasFrame [] L x.0 x.1 x.2) ∙ not-true _ h))

-- ---- outcome 3

outcome_three : (M : Machine) (w : ℕ) (d : List Frame) → end_outcome M w d ≡ 3 → not (has_frame [] (live M)) ≡ true
outcome_three M w d h =
    elim (decided (not (has_frame [] (live M)))) [
      | inl t ↦ t
      | inr t ↦ absurd (other (not (is_empty d)) (is_empty (deque M w)) (rw t at h))
    ]
  where
    other : (a b : Bool) → ◌≡◌ {A = ℕ} (first_true 2 ((a, 0) ∷ (b, 1) ∷ [])) 3 → ⊥
    other true b e = omega arith
    other false true e = omega arith
    other false false e = omega arith

action_three : (M : Machine) (w : ℕ) (a : Action) (q : Frame) (d : List Frame) → action_answer M w (q ∷ d) a ≡ (102, 3) → not (has_frame [] (live (after_action M w (q ∷ d) a))) ≡ true
action_three M w spawn q d h = absurd (omega (arith, ap (λ z. z.0) h))
action_three M w return q d h =
    elim (decided (has_child q.name (live M))) [
      | inl c ↦ absurd (four (ap (λ z. z.1) (rw c at h)))
      | inr c ↦ rw c (outcome_three (after_end M w q d) w d (ap (λ z. z.1) (rw c at h)))
    ]
  where
    four : ◌≡◌ {A = ℕ} 4 3 → ⊥
    four e = omega arith
action_three M w sync q d h = absurd (omega (arith, ap (λ z. z.0) h))
action_three M w (read x) q d h = absurd (omega (arith, ap (λ z. z.0) h))
action_three M w (fold x y) q d h = absurd (omega (arith, ap (λ z. z.0) h))
action_three M w (write x v) q d h = absurd (omega (arith, ap (λ z. z.0) h))

turn_three : (M : Machine) (t : Turn) → Passes M t → FrameTree M → turn_answer M t ≡ (102, 3) → live (after_turn M t) ≡ []
turn_three M (stealing w v) h s e = absurd (omega (arith, ap (λ z. z.0) e))
turn_three M (acting w a) h s e =
    let x = acts M w a h in
    none_left (live (after_action M w (deque M w) a)) (tree_turn M (acting w a) h s).rooted
    (subst (λ z. not (has_frame [] (live (after_action M w z a))) ≡ true) (sym x.at) (action_three M w a x.actor x.above (subst (λ z. action_answer M w z a ≡ (102, 3)) x.at e)))

answer_three : (M : Machine) (s : Step) → FrameTree M → answer M s ≡ (102, 3) → live (step M s) ≡ []
answer_three M s i e =
    elim (accepted_or_refused M s) [
      | inl a ↦ rw a.after (turn_three M (turn_of s) a.passes i (sym a.answered ∙ e))
      | inr r ↦ absurd (let z : ◌≡◌ {A = ℕ} 0 3 = ap (λ x. x.1) (sym r.answered ∙ e) in omega arith)
    ]

-- ---- and nothing is accepted after it

live_needed : (M : Machine) (t : Turn) → Passes M t → live M ≡ [] → ⊥
live_needed M (acting w a) h e = not-in-nil (subst (λ z. In (acts M w a h).actor z) e (In-perm (Permᴰ.symm (acts M w a h).before) (here refl)))
live_needed M (stealing w v) h e = true≢false (subst (λ z. is_empty z ≡ false) e (steals M w v h).alive)

pub over_step : (M : Machine) (s : Step) → live M ≡ [] → step M s ≡ M
over_step M s e = elim (accepted_or_refused M s) [ inl a ↦ absurd (live_needed M (turn_of s) a.passes e) | inr r ↦ r.after ]

over_run : (M : Machine) (ss : List Step) → live M ≡ [] → live (run M ss) ≡ []
over_run M [] e = e
over_run M (s ∷ ss) e = over_run (step M s) ss (ap live (over_step M s e) ∙ e)

pub returned_ends : (M : Machine) (ss : List Step) → FrameTree M → Returned M ss → live (run M ss) ≡ []
returned_ends M [] i m = absurd (not-in-nil m)
returned_ends M (s ∷ ss) i m = elim (In-cons m) [ inl e ↦ over_run (step M s) ss (answer_three M s i (sym e)) | inr h ↦ returned_ends (step M s) ss (tree-step M s i) h ]

-- ---- the other way round: the last live frame to end is Main

none_new : (M : Machine) (w : ℕ) (a : Action) (q : Frame) (d : List Frame) → a ≢ return → w < length M.deques → deque M w ≡ q ∷ d → live (after_action M w (q ∷ d) a) ≡ [] → ⊥
none_new M w a q d ne lt at e =
    not-in-nil (subst (λ z. In (successor q a).frame z) e (In-perm (Permᴰ.symm (action_live M w q d a ne lt at)) (In-left (d ++ rest M w) (successor q a).new)))

ends_action : (M : Machine) (w : ℕ) (a : Action) (q : Frame) (d : List Frame) → w < length M.deques → deque M w ≡ q ∷ d → live (after_action M w (q ∷ d) a) ≡ [] → action_answer M w (q ∷ d) a ≡ (102, 3)
ends_action M w spawn q d lt at e = absurd (none_new M w spawn q d (λ z. other_action z refl) lt at e)
ends_action M w return q d lt at e =
    elim (decided (has_child q.name (live M))) [
      | inl c ↦ absurd (cons≢nil (ap live (sym (waits c)) ∙ e))
      | inr c ↦ rw c (rw (ap live (sym (over c)) ∙ e))
    ]
  where
    waits : has_child q.name (live M) ≡ true → after_action M w (q ∷ d) return ≡ suspend M w (as_returning q) d
    waits c = rw c

    over : has_child q.name (live M) ≡ false → after_action M w (q ∷ d) return ≡ after_end M w q d
    over c = rw c
ends_action M w sync q d lt at e = absurd (none_new M w sync q d (λ z. other_action z refl) lt at e)
ends_action M w (read i) q d lt at e = absurd (none_new M w (read i) q d (λ z. other_action z refl) lt at e)
ends_action M w (fold i y) q d lt at e = absurd (none_new M w (fold i y) q d (λ z. other_action z refl) lt at e)
ends_action M w (write i v) q d lt at e = absurd (none_new M w (write i v) q d (λ z. other_action z refl) lt at e)

ends_turn : (M : Machine) (t : Turn) → Passes M t → FrameTree M → live (after_turn M t) ≡ [] → turn_answer M t ≡ (102, 3)
ends_turn M (stealing w v) h s e =
    let x = steals M w v h in
    absurd (true≢false (subst (λ z. is_empty z ≡ false) (empty_of (live M) (λ f m. not-in-nil (subst (λ z. In f z) e (In-perm x.same-frames m)))) x.alive))
ends_turn M (acting w a) h s e =
    let x = acts M w a h in
    subst (λ z. action_answer M w z a ≡ (102, 3)) (sym x.at) (ends_action M w a x.actor x.above x.worker x.at (subst (λ z. live (after_action M w z a) ≡ []) x.at e))

ends_step : (M : Machine) (s : Step) → FrameTree M → is_empty (live M) ≡ false → live (step M s) ≡ [] → answer M s ≡ (102, 3)
ends_step M s i some e =
    elim (accepted_or_refused M s) [
      | inl a ↦ a.answered ∙ ends_turn M (turn_of s) a.passes i (ap live (sym a.after) ∙ e)
      | inr r ↦ absurd (true≢false (subst (λ z. is_empty z ≡ false) (ap live (sym r.after) ∙ e) some))
    ]

pub ends_returned : (M : Machine) (ss : List Step) → FrameTree M → is_empty (live M) ≡ false → live (run M ss) ≡ [] → Returned M ss
ends_returned M [] i some e = absurd (true≢false (subst (λ z. is_empty z ≡ false) e some))
ends_returned M (s ∷ ss) i some e =
    elim (decided (is_empty (live (step M s))))
    [ inl z ↦ here (sym (ends_step M s i some (is_empty_nil (live (step M s)) z))) | inr z ↦ there (ends_returned (step M s) ss (tree-step M s i) z e) ]
