-- What is kept along the steps of a run.
use Rattle.std.specs.Prelude.{◌≡◌, refl, ◌⊎◌, ℕ, zero, suc, ◌-◌, ◌<◌, length, set}
use Rattle.std.proofs.Common.{ap, ◌∙◌, inl, inr, arith, length-set}
use mathlib.Core.List.{List, [], ◌∷◌, ◌++◌, Permᴰ}
use Rattle.std.proofs.lemmas.List.{length-replicate}
use Rattle.words.specs.Tests.{decided}
use Rattle.model.specs.declared.Step.{Step}
use Rattle.model.specs.Machine.{Name, Frame, Machine, live, deque, with_frames, with_deque, is_empty, top, below_top, has_child, those, start}
use Rattle.model.specs.Steps.{Action, spawn, return, sync, read, write, fold, Turn, acting, stealing, turn_of, refusal, child, after_spawn, written, waits_in_return, waits_at_sync, leave, upward, after_end, after_action, after_steal, after_turn, step, turn_answer, answer}
use Rattle.model.specs.Run.{run, turn_entry, trace}
use Rattle.model.proofs.Theory.LiveRun.{successors, Allowed, Ends, settles_kept}
use Rattle.model.proofs.Theory.Effects.{Passes, rest, acts, steals}

-- ---- an accepted step, and a refused one

pub record Accepted (M : Machine) (s : Step) : Type 0 where
  pub zero_refusal : refusal M s ≡ 0
  pub passes : Passes M (turn_of s)
  pub after : step M s ≡ after_turn M (turn_of s)
  pub answered : answer M s ≡ turn_answer M (turn_of s)
  pub traced : (ss : List Step) → trace M (s ∷ ss) ≡ turn_entry M (turn_of s) ++ trace (after_turn M (turn_of s)) ss

pub record Refused (M : Machine) (s : Step) : Type 0 where
  pub some-refusal : 0 < refusal M s
  pub after : step M s ≡ M
  pub answered : answer M s ≡ (refusal M s, 0)
  pub traced : (ss : List Step) → trace M (s ∷ ss) ≡ trace M ss

pub accepted_at : (M : Machine) (s : Step) → Passes M (turn_of s) → Accepted M s
unfolding refusal step answer
accepted_at M s e = record { zero_refusal = e; passes = e; after = rw e; answered = rw e; traced = λ ss. rw e }

refused_at : (M : Machine) (s : Step) (k : ℕ) → refusal M s ≡ suc k → Refused M s
unfolding step answer
refused_at M s k e = record { some-refusal = omega arith; after = rw e; answered = rw e; traced = λ ss. rw e }

pub accepted_or_refused : (M : Machine) (s : Step) → Accepted M s ⊎ Refused M s
unfolding refusal
accepted_or_refused M s = go (refusal M s) refl
  where
    go : (k : ℕ) → refusal M s ≡ k → Accepted M s ⊎ Refused M s
    go zero e = inl (accepted_at M s e)
    go (suc k) e = inr (refused_at M s k e)

-- ---- what every accepted turn keeps

-- of the live frames: what does not depend on their order, is kept where a frame's successors take its place, and where a frame ends
pub live_kept : (P : List Frame → Type 0) (M : Machine) → ((L L' : List Frame) → Permᴰ L L' → P L → P L')
    → ((q : Frame) (a : Action) (R : List Frame) → Permᴰ (live M) (q ∷ R) → Allowed M.splitters M.nodes M.places q R a → P (q ∷ R) → P (successors q a ++ R))
    → ((q : Frame) (R : List Frame) → Ends q R → P (q ∷ R) → P R)
    → (t : Turn) → Passes M t → P (live M) → P (live (after_turn M t))
live_kept P M perm act drop (acting w a) h i =
    let x = acts M w a h in
    settles_kept P perm drop x.after (act x.actor a (x.above ++ rest M w) x.before x.allowed (perm _ _ x.before i))
live_kept P M perm act drop (stealing w v) h i = perm _ _ (steals M w v h).same-frames i

-- so a step keeps it
pub step_kept : (P : Machine → Type 0) (M : Machine) → ((t : Turn) → Passes M t → P M → P (after_turn M t)) → (s : Step) → P M → P (step M s)
step_kept P M turn s i = elim (accepted_or_refused M s) [ inl a ↦ rw a.after (turn (turn_of s) a.passes i) | inr r ↦ rw r.after i ]

-- and a run
pub run_kept : (P : Machine → Type 0) → ((M : Machine) (s : Step) → P M → P (step M s)) → (M : Machine) (ss : List Step) → P M → P (run M ss)
run_kept P steps M [] i = i
run_kept P steps M (s ∷ ss) i = run_kept P steps (step M s) ss (steps M s i)

-- ---- what the host handed in stays

pub record SameSizes (M N : Machine) : Type 0 where
  pub splitters : N.splitters ≡ M.splitters
  pub nodes : N.nodes ≡ M.nodes
  pub places : N.places ≡ M.places
  pub workers : length N.deques ≡ length M.deques

sizes_same : (M : Machine) → SameSizes M M
sizes_same M = record { splitters = refl; nodes = refl; places = refl; workers = refl }

sizes_trans : (M N O : Machine) → SameSizes M N → SameSizes N O → SameSizes M O
sizes_trans M N O a b = record { splitters = b.splitters ∙ a.splitters; nodes = b.nodes ∙ a.nodes; places = b.places ∙ a.places; workers = b.workers ∙ a.workers }

sizes_with : (M : Machine) (w : ℕ) (d : List Frame) {fs : List Frame} → SameSizes M (with_frames M (set M.deques w d) fs)
sizes_with M w d = record { splitters = refl; nodes = refl; places = refl; workers = length-set M.deques w d }

sizes_upward : (M : Machine) (w : ℕ) (r : Name) → SameSizes M (upward M w r)
sizes_upward M w [] = sizes_same M
sizes_upward M w (k ∷ p) =
    elim (decided (has_child p (live M))) [
      | inl c ↦ rw c (sizes_same M)
      | inr c ↦ rw c (elim (decided (is_empty (those (waits_in_return p) M.suspended))) [
        | inl s ↦ rw s (sizes_with M w (those (waits_at_sync p) M.suspended))
        | inr s ↦ rw s (let r = sizes_upward (leave M p) w p in record { splitters = r.splitters; nodes = r.nodes; places = r.places; workers = r.workers })
      ])
    ]

sizes_end : (M : Machine) (w : ℕ) (q : Frame) (d : List Frame) → SameSizes M (after_end M w q d)
sizes_end M w q [] = sizes_trans M (with_deque M w []) (upward (with_deque M w []) w q.name) (sizes_with M w []) (sizes_upward (with_deque M w []) w q.name)
sizes_end M w q (g ∷ d) = sizes_with M w (g ∷ d)

sizes_action : (M : Machine) (w : ℕ) (d : List Frame) (a : Action) → SameSizes M (after_action M w d a)
sizes_action M w [] a = sizes_same M
sizes_action M w (q ∷ d) spawn = sizes_with M w (child q ∷ after_spawn q ∷ d)
sizes_action M w (q ∷ d) return = elim (decided (has_child q.name (live M))) [ inl c ↦ rw c (sizes_with M w d) | inr c ↦ rw c (sizes_end M w q d) ]
sizes_action M w (q ∷ d) sync = elim (decided (has_child q.name (live M))) [ inl c ↦ rw c (sizes_with M w d) | inr c ↦ rw c (sizes_same M) ]
sizes_action M w (q ∷ d) (read x) = sizes_same M
sizes_action M w (q ∷ d) (fold x y) = sizes_same M
sizes_action M w (q ∷ d) (write x v) = sizes_with M w (written q x v ∷ d)

pub sizes_turn : (M : Machine) (t : Turn) → SameSizes M (after_turn M t)
sizes_turn M (acting w a) = sizes_action M w (deque M w) a
sizes_turn M (stealing w v) =
    let N = with_deque M v (below_top (deque M v)) in
    sizes_trans M N (after_steal M w v) (sizes_with M v (below_top (deque M v))) (sizes_with N w (top (deque M v)))

pub sizes_step : (M : Machine) (s : Step) → SameSizes M (step M s)
sizes_step M s = step_kept (SameSizes M) M (λ t h i. sizes_turn M t) s (sizes_same M)

pub sizes_run : (M : Machine) (ss : List Step) → SameSizes M (run M ss)
sizes_run M ss = run_kept (SameSizes M) (λ N s i. sizes_trans M N (step N s) i (sizes_step N s)) M ss (sizes_same M)

pub sizes_start : (w : ℕ) (vs : List ℕ) (nodes places : ℕ) → 0 < w → length (start w vs nodes places).deques ≡ w
sizes_start w vs nodes places h = ap suc (length-replicate (w - 1) []) ∙ (let e : suc (w - 1) ≡ w = omega arith in e)
