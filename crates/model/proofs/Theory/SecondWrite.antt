-- Document 02, R-2: "Layout searches write the same block many times in one branch": a frame's second write to a splitter takes no node.
use Rattle.std.specs.Prelude.{◌≡◌, refl, ◌≢◌, false, ℕ, suc, ◌/◌, ◌^◌, ◌≤◌, ◌<◌, length, eqb}
use Rattle.std.proofs.Common.{sym, ap, ◌∙◌, subst, inl, inr, arith, le_antisymm, length-set, get_or-set_same, set-set}
use mathlib.Core.List.Memᴰ.{head as here}
use mathlib.Core.List.Memᴰ.{tail as there}
use mathlib.Core.List.{Memᴰ as In}
use mathlib.Core.List.Permᴰ
use mathlib.Core.List.{List, [], ◌∷◌, ◌++◌, Permᴰ}
use Rattle.words.specs.Basics.{joined, among, distinct}
use Rattle.words.specs.Tests.{decided, ltb_of, nltb_of}
use Rattle.words.specs.Lists.{In-perm, perm_length}
use Rattle.words.specs.Distinct.{among→In, distinct_out}
use Rattle.model.specs.declared.Step.TheVariants.{Write}
use Rattle.model.specs.History.{Mark}
use Rattle.model.specs.Machine.{Frame, Machine, live, deque, is_empty, in_use, free_nodes}
use Rattle.model.specs.Steps.{write, acting, written, after_write, after_turn, refusal, step, answer}
use Rattle.model.proofs.Theory.Histories.{last_of, last_marks, marks_In, in_use_mono, in_use_perm}
use Rattle.model.proofs.Theory.Effects.{Passes, rest, live_with, is_empty_nil, Acts, acts}
use Rattle.model.proofs.Theory.RunSteps.{accepted_at}
use Rattle.model.proofs.Theory.FreshMarks.{MarkInvariant, last-fresh}
use Rattle.model.proofs.Theory.Invariant.{Invariant, invariant_turn}

-- ---- the count

-- no frame of R has the mark as its last write, at any position
abbrev Unmarked : Mark → List Frame → Type 0
Unmarked m R = (f : Frame) → In f R → (l g : ℕ) → last_of l g f ≢ m

one_more : (m : Mark) (R : List Frame) → Unmarked m R → (l g : ℕ) → distinct (m ∷ last_marks l g R) ≡ suc (distinct (last_marks l g R))
one_more m R new l g = distinct_out m (last_marks l g R) (elim (decided (among m (last_marks l g R))) [
  | inl e ↦ (let o = marks_In l g R (among→In m (last_marks l g R) e) in absurd (new o.0 o.1 l g o.2))
  | inr e ↦ e
])

abbrev mark_of : Frame → Mark
mark_of q = length q.history ∷ q.name

-- q has written x, and writes it again
module _ (n x v v' : ℕ) (q : Frame) (R : List Frame) (new : Unmarked (mark_of q) R) (newer : Unmarked (mark_of (written q x v)) R) where
  position : (l g : ℕ) → distinct (last_marks l g (written (written q x v) x v' ∷ R)) ≡ distinct (last_marks l g (written q x v ∷ R))
  position l g = elim (decided (eqb (x / 2 ^ l) g)) [
    | inl s ↦ rw s (one_more (mark_of (written q x v)) R newer l g ∙ sym (one_more (mark_of q) R new l g))
    | inr s ↦ rw s
  ]

  same_in_use : in_use n (written (written q x v) x v' ∷ R) ≡ in_use n (written q x v ∷ R)
  same_in_use =
      let A = written (written q x v) x v' ∷ R in
      let B = written q x v ∷ R in
      le_antisymm (in_use_mono n A B (λ l g. omega (arith, position l g))) (in_use_mono n B A (λ l g. omega (arith, position l g)))

-- ---- the machine

module _ (M : Machine) (w x v v' : ℕ) (h : Passes M (acting w (write x v))) (I : Invariant M) where
  a : Acts M w (write x v)
  a = acts M w (write x v) h

  abbrev q : Frame
  q = written a.actor x v

  -- the machine after the first write
  abbrev next : Machine
  next = after_write M w a.actor a.above x v

  next_is : after_turn M (acting w (write x v)) ≡ next
  next_is = rw a.at

  abbrev others : List Frame
  others = a.above ++ rest M w

  live-next : Permᴰ (live next) (q ∷ others)
  live-next = live_with M w (q ∷ a.above) a.worker

  worker : w < length next.deques
  worker = omega (arith, length-set M.deques w (q ∷ a.above), a.worker)

  at : deque next w ≡ q ∷ a.above
  at = get_or-set_same M.deques w (q ∷ a.above) [] a.worker

  -- the frames beside it are the same
  same_rest : rest next w ≡ rest M w
  same_rest = ap (λ ds. M.suspended ++ joined ds) (set-set M.deques w (q ∷ a.above) [])

  live-last : Permᴰ (live (after_write next w q a.above x v')) (written q x v' ∷ others)
  live-last = subst (λ r. Permᴰ (live (after_write next w q a.above x v')) (written q x v' ∷ (a.above ++ r))) same_rest (live_with next w (written q x v' ∷ a.above) worker)

  marks : MarkInvariant (live next)
  marks = subst (λ N. MarkInvariant (live N)) next_is (invariant_turn M (acting w (write x v)) h I).marks

  in_use_same : in_use M.splitters (live (after_write next w q a.above x v')) ≡ in_use M.splitters (live next)
  in_use_same =
      in_use_perm M.splitters live-last
      ∙ same_in_use M.splitters x v v' a.actor others
      (λ f m l g. last-fresh (live M) I.marks a.actor f (In-perm (Permᴰ.symm a.before) (here refl)) (In-perm (Permᴰ.symm a.before) (there m)) l g)
      (λ f m l g. last-fresh (live next) marks q f (In-perm (Permᴰ.symm live-next) (here refl)) (In-perm (Permᴰ.symm live-next) (there m)) l g)
      ∙ sym (in_use_perm M.splitters live-next)

  some-live : is_empty (live next) ≡ false
  some-live = elim (decided (is_empty (live next))) [ inl e ↦ absurd (omega (arith, perm_length live-next, ap length (is_empty_nil (live next) e))) | inr e ↦ e ]

  enough : in_use M.splitters (live (after_write next w q a.above x v')) ≤ M.nodes
  enough = omega (arith, in_use_same, in_use_perm M.splitters live-next, a.allowed.1)

  passes_again : Passes next (acting w (write x v'))
  passes_again = rw (ltb_of worker, some-live, at, ltb_of a.allowed.0, nltb_of enough)

  answers_again : answer next (Write w x v') ≡ (106, free_nodes next)
  answers_again = (accepted_at next (Write w x v') passes_again).answered ∙ rw (at, in_use_same)

-- a write that was accepted, made again by the same worker, is accepted and takes no node
pub second_write : (M : Machine) (w x v v' : ℕ) → Invariant M → refusal M (Write w x v) ≡ 0 → answer (step M (Write w x v)) (Write w x v') ≡ (106, free_nodes (step M (Write w x v)))
unfolding refusal
second_write M w x v v' I e =
    let to = (accepted_at M (Write w x v) e).after ∙ next_is M w x v v' e I in
    subst (λ N. answer N (Write w x v') ≡ (106, free_nodes N)) (sym to) (answers_again M w x v v' e I)
