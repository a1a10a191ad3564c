-- What is computed over a frame's steps and its children's, the children in the places of their spawns: by recursion on the trace,
-- or by recursion on the names from the frames' steps alone. For a run to its end the two agree.
use Rattle.std.specs.Prelude.{◌≡◌, refl, true, false, cond, ℕ, zero, suc, ◌≤◌, length}
use Rattle.std.proofs.Common.{sym, ap, ap₂, ◌∙◌, subst, inl, inr, le_refl, arith}
use mathlib.Core.List.Memᴰ.{append_left as In-left}
use mathlib.Core.List.Memᴰ.{append_right as In-right}
use mathlib.Core.List.Memᴰ.{cases_cons as In-cons}
use mathlib.Core.List.Memᴰ.{head as here}
use mathlib.Core.List.Memᴰ.{not-nil as not-in-nil}
use mathlib.Core.List.Memᴰ.{tail as there}
use mathlib.Core.List.{Memᴰ as In}
use mathlib.Core.List.{List, [], ◌∷◌, ◌++◌, map, Permᴰ}
use Rattle.words.specs.Basics.{same}
use Rattle.words.specs.Lists.{In-perm}
use Rattle.words.specs.Distinct.{same_refl, same_differ}
use Rattle.model.specs.Machine.{Name, Frame}
use Rattle.model.specs.Steps.{Action, spawn, return, sync, read, write, fold, child, after_spawn, written}
use Rattle.model.specs.Run.{Entry, entry, entries_of, steps_of}
use Rattle.model.proofs.Theory.Names.{below, owns, child-below}
use Rattle.model.proofs.Theory.ChildFirst.{of_mine, of_skip, of_none}
use Rattle.model.proofs.Theory.LiveRun.{successors, LiveRun, Disjoint, backward}
use Rattle.model.proofs.Theory.StepsKept.{unmet, still}
use Rattle.model.proofs.Theory.LiteralList.{below_down, not_below_lem}

-- of no step; of a spawn, from the child's and from the rest; of another step, from the rest
pub record Algebra (X : Type 0) : Type 0 where
  pub none : X
  pub at_spawn : X → X → X
  pub at_other : Action → X → X

abbrev pub combine : {X : Type 0} → Algebra X → Action → X → X → X → X
combine A spawn inner after on = A.at_spawn inner after
combine A return inner after on = A.at_other return on
combine A sync inner after on = A.at_other sync on
combine A (read x) inner after on = A.at_other (read x) on
combine A (write x v) inner after on = A.at_other (write x v) on
combine A (fold r x) inner after on = A.at_other (fold r x) on

-- along the trace: what the frame p, whose next spawn is its k-th, has left
abbrev pub along_trace : {X : Type 0} → Algebra X → List Entry → Name → ℕ → X
along_trace A [] p k = A.none
along_trace A (e ∷ es) p k =
    let inner = along_trace A es (k ∷ p) 1 in
    let after = along_trace A es p (suc k) in
    let on = along_trace A es p k in
    let mine = combine A e.action inner after on in
    cond (same e.frame p) mine on

-- from the frames' steps
abbrev pub over_steps : {X : Type 0} → Algebra X → (ℕ → X) → ℕ → List Action → X
over_steps A inner k [] = A.none
over_steps A inner k (a ∷ as') = combine A a (inner k) (over_steps A inner (suc k) as') (over_steps A inner k as')

abbrev pub from_steps : {X : Type 0} → Algebra X → ℕ → (Name → List Action) → Name → X
from_steps A zero steps p = A.none
from_steps A (suc fuel) steps p = over_steps A (λ k. from_steps A fuel steps (k ∷ p)) 1 (steps p)

abbrev pub steps_in : List Entry → Name → List Action
steps_in es p = steps_of p es

pub along_skip : {X : Type 0} (A : Algebra X) (e : Entry) (es : List Entry) (p : Name) (k : ℕ) → same e.frame p ≡ false → along_trace A (e ∷ es) p k ≡ along_trace A es p k
along_skip A e es p k h = rw h

pub along_mine : {X : Type 0} (A : Algebra X) (e : Entry) (es : List Entry) (p : Name) (k : ℕ) → same e.frame p ≡ true
    → along_trace A (e ∷ es) p k ≡ combine A e.action (along_trace A es (k ∷ p) 1) (along_trace A es p (suc k)) (along_trace A es p k)
along_mine A e es p k h = rw h

pub along_none : {X : Type 0} (A : Algebra X) (es : List Entry) (p : Name) (k : ℕ) → entries_of p es ≡ [] → along_trace A es p k ≡ A.none
along_none A [] p k h = refl
along_none A (e ∷ es) p k h = let g = of_none p e es h in rw (along_skip A e es p k g.0) (along_none A es p k g.1)

steps_skip : (r : Name) (e : Entry) (es : List Entry) → same e.frame r ≡ false → steps_of r (e ∷ es) ≡ steps_of r es
steps_skip r e es h = ap (map (λ x. x.action)) (of_skip r e es h)

module _ {X : Type 0} (A : Algebra X) where
  combine_eq : (a : Action) {x x' y y' z z' : X} → x ≡ x' → y ≡ y' → z ≡ z' → combine A a x y z ≡ combine A a x' y' z'
  combine_eq a p q r = λ i. combine A a (p i) (q i) (r i)

  over_eq : (c c' : ℕ → X) (s : ℕ) (xs : List Action) → ((k : ℕ) → s ≤ k → c (suc k) ≡ c' (suc k)) → over_steps A c (suc s) xs ≡ over_steps A c' (suc s) xs
  over_eq c c' s [] h = refl
  over_eq c c' s (x ∷ xs) h = combine_eq x (h s (le_refl s)) (over_eq c c' (suc s) xs (λ k l. h k (omega arith))) (over_eq c c' s xs h)

  -- it depends only on the steps of the names that the frame owns
  pub from_eq : (fuel : ℕ) (f g : Name → List Action) (p : Name) → ((r : Name) → owns p 0 r → f r ≡ g r) → from_steps A fuel f p ≡ from_steps A fuel g p
  from_eq zero f g p h = refl
  from_eq (suc fuel) f g p h =
      ap (over_steps A (λ k. from_steps A fuel f (k ∷ p)) 1) (h p (inl refl))
      ∙ over_eq (λ k. from_steps A fuel f (k ∷ p)) (λ k. from_steps A fuel g (k ∷ p)) 0 (g p) (λ k l. from_eq fuel f g (suc k ∷ p) (λ r o. h r (inr (below_down p 0 k r l (child-below p k r o)))))

  over_skip : (fuel : ℕ) (e : Entry) (es : List Entry) (p : Name) (s : ℕ) (xs : List Action) → ((r : Name) → below p s r → same e.frame r ≡ false)
      → over_steps A (λ k. from_steps A fuel (steps_in (e ∷ es)) (k ∷ p)) (suc s) xs ≡ over_steps A (λ k. from_steps A fuel (steps_in es) (k ∷ p)) (suc s) xs
  over_skip fuel e es p s xs h =
      over_eq (λ k. from_steps A fuel (steps_in (e ∷ es)) (k ∷ p)) (λ k. from_steps A fuel (steps_in es) (k ∷ p)) s xs
      (λ k l. from_eq fuel (steps_in (e ∷ es)) (steps_in es) (suc k ∷ p) (λ r o. steps_skip r e es (h r (below_down p s k r l (child-below p k r o)))))

  abbrev Agrees : List Entry → List Frame → Type 0
  Agrees es L = (f : Frame) → In f L → f.returning ≡ false → (fuel : ℕ) → length es ≤ fuel → over_steps A (λ k. from_steps A fuel (steps_in es) (k ∷ f.name)) (suc f.spawned) (steps_of f.name es) ≡ along_trace A es f.name (suc f.spawned)

  agrees_other : (q : Frame) (a : Action) (es : List Entry) (fuel : ℕ) → over_steps A (λ k. from_steps A (suc fuel) (steps_in es) (k ∷ q.name)) (suc q.spawned) (steps_of q.name es) ≡ along_trace A es q.name (suc q.spawned)
      → A.at_other a (over_steps A (λ k. from_steps A (suc fuel) (steps_in (entry q a ∷ es)) (k ∷ q.name)) (suc q.spawned) (steps_of q.name es)) ≡ A.at_other a (along_trace A es q.name (suc q.spawned))
  agrees_other q a es fuel e = ap (A.at_other a) (over_skip (suc fuel) (entry q a) es q.name q.spawned (steps_of q.name es) (not_below_lem q.name q.spawned) ∙ e)

  agrees_mine : (q : Frame) (a : Action) (es : List Entry) (fuel : ℕ) → q.returning ≡ false → Agrees es (successors q a) → (a ≡ return → entries_of q.name es ≡ []) → length es ≤ fuel
      → over_steps A (λ k. from_steps A (suc fuel) (steps_in (entry q a ∷ es)) (k ∷ q.name)) (suc q.spawned) (a ∷ steps_of q.name es)
      ≡ combine A a (along_trace A es (suc q.spawned ∷ q.name) 1) (along_trace A es q.name (suc (suc q.spawned))) (along_trace A es q.name (suc q.spawned))
  agrees_mine q spawn es fuel on ih out l =
      ap₂ A.at_spawn
      (from_eq (suc fuel) (steps_in (entry q spawn ∷ es)) (steps_in es) (suc q.spawned ∷ q.name) (λ r o. steps_skip r (entry q spawn) es (not_below_lem q.name q.spawned r (child-below q.name q.spawned r o)))
      ∙ ih (child q) (here refl) refl fuel l)
      (over_skip (suc fuel) (entry q spawn) es q.name (suc q.spawned) (steps_of q.name es) (not_below_lem q.name (suc q.spawned)) ∙ ih (after_spawn q) (there (here refl)) on (suc fuel) (omega arith))
  agrees_mine q return es fuel on ih out l =
      ap (A.at_other return) (ap (over_steps A (λ k. from_steps A (suc fuel) (steps_in (entry q return ∷ es)) (k ∷ q.name)) (suc q.spawned)) (ap (map (λ x. x.action)) (out refl)) ∙ sym (along_none A es q.name (suc q.spawned) (out refl)))
  agrees_mine q sync es fuel on ih out l = agrees_other q sync es fuel (ih q (here refl) on (suc fuel) (omega arith))
  agrees_mine q (read x) es fuel on ih out l = agrees_other q (read x) es fuel (ih q (here refl) on (suc fuel) (omega arith))
  agrees_mine q (write x v) es fuel on ih out l = agrees_other q (write x v) es fuel (ih (written q x v) (here refl) on (suc fuel) (omega arith))
  agrees_mine q (fold r x) es fuel on ih out l = agrees_other q (fold r x) es fuel (ih q (here refl) on (suc fuel) (omega arith))

  agrees_acted : {n nodes places : ℕ} {L L' : List Frame} {es : List Entry} (q : Frame) (a : Action) (R : List Frame) → Permᴰ L (q ∷ R) → q.returning ≡ false → Permᴰ (successors q a ++ R) L'
      → LiveRun n nodes places L' es → Disjoint (q ∷ R) → Agrees es L' → Agrees (entry q a ∷ es) L
  agrees_acted q a R p on p' g c ih f m live zero l = absurd (omega arith)
  agrees_acted {es = es} q a R p on p' g c ih f m live (suc fuel) l = elim (In-cons (In-perm p m)) [ inl e ↦ mine e | inr i ↦ other i ]
    where
      Goal : Frame → Type 0
      Goal z = over_steps A (λ k. from_steps A (suc fuel) (steps_in (entry q a ∷ es)) (k ∷ z.name)) (suc z.spawned) (steps_of z.name (entry q a ∷ es)) ≡ along_trace A (entry q a ∷ es) z.name (suc z.spawned)

      mine : f ≡ q → Goal f
      mine e = subst Goal (sym e)
          (rw (of_mine q.name (entry q a) es (same_refl q.name), along_mine A (entry q a) es q.name (suc q.spawned) (same_refl q.name))
          (agrees_mine q a es fuel on (λ t i. ih t (In-perm p' (In-left R i))) (unmet q a R p' g c q.name (inl refl)) (omega arith)))

      other : In f R → Goal f
      other i =
          ap (over_steps A (λ k. from_steps A (suc fuel) (steps_in (entry q a ∷ es)) (k ∷ f.name)) (suc f.spawned)) (steps_skip f.name (entry q a) es (same_differ (λ d. c.0 f i q.name (inl refl) (inl d))))
          ∙ over_skip (suc fuel) (entry q a) es f.name f.spawned (steps_of f.name es) (λ r b. same_differ (λ d. c.0 f i r (inl (sym d)) (inr b)))
          ∙ ih f (In-perm p' (In-right (successors q a) i)) live (suc fuel) (omega arith)
          ∙ sym (along_skip A (entry q a) es f.name (suc f.spawned) (same_differ (λ d. c.0 f i q.name (inl refl) (inl d))))

  pub agrees : (n nodes places : ℕ) {L : List Frame} {es : List Entry} → LiveRun n nodes places L es → Disjoint L → Agrees es L
  agrees n nodes places =
      backward n nodes places Agrees (λ f m. absurd (not-in-nil m)) (λ L L' es p k f m. k f (In-perm p m)) (λ L es q R p e k f m l. k f (still p e m l) l)
      (λ L L' es q a R p on ok p' g c ih. agrees_acted q a R p on p' g c ih)
