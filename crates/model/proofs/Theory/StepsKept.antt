-- The child-first list rearranges the trace: every frame keeps its steps, in their order.
use Rattle.std.specs.Prelude.{◌≡◌, refl, false, ℕ, suc}
use Rattle.std.proofs.Common.{sym, ap, ap₂, ◌∙◌, inl, inr}
use mathlib.Core.List.Memᴰ.{append_cases as In-cases}
use mathlib.Core.List.Memᴰ.{append_left as In-left}
use mathlib.Core.List.Memᴰ.{append_right as In-right}
use mathlib.Core.List.Memᴰ.{cases_cons as In-cons}
use mathlib.Core.List.Memᴰ.{eq_of_singleton as In-one}
use mathlib.Core.List.Memᴰ.{head as here}
use mathlib.Core.List.Memᴰ.{not-nil as not-in-nil}
use mathlib.Core.List.Memᴰ.{tail as there}
use mathlib.Core.List.{Memᴰ as In}
use mathlib.Core.List.Permᴰ
use mathlib.Core.List.{List, [], ◌∷◌, ◌++◌, append-nil, Permᴰ}
use Rattle.words.specs.Tests.{true≢false}
use Rattle.words.specs.Lists.{In-perm}
use Rattle.words.specs.Distinct.{same_refl, same_differ}
use Rattle.model.specs.Machine.{Name, Frame}
use Rattle.model.specs.Steps.{Action, spawn, return, sync, read, write, fold, child, after_spawn, written}
use Rattle.model.specs.Run.{Entry, entry, entries_of, follow}
use Rattle.model.proofs.Theory.Names.{owns_apart, owns_split}
use Rattle.model.proofs.Theory.ChildFirst.{child_first, of_skip, of_cons, of_append, child_first_skip, child_first_mine, of_within, of_foreign}
use Rattle.model.proofs.Theory.LiveRun.{successors, Ends, LiveRun, ended, moved, dropped, acted, Owns, Disjoint, successors_owned, backward, gone_returned}

-- a name that no live frame owns, but one that has returned, is not met again
pub unowned : {n nodes places : ℕ} {L : List Frame} {es : List Entry} → LiveRun n nodes places L es → (r : Name) → ((f : Frame) → In f L → f.returning ≡ false → Owns f r → ⊥) → entries_of r es ≡ []
unowned ended r h = refl
unowned (moved p g) r h = unowned g r (λ f m. h f (In-perm (Permᴰ.symm p) m))
unowned (dropped q R p e g) r h = unowned g r (λ f m. h f (In-perm (Permᴰ.symm p) (there m)))
unowned (acted {es = es} q a R p on ok p' g) r h =
    of_skip r (entry q a) es (same_differ (λ e. h q (In-perm (Permᴰ.symm p) (here refl)) on (inl (sym e)))) ∙
    unowned g r (λ f m l o. elim (In-cases (successors q a) (In-perm (Permᴰ.symm p') m)) [ inl i ↦ h q (In-perm (Permᴰ.symm p) (here refl)) on (successors_owned q a f r i o) | inr i ↦ h f (In-perm (Permᴰ.symm p) (there i)) l o ])

-- so nothing of q's names is met after q's return
pub unmet : {n nodes places : ℕ} {L' : List Frame} {es : List Entry} (q : Frame) (a : Action) (R : List Frame) → Permᴰ (successors q a ++ R) L' → LiveRun n nodes places L' es → Disjoint (q ∷ R) → (r : Name) → Owns q r → a ≡ return → entries_of r es ≡ []
unmet q a R p' g c r o e = unowned g r (λ f m l o'. elim (In-cases (successors q return) (rw e at (In-perm (Permᴰ.symm p') m))) [ inl i ↦ gone_returned q f (In-one i) l | inr i ↦ c.0 f i r o o' ])

-- a frame that has not returned does not end
pub still : {L : List Frame} {q f : Frame} {R : List Frame} → Permᴰ L (q ∷ R) → Ends q R → In f L → f.returning ≡ false → In f R
still p e m l = elim (In-cons (In-perm p m)) [ inl d ↦ absurd (true≢false (sym e.0 ∙ ap (λ z. z.returning) (sym d) ∙ l)) | inr i ↦ i ]

-- of each name that a live frame owns which has not returned, the frame's child-first list has all the steps that are left
abbrev Keeps : List Entry → List Frame → Type 0
Keeps es L = (f : Frame) → In f L → f.returning ≡ false → (r : Name) → Owns f r → entries_of r (child_first es f.name (suc f.spawned)) ≡ entries_of r es

steps_kept_mine : (q : Frame) (a : Action) (es : List Entry) (r : Name) → q.returning ≡ false → Keeps es (successors q a) → ((a ≡ return) → entries_of r es ≡ []) → Owns q r
    → entries_of r (follow a (entry q a) (child_first es (suc q.spawned ∷ q.name) 1) (child_first es q.name (suc (suc q.spawned))) (child_first es q.name (suc q.spawned))) ≡ entries_of r (entry q a ∷ es)
steps_kept_mine q spawn es r on ih out o =
    of_cons r (entry q spawn) (inner ++ after) es (of_append r inner after ∙ elim (owns_split q.name q.spawned r o) [
      | inl c ↦ ap₂ ◌++◌ (ih (child q) (here refl) refl r c) (of_foreign r es q.name (suc q.spawned) (λ d. owns_apart q.name q.spawned r c d)) ∙ append-nil (entries_of r es)
      | inr d ↦ ap₂ ◌++◌ (of_foreign r es (suc q.spawned ∷ q.name) 0 (λ c. owns_apart q.name q.spawned r c d)) (ih (after_spawn q) (there (here refl)) on r d)
    ])
  where
    inner : List Entry
    inner = child_first es (suc q.spawned ∷ q.name) 1

    after : List Entry
    after = child_first es q.name (suc (suc q.spawned))
steps_kept_mine q return es r on ih out o = of_cons r (entry q return) (child_first es q.name (suc q.spawned)) es (of_within r es q.name (suc q.spawned) (out refl) ∙ sym (out refl))
steps_kept_mine q sync es r on ih out o = of_cons r (entry q sync) (child_first es q.name (suc q.spawned)) es (ih q (here refl) on r o)
steps_kept_mine q (read x) es r on ih out o = of_cons r (entry q (read x)) (child_first es q.name (suc q.spawned)) es (ih q (here refl) on r o)
steps_kept_mine q (fold x y) es r on ih out o = of_cons r (entry q (fold x y)) (child_first es q.name (suc q.spawned)) es (ih q (here refl) on r o)
steps_kept_mine q (write x v) es r on ih out o = of_cons r (entry q (write x v)) (child_first es q.name (suc q.spawned)) es (ih (written q x v) (here refl) on r o)

steps_kept_acted : {n nodes places : ℕ} {L L' : List Frame} {es : List Entry} (q : Frame) (a : Action) (R : List Frame) → Permᴰ L (q ∷ R) → q.returning ≡ false → Permᴰ (successors q a ++ R) L'
    → LiveRun n nodes places L' es → Disjoint (q ∷ R) → Keeps es L' → Keeps (entry q a ∷ es) L
steps_kept_acted {es = es} q a R p on p' g c ih f m l r o =
    elim (In-cons (In-perm p m)) [
      | inl e ↦ rw (e, child_first_mine (entry q a) es q.name (suc q.spawned) (same_refl q.name))
          (steps_kept_mine q a es r on (λ f' m'. ih f' (In-perm p' (In-left R m'))) (unmet q a R p' g c r (rw e at o)) (rw e at o))
      | inr i ↦ of_other i
    ]
  where
    of_other : In f R → entries_of r (child_first (entry q a ∷ es) f.name (suc f.spawned)) ≡ entries_of r (entry q a ∷ es)
    of_other i =
        rw (
          child_first_skip (entry q a) es f.name (suc f.spawned) (same_differ (λ d. c.0 f i q.name (inl refl) (inl d))),
          of_skip r (entry q a) es (same_differ (λ d. c.0 f i r (inl (sym d)) o)),
        )
        (ih f (In-perm p' (In-right (successors q a) i)) l r o)

pub steps_kept : (n nodes places : ℕ) {L : List Frame} {es : List Entry} → LiveRun n nodes places L es → Disjoint L → Keeps es L
steps_kept n nodes places =
    backward n nodes places Keeps (λ f m. absurd (not-in-nil m)) (λ L L' es p k f m. k f (In-perm p m)) (λ L es q R p e k f m l. k f (still p e m l) l)
    (λ L L' es q a R p on ok p' g c ih. steps_kept_acted q a R p on p' g c ih)
