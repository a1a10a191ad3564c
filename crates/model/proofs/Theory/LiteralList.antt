-- The child-first list by recursion on the trace is the document's: a frame's steps, each spawn followed by the child's list.
use Rattle.std.specs.Prelude.{◌≡◌, refl, false, ℕ, zero, suc, ◌≤◌, length}
use Rattle.std.proofs.Common.{sym, ap, ap₂, ◌∙◌, subst, inl, inr, le_refl, arith}
use mathlib.Core.List.Memᴰ.{append_left as In-left}
use mathlib.Core.List.Memᴰ.{append_right as In-right}
use mathlib.Core.List.Memᴰ.{cases_cons as In-cons}
use mathlib.Core.List.Memᴰ.{head as here}
use mathlib.Core.List.Memᴰ.{not-nil as not-in-nil}
use mathlib.Core.List.Memᴰ.{tail as there}
use mathlib.Core.List.{Memᴰ as In}
use mathlib.Core.List.{List, [], ◌∷◌, ◌++◌, Permᴰ}
use Rattle.words.specs.Basics.{same}
use Rattle.words.specs.Lists.{In-perm}
use Rattle.words.specs.Distinct.{same_refl, same_differ}
use Rattle.model.specs.Machine.{Name, Frame}
use Rattle.model.specs.Steps.{Action, spawn, return, sync, read, write, fold, child, after_spawn, written}
use Rattle.model.specs.Run.{Entry, entry, entries_of, follow, with_children, child_first_list}
use Rattle.model.proofs.Theory.Names.{below, owns, below_longer, child-below}
use Rattle.model.proofs.Theory.ChildFirst.{child_first, of_mine, of_skip, child_first_skip, child_first_mine, child_first-none}
use Rattle.model.proofs.Theory.LiveRun.{successors, LiveRun, Disjoint, backward}
use Rattle.model.proofs.Theory.StepsKept.{unmet, still}

follow_eq : (a : Action) (e : Entry) {x x' y y' z z' : List Entry} → x ≡ x' → y ≡ y' → z ≡ z' → follow a e x y z ≡ follow a e x' y' z'
follow_eq a e p q r = cc

with_children_eq : (c c' : ℕ → List Entry) (s : ℕ) (xs : List Entry) → ((k : ℕ) → s ≤ k → c (suc k) ≡ c' (suc k)) → with_children c (suc s) xs ≡ with_children c' (suc s) xs
with_children_eq c c' s [] h = refl
with_children_eq c c' s (x ∷ xs) h = follow_eq x.action x (h s (le_refl s)) (with_children_eq c c' (suc s) xs (λ k l. h k (omega arith))) (with_children_eq c c' s xs h)

pub below_down : (p : Name) (s k : ℕ) (r : Name) → s ≤ k → below p k r → below p s r
below_down p s k [] l b = b
below_down p s k (j ∷ r) l (inl h) = inl (h.0, omega (arith, h.1))
below_down p s k (j ∷ r) l (inr h) = inr (h.0, below_down p s k r l h.1)

-- a frame's list depends only on the steps of the names that it owns
pub list_eq : (fuel : ℕ) (es fs : List Entry) (p : Name) → ((r : Name) → owns p 0 r → entries_of r es ≡ entries_of r fs) → child_first_list fuel es p ≡ child_first_list fuel fs p
list_eq zero es fs p h = refl
list_eq (suc fuel) es fs p h =
    ap (with_children (λ k. child_first_list fuel es (k ∷ p)) 1) (h p (inl refl))
    ∙ with_children_eq (λ k. child_first_list fuel es (k ∷ p)) (λ k. child_first_list fuel fs (k ∷ p)) 0 (entries_of p fs) (λ k l. list_eq fuel es fs (suc k ∷ p) (λ r o. h r (inr (below_down p 0 k r l (child-below p k r o)))))

with_children_skip : (fuel : ℕ) (e : Entry) (es : List Entry) (p : Name) (s : ℕ) (xs : List Entry) → ((r : Name) → below p s r → same e.frame r ≡ false)
    → with_children (λ k. child_first_list fuel (e ∷ es) (k ∷ p)) (suc s) xs ≡ with_children (λ k. child_first_list fuel es (k ∷ p)) (suc s) xs
with_children_skip fuel e es p s xs h =
    with_children_eq (λ k. child_first_list fuel (e ∷ es) (k ∷ p)) (λ k. child_first_list fuel es (k ∷ p)) s xs
    (λ k l. list_eq fuel (e ∷ es) es (suc k ∷ p) (λ r o. of_skip r e es (h r (below_down p s k r l (child-below p k r o)))))

-- the document's list of what is left, for each live frame, is the one by recursion
abbrev ListIs : List Entry → List Frame → Type 0
ListIs es L = (f : Frame) → In f L → f.returning ≡ false → (fuel : ℕ) → length es ≤ fuel → with_children (λ k. child_first_list fuel es (k ∷ f.name)) (suc f.spawned) (entries_of f.name es) ≡ child_first es f.name (suc f.spawned)

pub not_below_lem : (p : Name) (s : ℕ) (r : Name) → below p s r → same p r ≡ false
not_below_lem p s r b = same_differ (λ (d : p ≡ r). omega (arith, below_longer p s r b, ap length d))

list_is_mine : (q : Frame) (a : Action) (es : List Entry) (fuel : ℕ) → q.returning ≡ false → ListIs es (successors q a) → (a ≡ return → entries_of q.name es ≡ []) → length es ≤ fuel
    → with_children (λ k. child_first_list (suc fuel) (entry q a ∷ es) (k ∷ q.name)) (suc q.spawned) (entry q a ∷ entries_of q.name es)
    ≡ follow a (entry q a) (child_first es (suc q.spawned ∷ q.name) 1) (child_first es q.name (suc (suc q.spawned))) (child_first es q.name (suc q.spawned))
list_is_mine q spawn es fuel on ih out l =
    ap₂ (λ x y. entry q spawn ∷ (x ++ y))
    (list_eq (suc fuel) (entry q spawn ∷ es) es (suc q.spawned ∷ q.name) (λ r o. of_skip r (entry q spawn) es (not_below_lem q.name q.spawned r (child-below q.name q.spawned r o)))
    ∙ ih (child q) (here refl) refl fuel l)
    (with_children_skip (suc fuel) (entry q spawn) es q.name (suc q.spawned) (entries_of q.name es) (not_below_lem q.name (suc q.spawned)) ∙ ih (after_spawn q) (there (here refl)) on (suc fuel) (omega arith))
list_is_mine q return es fuel on ih out l =
    ap (λ z. entry q return ∷ z) (ap (with_children (λ k. child_first_list (suc fuel) (entry q return ∷ es) (k ∷ q.name)) (suc q.spawned)) (out refl) ∙ sym (child_first-none es q.name (suc q.spawned) (out refl)))
list_is_mine q sync es fuel on ih out l =
    ap (λ z. entry q sync ∷ z) (with_children_skip (suc fuel) (entry q sync) es q.name q.spawned (entries_of q.name es) (not_below_lem q.name q.spawned) ∙ ih q (here refl) on (suc fuel) (omega arith))
list_is_mine q (read x) es fuel on ih out l =
    ap (λ z. entry q (read x) ∷ z) (with_children_skip (suc fuel) (entry q (read x)) es q.name q.spawned (entries_of q.name es) (not_below_lem q.name q.spawned) ∙ ih q (here refl) on (suc fuel) (omega arith))
list_is_mine q (fold x y) es fuel on ih out l =
    ap (λ z. entry q (fold x y) ∷ z) (with_children_skip (suc fuel) (entry q (fold x y)) es q.name q.spawned (entries_of q.name es) (not_below_lem q.name q.spawned) ∙ ih q (here refl) on (suc fuel) (omega arith))
list_is_mine q (write x v) es fuel on ih out l =
    ap (λ z. entry q (write x v) ∷ z) (with_children_skip (suc fuel) (entry q (write x v)) es q.name q.spawned (entries_of q.name es) (not_below_lem q.name q.spawned) ∙ ih (written q x v) (here refl) on (suc fuel) (omega arith))

list_is_acted : {n nodes places : ℕ} {L L' : List Frame} {es : List Entry} (q : Frame) (a : Action) (R : List Frame) → Permᴰ L (q ∷ R) → q.returning ≡ false → Permᴰ (successors q a ++ R) L'
    → LiveRun n nodes places L' es → Disjoint (q ∷ R) → ListIs es L' → ListIs (entry q a ∷ es) L
list_is_acted q a R p on p' g c ih f m live zero l = absurd (omega arith)
list_is_acted {es = es} q a R p on p' g c ih f m live (suc fuel) l = elim (In-cons (In-perm p m)) [ inl e ↦ mine e | inr i ↦ other i ]
  where
    Goal : Frame → Type 0
    Goal z = with_children (λ k. child_first_list (suc fuel) (entry q a ∷ es) (k ∷ z.name)) (suc z.spawned) (entries_of z.name (entry q a ∷ es)) ≡ child_first (entry q a ∷ es) z.name (suc z.spawned)

    mine : f ≡ q → Goal f
    mine e = subst Goal (sym e)
        (rw (of_mine q.name (entry q a) es (same_refl q.name), child_first_mine (entry q a) es q.name (suc q.spawned) (same_refl q.name))
        (list_is_mine q a es fuel on (λ t i. ih t (In-perm p' (In-left R i))) (unmet q a R p' g c q.name (inl refl)) (omega arith)))

    other : In f R → Goal f
    other i =
        ap (with_children (λ k. child_first_list (suc fuel) (entry q a ∷ es) (k ∷ f.name)) (suc f.spawned)) (of_skip f.name (entry q a) es (same_differ (λ d. c.0 f i q.name (inl refl) (inl d))))
        ∙ with_children_skip (suc fuel) (entry q a) es f.name f.spawned (entries_of f.name es) (λ r b. same_differ (λ d. c.0 f i r (inl (sym d)) (inr b)))
        ∙ ih f (In-perm p' (In-right (successors q a) i)) live (suc fuel) (omega arith)
        ∙ sym (child_first_skip (entry q a) es f.name (suc f.spawned) (same_differ (λ d. c.0 f i q.name (inl refl) (inl d))))

pub list_is : (n nodes places : ℕ) {L : List Frame} {es : List Entry} → LiveRun n nodes places L es → Disjoint L → ListIs es L
list_is n nodes places =
    backward n nodes places ListIs (λ f m. absurd (not-in-nil m)) (λ L L' es p k f m. k f (In-perm p m)) (λ L es q R p e k f m l. k f (still p e m l) l)
    (λ L L' es q a R p on ok p' g c ih. list_is_acted q a R p on p' g c ih)
