-- The nodes in use never pass the pool's, so that the free ones are what is left.
use Rattle.std.specs.Prelude.{◌≡◌, refl, List, [], ◌∷◌, ◌++◌, ℕ, suc, ◌+◌, ◌/◌, ◌^◌, ◌≤◌, length, eqb}
use Rattle.std.proofs.Common.{sym, ap, ◌∙◌, subst, inl, inr, le_trans, arith, eqb→eq}
use mathlib.Core.List.Memᴰ.{head as here}
use mathlib.Core.List.Memᴰ.{tail as there}
use Rattle.std.proofs.Math.Decide.{dec_lt}
use Rattle.words.specs.Basics.{sum, distinct, δ}
use Rattle.words.specs.Tests.{true→T, decided}
use Rattle.words.specs.Counting.{δ_same, δ_other, sum_cong, sum_add, sum_zero, sum_one, sum_mono, sum_const}
use Rattle.words.specs.Distinct.{distinct_cons_le, distinct_cons_upper}
use Rattle.sizes.specs.Sizes.{height, width, tree_nodes}
use Rattle.model.specs.History.{nodes_in_use}
use Rattle.model.specs.Machine.{Frame, Machine, live, in_use, free_nodes, main, start}
use Rattle.model.specs.Steps.{Action, spawn, return, sync, read, write, fold, Turn, child, after_spawn, as_returning, written, after_turn}
use Rattle.model.proofs.Theory.Histories.{last_of, last_marks, Within, in_use_within, in_use_perm}
use Rattle.model.proofs.Theory.LiveRun.{successors, Allowed}
use Rattle.model.proofs.Theory.Effects.{Passes, live-start}
use Rattle.model.proofs.Theory.RunSteps.{live_kept, sizes_turn}

-- ---- a write takes at most one node of each level

δ_once : (y k : ℕ) → sum k (δ y) ≤ 1
δ_once y k = elim (dec_lt y k) [
  | yes h ↦ omega (arith, sum_one k y (δ y) h (λ j b ne. δ_other y j (λ e. ne (sym e))), δ_same y)
  | no h ↦ omega (arith, sum_zero k (δ y) (λ j b. δ_other y j (λ (e : y ≡ j). omega arith)))
]

written_marks : (l g x v : ℕ) (q : Frame) (R : List Frame) → distinct (last_marks l g (written q x v ∷ R)) ≤ distinct (last_marks l g (q ∷ R)) + δ (x / 2 ^ l) g
written_marks l g x v q R =
    elim (decided (eqb (x / 2 ^ l) g)) [
      | inl e ↦ rw e (omega (
        arith,
        distinct_cons_upper (length q.history ∷ q.name) (last_marks l g R),
        distinct_cons_le (last_of l g q) (last_marks l g R),
        ap (δ (x / 2 ^ l)) (sym (eqb→eq (x / 2 ^ l) g (true→T e))) ∙ δ_same (x / 2 ^ l),
      ))
      | inr e ↦ rw e (omega arith)
    ]

pub in_use-written : (n x v : ℕ) (q : Frame) (R : List Frame) → in_use n (written q x v ∷ R) ≤ in_use n (q ∷ R) + suc (height n)
unfolding nodes_in_use
in_use-written n x v q R = omega (arith, sum_mono (suc (height n)) level, sum_add (suc (height n)) before (λ l. 1), sum_const (suc (height n)) 1)
  where
    before : ℕ → ℕ
    before l = sum (width n l) (λ g. distinct (last_marks l g (q ∷ R)))

    level : (l : ℕ) → sum (width n l) (λ g. distinct (last_marks l g (written q x v ∷ R))) ≤ before l + 1
    level l =
        omega (arith, sum_mono (width n l) (λ g. written_marks l g x v q R), sum_add (width n l) (λ g. distinct (last_marks l g (q ∷ R))) (δ (x / 2 ^ l)), δ_once (x / 2 ^ l) (width n l))

-- ---- the machine keeps within its pool

abbrev pub WithinPool : Machine → Type 0
WithinPool M = in_use M.splitters (live M) ≤ M.nodes

pub free_when_within : (M : Machine) → WithinPool M → free_nodes M + in_use M.splitters (live M) ≡ M.nodes
free_when_within M h = omega arith

spawn_within : (q : Frame) (R : List Frame) → Within (child q ∷ after_spawn q ∷ R) (q ∷ R)
spawn_within q R f (here e) = (q, here refl, ap (λ z. z.history) e)
spawn_within q R f (there (here e)) = (q, here refl, ap (λ z. z.history) e)
spawn_within q R f (there (there m)) = (f, there m, refl)

return_within : (q : Frame) (R : List Frame) → Within (as_returning q ∷ R) (q ∷ R)
return_within q R f (here e) = (q, here refl, ap (λ z. z.history) e)
return_within q R f (there m) = (f, there m, refl)

pool_acted : (n nodes places : ℕ) (q : Frame) (a : Action) (R : List Frame) → Allowed n nodes places q R a → in_use n (q ∷ R) ≤ nodes → in_use n (successors q a ++ R) ≤ nodes
pool_acted n nodes places q spawn R ok h = le_trans (in_use_within n (child q ∷ after_spawn q ∷ R) (q ∷ R) (spawn_within q R)) h
pool_acted n nodes places q return R ok h = le_trans (in_use_within n (as_returning q ∷ R) (q ∷ R) (return_within q R)) h
pool_acted n nodes places q sync R ok h = h
pool_acted n nodes places q (read x) R ok h = h
pool_acted n nodes places q (fold x y) R ok h = h
pool_acted n nodes places q (write x v) R ok h = ok.1

pub pool_turn : (M : Machine) (t : Turn) → Passes M t → WithinPool M → WithinPool (after_turn M t)
pool_turn M t h i =
    rw ((sizes_turn M t).splitters, (sizes_turn M t).nodes)
    (live_kept (λ L. in_use M.splitters L ≤ M.nodes) M (λ A B p b. omega (arith, b, in_use_perm M.splitters p)) (λ q a R p. pool_acted M.splitters M.nodes M.places q a R)
    (λ q R e b. le_trans (in_use_within M.splitters R (q ∷ R) (λ f m. (f, there m, refl))) b) t h i)

-- ---- the start

pub in_use-main : (vs : List ℕ) → in_use (length vs) (main vs ∷ []) ≡ tree_nodes (length vs)
unfolding nodes_in_use tree_nodes
in_use-main vs = sum_cong (suc (height (length vs))) (λ l. sum (width (length vs) l) (λ g. 1)) (width (length vs)) (λ l b. omega (arith, sum_const (width (length vs) l) 1))

pub pool_start : (w : ℕ) (vs : List ℕ) (nodes places : ℕ) → tree_nodes (length vs) ≤ nodes → WithinPool (start w vs nodes places)
pool_start w vs nodes places h = subst (λ L. in_use (length vs) L ≤ nodes) (sym (live-start w vs nodes places)) (omega (arith, h, in_use-main vs))
