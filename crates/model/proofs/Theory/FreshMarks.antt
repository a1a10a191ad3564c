-- A mark names one write: the mark of a write stands in no history of a live frame before it.
use Rattle.std.specs.Prelude.{◌≡◌, refl, ◌≢◌, ◌⊎◌, ℕ, suc, ◌/◌, ◌^◌, ◌<◌, length, eqb}
use Rattle.std.proofs.Common.{sym, ap, ◌∙◌, subst, inl, inr, arith}
use mathlib.Core.List.Memᴰ.{append_cases as In-cases}
use mathlib.Core.List.Memᴰ.{cases_cons as In-cons}
use mathlib.Core.List.Memᴰ.{eq_of_singleton as In-one}
use mathlib.Core.List.Memᴰ.{head as here}
use mathlib.Core.List.Memᴰ.{not-nil as not-in-nil}
use mathlib.Core.List.Memᴰ.{tail as there}
use mathlib.Core.List.{Memᴰ as In}
use mathlib.Core.List.Permᴰ
use mathlib.Core.List.{List, [], ◌∷◌, ◌++◌, nil≢cons, head-eq_of_cons-eq, tail-eq_of_cons-eq, Permᴰ}
use Rattle.words.specs.Tests.{decided}
use Rattle.words.specs.Lists.{In-perm}
use Rattle.model.specs.History.{Event, History, last_write}
use Rattle.model.specs.Machine.{Name, Frame, Machine, live, start}
use Rattle.model.specs.Steps.{Action, spawn, return, sync, read, write, fold, Turn, write_event, written, after_turn}
use Rattle.model.proofs.Theory.Names.{below, below_longer, below_weaker, child-below}
use Rattle.model.proofs.Theory.LiveRun.{successors, Disjoint, disjoint_perm, disjoint_acted}
use Rattle.model.proofs.Theory.Effects.{Passes, live-start}
use Rattle.model.proofs.Theory.RunSteps.{live_kept}
use Rattle.model.proofs.Theory.FrameTree.{FrameTree}

-- v is no write that g may still make, or a frame that g may still bring: a write of g itself has a number below the length of
-- its history
pub record Past (g : Frame) (v : Event) : Type 0 where
  pub own : (i : ℕ) → v.mark ≡ i ∷ g.name → i < length g.history
  pub others : (i : ℕ) (r : Name) → v.mark ≡ i ∷ r → below g.name g.spawned r → ⊥

-- so is each write of a live frame's history to each live frame
abbrev pub MarkInvariant : List Frame → Type 0
MarkInvariant L = (f : Frame) → In f L → (v : Event) → In v f.history → (g : Frame) → In g L → Past g v

pub marks_perm : {L L' : List Frame} → Permᴰ L L' → MarkInvariant L → MarkInvariant L'
marks_perm p k f m v mv g n = k f (In-perm (Permᴰ.symm p) m) v mv g (In-perm (Permᴰ.symm p) n)

-- ---- old writes

past_successor : (q : Frame) (a : Action) (v : Event) → Past q v → (g : Frame) → In g (successors q a) → Past g v
past_successor q spawn v k g (here e) = rw e (record {
  own = λ i d. absurd (k.others i (suc q.spawned ∷ q.name) d (inl (refl, omega arith)));
  others = λ i r d b. k.others i r d (child-below q.name q.spawned r (inr b));
})
past_successor q spawn v k g (there (here e)) = rw e (record { own = k.own; others = λ i r d b. k.others i r d (below_weaker q.name q.spawned r b) })
past_successor q return v k g (here e) = rw e (record { own = k.own; others = k.others })
past_successor q sync v k g (here e) = rw e k
past_successor q (read x) v k g (here e) = rw e k
past_successor q (fold x y) v k g (here e) = rw e k
past_successor q (write x y) v k g (here e) = rw e (record { own = λ i d. omega (arith, k.own i d); others = k.others })
past_successor q spawn v k g (there (there x10)) = elim x10 [ ]
past_successor q return v k g (there x7) = elim x7 [ ]
past_successor q sync v k g (there x8) = elim x8 [ ]
past_successor q (read x) v k g (there x10) = elim x10 [ ]
past_successor q (write x y) v k g (there x11) = elim x11 [ ]
past_successor q (fold x y) v k g (there x12) = elim x12 [ ]

-- ---- a new write

past_new : (q : Frame) (x y : ℕ) → Past (written q x y) (write_event q x)
past_new q x y = record {
  own = λ i d. omega (arith, head-eq_of_cons-eq d);
  others = λ i r d b. omega (arith, below_longer q.name q.spawned r b, ap length (tail-eq_of_cons-eq d));
}

past_new_apart : (q : Frame) (R : List Frame) (x : ℕ) → Disjoint (q ∷ R) → (g : Frame) → In g R → Past g (write_event q x)
past_new_apart q R x c g m = record {
  own = λ i d. absurd (c.0 g m q.name (inl refl) (inl (tail-eq_of_cons-eq d)));
  others = λ i r d b. c.0 g m r (inl (sym (tail-eq_of_cons-eq d))) (inr b);
}

-- where a write of a history after the step comes from
old_or_new : (q : Frame) (a : Action) (v : Event) (f : Frame) → In f (successors q a) → In v f.history → In v q.history ⊎ ((x : ℕ) × (y : ℕ) × (a ≡ write x y) × (v ≡ write_event q x))
old_or_new q spawn v f (here e) m = inl (subst (λ z. In v z.history) e m)
old_or_new q spawn v f (there (here e)) m = inl (subst (λ z. In v z.history) e m)
old_or_new q return v f (here e) m = inl (subst (λ z. In v z.history) e m)
old_or_new q sync v f (here e) m = inl (subst (λ z. In v z.history) e m)
old_or_new q (read x) v f (here e) m = inl (subst (λ z. In v z.history) e m)
old_or_new q (fold x y) v f (here e) m = inl (subst (λ z. In v z.history) e m)
old_or_new q (write x y) v f (here e) m = elim (In-cons (subst (λ z. In v z.history) e m)) [ inl d ↦ inr (x, y, refl, d) | inr i ↦ inl i ]
old_or_new q spawn v f (there (there x11)) m = elim x11 [ ]
old_or_new q return v f (there x7) m = elim x7 [ ]
old_or_new q sync v f (there x8) m = elim x8 [ ]
old_or_new q (read x) v f (there x10) m = elim x10 [ ]
old_or_new q (write x y) v f (there x11) m = elim x11 [ ]
old_or_new q (fold x y) v f (there x12) m = elim x12 [ ]

marks_acted : (q : Frame) (a : Action) (R : List Frame) → Disjoint (q ∷ R) → MarkInvariant (q ∷ R) → MarkInvariant (successors q a ++ R)
marks_acted q a R c k f m v mv g n = elim (In-cases (successors q a) m) [
  | inl i ↦ elim (old_or_new q a v f i mv) [ inl o ↦ old q (here refl) o | inr w ↦ new w.0 w.1 w.2 w.3 ]
  | inr i ↦ old f (there i) mv
]
  where
    old : (b : Frame) → In b (q ∷ R) → In v b.history → Past g v
    old b mb w = elim (In-cases (successors q a) n) [ inl j ↦ past_successor q a v (k b mb v w q (here refl)) g j | inr j ↦ k b mb v w g (there j) ]

    new : (x y : ℕ) → a ≡ write x y → v ≡ write_event q x → Past g v
    new x y ea ev = elim (In-cases (successors q a) n) [
      | inl j ↦ subst (Past g) (sym ev) (subst (λ z. Past z (write_event q x)) (sym (In-one (subst (λ b. In g (successors q b)) ea j))) (past_new q x y))
      | inr j ↦ subst (Past g) (sym ev) (past_new_apart q R x c g j)
    ]

-- ---- the machine

pub marks_turn : (M : Machine) (t : Turn) → Passes M t → FrameTree M → MarkInvariant (live M) → MarkInvariant (live (after_turn M t))
marks_turn M t h i k =
    (live_kept (λ L. Disjoint L × MarkInvariant L) M (λ L L' p k. (disjoint_perm p k.0, marks_perm p k.1))
    (λ q a R p ok k. (disjoint_acted q a R k.0, marks_acted q a R k.0 k.1))
    (λ q R e k. (k.0.1, λ f m v mv g n. k.1 f (there m) v mv g (there n))) t h (i.disjoint, k)).1

pub marks_start : (w : ℕ) (vs : List ℕ) (nodes places : ℕ) → MarkInvariant (live (start w vs nodes places))
marks_start w vs nodes places = subst MarkInvariant (sym (live-start w vs nodes places)) (λ f m v mv g n. absurd (not-in-nil (subst (λ z. In v z.history) (In-one m) mv)))

-- ---- so the mark of a write of q is new

pub mark-fresh : (L : List Frame) → MarkInvariant L → (q f : Frame) → In q L → In f L → (v : Event) → In v f.history → v.mark ≢ length q.history ∷ q.name
mark-fresh L k q f mq mf v mv e = omega (arith, (k f mf v mv q mq).own (length q.history) e)

last_in : (l g : ℕ) (h : History) → (last_write l g h ≡ []) ⊎ ((v : Event) × In v h × (last_write l g h ≡ v.mark))
last_in l g [] = inl refl
last_in l g (e ∷ h) = elim (decided (eqb (e.splitter / 2 ^ l) g)) [
  | inl s ↦ inr (e, here refl, rw s)
  | inr s ↦ rw s (elim (last_in l g h) [ inl z ↦ inl z | inr v ↦ inr (v.0, there v.1, v.2) ])
]

-- and the last write of no live frame at any position
pub last-fresh : (L : List Frame) → MarkInvariant L → (q f : Frame) → In q L → In f L → (l g : ℕ) → last_write l g f.history ≢ length q.history ∷ q.name
last-fresh L k q f mq mf l g e = elim (last_in l g f.history) [
  | inl z ↦ nil≢cons (sym z ∙ e)
  | inr v ↦ mark-fresh L k q f mq mf v.0 v.1 (sym v.2 ∙ e)
]
