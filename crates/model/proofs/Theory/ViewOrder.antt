-- The views stand in the order of R-5, as it is said on names.
use Rattle.std.specs.Prelude.{◌≡◌, refl, ◌≢◌, ◌⊎◌, Bool, ℕ, suc, ◌<◌, length}
use Rattle.std.proofs.Common.{sym, ap, ◌∙◌, subst, inl, inr, arith}
use mathlib.Core.List.Memᴰ.{append_cases as In-cases}
use mathlib.Core.List.Memᴰ.{cases_cons as In-cons}
use mathlib.Core.List.Memᴰ.{eq_of_singleton as In-one}
use mathlib.Core.List.Memᴰ.{head as here}
use mathlib.Core.List.Memᴰ.{not-nil as not-in-nil}
use mathlib.Core.List.Memᴰ.{tail as there}
use mathlib.Core.List.{Memᴰ as In}
use mathlib.Core.List.Permᴰ
use mathlib.Core.List.{List, [], ◌∷◌, ◌++◌, nil≢cons, head-eq_of_cons-eq, tail-eq_of_cons-eq}
use Rattle.std.proofs.Math.Decide.{dec_lt}
use Rattle.words.specs.Basics.{same}
use Rattle.words.specs.Tests.{decided}
use Rattle.words.specs.Distinct.{same_eq, same_ne}
use Rattle.words.specs.Lists.{In-perm}
use Rattle.model.specs.declared.Step.{Step}
use Rattle.model.specs.Machine.{Name, Frame, Machine, live, deque, has_frame, start}
use Rattle.model.specs.Steps.{Action, spawn, return, sync, read, write, fold, Turn, acting, stealing, turn_of, child, after_turn, step}
use Rattle.model.specs.Run.{run}
use Rattle.model.specs.Views.{Views, views_at_start, views_after, run_views}
use Rattle.model.proofs.Theory.Names.{below}
use Rattle.model.proofs.Theory.Filter.{filter, in_filter}
use Rattle.model.proofs.Theory.Under.{Under, under_same, under_child, under_one}
use Rattle.model.proofs.Theory.LiveRun.{successors, Disjoint, disjoint_perm}
use Rattle.model.proofs.Theory.Effects.{Passes, rest, live-start, Acts, acts}
use Rattle.model.proofs.Theory.RunSteps.{live_kept, step_kept}
use Rattle.model.proofs.Theory.FrameTree.{FrameTree, tree-step, tree-start}
use Rattle.model.proofs.Theory.DequeShape.{successors-names}
use Rattle.model.proofs.Theory.ViewNames.{view_names, spawns_in, names_acted, bottom_names, turn_names, live_names, in_acted, views_kept, NamesOf, names_turn, names-start}

-- ---- the order, on names

-- r and p are siblings, r the elder, or lie under such
pub record Elder (r p : Name) : Type 0 where
  pub parent : Name
  pub elder : ℕ
  pub younger : ℕ
  pub born_first : elder < younger
  pub one : Under r (elder ∷ parent)
  pub other : Under p (younger ∷ parent)

-- "siblings eldest first and each, after all below it, before its parent"
abbrev pub Before : Name → Name → Type 0
Before r p = ((r ≢ p) × Under r p) ⊎ Elder r p

-- each stands before those after it
abbrev pub Ordered : List Name → Type 0
Ordered [] = Unit {0}
Ordered (n ∷ ns) = ((m : Name) → In m ns → Before n m) × Ordered ns

-- the names of the live frames, in that order
pub record InOrder (L : List Frame) (ns : List Name) : Type 0 where
  pub names : NamesOf L ns
  pub ordered : Ordered ns

-- no name stands before itself
pub before_apart : (p r : Name) → Before p r → p ≢ r
before_apart p r (inl b) e = b.0 e
before_apart p r (inr b) e =
    omega (arith, b.born_first, head-eq_of_cons-eq (under_one p (b.elder ∷ b.parent) (b.younger ∷ b.parent) refl b.one (subst (λ z. Under z (b.younger ∷ b.parent)) (sym e) b.other)))

ordered_filter : (s : Name → Bool) (ns : List Name) → Ordered ns → Ordered (filter s ns)
ordered_filter s [] o = tt
ordered_filter s (x ∷ ns) o =
    elim (decided (s x)) [
      | inl t ↦ rw t ((λ m i. o.0 m (in_filter s ns m i).0), ordered_filter s ns o.1)
      | inr t ↦ rw t (ordered_filter s ns o.1)
    ]

-- ---- a step of q

-- "k counted from 1"
abbrev pub Positive : Name → Type 0
Positive [] = Unit {0}
Positive (k ∷ p) = (0 < k) × Positive p

under_below : (r p : Name) (s k : ℕ) → Positive r → s < k → Under r (k ∷ p) → below p s r
under_below [] p s k z l u = absurd (nil≢cons u)
under_below (j ∷ r) p s k z l (inl e) = inl (tail-eq_of_cons-eq e, omega (arith, l, head-eq_of_cons-eq e))
under_below (j ∷ r) p s k z l (inr u) = inr (z.0, under_below r p s k z.1 l u)

-- of another live frame x, beside q: q's child comes where q does
module _ (q : Frame) (x : Name) (positive : Positive x) (apart : below q.name q.spawned x → ⊥) where
  before_child : Before x q.name → Before x (child q).name
  before_child (inl b) =
      let u = under_child x q.name b.0 b.1 in
      let elder : u.0 < suc q.spawned = elim (dec_lt q.spawned u.0) [ yes l ↦ absurd (apart (under_below x q.name q.spawned u.0 positive l u.1)) | no l ↦ omega arith ] in
      inr (record { parent = q.name; elder = u.0; younger = suc q.spawned; born_first = elder; one = u.1; other = under_same (child q).name })
  before_child (inr e) = inr (record { parent = e.parent; elder = e.elder; younger = e.younger; born_first = e.born_first; one = e.one; other = inr e.other })

  child_before : Before q.name x → Before (child q).name x
  child_before (inl b) = inl ((λ e. apart (subst (λ z. below q.name q.spawned z) e (inl (refl, omega arith)))), inr b.1)
  child_before (inr e) = inr (record { parent = e.parent; elder = e.elder; younger = e.younger; born_first = e.born_first; one = inr e.one; other = e.other })

module _ (q : Frame) where
  -- what the names of the other live frames are known to be
  abbrev Beside : Name → Type 0
  Beside x = Positive x × (below q.name q.spawned x → ⊥)

  ordered_acted : (a : Action) (ns : List Name) → ((x : Name) → In x ns → x ≢ q.name → Beside x) → Ordered ns → Ordered (names_acted q a ns)
  ordered_acted a [] b o = tt
  ordered_acted a (x ∷ ns) b o =
      elim (decided (same x q.name)) [
        | inl t ↦ rw t (by_kind a (same_eq x q.name t))
        | inr t ↦ rw t (
          (λ m i. elim (in_acted q a ns m i) [ inl j ↦ o.0 m j | inr r ↦ (let y = b x (here refl) (same_ne t) in subst (Before x) (sym r.1) (before_child q x y.0 y.1 (o.0 q.name r.2))) ]),
          ordered_acted a ns (λ y i. b y (there i)) o.1,
        )
      ]
    where
      first : x ≡ q.name → (m : Name) → In m (x ∷ ns) → Before (child q).name m
      first e m i = elim (In-cons i) [
        | inl d ↦ subst (Before (child q).name) (sym (d ∙ e)) (inl ((λ z. omega (arith, ap length z)), inr (under_same q.name)))
        | inr j ↦ (let y = b m (there j) (λ d. before_apart x m (o.0 m j) (e ∙ sym d)) in child_before q m y.0 y.1 (subst (λ z. Before z m) e (o.0 m j)))
      ]

      by_kind : (a : Action) → x ≡ q.name → Ordered (spawns_in (child q).name (x ∷ ns) a)
      by_kind spawn e = (first e, o)
      by_kind return e = o
      by_kind sync e = o
      by_kind (read v) e = o
      by_kind (write v w) e = o
      by_kind (fold v w) e = o

-- ---- a turn

abbrev pub Positives : List Frame → Type 0
Positives L = (f : Frame) → In f L → Positive f.name

positive_acted : (q : Frame) (a : Action) (R : List Frame) → Positives (q ∷ R) → Positives (successors q a ++ R)
positive_acted q a R h f m = elim (In-cases (successors q a) m) [
  | inl i ↦ elim (successors-names q a f i) [ inl e ↦ subst Positive (sym e) (h q (here refl)) | inr e ↦ subst Positive (sym e.1) (omega arith, h q (here refl)) ]
  | inr i ↦ h f (there i)
]

pub positive_turn : (M : Machine) (t : Turn) → Passes M t → Positives (live M) → Positives (live (after_turn M t))
positive_turn M = live_kept Positives M (λ L L' p h f m. h f (In-perm (Permᴰ.symm p) m)) (λ q a R p ok h. positive_acted q a R h) (λ q R e h f m. h f (there m))

ordered_acting : (M : Machine) (w : ℕ) (a : Action) (ns : List Name) → Acts M w a → FrameTree M → Positives (live M) → InOrder (live M) ns → Ordered (bottom_names (deque M w) a ns)
ordered_acting M w a ns x tree pos o = subst (λ z. Ordered (bottom_names z a ns)) (sym x.at) (ordered_acted q a ns others o.ordered)
  where
    q : Frame
    q = x.actor

    c : Disjoint (q ∷ (x.above ++ rest M w))
    c = disjoint_perm x.before tree.disjoint

    others : (y : Name) → In y ns → y ≢ q.name → Beside q y
    others y i d =
        let f = o.names.alive y i in
        elim (In-cons (In-perm x.before f.1)) [
          | inl e ↦ absurd (d (sym f.2 ∙ ap (λ z. z.name) e))
          | inr j ↦ (subst Positive f.2 (pos f.0 f.1), λ b. c.0 f.0 j y (inr b) (inl (sym f.2)))
        ]

ordered_turn : (M : Machine) (t : Turn) (ns : List Name) → Passes M t → FrameTree M → Positives (live M) → InOrder (live M) ns → Ordered (turn_names M t ns)
ordered_turn M (acting w a) ns h tree pos o = ordered_acting M w a ns (acts M w a h) tree pos o
ordered_turn M (stealing w v) ns h tree pos o = o.ordered

pub in_order_turn : (M : Machine) (t : Turn) (ns : List Name) → Passes M t → FrameTree M → Positives (live M) → InOrder (live M) ns → InOrder (live (after_turn M t)) (live_names (live (after_turn M t)) (turn_names M t ns))
in_order_turn M t ns h tree pos o = record {
  names = names_turn M t ns h o.names;
  ordered = ordered_filter (λ n. has_frame n (live (after_turn M t))) (turn_names M t ns) (ordered_turn M t ns h tree pos o);
}

-- ---- a run

views_ordered_step : (M : Machine) (s : Step) (W : Views) → FrameTree M → Positives (live M) → InOrder (live M) (view_names W.views) → InOrder (live (step M s)) (view_names (views_after M W s).views)
views_ordered_step M s W tree pos o = views_kept InOrder M s W (λ h. in_order_turn M (turn_of s) (view_names W.views) h tree pos o) o

pub views_ordered : (M : Machine) (W : Views) (ss : List Step) → FrameTree M → Positives (live M) → InOrder (live M) (view_names W.views) → InOrder (live (run M ss)) (view_names (run_views M W ss).views)
views_ordered M W [] tree pos o = o
views_ordered M W (s ∷ ss) tree pos o =
    views_ordered (step M s) (views_after M W s) ss (tree-step M s tree) (step_kept (λ N. Positives (live N)) M (positive_turn M) s pos) (views_ordered_step M s W tree pos o)

module _ (w : ℕ) (vs : List ℕ) (nodes places : ℕ) where
  in_order_start : InOrder (live (start w vs nodes places)) ([] ∷ [])
  in_order_start = record { names = names-start w vs nodes places; ordered = ((λ m i. absurd (not-in-nil i)), tt) }

  positive_start : Positives (live (start w vs nodes places))
  positive_start f m = subst Positive (ap (λ z. z.name) (sym (In-one (subst (λ L. In f L) (live-start w vs nodes places) m)))) tt

  -- at every moment there is one view for each live frame, in that order
  pub views_in_order : (ss : List Step) → InOrder (live (run (start w vs nodes places) ss)) (view_names (run_views (start w vs nodes places) views_at_start ss).views)
  views_in_order ss = views_ordered (start w vs nodes places) views_at_start ss (tree-start w vs nodes places) positive_start in_order_start
