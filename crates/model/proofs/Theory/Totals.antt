-- Once Main has returned, the totals are what was folded, in the order of Main's child-first list. At every moment the views, each
-- with what its frame and its children to come will still fold, and then the totals, make up that list.
use Rattle.std.specs.Prelude.{◌≡◌, refl, ◌≢◌, false, cond, List, [], ◌∷◌, ◌++◌, ℕ, suc, length}
use Rattle.std.proofs.Common.{sym, ap, ap₂, ◌∙◌, subst, inl, inr, append-nil, append_assoc, arith}
use mathlib.Core.List.Memᴰ
use mathlib.Core.List.Memᴰ.{append_cases as In-cases}
use mathlib.Core.List.Memᴰ.{cases_cons as In-cons}
use mathlib.Core.List.Memᴰ.{eq_of_singleton as In-one}
use mathlib.Core.List.Memᴰ.{head as here}
use mathlib.Core.List.Memᴰ.{not-nil as not-in-nil}
use mathlib.Core.List.Memᴰ.{tail as there}
use mathlib.Core.List.{Memᴰ as In}
use mathlib.Core.List.Permᴰ
use Rattle.words.specs.Basics.{same}
use Rattle.words.specs.Tests.{true≢false, decided}
use Rattle.words.specs.Distinct.{same_eq, same_refl, same_of, same_differ}
use Rattle.words.specs.Lists.{In-perm}
use Rattle.words.specs.NoDup.{NoDup}
use Rattle.model.specs.declared.Step.{Step}
use Rattle.model.specs.Machine.{Name, Frame, Machine, live, has_frame, main, start}
use Rattle.model.specs.Steps.{Action, spawn, return, sync, read, write, fold, Turn, acting, stealing, turn_of, child, after_turn}
use Rattle.model.specs.Run.{run, Returned, Entry, entry, bottom_entry, turn_entry, trace, entries_of, follow}
use Rattle.model.specs.Demand3.{trace_of, one_worker_of}
use Rattle.model.specs.Views.{Folded, View, Views, views_at_start, became, views_acted, bottom_views, turn_views, join_ended, run_views, totals_of, folded_by, folds_in, main_folds}
use Rattle.model.proofs.Theory.Names.{below}
use Rattle.model.proofs.Theory.ChildFirst.{child_first, child_first_skip, child_first_mine, child_first-none}
use Rattle.model.proofs.Theory.LiveRun.{successors, LiveRun, Owns, Disjoint, disjoint_perm, disjoint_acted}
use Rattle.model.proofs.Theory.StepsKept.{unowned}
use Rattle.model.proofs.Theory.Effects.{Passes, rest, live-start, Acts, acts, steals}
use Rattle.model.proofs.Theory.RunSteps.{accepted_or_refused}
use Rattle.model.proofs.Theory.FrameTree.{FrameTree, tree_turn, tree-start}
use Rattle.model.proofs.Theory.DequeShape.{DequeInvariant}
use Rattle.model.proofs.Theory.Deques.{deques_turn, deques-start}
use Rattle.model.proofs.Theory.RunLive.{live-run}
use Rattle.model.proofs.Theory.MainEnds.{In-hasFrame, returned_ends}
use Rattle.model.proofs.Theory.ViewNames.{view_names, bottom_names, settles_in, views_accepted, views_refused, view_names_turn, NamesOf, acted_alive, child_new}
use Rattle.model.proofs.Theory.PostOrder.{post_nodup, InPostOrder, post_start, views_turn}
use Rattle.model.proofs.Theory.Demand3Proof.{main_list, same_list, demand3}

-- ---- lists

folds-append : (es fs : List Entry) → folds_in (es ++ fs) ≡ folds_in es ++ folds_in fs
folds-append [] fs = refl
folds-append (e ∷ es) fs = ap (λ z. folded_by e.action ++ z) (folds-append es fs) ∙ sym (append_assoc (folded_by e.action) (folds_in es) (folds_in fs))

-- how many spawns each name has made, as the live frames have it
abbrev pub Counts : (Name → ℕ) → List Frame → Type 0
Counts s L = (f : Frame) → In f L → s f.name ≡ f.spawned

-- what is left to fold for the frame p and its children to come
abbrev left : (Name → ℕ) → List Entry → Name → List Folded
left s es p = folds_in (child_first es p (suc (s p)))

-- the views, each with what its frame will still fold
abbrev whole : (Name → ℕ) → List Entry → List View → List Folded
whole s es [] = []
whole s es (v ∷ vs) = v.folds ++ (left s es v.name ++ whole s es vs)

-- ---- frames that end

-- a frame that ends has nothing left to fold
join_keeps : (s : Name → ℕ) (es : List Entry) (L : List Frame) (ended : List Folded) (vs : List View) (totals : List Folded) → ((n : Name) → In n (view_names vs) → has_frame n L ≡ false → entries_of n es ≡ [])
    → whole s es (join_ended L ended vs totals).views ++ (join_ended L ended vs totals).totals ≡ ended ++ (whole s es vs ++ totals)
join_keeps s es L ended [] totals h = refl
join_keeps s es L ended (v ∷ vs) totals h =
    elim (decided (has_frame v.name L)) [
      | inl t ↦ rw t (stays (join_keeps s es L [] vs totals (λ x m. h x (there m))))
      | inr t ↦ rw t (join_keeps s es L (ended ++ v.folds) vs totals (λ x m. h x (there m)) ∙ ends (ap folds_in (child_first-none es v.name (suc (s v.name)) (h v.name (here refl) t))))
    ]
  where
    rest_views : Views
    rest_views = join_ended L [] vs totals

    stays : whole s es rest_views.views ++ rest_views.totals ≡ whole s es vs ++ totals
        → ((ended ++ v.folds) ++ (left s es v.name ++ whole s es rest_views.views)) ++ rest_views.totals ≡ ended ++ ((v.folds ++ (left s es v.name ++ whole s es vs)) ++ totals)
    stays e =
        append_assoc (ended ++ v.folds) (left s es v.name ++ whole s es rest_views.views) rest_views.totals
        ∙ ap (λ z. (ended ++ v.folds) ++ z) (append_assoc (left s es v.name) (whole s es rest_views.views) rest_views.totals ∙ ap (λ z. left s es v.name ++ z) e)
        ∙ append_assoc ended v.folds (left s es v.name ++ (whole s es vs ++ totals))
        ∙ ap (λ z. ended ++ z) (sym (append_assoc v.folds (left s es v.name ++ whole s es vs) totals ∙ ap (λ z. v.folds ++ z) (append_assoc (left s es v.name) (whole s es vs) totals)))

    ends : left s es v.name ≡ [] → (ended ++ v.folds) ++ (whole s es vs ++ totals) ≡ ended ++ ((v.folds ++ (left s es v.name ++ whole s es vs)) ++ totals)
    ends e = rw e (append_assoc ended v.folds (whole s es vs ++ totals) ∙ ap (λ z. ended ++ z) (sym (append_assoc v.folds (whole s es vs) totals)))

-- ---- a step of q

-- the counts after it
abbrev pub counted : Frame → Action → (Name → ℕ) → Name → ℕ
counted q spawn s r = cond (same r q.name) (suc q.spawned) (cond (same r (child q).name) 0 (s r))
counted q return s r = s r
counted q sync s r = s r
counted q (read x) s r = s r
counted q (write x y) s r = s r
counted q (fold x y) s r = s r

pub counted_other : (q : Frame) (a : Action) (s : Name → ℕ) (r : Name) → r ≢ q.name → r ≢ (child q).name → counted q a s r ≡ s r
counted_other q spawn s r n c = rw (same_differ n, same_differ c)
counted_other q return s r n c = refl
counted_other q sync s r n c = refl
counted_other q (read x) s r n c = refl
counted_other q (write x y) s r n c = refl
counted_other q (fold x y) s r n c = refl

pub counted-child : (q : Frame) (s : Name → ℕ) → counted q spawn s (child q).name ≡ 0
counted-child q s = rw (same_differ {x = (child q).name} {y = q.name} (λ e. omega (arith, ap length e)), same_refl (suc q.spawned ∷ q.name))

pub counted_own : (q : Frame) (s : Name → ℕ) → counted q spawn s q.name ≡ suc q.spawned
counted_own q s = rw (same_refl q.name)

whole_skip : (q : Frame) (a : Action) (s : Name → ℕ) (es : List Entry) (vs : List View) → (In q.name (view_names vs) → ⊥) → (In (child q).name (view_names vs) → ⊥) → whole s (entry q a ∷ es) vs ≡ whole (counted q a s) es vs
whole_skip q a s es [] n c = refl
whole_skip q a s es (v ∷ vs) n c =
    ap₂ (λ x y. v.folds ++ (x ++ y))
    (ap folds_in (child_first_skip (entry q a) es v.name (suc (s v.name)) (same_differ (λ e. n (here e))))
    ∙ ap (λ z. folds_in (child_first es v.name (suc z))) (sym (counted_other q a s v.name (λ e. n (here (sym e))) (λ e. c (here (sym e))))))
    (whole_skip q a s es vs (λ m. n (there m)) (λ m. c (there m)))

-- what q was to fold is what it has folded now, and what its successors are to fold
whole_mine : (q : Frame) (a : Action) (s : Name → ℕ) (es : List Entry) (v : View) (vs : List View) (tail : List Folded) → v.name ≡ q.name → s q.name ≡ q.spawned → whole (counted q a s) es vs ≡ tail
    → v.folds ++ (left s (entry q a ∷ es) v.name ++ tail) ≡ whole (counted q a s) es (became q a v ++ vs)
whole_mine q a s es v vs tail n k e = ap (λ z. v.folds ++ (folds_in z ++ tail)) (ap (λ z. child_first (entry q a ∷ es) z (suc (s z))) n ∙ ap (λ z. child_first (entry q a ∷ es) q.name (suc z)) k ∙ child_first_mine (entry q a) es q.name (suc q.spawned) (same_refl q.name)) ∙ by_kind a e
  where
    on : List Entry
    on = child_first es q.name (suc q.spawned)

    inner : List Entry
    inner = child_first es (suc q.spawned ∷ q.name) 1

    after : List Entry
    after = child_first es q.name (suc (suc q.spawned))

    same_left : folds_in on ≡ left s es v.name
    same_left = sym (ap (λ z. folds_in (child_first es z (suc (s z)))) n ∙ ap (λ z. folds_in (child_first es q.name (suc z))) k)

    by_kind : (a : Action) → whole (counted q a s) es vs ≡ tail → v.folds ++ (folds_in (follow a (entry q a) inner after on) ++ tail) ≡ whole (counted q a s) es (became q a v ++ vs)
    by_kind spawn e =
        ap (λ z. v.folds ++ z) (ap (λ z. z ++ tail) (folds-append inner after) ∙ append_assoc (folds_in inner) (folds_in after) tail ∙
        ap₂ ◌++◌ (ap (λ z. folds_in (child_first es (suc q.spawned ∷ q.name) (suc z))) (sym (counted-child q s)))
        (ap₂ ◌++◌ (ap (λ z. folds_in (child_first es q.name (suc z))) (sym (counted_own q s))) (sym e)))
    by_kind return e = ap₂ (λ x y. v.folds ++ (x ++ y)) same_left (sym e)
    by_kind sync e = ap₂ (λ x y. v.folds ++ (x ++ y)) same_left (sym e)
    by_kind (read x) e = ap₂ (λ x y. v.folds ++ (x ++ y)) same_left (sym e)
    by_kind (write x y) e = ap₂ (λ x y. v.folds ++ (x ++ y)) same_left (sym e)
    by_kind (fold r x) e =
        sym (append_assoc v.folds ((r, x) ∷ []) (folds_in on ++ tail)) ∙
        ap₂ (λ x' y. (v.folds ++ ((r, x) ∷ [])) ++ (x' ++ y)) (ap (λ z. folds_in (child_first es q.name (suc z))) (sym k)) (sym e)

whole_acted : (q : Frame) (a : Action) (s : Name → ℕ) (es : List Entry) (vs : List View) → s q.name ≡ q.spawned → NoDup (view_names vs) → (In (child q).name (view_names vs) → ⊥)
    → whole s (entry q a ∷ es) vs ≡ whole (counted q a s) es (views_acted q a vs)
whole_acted q a s es [] k u c = refl
whole_acted q a s es (v ∷ vs) k u c =
    elim (decided (same v.name q.name)) [
      | inl t ↦ rw t (let n = same_eq v.name q.name t in whole_mine q a s es v vs (whole s (entry q a ∷ es) vs) n k (sym (whole_skip q a s es vs (λ m. u.0 (Memᴰ.cast n m)) (λ m. c (there m)))))
      | inr t ↦ rw t (ap₂ (λ x y. v.folds ++ (x ++ y))
          (ap folds_in (child_first_skip (entry q a) es v.name (suc (s v.name)) (same_differ (λ e. differs t (sym e))))
          ∙ ap (λ z. folds_in (child_first es v.name (suc z))) (sym (counted_other q a s v.name (differs t) (λ e. c (here (sym e))))))
          (whole_acted q a s es vs k u.1 (λ m. c (there m))))
    ]
  where
    differs : same v.name q.name ≡ false → v.name ≢ q.name
    differs t e = true≢false (sym (same_of e) ∙ t)

-- ---- the live frames after it

-- a name has one owner
one_owner : (L : List Frame) → Disjoint L → (f g : Frame) → In f L → In g L → (r : Name) → Owns f r → Owns g r → f ≡ g
one_owner [] c f g mf mg r o o' = absurd (not-in-nil mf)
one_owner (x ∷ L) c f g mf mg r o o' = elim (In-cons mf) [
  | inl df ↦ elim (In-cons mg) [ inl dg ↦ df ∙ sym dg | inr ig ↦ absurd (c.0 g ig r (subst (λ z. Owns z r) df o) o') ]
  | inr if' ↦ elim (In-cons mg) [ inl dg ↦ absurd (c.0 f if' r (subst (λ z. Owns z r) dg o') o) | inr ig ↦ one_owner L c.1 f g if' ig r o o' ]
]

pub counts_acted : (q : Frame) (a : Action) (R : List Frame) (s : Name → ℕ) → Disjoint (q ∷ R) → Counts s (q ∷ R) → Counts (counted q a s) (successors q a ++ R)
counts_acted q a R s c k f m = elim (In-cases (successors q a) m) [ inl i ↦ new a i | inr i ↦ counted_other q a s f.name (λ e. c.0 f i q.name (inl refl) (inl (sym e))) (λ e. c.0 f i f.name (inr (subst (λ z. below q.name q.spawned z) (sym e) (inl (refl, omega arith)))) (inl refl)) ∙ k f (there i) ]
  where
    own : s q.name ≡ q.spawned
    own = k q (here refl)

    new : (a : Action) → In f (successors q a) → counted q a s f.name ≡ f.spawned
    new spawn (here e) = rw e (counted-child q s)
    new spawn (there (here e)) = rw e (counted_own q s)
    new return (here e) = rw e own
    new sync (here e) = rw e own
    new (read x) (here e) = rw e own
    new (write x y) (here e) = rw e own
    new (fold x y) (here e) = rw e own
    new spawn (there (there x9)) = elim x9 [ ]
    new return (there x6) = elim x6 [ ]
    new sync (there x7) = elim x7 [ ]
    new (read x) (there x9) = elim x9 [ ]
    new (write x y) (there x10) = elim x10 [ ]
    new (fold x y) (there x11) = elim x11 [ ]

-- ---- a run

pub silent : {n nodes places : ℕ} {L₁ L' : List Frame} {es : List Entry} → Disjoint L₁ → ((f : Frame) → In f L' → In f L₁) → LiveRun n nodes places L' es
    → (p : Name) → (f : Frame) × In f L₁ × (f.name ≡ p) → has_frame p L' ≡ false → entries_of p es ≡ []
silent {L₁ = L₁} {L' = L'} c sub g p x h = unowned g p (λ f m l o.
    let e = one_owner L₁ c f x.0 (sub f m) x.1 p o (inl (sym x.2)) in
    true≢false (sym (In-hasFrame p L' f m (ap (λ z. z.name) e ∙ x.2)) ∙ h))

none_viewed : (vs : List View) → NamesOf [] (view_names vs) → vs ≡ []
none_viewed [] k = refl
none_viewed (v ∷ vs) k = absurd (not-in-nil (k.alive v.name (here refl)).1)

-- what an accepted turn does to the live frames, their views and counts, before the frames that end have ended
record Moves (M : Machine) (t : Turn) (vs : List View) (s : Name → ℕ) : Type 0 where
  frames : List Frame
  counts : Name → ℕ
  disjoint : Disjoint frames
  within : (f : Frame) → In f (live (after_turn M t)) → In f frames
  viewed : (n : Name) → In n (view_names (turn_views M t vs)) → (f : Frame) × In f frames × (f.name ≡ n)
  counted-right : Counts counts frames
  same_whole : (es : List Entry) → whole s (turn_entry M t ++ es) vs ≡ whole counts es (turn_views M t vs)

moves : (M : Machine) (t : Turn) (vs : List View) (s : Name → ℕ) → Passes M t → FrameTree M → InPostOrder (live M) (view_names vs) → Counts s (live M) → Moves M t vs s
moves M (acting w a) vs s h tree k cs = record {
  frames = successors q a ++ R;
  counts = counted q a s;
  disjoint = disjoint_acted q a R c;
  within = settles_in x.after;
  viewed = λ n m. acted_alive M w a (view_names vs) x k.names n (subst (λ d. In n (bottom_names d a (view_names vs))) x.at (subst (λ l. In n l) (view_names_turn M (acting w a) vs) m));
  counted-right = counts_acted q a R s c (λ f m. cs f (In-perm (Permᴰ.symm x.before) m));
  same_whole = subst (λ z. (es : List Entry) → whole s (bottom_entry z a ++ es) vs ≡ whole (counted q a s) es (bottom_views z a vs)) (sym x.at)
      (λ es. whole_acted q a s es vs (cs q (In-perm (Permᴰ.symm x.before) (here refl))) (post_nodup (view_names vs) k.post) (child_new M w a (view_names vs) x tree k.names));
}
  where
    x : Acts M w a
    x = acts M w a h

    q : Frame
    q = x.actor

    R : List Frame
    R = x.above ++ rest M w

    c : Disjoint (q ∷ R)
    c = disjoint_perm x.before tree.disjoint
moves M (stealing w v) vs s h tree k cs = record {
  frames = live M;
  counts = s;
  disjoint = tree.disjoint;
  within = λ f m. In-perm (Permᴰ.symm (steals M w v h).same-frames) m;
  viewed = k.names.alive;
  counted-right = cs;
  same_whole = λ es. refl;
}

abbrev TotalsAre : List Step → Machine → Type 0
TotalsAre ss M = (W : Views) (s : Name → ℕ) → InPostOrder (live M) (view_names W.views) → Counts s (live M) → live (run M ss) ≡ [] → (run_views M W ss).totals ≡ whole s (trace M ss) W.views ++ W.totals

totals_turn : (M : Machine) (t : Turn) (ss : List Step) → Passes M t → FrameTree M → DequeInvariant M → TotalsAre ss (after_turn M t) → (W : Views) (s : Name → ℕ) → InPostOrder (live M) (view_names W.views) → Counts s (live M) → live (run (after_turn M t) ss) ≡ []
    → (run_views (after_turn M t) (join_ended (live (after_turn M t)) [] (turn_views M t W.views) W.totals) ss).totals ≡ whole s (turn_entry M t ++ trace (after_turn M t) ss) W.views ++ W.totals
totals_turn M t ss h tree dq ih W s k cs e =
    ih (join_ended L' [] vs₁ W.totals) m.counts (views_turn M t W h tree k) (λ f i. m.counted-right f (m.within f i)) e
    ∙ join_keeps m.counts es L' [] vs₁ W.totals (λ n i. silent m.disjoint m.within later n (m.viewed n i))
    ∙ ap (λ z. z ++ W.totals) (sym (m.same_whole es))
  where
    m : Moves M t W.views s
    m = moves M t W.views s h tree k cs

    L' : List Frame
    L' = live (after_turn M t)

    vs₁ : List View
    vs₁ = turn_views M t W.views

    es : List Entry
    es = trace (after_turn M t) ss

    later : LiveRun (after_turn M t).splitters (after_turn M t).nodes (after_turn M t).places L' es
    later = live-run _ _ _ (after_turn M t) ss refl refl refl (tree_turn M t h tree) (deques_turn M t h tree dq) e

totals_run : (M : Machine) (ss : List Step) → FrameTree M → DequeInvariant M → TotalsAre ss M
totals_run M [] tree dq W s k cs e = sym (ap (λ z. whole s [] z ++ W.totals) (none_viewed W.views (subst (λ L. NamesOf L (view_names W.views)) e k.names)))
totals_run M (u ∷ ss) tree dq W s k cs e =
    elim (accepted_or_refused M u) [
      | inl a ↦ ap₂ (λ N Z. (run_views N Z ss).totals) a.after (views_accepted M W u a)
          ∙ totals_turn M (turn_of u) ss a.passes tree dq (totals_run (after_turn M (turn_of u)) ss (tree_turn M (turn_of u) a.passes tree) (deques_turn M (turn_of u) a.passes tree dq)) W s k cs (ap (λ N. live (run N ss)) (sym a.after) ∙ e)
          ∙ ap (λ z. whole s z W.views ++ W.totals) (sym (a.traced ss))
      | inr r ↦ ap₂ (λ N Z. (run_views N Z ss).totals) r.after (views_refused M W u r) ∙ totals_run M ss tree dq W s k cs (ap (λ N. live (run N ss)) (sym r.after) ∙ e) ∙ ap (λ z. whole s z W.views ++ W.totals) (sym (r.traced ss))
    ]

-- ---- from a start

module _ (w : ℕ) (vs : List ℕ) (nodes places : ℕ) (ss : List Step) (returned : Returned (start w vs nodes places) ss) where
  totals_child_first : totals_of w vs nodes places ss ≡ folds_in (child_first (trace_of w vs nodes places ss) [] 1)
  totals_child_first =
      totals_run (start w vs nodes places) ss (tree-start w vs nodes places) (deques-start w vs nodes places) views_at_start (λ r. 0) (post_start w vs nodes places) (λ f m. zero_spawned f (subst (λ L. In f L) (live-start w vs nodes places) m)) (returned_ends (start w vs nodes places) ss (tree-start w vs nodes places) returned)
      ∙ append-nil _ ∙ append-nil _
    where
      zero_spawned : (f : Frame) → In f (main vs ∷ []) → 0 ≡ f.spawned
      zero_spawned f m = ap (λ z. z.spawned) (sym (In-one m))

  -- "the values folded into its reducer, in the order of Main's child-first list"
  pub totals_are : totals_of w vs nodes places ss ≡ main_folds (trace_of w vs nodes places ss)
  totals_are = totals_child_first ∙ ap folds_in (sym (main_list w vs nodes places ss returned))

-- "as in the one-worker run"
pub totals_same : (w : ℕ) (vs : List ℕ) (nodes places : ℕ) (ss : List Step) → Returned (start w vs nodes places) ss → totals_of w vs nodes places ss ≡ totals_of 1 vs nodes places (one_worker_of w vs nodes places ss)
totals_same w vs nodes places ss returned =
    totals_child_first w vs nodes places ss returned ∙ ap folds_in (sym (same_list w vs nodes places ss returned)) ∙ sym (totals_child_first 1 vs nodes places (one_worker_of w vs nodes places ss) (demand3 w vs nodes places ss returned).returns)
