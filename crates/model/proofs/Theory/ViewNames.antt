-- The names of the views: what a turn does to them, and that they are those of the live frames.
use Rattle.std.specs.Prelude.{◌≡◌, refl, ◌⊎◌, Bool, true, false, cond, ℕ, zero, suc, ◌<◌, length}
use Rattle.std.proofs.Common.{sym, ap, ap₂, ◌∙◌, subst, inl, inr, arith}
use mathlib.Core.List.Memᴰ
use mathlib.Core.List.Memᴰ.{append_cases as In-cases}
use mathlib.Core.List.Memᴰ.{append_left as In-left}
use mathlib.Core.List.Memᴰ.{append_right as In-right}
use mathlib.Core.List.Memᴰ.{cases_cons as In-cons}
use mathlib.Core.List.Memᴰ.{eq_of_singleton as In-one}
use mathlib.Core.List.Memᴰ.{head as here}
use mathlib.Core.List.Memᴰ.{not-nil as not-in-nil}
use mathlib.Core.List.Memᴰ.{tail as there}
use mathlib.Core.List.{Memᴰ as In}
use mathlib.Core.List.Permᴰ
use mathlib.Core.List.{List, [], ◌∷◌, ◌++◌, map, nil≢cons, head-eq_of_cons-eq, tail-eq_of_cons-eq}
use Rattle.words.specs.Basics.{same}
use Rattle.words.specs.Tests.{true≢false, decided}
use Rattle.words.specs.Distinct.{same_eq, same_ne, same_of}
use Rattle.words.specs.Lists.{In-perm}
use Rattle.model.specs.declared.Step.{Step}
use Rattle.model.specs.Machine.{Name, Frame, Machine, live, deque, has_frame, main, start}
use Rattle.model.specs.Steps.{Action, spawn, return, sync, read, write, fold, Turn, acting, stealing, turn_of, refusal, child, after_turn, step}
use Rattle.model.specs.Views.{Folded, View, Views, became, views_acted, bottom_views, turn_views, join_by, join_ended, views_after}
use Rattle.model.proofs.Theory.Filter.{filter, in_filter, to_filter}
use Rattle.model.proofs.Theory.LiveRun.{successors, successor, Settles, settles_kept, disjoint_perm}
use Rattle.model.proofs.Theory.Effects.{Passes, rest, live-start, Acts, acts, steals}
use Rattle.model.proofs.Theory.RunSteps.{Accepted, Refused, accepted_or_refused}
use Rattle.model.proofs.Theory.FrameTree.{FrameTree}
use Rattle.model.proofs.Theory.DequeShape.{successors-names}
use Rattle.model.proofs.Theory.MainEnds.{In-hasFrame, has_frame_In}

abbrev pub view_names : List View → List Name
view_names vs = map (λ v. v.name) vs

-- ---- a turn

-- q's name is at the head: with its child's before it if it spawns
abbrev pub spawns_in : Name → List Name → Action → List Name
spawns_in c ns spawn = c ∷ ns
spawns_in c ns return = ns
spawns_in c ns sync = ns
spawns_in c ns (read x) = ns
spawns_in c ns (write x v) = ns
spawns_in c ns (fold r x) = ns

abbrev pub names_acted : Frame → Action → List Name → List Name
names_acted q a [] = []
names_acted q a (n ∷ ns) = cond (same n q.name) (spawns_in (child q).name (n ∷ ns) a) (n ∷ names_acted q a ns)

abbrev pub bottom_names : List Frame → Action → List Name → List Name
bottom_names [] a ns = ns
bottom_names (q ∷ d) a ns = names_acted q a ns

abbrev pub turn_names : Machine → Turn → List Name → List Name
turn_names M (acting w a) ns = bottom_names (deque M w) a ns
turn_names M (stealing w v) ns = ns

-- those of the frames L
abbrev pub live_names : List Frame → List Name → List Name
live_names L ns = filter (λ n. has_frame n L) ns

abbrev pub is_spawn : Action → Bool
is_spawn spawn = true
is_spawn return = false
is_spawn sync = false
is_spawn (read x) = false
is_spawn (write x v) = false
is_spawn (fold r x) = false

-- only a spawn alters them
pub acted_same : (q : Frame) (a : Action) (ns : List Name) → is_spawn a ≡ false → names_acted q a ns ≡ ns
acted_same q a [] d = refl
acted_same q a (n ∷ ns) d =
    elim (decided (same n q.name)) [ inl t ↦ rw t (by_kind a d) | inr t ↦ rw t (ap (λ z. n ∷ z) (acted_same q a ns d)) ]
  where
    by_kind : (a : Action) → is_spawn a ≡ false → spawns_in (child q).name (n ∷ ns) a ≡ n ∷ ns
    by_kind spawn d = absurd (true≢false d)
    by_kind return d = refl
    by_kind sync d = refl
    by_kind (read x) d = refl
    by_kind (write x v) d = refl
    by_kind (fold r x) d = refl

-- a spawn puts the child's just before q's
pub spawn_at : (q : Frame) (xs ys : List Name) → (In q.name xs → ⊥) → names_acted q spawn (xs ++ (q.name ∷ ys)) ≡ xs ++ ((child q).name ∷ q.name ∷ ys)
spawn_at q [] ys d = rw (same_of {x = q.name} {y = q.name} refl)
spawn_at q (x ∷ xs) ys d =
    elim (decided (same x q.name)) [ inl t ↦ absurd (d (here (sym (same_eq x q.name t)))) | inr t ↦ rw t (ap (λ z. x ∷ z) (spawn_at q xs ys (λ m. d (there m)))) ]

pub in_acted : (q : Frame) (a : Action) (ns : List Name) (n : Name) → In n (names_acted q a ns) → In n ns ⊎ ((a ≡ spawn) × (n ≡ (child q).name) × In q.name ns)
in_acted q a [] n m = absurd (not-in-nil m)
in_acted q a (x ∷ ns) n m =
    elim (decided (same x q.name)) [
      | inl t ↦ by_kind a (same_eq x q.name t) (rw t at m)
      | inr t ↦ elim (In-cons (rw t at m)) [ inl e ↦ inl (here e) | inr i ↦ elim (in_acted q a ns n i) [ inl j ↦ inl (there j) | inr r ↦ inr (r.0, r.1, there r.2) ] ]
    ]
  where
    by_kind : (a : Action) → x ≡ q.name → In n (spawns_in (child q).name (x ∷ ns) a) → In n (x ∷ ns) ⊎ ((a ≡ spawn) × (n ≡ (child q).name) × In q.name (x ∷ ns))
    by_kind spawn e i = elim (In-cons i) [ inl z ↦ inr (refl, z, here (sym e)) | inr j ↦ inl j ]
    by_kind return e i = inl i
    by_kind sync e i = inl i
    by_kind (read v) e i = inl i
    by_kind (write v u) e i = inl i
    by_kind (fold v u) e i = inl i

pub to_acted : (q : Frame) (a : Action) (ns : List Name) (n : Name) → In n ns → In n (names_acted q a ns)
to_acted q a [] n m = absurd (not-in-nil m)
to_acted q a (x ∷ ns) n m =
    elim (decided (same x q.name)) [
      | inl t ↦ rw t (by_kind a)
      | inr t ↦ rw t (elim (In-cons m) [ inl e ↦ here e | inr i ↦ there (to_acted q a ns n i) ])
    ]
  where
    by_kind : (a : Action) → In n (spawns_in (child q).name (x ∷ ns) a)
    by_kind spawn = there m
    by_kind return = m
    by_kind sync = m
    by_kind (read v) = m
    by_kind (write v u) = m
    by_kind (fold v u) = m

pub child_acted : (q : Frame) (ns : List Name) → In q.name ns → In (child q).name (names_acted q spawn ns)
child_acted q [] m = absurd (not-in-nil m)
child_acted q (x ∷ ns) m =
    elim (decided (same x q.name)) [
      | inl t ↦ rw t (here refl)
      | inr t ↦ rw t (elim (In-cons m) [ inl e ↦ absurd (true≢false (sym (same_of (sym e)) ∙ t)) | inr i ↦ there (child_acted q ns i) ])
    ]

-- ---- an accepted step, and a refused one

pub views_accepted : (M : Machine) (W : Views) (u : Step) → Accepted M u → views_after M W u ≡ join_ended (live (after_turn M (turn_of u))) [] (turn_views M (turn_of u) W.views) W.totals
views_accepted M W u a = rw (a.zero_refusal, a.after)

pub views_refused : (M : Machine) (W : Views) (u : Step) → Refused M u → views_after M W u ≡ W
views_refused M W u r = go (refusal M u) refl r.some-refusal
  where
    go : (k : ℕ) → refusal M u ≡ k → 0 < k → views_after M W u ≡ W
    go zero e l = absurd (omega arith)
    go (suc k) e l = rw e

-- ---- they are the names of the views after the turn

pub view_names_acted : (q : Frame) (a : Action) (vs : List View) → view_names (views_acted q a vs) ≡ names_acted q a (view_names vs)
view_names_acted q a [] = refl
view_names_acted q a (v ∷ vs) =
    elim (decided (same v.name q.name)) [
      | inl t ↦ rw t (by_kind a (same_eq v.name q.name t))
      | inr t ↦ rw t (ap (λ z. v.name ∷ z) (view_names_acted q a vs))
    ]
  where
    by_kind : (a : Action) → v.name ≡ q.name → view_names (became q a v ++ vs) ≡ spawns_in (child q).name (v.name ∷ view_names vs) a
    by_kind spawn e = ap (λ z. (child q).name ∷ z ∷ view_names vs) (sym e)
    by_kind return e = refl
    by_kind sync e = refl
    by_kind (read x) e = refl
    by_kind (write x u) e = refl
    by_kind (fold r x) e = ap (λ z. z ∷ view_names vs) (sym e)

-- where q's view is
pub acted_at : (q : Frame) (a : Action) (us ws : List View) (v : View) → (In q.name (view_names us) → ⊥) → v.name ≡ q.name → views_acted q a (us ++ (v ∷ ws)) ≡ us ++ (became q a v ++ ws)
acted_at q a [] ws v d e = rw (same_of e)
acted_at q a (u ∷ us) ws v d e =
    elim (decided (same u.name q.name)) [ inl t ↦ absurd (d (here (sym (same_eq u.name q.name t)))) | inr t ↦ rw t (ap (λ z. u ∷ z) (acted_at q a us ws v (λ m. d (there m)) e)) ]

-- the first of a name, of any things that have names
pub first_named : {A : Type 0} (name : A → Name) (vs : List A) (n : Name) → In n (map name vs) → (us : List A) × (v : A) × (ws : List A) × (vs ≡ us ++ (v ∷ ws)) × (name v ≡ n) × (In n (map name us) → ⊥)
first_named name [] n m = absurd (not-in-nil m)
first_named name (v ∷ vs) n m =
    elim (decided (same (name v) n)) [
      | inl t ↦ ([], v, vs, refl, same_eq (name v) n t, not-in-nil)
      | inr t ↦ (let r = first_named name vs n (elim (In-cons m) [ inl e ↦ absurd (same_ne t (sym e)) | inr i ↦ i ]) in
          (v ∷ r.0, r.1, r.2, ap (λ z. v ∷ z) r.3, r.4, λ i. elim (In-cons i) [ inl e ↦ same_ne t (sym e) | inr j ↦ r.5 j ]))
    ]

pub view_at : (vs : List View) (n : Name) → In n (view_names vs) → (us : List View) × (v : View) × (ws : List View) × (vs ≡ us ++ (v ∷ ws)) × (v.name ≡ n) × (In n (view_names us) → ⊥)
view_at = first_named (λ (v : View). v.name)

-- views whose names are two lists, one after the other
pub views_split : (vs : List View) (xs ys : List Name) → view_names vs ≡ xs ++ ys → (us : List View) × (ws : List View) × (vs ≡ us ++ ws) × (view_names us ≡ xs) × (view_names ws ≡ ys)
views_split vs [] ys e = ([], vs, refl, refl, e)
views_split [] (x ∷ xs) ys e = absurd (nil≢cons e)
views_split (v ∷ vs) (x ∷ xs) ys e =
    let r = views_split vs xs ys (tail-eq_of_cons-eq e) in
    (v ∷ r.0, r.1, ap (λ z. v ∷ z) r.2, ap₂ ◌∷◌ (head-eq_of_cons-eq e) r.3, r.4)

pub view_names_turn : (M : Machine) (t : Turn) (vs : List View) → view_names (turn_views M t vs) ≡ turn_names M t (view_names vs)
view_names_turn M (acting w a) vs = at (deque M w)
  where
    at : (d : List Frame) → view_names (bottom_views d a vs) ≡ bottom_names d a (view_names vs)
    at [] = refl
    at (q ∷ d) = view_names_acted q a vs
view_names_turn M (stealing w v) vs = refl

pub view_names-joined : (s : Name → Bool) (ended : List Folded) (vs : List View) (totals : List Folded) → view_names (join_by s ended vs totals).views ≡ filter s (view_names vs)
view_names-joined s ended [] totals = refl
view_names-joined s ended (v ∷ vs) totals =
    elim (decided (s v.name)) [
      | inl t ↦ rw t (ap (λ z. v.name ∷ z) (view_names-joined s [] vs totals))
      | inr t ↦ rw t (view_names-joined s (ended ++ v.folds) vs totals)
    ]

-- the frames that still live after the turn
pub view_names-after : (M : Machine) (t : Turn) (L : List Frame) (W : Views) → view_names (join_ended L [] (turn_views M t W.views) W.totals).views ≡ live_names L (turn_names M t (view_names W.views))
view_names-after M t L W = view_names-joined (λ n. has_frame n L) [] (turn_views M t W.views) W.totals ∙ ap (live_names L) (view_names_turn M t W.views)

-- what an accepted turn keeps, a step keeps
pub views_kept : (P : List Frame → List Name → Type 0) (M : Machine) (s : Step) (W : Views)
    → (Passes M (turn_of s) → P (live (after_turn M (turn_of s))) (live_names (live (after_turn M (turn_of s))) (turn_names M (turn_of s) (view_names W.views))))
    → P (live M) (view_names W.views) → P (live (step M s)) (view_names (views_after M W s).views)
views_kept P M s W turn o =
    let L = live (after_turn M (turn_of s)) in
    elim (accepted_or_refused M s) [
      | inl a ↦ subst Right (sym (ap₂ (λ x y. (x, y)) a.after (views_accepted M W s a))) (subst (P L) (sym (view_names-after M (turn_of s) L W)) (turn a.passes))
      | inr r ↦ subst Right (sym (ap₂ (λ x y. (x, y)) r.after (views_refused M W s r))) o
    ]
  where
    Right : Machine × Views → Type 0
    Right Z = P (live Z.0) (view_names Z.1.views)

-- ---- the names of the live frames

-- each of the names is one of a frame, and each frame's is there
pub record NamesOf (L : List Frame) (ns : List Name) : Type 0 where
  pub alive : (n : Name) → In n ns → (f : Frame) × In f L × (f.name ≡ n)
  pub all : (f : Frame) → In f L → In f.name ns

pub settles_in : {L L' : List Frame} → Settles L L' → (f : Frame) → In f L' → In f L
settles_in {L} k = settles_kept (λ K. (f : Frame) → In f K → In f L) (λ K K' p h f m. h f (In-perm (Permᴰ.symm p) m)) (λ q R e h f m. h f (there m)) k (λ f m. m)

-- of L', some of the frames that are named
pub names-left : (L' : List Frame) (ns : List Name) → ((f : Frame) → In f L' → In f.name ns) → NamesOf L' (live_names L' ns)
names-left L' ns h = record {
  alive = λ n m. has_frame_In n L' (in_filter (λ x. has_frame x L') ns n m).1;
  all = λ f m. to_filter (λ x. has_frame x L') ns f.name (h f m) (In-hasFrame f.name L' f m refl);
}

-- ---- an accepted turn

-- before the frames that end have ended, each name is one of the actor's successors or of another frame
pub acted_alive : (M : Machine) (w : ℕ) (a : Action) (ns : List Name) (x : Acts M w a) → NamesOf (live M) ns → (n : Name) → In n (names_acted x.actor a ns)
    → (f : Frame) × In f (successors x.actor a ++ (x.above ++ rest M w)) × (f.name ≡ n)
acted_alive M w a ns x o n m = elim (in_acted q a ns n m) [
  | inl i ↦ (let y = o.alive n i in elim (In-cons (In-perm x.before y.1)) [
    | inl d ↦ (let z = successor q a in (z.frame, In-left (x.above ++ rest M w) z.new, z.named ∙ ap (λ b. b.name) (sym d) ∙ y.2))
    | inr j ↦ (y.0, In-right (successors q a) j, y.2)
  ])
  | inr r ↦ (child q, In-left (x.above ++ rest M w) (subst (λ b. In (child q) (successors q b)) (sym r.0) (here refl)), sym r.1)
]
  where
    q : Frame
    q = x.actor

-- the child's name is new
pub child_new : (M : Machine) (w : ℕ) (a : Action) (ns : List Name) (x : Acts M w a) → FrameTree M → NamesOf (live M) ns → In (child x.actor).name ns → ⊥
child_new M w a ns x tree o m =
    let f = o.alive (child x.actor).name m in
    elim (In-cons (In-perm x.before f.1)) [
      | inl d ↦ omega (arith, ap length (ap (λ z. z.name) (sym d) ∙ f.2))
      | inr i ↦ (disjoint_perm x.before tree.disjoint).0 f.0 i (child x.actor).name (inr (inl (refl, omega arith))) (inl (sym f.2))
    ]

acting-all : (M : Machine) (w : ℕ) (a : Action) (ns : List Name) → Acts M w a → NamesOf (live M) ns → (f : Frame) → In f (live (after_turn M (acting w a))) → In f.name (bottom_names (deque M w) a ns)
acting-all M w a ns x o f m = subst (λ z. In f.name (bottom_names z a ns)) (sym x.at) (found (settles_in x.after f m))
  where
    q : Frame
    q = x.actor

    own : In q.name ns
    own = o.all q (In-perm (Permᴰ.symm x.before) (here refl))

    found : In f (successors q a ++ (x.above ++ rest M w)) → In f.name (names_acted q a ns)
    found m = elim (In-cases (successors q a) m) [
      | inl i ↦ elim (successors-names q a f i) [
        | inl e ↦ Memᴰ.cast e (to_acted q a ns q.name own)
        | inr e ↦ subst (λ b. In f.name (names_acted q b ns)) (sym e.0) (Memᴰ.cast e.1 (child_acted q ns own))
      ]
      | inr i ↦ to_acted q a ns f.name (o.all f (In-perm (Permᴰ.symm x.before) (there i)))
    ]

pub turn_all : (M : Machine) (t : Turn) (ns : List Name) → Passes M t → NamesOf (live M) ns → (f : Frame) → In f (live (after_turn M t)) → In f.name (turn_names M t ns)
turn_all M (acting w a) ns h o f m = acting-all M w a ns (acts M w a h) o f m
turn_all M (stealing w v) ns h o f m = o.all f (In-perm (Permᴰ.symm (steals M w v h).same-frames) m)

pub names_turn : (M : Machine) (t : Turn) (ns : List Name) → Passes M t → NamesOf (live M) ns → NamesOf (live (after_turn M t)) (live_names (live (after_turn M t)) (turn_names M t ns))
names_turn M t ns h o = names-left (live (after_turn M t)) (turn_names M t ns) (turn_all M t ns h o)

pub names-start : (w : ℕ) (vs : List ℕ) (nodes places : ℕ) → NamesOf (live (start w vs nodes places)) ([] ∷ [])
names-start w vs nodes places = subst (λ L. NamesOf L ([] ∷ [])) (sym (live-start w vs nodes places)) (record {
  alive = λ n i. (main vs, here refl, sym (In-one i));
  all = λ f i. here (ap (λ z. z.name) (In-one i));
})
