-- The views' names stand in post-order: "each, after all below it, before its parent". No number in a name matters here.
use Rattle.std.specs.Prelude.{◌≡◌, refl, ◌≢◌, ◌⊎◌, Bool, true, false, not, ℕ, ◌<◌, length}
use Rattle.std.proofs.Common.{sym, ap, ap₂, ◌∙◌, subst, inl, inr, arith}
use mathlib.Core.List.Memᴰ
use mathlib.Core.List.Memᴰ.{append_right as In-right}
use mathlib.Core.List.Memᴰ.{cases_cons as In-cons}
use mathlib.Core.List.Memᴰ.{head as here}
use mathlib.Core.List.Memᴰ.{not-nil as not-in-nil}
use mathlib.Core.List.Memᴰ.{tail as there}
use mathlib.Core.List.{Memᴰ as In}
use mathlib.Core.List.{List, [], ◌∷◌, ◌++◌, nil≢cons, tail-eq_of_cons-eq}
use Rattle.words.specs.Basics.{same}
use Rattle.words.specs.Tests.{decided}
use Rattle.words.specs.Distinct.{same_eq, same_ne, same_of, same_differ}
use Rattle.words.specs.NoDup.{NoDup}
use Rattle.model.specs.declared.Step.{Step}
use Rattle.model.specs.Machine.{Name, Frame, Machine, live, has_frame, start}
use Rattle.model.specs.Steps.{Action, spawn, return, sync, read, write, fold, Turn, acting, stealing, turn_of, child, after_turn, step}
use Rattle.model.specs.Run.{run}
use Rattle.model.specs.Views.{Views, views_at_start, turn_views, join_ended, views_after, run_views}
use Rattle.model.proofs.Theory.Filter.{filter, in_filter, filter-append, filter-all}
use Rattle.model.proofs.Theory.Under.{Under, under_same, under_main, under_trans, under_parent}
use Rattle.model.proofs.Theory.Effects.{Passes, acts}
use Rattle.model.proofs.Theory.FrameTree.{Rooted, FrameTree, tree_turn, tree-step, tree-start}
use Rattle.model.proofs.Theory.ViewNames.{view_names, names_acted, bottom_names, turn_names, live_names, in_acted, acted_same, view_names-after, views_kept, NamesOf, names-left, turn_all, child_new, names-start}
use Rattle.model.proofs.Theory.MainEnds.{In-hasFrame, has_frame_In}

-- ---- the order

-- p is among the names, and those before it are below it
abbrev pub UnderUntil : Name → List Name → Type 0
UnderUntil p [] = ⊥
UnderUntil p (n ∷ ns) = (n ≡ p) ⊎ (Under n p × UnderUntil p ns)

-- n stands before ns
pub record Placed (n : Name) (ns : List Name) : Type 0 where
  -- "before its parent", and only frames below the parent stand between
  pub to_parent : (k : ℕ) (p : Name) → n ≡ k ∷ p → UnderUntil p ns
  -- "after all below it": none that follows is n or below it
  pub after-below : (m : Name) → In m ns → Under m n → ⊥

abbrev pub PostOrder : List Name → Type 0
PostOrder [] = Unit {0}
PostOrder (n ∷ ns) = Placed n ns × PostOrder ns

pub until_in : (p : Name) (ns : List Name) → UnderUntil p ns → In p ns
until_in p (n ∷ ns) (inl e) = here (sym e)
until_in p (n ∷ ns) (inr u) = there (until_in p ns u.1)
until_in p [] x' = elim x' [ ]

pub until_head : (p n : Name) (ns : List Name) → UnderUntil p (n ∷ ns) → Under n p
until_head p n ns (inl e) = subst (Under n) e (under_same n)
until_head p n ns (inr u) = u.0

-- ---- what follows from it

pub post_suffix : (xs ys : List Name) → PostOrder (xs ++ ys) → PostOrder ys
post_suffix [] ys o = o
post_suffix (x ∷ xs) ys o = post_suffix xs ys o.1

pub post_nodup : (ns : List Name) → PostOrder ns → NoDup ns
post_nodup [] o = tt
post_nodup (n ∷ ns) o = ((λ m. o.0.after-below n m (under_same n)), post_nodup ns o.1)

-- a name's parent is there
pub post_parent : (ns : List Name) → PostOrder ns → (k : ℕ) (p : Name) → In (k ∷ p) ns → In p ns
post_parent [] o k p m = absurd (not-in-nil m)
post_parent (n ∷ ns) o k p m = elim (In-cons m) [ inl e ↦ there (until_in p ns (o.0.to_parent k p (sym e))) | inr i ↦ there (post_parent ns o.1 k p i) ]

-- and so are those above it
pub post_above : (ns : List Name) → PostOrder ns → (n p : Name) → In n ns → Under n p → In p ns
post_above ns o [] p m u = Memᴰ.cast (sym u) m
post_above ns o (k ∷ n) p m (inl e) = Memᴰ.cast (sym e) m
post_above ns o (k ∷ n) p m (inr u) = post_above ns o n p (post_parent ns o k n m) u

-- of a name under c that is not c: the parent is under c
to_parent_under : (c n : Name) (ns : List Name) → Placed n ns → same n c ≡ false → Under n c → (p : Name) × UnderUntil p ns × Under p c
to_parent_under c n ns o t u = let x = under_parent n c (same_ne t) u in (x.1, o.to_parent x.0 x.1 x.2, x.3)

-- from a name under c on, all are under c until c comes
pub post_until : (c n : Name) (ns : List Name) → PostOrder (n ∷ ns) → Under n c → UnderUntil c (n ∷ ns)
post_until c n [] o u = elim (decided (same n c)) [ inl t ↦ inl (same_eq n c t) | inr t ↦ absurd (to_parent_under c n [] o.0 t u).1 ]
post_until c n (m ∷ ms) o u =
    elim (decided (same n c)) [
      | inl t ↦ inl (same_eq n c t)
      | inr t ↦ inr (u, (let x = to_parent_under c n (m ∷ ms) o.0 t u in post_until c m ms o.1 (under_trans m x.0 c (until_head x.0 m ms x.1) x.2)))
    ]

-- a name is no longer than there are others
pub post_depth : (ns : List Name) → PostOrder ns → (n : Name) → In n ns → length n < length ns
post_depth [] o n m = absurd (not-in-nil m)
post_depth (x ∷ ns) o n m = elim (In-cons m) [ inl e ↦ first n e (λ p i. post_depth ns o.1 p i) | inr i ↦ (let h = post_depth ns o.1 n i in omega (arith, h)) ]
  where
    first : (n : Name) → n ≡ x → ((p : Name) → In p ns → length p < length ns) → length n < length (x ∷ ns)
    first [] e h = omega arith
    first (k ∷ p) e h = omega (arith, h p (until_in p ns (o.0.to_parent k p (sym e))))

-- Main's is the last
pub post_last : (xs : List Name) (n : Name) → PostOrder (xs ++ (n ∷ [])) → n ≡ []
post_last xs [] o = refl
post_last xs (k ∷ p) o = absurd ((post_suffix xs ((k ∷ p) ∷ []) o).0.to_parent k p refl)

pub post_main : (xs ys : List Name) → PostOrder (xs ++ ([] ∷ ys)) → ys ≡ []
post_main xs [] o = refl
post_main xs (y ∷ ys) o = absurd ((post_suffix xs ([] ∷ y ∷ ys) o).0.after-below y (here refl) (under_main y))

-- ---- some of the names, with each its parent

until_filter : (s : Name → Bool) (p : Name) (ns : List Name) → s p ≡ true → UnderUntil p ns → UnderUntil p (filter s ns)
until_filter s p (n ∷ ns) h (inl e) = rw (ap s e ∙ h) (inl e)
until_filter s p (n ∷ ns) h (inr u) = elim (decided (s n)) [ inl t ↦ rw t (inr (u.0, until_filter s p ns h u.1)) | inr t ↦ rw t (until_filter s p ns h u.1) ]
until_filter s p [] h x'' = elim x'' [ ]

pub post_filter : (s : Name → Bool) (ns : List Name) → ((k : ℕ) (p : Name) → In (k ∷ p) ns → s (k ∷ p) ≡ true → s p ≡ true) → PostOrder ns → PostOrder (filter s ns)
post_filter s [] h o = tt
post_filter s (n ∷ ns) h o =
    elim (decided (s n)) [
      | inl t ↦ rw t (
        record {
          to_parent = λ k p e. until_filter s p ns (h k p (here (sym e)) (ap s (sym e) ∙ t)) (o.0.to_parent k p e);
          after-below = λ m i. o.0.after-below m (in_filter s ns m i).0;
        },
        post_filter s ns (λ k p m. h k p (there m)) o.1,
      )
      | inr t ↦ rw t (post_filter s ns (λ k p m. h k p (there m)) o.1)
    ]

-- one that has no child goes
pub post_before : (xs ys : List Name) (n : Name) → PostOrder (xs ++ (n ∷ ys)) → In n xs → ⊥
post_before [] ys n o m = not-in-nil m
post_before (x ∷ xs) ys n o m =
    elim (In-cons m) [ inl e ↦ o.0.after-below n (In-right xs (here refl)) (subst (Under n) e (under_same n)) | inr i ↦ post_before xs ys n o.1 i ]

pub post_after : (xs ys : List Name) (n : Name) → PostOrder (xs ++ (n ∷ ys)) → In n ys → ⊥
post_after xs ys n o m = (post_suffix xs (n ∷ ys) o).0.after-below n m (under_same n)

-- all but n
abbrev pub is_not : Name → Name → Bool
is_not n m = not (same m n)

pub filter-without : (xs ys : List Name) (n : Name) → PostOrder (xs ++ (n ∷ ys)) → filter (is_not n) (xs ++ (n ∷ ys)) ≡ xs ++ ys
filter-without xs ys n o =
    filter-append (is_not n) xs (n ∷ ys) ∙ ap₂ ◌++◌ (filter-all (is_not n) xs (λ m i. differs m (λ e. post_before xs ys n o (Memᴰ.cast (sym e) i)))) (rw (same_of {x = n} {y = n} refl) (filter-all (is_not n) ys (λ m i. differs m (λ e. post_after xs ys n o (Memᴰ.cast (sym e) i)))))
  where
    differs : (m : Name) → m ≢ n → is_not n m ≡ true
    differs m d = ap not (same_differ d)

pub post_without : (xs ys : List Name) (n : Name) → ((k : ℕ) → In (k ∷ n) (xs ++ (n ∷ ys)) → ⊥) → PostOrder (xs ++ (n ∷ ys)) → PostOrder (xs ++ ys)
post_without xs ys n childless o =
    subst PostOrder (filter-without xs ys n o) (post_filter (is_not n) (xs ++ (n ∷ ys)) (λ k p m h. ap not (same_differ (λ e. childless k (subst (λ z. In (k ∷ z) (xs ++ (n ∷ ys))) e m)))) o)

-- ---- a step of q

module _ (q : Frame) where
  abbrev c : Name
  c = (child q).name

  until_spawn : (p : Name) (ns : List Name) → UnderUntil p ns → UnderUntil p (names_acted q spawn ns)
  until_spawn p (n ∷ ns) (inl e) =
      elim (decided (same n q.name)) [ inl t ↦ rw t (inr (inr (subst (Under q.name) (sym (same_eq n q.name t) ∙ e) (under_same q.name)), inl e)) | inr t ↦ rw t (inl e) ]
  until_spawn p (n ∷ ns) (inr u) =
      elim (decided (same n q.name)) [
        | inl t ↦ rw t (inr (inr (subst (λ z. Under z p) (same_eq n q.name t) u.0), inr u))
        | inr t ↦ rw t (inr (u.0, until_spawn p ns u.1))
      ]
  until_spawn p [] x' = elim x' [ ]

  -- the child, new, just before its parent
  post_spawn : (ns : List Name) → (In c ns → ⊥) → PostOrder ns → PostOrder (names_acted q spawn ns)
  post_spawn [] new o = tt
  post_spawn (n ∷ ns) new o =
      elim (decided (same n q.name)) [
        | inl t ↦ rw t (
          record {
            to_parent = λ k p e. inl (same_eq n q.name t ∙ tail-eq_of_cons-eq e);
            after-below = λ m i u. new (post_above (n ∷ ns) o m c i u);
          },
          o,
        )
        | inr t ↦ rw t (
          record {
            to_parent = λ k p e. until_spawn p ns (o.0.to_parent k p e);
            after-below = λ m i u. elim (in_acted q spawn ns m i) [ inl j ↦ o.0.after-below m j u | inr r ↦ above r.2 (subst (λ z. Under z n) r.1 u) ];
          },
          post_spawn ns (λ m. new (there m)) o.1,
        )
      ]
    where
      above : In q.name ns → Under c n → ⊥
      above i (inl e) = new (here e)
      above i (inr u) = o.0.after-below q.name i u

  pub post_acted : (a : Action) (ns : List Name) → (In c ns → ⊥) → PostOrder ns → PostOrder (names_acted q a ns)
  post_acted spawn ns new o = post_spawn ns new o
  post_acted return ns new o = subst PostOrder (sym (acted_same q return ns refl)) o
  post_acted sync ns new o = subst PostOrder (sym (acted_same q sync ns refl)) o
  post_acted (read x) ns new o = subst PostOrder (sym (acted_same q (read x) ns refl)) o
  post_acted (write x v) ns new o = subst PostOrder (sym (acted_same q (write x v) ns refl)) o
  post_acted (fold r x) ns new o = subst PostOrder (sym (acted_same q (fold r x) ns refl)) o

-- ---- a run

-- the live frames' names, in post-order
pub record InPostOrder (L : List Frame) (ns : List Name) : Type 0 where
  pub names : NamesOf L ns
  pub post : PostOrder ns

-- of L', some of the frames, each with its parent
pub post_left : (L' : List Frame) (ns : List Name) → Rooted L' → ((f : Frame) → In f L' → In f.name ns) → PostOrder ns → InPostOrder L' (live_names L' ns)
post_left L' ns rooted h o = record {
  names = names-left L' ns h;
  post = post_filter (λ n. has_frame n L') ns (λ k p m e. let x = has_frame_In (k ∷ p) L' e in let y = rooted x.0 x.1 k p x.2 in In-hasFrame p L' y.0 y.1 y.2) o;
}

-- an accepted turn, before the frames that end have ended
pub post_moved : (M : Machine) (t : Turn) (ns : List Name) → Passes M t → FrameTree M → InPostOrder (live M) ns → PostOrder (turn_names M t ns)
post_moved M (acting w a) ns h tree o =
    let x = acts M w a h in
    subst (λ d. PostOrder (bottom_names d a ns)) (sym x.at) (post_acted x.actor a ns (child_new M w a ns x tree o.names) o.post)
post_moved M (stealing w v) ns h tree o = o.post

-- and after
pub post_turn : (M : Machine) (t : Turn) (ns : List Name) → Passes M t → FrameTree M → InPostOrder (live M) ns → InPostOrder (live (after_turn M t)) (live_names (live (after_turn M t)) (turn_names M t ns))
post_turn M t ns h tree o = post_left (live (after_turn M t)) (turn_names M t ns) (tree_turn M t h tree).rooted (turn_all M t ns h o.names) (post_moved M t ns h tree o)

-- at a start
pub post_start : (w : ℕ) (vs : List ℕ) (nodes places : ℕ) → InPostOrder (live (start w vs nodes places)) (view_names views_at_start.views)
post_start w vs nodes places = record {
  names = names-start w vs nodes places;
  post = (record { to_parent = λ k p e. absurd (nil≢cons e); after-below = λ m i. absurd (not-in-nil i) }, tt);
}

-- ---- the views

pub views_turn : (M : Machine) (t : Turn) (W : Views) → Passes M t → FrameTree M → InPostOrder (live M) (view_names W.views)
    → InPostOrder (live (after_turn M t)) (view_names (join_ended (live (after_turn M t)) [] (turn_views M t W.views) W.totals).views)
views_turn M t W h tree o = subst (InPostOrder (live (after_turn M t))) (sym (view_names-after M t (live (after_turn M t)) W)) (post_turn M t (view_names W.views) h tree o)

pub views_step : (M : Machine) (s : Step) (W : Views) → FrameTree M → InPostOrder (live M) (view_names W.views) → InPostOrder (live (step M s)) (view_names (views_after M W s).views)
views_step M s W tree o = views_kept InPostOrder M s W (λ h. post_turn M (turn_of s) (view_names W.views) h tree o) o

pub views_run : (M : Machine) (W : Views) (ss : List Step) → FrameTree M → InPostOrder (live M) (view_names W.views) → InPostOrder (live (run M ss)) (view_names (run_views M W ss).views)
views_run M W [] tree o = o
views_run M W (s ∷ ss) tree o = views_run (step M s) (views_after M W s) ss (tree-step M s tree) (views_step M s W tree o)

-- at every moment of a run from a start there is one view for each live frame, and they stand in post-order
pub views_from_start : (w : ℕ) (vs : List ℕ) (nodes places : ℕ) (ss : List Step) → InPostOrder (live (run (start w vs nodes places) ss)) (view_names (run_views (start w vs nodes places) views_at_start ss).views)
views_from_start w vs nodes places ss = views_run (start w vs nodes places) views_at_start ss (tree-start w vs nodes places) (post_start w vs nodes places)
