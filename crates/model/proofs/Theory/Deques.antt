-- The deques of a run keep their shape, and a suspended frame has a live child.
use Rattle.std.specs.Prelude.{◌≡◌, refl, ◌≢◌, ◌⊎◌, true, false, not, ℕ, zero, suc, ◌-◌, ◌<◌, length, get_or, set, replicate}
use Rattle.std.proofs.Common.{sym, ap, ◌∙◌, subst, inl, inr, arith, length-set, get_or-set_same, get_or-set_other}
use mathlib.Core.List.Memᴰ.{append_cases as In-cases}
use mathlib.Core.List.Memᴰ.{append_left as In-left}
use mathlib.Core.List.Memᴰ.{append_right as In-right}
use mathlib.Core.List.Memᴰ.{cases_cons as In-cons}
use mathlib.Core.List.Memᴰ.{eq_of_singleton as In-one}
use mathlib.Core.List.Memᴰ.{head as here}
use mathlib.Core.List.Memᴰ.{not-nil as not-in-nil}
use mathlib.Core.List.Memᴰ.{tail as there}
use mathlib.Core.List.{Memᴰ as In}
use mathlib.Core.List.Permᴰ
use mathlib.Core.List.{List, [], ◌∷◌, ◌++◌, tail, cons≢nil, nil≢cons, tail-eq_of_cons-eq, Permᴰ}
use Rattle.std.proofs.Math.Decide.{ℕ_discrete}
use Rattle.words.specs.Basics.{joined, same}
use Rattle.words.specs.Tests.{true≢false, decided, both, not-true}
use Rattle.words.specs.Distinct.{same_eq, same_of}
use Rattle.words.specs.Lists.{In-perm}
use Rattle.model.specs.Machine.{Name, Frame, Machine, live, deque, with_deque, is_empty, top, below_top, has_child, those, start}
use Rattle.model.specs.Steps.{Action, spawn, return, sync, read, write, fold, Turn, acting, stealing, child, after_spawn, as_returning, written, waits_in_return, waits_at_sync, leave, resume, upward, after_end, suspend, after_action, after_steal, after_turn}
use Rattle.model.proofs.Theory.LiveRun.{successors, successor, Disjoint, disjoint_perm}
use Rattle.model.proofs.Theory.Children.{In-hasChild, has_child_In}
use Rattle.model.proofs.Theory.Effects.{Passes, rest, live_with, live_at_lem, perm_those, in_those, other_action, action_live, returned, resume-live, below_top-top, is_empty_nil, there_is_worker, acts, Steals, steals}
use Rattle.model.proofs.Theory.FrameTree.{FrameTree}
use Rattle.model.proofs.Theory.DequeShape.{Linked, OnlyChild, nothing, DequeShape, DequeInvariant, linked_head, linked_tail, linked-below, shape_top, only_below_lem, only_mono, only_renamed, in_joined, shape_set, disjoint_left, disjoint_right, disjoint_apart, one_named, in_others, to_those, shape_those, successors-names, only_spawn, only_return}

-- ---- a frame has ended, and so upward

pub active_set : (ds : List (List Frame)) (w : ℕ) (D : List Frame) → w < length ds → ((f : Frame) → In f D → f.returning ≡ false) → ((v : ℕ) (f : Frame) → In f (get_or ds v []) → f.returning ≡ false) → (v : ℕ) (f : Frame) → In f (get_or (set ds w D) v []) → f.returning ≡ false
active_set ds w D lt h k v f m =
    elim (ℕ_discrete v w) [
      | yes e ↦ h f (subst (λ z. In f z) (ap (λ z. get_or (set ds w D) z []) e ∙ get_or-set_same ds w D [] lt) m)
      | no ne ↦ k v f (subst (λ z. In f z) (get_or-set_other ds w v D [] ne) m)
    ]

-- a frame r has just ended: a suspended frame has a live child, or was its parent
record Between (M : Machine) (r : Name) : Type 0 where
  shape : (v : ℕ) → DequeShape (live M) (deque M v)
  active : (v : ℕ) (f : Frame) → In f (deque M v) → f.returning ≡ false
  waits : (f : Frame) → In f M.suspended → (has_child f.name (live M) ≡ true) ⊎ ((k : ℕ) × (r ≡ k ∷ f.name))

shape_within : (L L' : List Frame) (d : List Frame) → ((f : Frame) → In f L' → In f L) → DequeShape L d → DequeShape L' d
shape_within L L' d h s = (s.0, only_mono L L' nothing d (λ c m. inl (c, h c m, refl)) s.1)

deques-resume : (M : Machine) (w : ℕ) (k : ℕ) (p : Name) → w < length M.deques → deque M w ≡ [] → Disjoint (live M) → Between M (k ∷ p) → is_empty (those (waits_in_return p) M.suspended) ≡ true → DequeInvariant (resume M w p)
deques-resume M w k p lt e c t none = record {
  shape = shape_set L' M.deques w (those (waits_at_sync p) M.suspended) lt
      (shape_those L' (waits_at_sync p) p M.suspended (λ f h. same_eq f.name p (both _ _ h).0) (disjoint_left M.suspended (joined M.deques) c))
      (λ v ne. shape_within (live M) L' (deque M v) (λ f m. In-perm (Permᴰ.symm π) m) (t.shape v));
  active = active_set M.deques w (those (waits_at_sync p) M.suspended) lt (λ f m. not-true _ (both (same f.name p) (not f.returning) (in_those (waits_at_sync p) M.suspended f m).1).1) t.active;
  waits = λ f m. let u = in_others (waits_at_sync p) M.suspended f m in elim (t.waits f u.0) [ inl y ↦ moved f y | inr j ↦ absurd (gone f u.0 (tail-eq_of_cons-eq j.1) u.1) ];
}
  where
    L' : List Frame
    L' = live (resume M w p)

    π : Permᴰ (live M) L'
    π = resume-live M w p lt e

    moved : (f : Frame) → has_child f.name (live M) ≡ true → has_child f.name L' ≡ true
    moved f h = let x = has_child_In f.name (live M) h in In-hasChild x.2 f.name (In-perm π x.1) x.3

    -- p, if it waits at no sync, waits in no return
    gone : (f : Frame) → In f M.suspended → p ≡ f.name → waits_at_sync p f ≡ false → ⊥
    gone f m n h = elim (decided f.returning) [
      | inl s ↦ not-in-nil (subst (λ z. In f z) (is_empty_nil (those (waits_in_return p) M.suspended) none) (to_those (waits_in_return p) M.suspended f m (rw (same_of (sym n), s))))
      | inr s ↦ true≢false (sym (yes_at_sync s) ∙ h)
    ]
      where
        yes_at_sync : f.returning ≡ false → waits_at_sync p f ≡ true
        yes_at_sync s = rw (same_of (sym n), s)

deques-leave : (M : Machine) (k : ℕ) (p : Name) → Disjoint (live M) → Between M (k ∷ p) → is_empty (those (waits_in_return p) M.suspended) ≡ false → Between (leave M p) p
deques-leave M k p c t some = record {
  shape = λ v. shape_within (live M) (live (leave M p)) (deque M v) within (t.shape v);
  active = t.active;
  waits = λ f m. let u = in_others (waits_in_return p) M.suspended f m in elim (t.waits f u.0) [ inl y ↦ children f y | inr j ↦ absurd (only f u.0 (tail-eq_of_cons-eq j.1) u.1 (those (waits_in_return p) M.suspended) refl some) ];
}
  where
    split : Permᴰ (live M) (those (waits_in_return p) M.suspended ++ live (leave M p))
    split = perm_those (waits_in_return p) M.suspended (joined M.deques)

    within : (f : Frame) → In f (live (leave M p)) → In f (live M)
    within f m = In-perm (Permᴰ.symm split) (In-right (those (waits_in_return p) M.suspended) m)

    children : (f : Frame) → has_child f.name (live M) ≡ true → (has_child f.name (live (leave M p)) ≡ true) ⊎ ((j : ℕ) × (p ≡ j ∷ f.name))
    children f h =
        let x = has_child_In f.name (live M) h in
        elim (In-cases (those (waits_in_return p) M.suspended) (In-perm split x.1)) [
          | inl i ↦ inr (x.2, sym (returned p M.suspended x.0 i).0 ∙ x.3)
          | inr i ↦ inl (In-hasChild x.2 f.name i x.3)
        ]

    only : (f : Frame) → In f M.suspended → p ≡ f.name → waits_in_return p f ≡ false → (l : List Frame) → those (waits_in_return p) M.suspended ≡ l → is_empty l ≡ false → ⊥
    only f m n h [] z s = true≢false s
    only f m n h (g ∷ l) z s =
        let i : In g (those (waits_in_return p) M.suspended) = subst (λ y. In g y) (sym z) (here refl) in
        let r = returned p M.suspended g i in
        let same' = one_named M.suspended (disjoint_left M.suspended (joined M.deques) c) g f (in_those (waits_in_return p) M.suspended g i).0 m (r.0 ∙ n) in
        true≢false (sym (in_those (waits_in_return p) M.suspended g i).1 ∙ ap (waits_in_return p) same' ∙ h)

deques-upward : (M : Machine) (w : ℕ) (r : Name) → w < length M.deques → deque M w ≡ [] → Disjoint (live M) → Between M r → DequeInvariant (upward M w r)
deques-upward M w [] lt e c t = record { shape = t.shape; active = t.active; waits = λ f m. elim (t.waits f m) [ inl y ↦ y | inr j ↦ absurd (nil≢cons j.1) ] }
deques-upward M w (k ∷ p) lt e c t =
    elim (decided (has_child p (live M))) [
      | inl h ↦ rw h (record {
        shape = t.shape;
        active = t.active;
        waits = λ f m. elim (t.waits f m) [ inl y ↦ y | inr j ↦ subst (λ z. has_child z (live M) ≡ true) (tail-eq_of_cons-eq j.1) h ];
      })
      | inr h ↦ rw h (elim (decided (is_empty (those (waits_in_return p) M.suspended))) [
        | inl s ↦ rw s (deques-resume M w k p lt e c t s)
        | inr s ↦ rw s (deques-upward (leave M p) w p lt e
            (disjoint_right (those (waits_in_return p) M.suspended) (live (leave M p)) (disjoint_perm (perm_those (waits_in_return p) M.suspended (joined M.deques)) c))
            (deques-leave M k p c t s))
      ])
    ]

-- ---- one accepted step

module _ (M : Machine) (w : ℕ) (q : Frame) (d : List Frame) (lt : w < length M.deques) (e : deque M w ≡ q ∷ d) (s : FrameTree M) (t : DequeInvariant M) where
  before : Permᴰ (live M) (q ∷ (d ++ rest M w))
  before = live_at_lem M w (q ∷ d) lt e

  disjoint_here : Disjoint (q ∷ (d ++ rest M w))
  disjoint_here = disjoint_perm before s.disjoint

  shape_here : DequeShape (live M) (q ∷ d)
  shape_here = subst (DequeShape (live M)) e (t.shape w)

  others_in : (v : ℕ) → v ≢ w → (h : Frame) → In h (deque M v) → In h (d ++ rest M w)
  others_in v ne h m = In-right d (In-right M.suspended (in_joined M.deques w v ne m))

  q_apart : (h : Frame) → In h (d ++ rest M w) → h.name ≢ q.name
  q_apart h m n = disjoint_here.0 h m q.name (inl refl) (inl (sym n))

  active_here : (q.returning ≡ false) × ((f : Frame) → In f d → f.returning ≡ false)
  active_here = (t.active w q (subst (λ z. In q z) (sym e) (here refl)), λ f m. t.active w f (subst (λ z. In f z) (sym e) (there m)))

  active_head : (q' : Frame) → q'.returning ≡ false → (f : Frame) → In f (q' ∷ d) → f.returning ≡ false
  active_head q' h f m = elim (In-cons m) [ inl z ↦ ap (λ y. y.returning) z ∙ h | inr i ↦ active_here.1 f i ]

  -- a frame after the step was there under its name, or is the child
  known : (a : Action) (L' : List Frame) → Permᴰ L' (successors q a ++ (d ++ rest M w)) → (c : Frame) → In c L'
      → ((b : Frame) × In b (live M) × (b.name ≡ c.name)) ⊎ ((a ≡ spawn) × (c.name ≡ suc q.spawned ∷ q.name))
  known a L' p c m =
      elim (In-cases (successors q a) (In-perm p m)) [
        | inl i ↦ elim (successors-names q a c i) [ inl n ↦ inl (q, In-perm (Permᴰ.symm before) (here refl), sym n) | inr n ↦ inr n ]
        | inr i ↦ inl (c, In-perm (Permᴰ.symm before) (there i), refl)
      ]

  shape_others : (a : Action) (L' : List Frame) → Permᴰ L' (successors q a ++ (d ++ rest M w)) → (v : ℕ) → v ≢ w → DequeShape L' (deque M v)
  shape_others a L' p v ne = (
    (t.shape v).0,
    only_mono (live M) L' nothing (deque M v)
        (λ c m. elim (known a L' p c m) [ inl b ↦ inl b | inr n ↦ inr (λ g i k z. q_apart g (others_in v ne g i) (sym (tail-eq_of_cons-eq (sym n.1 ∙ z)))) ])
        (t.shape v).1,
  )

  children_stay : (a : Action) (L' : List Frame) → Permᴰ L' (successors q a ++ (d ++ rest M w)) → (p : Name) → has_child p (live M) ≡ true → has_child p L' ≡ true
  children_stay a L' π p h =
      let x = has_child_In p (live M) h in
      elim (In-cons (In-perm before x.1)) [
        | inl i ↦ (let y = successor q a in In-hasChild x.2 p (In-perm (Permᴰ.symm π) (In-left (d ++ rest M w) y.new)) (y.named ∙ ap (λ z. z.name) (sym i) ∙ x.3))
        | inr i ↦ In-hasChild x.2 p (In-perm (Permᴰ.symm π) (In-right (successors q a) i)) x.3
      ]

  -- ---- by kind

  deques-spawn : DequeInvariant (after_action M w (q ∷ d) spawn)
  deques-spawn = record {
    shape = shape_set L' M.deques w (child q ∷ after_spawn q ∷ d) lt (
      (((suc q.spawned, refl), linked_head q (after_spawn q) d refl shape_here.0)),
      (childless, only_spawn (live M) L' q d (λ c m. elim (known spawn L' after c m) [ inl b ↦ inl b | inr n ↦ inr n.1 ]) (λ x i. q_apart x (In-left (rest M w) i)) shape_here.1),
    )
        (shape_others spawn L' after);
    active = active_set M.deques w (child q ∷ after_spawn q ∷ d) lt (λ f m. elim (In-cons m) [ inl z ↦ ap (λ y. y.returning) z | inr i ↦ active_head (after_spawn q) active_here.0 f i ]) t.active;
    waits = λ f m. children_stay spawn L' after f.name (t.waits f m);
  }
    where
      L' : List Frame
      L' = live (after_action M w (q ∷ d) spawn)

      after : Permᴰ L' (successors q spawn ++ (d ++ rest M w))
      after = action_live M w q d spawn (λ z. other_action z refl) lt e

      old : (b : Frame) → In b (live M) → (k : ℕ) → b.name ≡ k ∷ suc q.spawned ∷ q.name → ⊥
      old b m k z =
          let x = s.rooted b m k (suc q.spawned ∷ q.name) z in
          elim (In-cons (In-perm before x.1))
          [ inl i ↦ omega (arith, ap length (ap (λ y. y.name) (sym i) ∙ x.2)) | inr i ↦ disjoint_here.0 x.0 i (suc q.spawned ∷ q.name) (inr (inl (refl, omega arith))) (inl (sym x.2)) ]

      childless : (c : Frame) → In c L' → (k : ℕ) → c.name ≡ k ∷ (child q).name → ⊥
      childless c m k z = elim (known spawn L' after c m) [ inl b ↦ old b.0 b.1 k (b.2 ∙ z) | inr n ↦ omega (arith, ap length (sym n.1 ∙ z)) ]

  deques-write : (x v : ℕ) → DequeInvariant (after_action M w (q ∷ d) (write x v))
  deques-write x v = record {
    shape = shape_set L' M.deques w (written q x v ∷ d) lt (
      linked_head q (written q x v) d refl shape_here.0,
      only_renamed L' nothing q (written q x v) d refl (only_mono (live M) L' nothing (q ∷ d) (λ c m. elim (known (write x v) L' after c m) [ inl b ↦ inl b | inr n ↦ absurd (write≢spawn n.0) ]) shape_here.1),
    )
        (shape_others (write x v) L' after);
    active = active_set M.deques w (written q x v ∷ d) lt (active_head (written q x v) active_here.0) t.active;
    waits = λ f m. children_stay (write x v) L' after f.name (t.waits f m);
  }
    where
      L' : List Frame
      L' = live (after_action M w (q ∷ d) (write x v))

      after : Permᴰ L' (successors q (write x v) ++ (d ++ rest M w))
      after = action_live M w q d (write x v) (λ z. other_action z refl) lt e

      write≢spawn : ◌≡◌ {A = Action} (write x v) spawn → ⊥
      write≢spawn z = let y : ◌≡◌ {A = ℕ} 0 1 = cc in omega arith

  -- a frame with a live child is a top: a sync that suspends leaves its worker idle
  pub sync-top : has_child q.name (live M) ≡ true → (d' : List Frame) → d ≡ d' → d' ≡ []
  sync-top h [] z = refl
  sync-top h (g ∷ d') z = let x = has_child_In q.name (live M) h in absurd ((subst (λ y. OnlyChild (live M) nothing (q ∷ y)) z shape_here.1).0 x.0 x.1 x.2 x.3)

  -- q leaves its deque, as q'
  deques-suspend : (a : Action) (q' : Frame) → successors q a ≡ q' ∷ [] → a ≢ spawn → q'.name ≡ q.name → has_child q.name (live M) ≡ true → DequeInvariant (suspend M w q' d)
  deques-suspend a q' new ne n h = record {
    shape = shape_set L' M.deques w d lt (subst (DequeShape L') (sym (sync-top h d refl)) (tt, tt)) (shape_others a L' after);
    active = active_set M.deques w d lt active_here.1 t.active;
    waits = λ f m. elim (In-cons m) [ inl z ↦ children_stay a L' after f.name (subst (λ y. has_child y (live M) ≡ true) (sym n ∙ ap (λ y. y.name) (sym z)) h) | inr i ↦ children_stay a L' after f.name (t.waits f i) ];
  }
    where
      L' : List Frame
      L' = live (suspend M w q' d)

      after : Permᴰ L' (successors q a ++ (d ++ rest M w))
      after = subst (λ z. Permᴰ L' (z ++ (d ++ rest M w))) (sym new) (Permᴰ.cons refl (live_with M w d lt))

  deques-sync : DequeInvariant (after_action M w (q ∷ d) sync)
  deques-sync = elim (decided (has_child q.name (live M))) [ inl h ↦ rw h (deques-suspend sync q refl (λ z. let y : ◌≡◌ {A = ℕ} 0 1 = cc in omega arith) refl h) | inr h ↦ rw h t ]

  -- ---- a return

  return_known : (L' : List Frame) → Permᴰ L' (d ++ rest M w) → (c : Frame) → In c L' → (b : Frame) × In b (live M) × (b.name ≡ c.name)
  return_known L' p c m = (c, In-perm (Permᴰ.symm before) (there (In-perm p m)), refl)

  shape_return : (L' : List Frame) → Permᴰ L' (d ++ rest M w) → DequeShape L' d
  shape_return L' p = (linked_tail q d shape_here.0, only_return (live M) L' q d (return_known L' p) (λ c m. q_apart c (In-perm p m)) shape_here.1)

  shape_others-left : (L' : List Frame) → Permᴰ L' (d ++ rest M w) → (v : ℕ) → v ≢ w → DequeShape L' (deque M v)
  shape_others-left L' p v ne = ((t.shape v).0, only_mono (live M) L' nothing (deque M v) (λ c m. inl (return_known L' p c m)) (t.shape v).1)

  suspended_in : (f : Frame) → In f M.suspended → In f (rest M w)
  suspended_in f m = In-left (joined (set M.deques w [])) m

  -- a suspended parent is not above its child
  parent_top : (f : Frame) (k : ℕ) → In f M.suspended → q.name ≡ k ∷ f.name → (d' : List Frame) → d ≡ d' → d' ≡ []
  parent_top f k m n [] z = refl
  parent_top f k m n (g ∷ d') z =
      let l = (subst (λ y. Linked (q ∷ y)) z shape_here.0).0 in
      absurd (disjoint_apart d (rest M w) disjoint_here.1 g f (subst (λ y. In g y) (sym z) (here refl)) (suspended_in f m) (tail-eq_of_cons-eq (sym l.1 ∙ n)))

  -- a suspended frame still has a child, or was the parent
  child-left : (L' : List Frame) → Permᴰ L' (d ++ rest M w) → (f : Frame) → In f M.suspended → (has_child f.name L' ≡ true) ⊎ ((k : ℕ) × (q.name ≡ k ∷ f.name))
  child-left L' p f m =
      let x = has_child_In f.name (live M) (t.waits f m) in
      elim (In-cons (In-perm before x.1))
      [ inl i ↦ inr (x.2, ap (λ z. z.name) (sym i) ∙ x.3) | inr i ↦ inl (In-hasChild x.2 f.name (In-perm (Permᴰ.symm p) i) x.3) ]

  deques_return : DequeInvariant (after_action M w (q ∷ d) return)
  deques_return = elim (decided (has_child q.name (live M))) [
    | inl h ↦ rw h (deques-suspend return (as_returning q) refl (λ z. let y : ◌≡◌ {A = ℕ} 0 1 = cc in omega arith) refl h)
    | inr h ↦ rw h (ends d refl)
  ]
    where
      ends : (d' : List Frame) → d' ≡ d → DequeInvariant (after_end M w q d')
      ends [] z = deques-upward (with_deque M w []) w q.name (rw (length-set M.deques w []) lt) (get_or-set_same M.deques w [] [] lt) (disjoint_right d (rest M w) disjoint_here.1) (record {
        shape = shape_set L' M.deques w [] lt (tt, tt) (shape_others-left L' after);
        active = active_set M.deques w [] lt (λ f m. absurd (not-in-nil m)) t.active;
        waits = child-left L' after;
      })
        where
          L' : List Frame
          L' = live (with_deque M w [])

          after : Permᴰ L' (d ++ rest M w)
          after = subst (λ y. Permᴰ L' (y ++ rest M w)) z (live_with M w [] lt)
      ends (g ∷ d') z = record {
        shape = shape_set L' M.deques w (g ∷ d') lt (subst (DequeShape L') (sym z) (shape_return L' after)) (shape_others-left L' after);
        active = active_set M.deques w (g ∷ d') lt (λ f m. active_here.1 f (subst (λ y. In f y) z m)) t.active;
        waits = λ f m. elim (child-left L' after f m) [ inl y ↦ y | inr k ↦ absurd (cons≢nil (parent_top f k.0 m k.1 (g ∷ d') (sym z))) ];
      }
        where
          L' : List Frame
          L' = live (with_deque M w (g ∷ d'))

          after : Permᴰ L' (d ++ rest M w)
          after = subst (λ y. Permᴰ L' (y ++ rest M w)) z (live_with M w (g ∷ d') lt)

  deques_action : (a : Action) → DequeInvariant (after_action M w (q ∷ d) a)
  deques_action spawn = deques-spawn
  deques_action return = deques_return
  deques_action sync = deques-sync
  deques_action (read x) = t
  deques_action (fold x y) = t
  deques_action (write x v) = deques-write x v

-- ---- a steal

deques-steal : (M : Machine) (w v : ℕ) → Steals M w v → DequeInvariant M → DequeInvariant (after_steal M w v)
deques-steal M w v x t = record {
  shape = shape_set L' (with_deque M v (below_top (deque M v))).deques w (top (deque M v)) (rw (length-set M.deques v (below_top (deque M v))) x.worker) (shape_top L' (deque M v))
      (λ u ne. shape_set L' M.deques v (below_top (deque M v)) (there_is_worker M v (let h = x.two in omega arith))
      (linked-below (deque M v) (t.shape v).0, only_below_lem L' nothing (deque M v) (moves (deque M v) (t.shape v).1))
      (λ u' ne'. ((t.shape u').0, moves (deque M u') (t.shape u').1)) u);
  active = active_set (with_deque M v (below_top (deque M v))).deques w (top (deque M v)) (rw (length-set M.deques v (below_top (deque M v))) x.worker)
      (λ f m. t.active v f (in_top (deque M v) f m))
      (active_set M.deques v (below_top (deque M v)) (there_is_worker M v (let h = x.two in omega arith)) (λ f m. t.active v f (in_below (deque M v) f m)) t.active);
  waits = λ f m. (let y = has_child_In f.name (live M) (t.waits f m) in In-hasChild y.2 f.name (In-perm x.same-frames y.1) y.3);
}
  where
    in_top : (d : List Frame) (f : Frame) → In f (top d) → In f d
    in_top d f m = subst (λ z. In f z) (below_top-top d) (In-right (below_top d) m)

    in_below : (d : List Frame) (f : Frame) → In f (below_top d) → In f d
    in_below d f m = subst (λ z. In f z) (below_top-top d) (In-left (top d) m)

    L' : List Frame
    L' = live (after_steal M w v)

    moves : (d : List Frame) → OnlyChild (live M) nothing d → OnlyChild L' nothing d
    moves d = only_mono (live M) L' nothing d (λ c m. inl (c, In-perm (Permᴰ.symm x.same-frames) m, refl))

-- ---- the machine keeps it

pub deques_turn : (M : Machine) (u : Turn) → Passes M u → FrameTree M → DequeInvariant M → DequeInvariant (after_turn M u)
deques_turn M (acting w a) h s t =
    let x = acts M w a h in
    subst (λ z. DequeInvariant (after_action M w z a)) (sym x.at) (deques_action M w x.actor x.above x.worker x.at s t a)
deques_turn M (stealing w v) h s t = deques-steal M w v (steals M w v h) t

pub deques-start : (w : ℕ) (vs : List ℕ) (nodes places : ℕ) → DequeInvariant (start w vs nodes places)
deques-start w vs nodes places = record { shape = at; active = runs; waits = λ f m. absurd (not-in-nil m) }
  where
    none' : (n v : ℕ) (f : Frame) → In f (get_or (replicate n []) v []) → f.returning ≡ false
    none' zero v f m = absurd (not-in-nil m)
    none' (suc n) zero f m = absurd (not-in-nil m)
    none' (suc n) (suc v) f m = none' n v f m

    runs : (v : ℕ) (f : Frame) → In f (deque (start w vs nodes places) v) → f.returning ≡ false
    runs zero f m = ap (λ z. z.returning) (In-one m)
    runs (suc v) f m = none' (w - 1) v f m

    idle : (L : List Frame) (n v : ℕ) → DequeShape L (get_or (replicate n []) v [])
    idle L zero v = (tt, tt)
    idle L (suc n) zero = (tt, tt)
    idle L (suc n) (suc v) = idle L n v

    at : (v : ℕ) → DequeShape (live (start w vs nodes places)) (deque (start w vs nodes places) v)
    at zero = (tt, tt)
    at (suc v) = idle (live (start w vs nodes places)) (w - 1) v

-- after a return from a deque that is not empty the bottom is the parent: outcome 0 says so
pub parent_is_bottom : (M : Machine) → DequeInvariant M → (w : ℕ) (q g : Frame) (d : List Frame) → deque M w ≡ q ∷ g ∷ d → tail q.name ≡ g.name
parent_is_bottom M t w q g d e = ap tail (subst Linked e (t.shape w).0).0.1
