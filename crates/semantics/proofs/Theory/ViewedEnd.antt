-- R-5: the end of a frame that has no live child: its view joins that of the next frame, or becomes the totals.
use Rattle.std.specs.Prelude.{◌≡◌, refl, ◌≢◌, false, List, [], ◌∷◌, ◌++◌, map, ℕ, ◌≤◌, ◌<◌, length}
use Rattle.std.proofs.Common.{sym, ap, ap₂, ◌∙◌, subst, inl, inr, append-nil, arith, eq-eqb}
use mathlib.Core.List.Memᴰ.{append_cases as In-cases}
use mathlib.Core.List.Memᴰ.{append_left as In-left}
use mathlib.Core.List.Memᴰ.{append_right as In-right}
use mathlib.Core.List.Memᴰ.{cases_cons as In-cons}
use mathlib.Core.List.Memᴰ.{head as here}
use mathlib.Core.List.Memᴰ.{map as In-map}
use mathlib.Core.List.Memᴰ.{not-nil as not-in-nil}
use mathlib.Core.List.Memᴰ.{tail as there}
use mathlib.Core.List.{Memᴰ as In}
use mathlib.Core.List.Permᴰ
use Rattle.std.proofs.lemmas.List.{map-append}
use Rattle.words.specs.Basics.{none, same}
use Rattle.words.specs.Counting.{δ_same, count, count_cons, count-append}
use Rattle.words.specs.Linked.{without_between}
use Rattle.words.specs.Tests.{decided}
use Rattle.words.specs.Distinct.{same_eq, same_ne, same_differ}
use Rattle.words.specs.Lists.{In-perm}
use Rattle.reducers.specs.Reducers.{join_view, view_words, view_of}
use Rattle.reducers.proofs.Theory.Folds.{view_append}
use Rattle.frames.specs.declared.Frame.{Frame as FrameRecord}
use Rattle.frames.specs.Frames.{frame_at}
use Rattle.frames.specs.Siblings.{Children, next_after}
use Rattle.frames.proofs.Theory.EndRecords.{ended-next, ended_view}
use Rattle.frames.proofs.Theory.Siblings.{children_once}
use Rattle.frames.proofs.Theory.Relinked.{children_less}
use Rattle.model.specs.Machine.{Name, Frame, Machine, live, is_child, has_child}
use Rattle.model.specs.Views.{View, Views, join_ended}
use Rattle.model.proofs.Theory.Under.{Under, under_same}
use Rattle.model.proofs.Theory.FrameTree.{FrameTree}
use Rattle.model.proofs.Theory.ViewNames.{view_names, view_at}
use Rattle.model.proofs.Theory.PostOrder.{PostOrder, InPostOrder, post_suffix}
use Rattle.model.proofs.Theory.Siblings.{children_of, children_gone, children_with}
use Rattle.model.proofs.Theory.Siblings.{children_kept as names_kept}
use Rattle.model.proofs.Theory.NextView.{later_apart}
use Rattle.model.proofs.Theory.JoinViews.{joined_to}
use Rattle.semantics.specs.Core.{Core}
use Rattle.semantics.proofs.Theory.Relation.{Trees, parent_place, Relates, Links}
use Rattle.semantics.proofs.Theory.Places.{placed_apart}
use Rattle.semantics.proofs.Theory.ToSoundFrames.{inside, parent_is}
use Rattle.semantics.proofs.Theory.LinksEnd.{h, up, q_apart, removed, children-others}
use Rattle.semantics.proofs.Theory.NextFrame.{next-frame}
use Rattle.semantics.proofs.Theory.Viewed.{Viewed, Ended}
use Rattle.semantics.proofs.Theory.ViewedKept.{children_placed}
use Rattle.semantics.proofs.Theory.ViewsLeft.{lives, old, none_left, left-frame, parts, before_there, after_there, ordered_left, joined-next, joined-main, some_next}
use Rattle.soundness.specs.Layout.{Layout}

module _ (layout : Layout) where
  -- an element that stands once stands in neither part beside it
  apart_counts : (x : ℕ) (ls rs : List ℕ) → count x (ls ++ (x ∷ rs)) ≤ 1 → (count x ls ≡ 0) × (count x rs ≡ 0)
  apart_counts x ls rs h = (omega (arith, count-append x ls (x ∷ rs), count_cons x x rs, δ_same x), omega (arith, count-append x ls (x ∷ rs), count_cons x x rs, δ_same x))

  module _ {P : Trees} {M M' : Machine} {c c' : Core} (r : Relates layout P M c) (r' : Relates layout P M' c') (tree : FrameTree M) (K : Links c.frames r.at (live M)) (g : Frame) (R : List Frame) (E : Ended layout r r' g R)
      (childless : has_child g.name (live M) ≡ false) (W : Views) (H : Viewed layout r W) where
    abbrev fs : List FrameRecord
    fs = c.frames

    abbrev es : List FrameRecord
    es = c'.frames

    abbrev own : ℕ
    own = r.at g.name

    abbrev ns : List Name
    ns = view_names W.views

    g_lives : In g (live M)
    g_lives = lives (live M) R g E.before tree.disjoint childless W.views H.ordered

    left : (f : Frame) → In f (live M') → In f R
    left f m = In-perm E.after m

    -- ---- its view is v, between us and ws

    module _ (us ws : List View) (v : View) (e : W.views ≡ us ++ (v ∷ ws)) (named : v.name ≡ g.name) where
      v_there : In v W.views
      v_there = subst (λ (l : List View). In v l) (sym e) (In-right us (here refl))

      own_view : (frame_at fs own).view ≡ view_of v.folds
      own_view = ap (λ (n : Name). (frame_at fs (r.at n)).view) (sym named) ∙ H.views v v_there

      -- ---- Main

      module _ (main : g.name ≡ []) where
        nobody : (f : Frame) → In f (live M') → ⊥
        nobody f m = none_left (live M) R g E.before tree.disjoint childless W.views H.ordered main f (left f m)

        orphan : (frame_at fs own).parent ≡ none
        orphan = parent_is layout r g g_lives ∙ ap (parent_place r.at) main

        totals_main : c'.totals ≡ view_words (view_of (v.folds ++ W.totals))
        totals_main = E.totals ∙ rw (eq-eqb (frame_at fs own).parent none orphan) (ap view_words (own_view ∙ ap view_of (sym (ap (λ l. v.folds ++ l) (H.none_yet g g_lives) ∙ append-nil v.folds))))

        viewed_main : Viewed layout r' (record { views = []; totals = v.folds ++ W.totals })
        viewed_main = record {
          ordered = record { names = record { alive = λ n m. absurd (not-in-nil m); all = λ f m. absurd (nobody f m) }; post = tt };
          views = λ u m. absurd (not-in-nil m);
          siblings = λ f m. absurd (nobody f m);
          none_yet = λ f m. absurd (nobody f m);
          totals = λ z. totals_main;
        }

      -- ---- another frame, followed by w

      module _ (k : ℕ) (p : Name) (is : g.name ≡ k ∷ p) (w : View) (ws' : List View) (next : ws ≡ w ∷ ws') where
        abbrev m : Name
        m = w.name

        abbrev xs : List Name
        xs = view_names us

        abbrev ys : List Name
        ys = view_names ws'

        abbrev joined : List View
        joined = us ++ (joined_to v.folds w ∷ ws')

        joined-names : view_names joined ≡ xs ++ (m ∷ ys)
        joined-names = map-append (λ (u : View). u.name) us (joined_to v.folds w ∷ ws')

        ns_parts : ns ≡ xs ++ (g.name ∷ m ∷ ys)
        ns_parts = parts (live M) R g E.before tree.disjoint childless W.views H.ordered us ws v e named ∙ ap (λ (l : List View). xs ++ (g.name ∷ view_names l)) next

        post : PostOrder (xs ++ (g.name ∷ m ∷ ys))
        post = subst PostOrder ns_parts H.ordered.post

        w_there : In w W.views
        w_there = subst (λ (l : List View). In w l) (sym (e ∙ ap (λ (l : List View). us ++ (v ∷ l)) next)) (In-right us (there (here refl)))

        -- a view that is neither g's nor the next one
        abbrev Other : View → Type 0
        Other u = In u W.views × (u.name ≢ g.name) × (u.name ≢ m)

        before_other : (u : View) → In u us → Other u
        before_other u i =
            let j = In-map (λ (z : View). z.name) i in (
              subst (λ (l : List View). In u l) (sym e) (In-left (v ∷ ws) i),
              (before_there (live M) R g E.before tree.disjoint childless W.views H.ordered us ws v e named u i).1,
              λ d. later_apart xs (g.name ∷ m ∷ ys) post u.name m j (there (here refl)) (subst (Under m) (sym d) (under_same m)),
            )

        after_other : (u : View) → In u ws' → Other u
        after_other u i =
            let j : In u ws = subst (λ (l : List View). In u l) (sym next) (there i) in (
              subst (λ (l : List View). In u l) (sym e) (In-right us (there j)),
              (after_there (live M) R g E.before tree.disjoint childless W.views H.ordered us ws v e named u j).1,
              λ d. (post_suffix xs (g.name ∷ m ∷ ys) post).1.0.after-below u.name (In-map (λ (z : View). z.name) i) (subst (λ (n : Name). Under n m) (sym d) (under_same m)),
            )

        -- ---- places

        -- a name that has a view
        placed : (n : Name) → In n ns → (f : Frame) × In f (live M) × (f.name ≡ n)
        placed n i = H.ordered.names.alive n i

        m_there : In m ns
        m_there = In-map (λ (z : View). z.name) w_there

        m_not_g : m ≢ g.name
        m_not_g d = (post_suffix xs (g.name ∷ m ∷ ys) post).0.after-below m (here refl) (subst (λ (n : Name). Under n g.name) (sym d) (under_same g.name))

        place_apart : (n n₁ : Name) → In n ns → In n₁ ns → n ≢ n₁ → r.at n ≢ r.at n₁
        place_apart n n₁ i j d =
            let f = placed n i in
            let f₁ = placed n₁ j in
            subst (λ (z : Name). r.at z ≢ r.at n₁) f.2 (subst (λ (z : Name). r.at f.0.name ≢ r.at z) f₁.2 (placed_apart layout r f.0 f₁.0 f.1 f₁.1 (λ z. d (sym f.2 ∙ z ∙ f₁.2))))

        g_there : In g.name ns
        g_there = H.ordered.names.all g g_lives

        m_inside : r.at m < length fs
        m_inside = let f = placed m m_there in subst (λ (z : Name). r.at z < length fs) f.2 (inside layout r f.0 f.1)

        next_is : next_after fs own ≡ r.at m
        next_is = ap (λ (n : Name). next_after fs (r.at n)) is ∙ next-frame layout r tree W H k p m xs ys (ns_parts ∙ ap (λ (n : Name). xs ++ (n ∷ m ∷ ys)) is)

        -- ---- the parent

        abbrev parent : (f : Frame) × In f (live M) × (f.name ≡ p)
        parent = h layout r tree K g R E.before k p is

        abbrev q : ℕ
        q = r.at parent.0.name

        q_inside : q < length fs
        q_inside = inside layout r parent.0 parent.1

        q_some : q ≢ none
        q_some z = omega (arith, q_inside, z)

        -- ---- views

        other_view : (u : View) → Other u → (frame_at es (r.at u.name)).view ≡ view_of u.folds
        other_view u x =
            let i = In-map (λ (z : View). z.name) x.0 in
            ap (λ (l : List FrameRecord). (frame_at l (r.at u.name)).view) E.frames
            ∙ ended_view fs c.head.numbers.free_place own (inside layout r g g_lives) q (up layout r tree K g R E.before k p is) q_some q_inside (q_apart layout r tree K g R E.before k p is)
            (r.at m) next_is m_inside (r.at u.name) (place_apart u.name g.name i g_there x.1) (place_apart u.name m i m_there x.2)
            ∙ H.views u x.0

        -- "joins on the left of the next one's"
        next_view : (frame_at es (r.at m)).view ≡ view_of (v.folds ++ w.folds)
        next_view =
            ap (λ (l : List FrameRecord). (frame_at l (r.at m)).view) E.frames
            ∙ ended-next fs c.head.numbers.free_place own (inside layout r g g_lives) q (up layout r tree K g R E.before k p is) q_some q_inside (q_apart layout r tree K g R E.before k p is)
            (r.at m) next_is m_inside (place_apart m g.name m_there g_there m_not_g)
            ∙ ap₂ join_view own_view (H.views w w_there)
            ∙ sym (view_append v.folds w.folds)

        view_after : (u : View) → In u joined → (frame_at es (r.at u.name)).view ≡ view_of u.folds
        view_after u i = elim (In-cases us i) [
          | inl j ↦ other_view u (before_other u j)
          | inr j ↦ elim (In-cons j) [
            | inl d ↦ subst (λ (z : View). (frame_at es (r.at z.name)).view ≡ view_of z.folds) (sym d) next_view
            | inr a ↦ other_view u (after_other u a)
          ]
        ]

        -- ---- children

        abbrev ChildrenOf : Name → Type 0
        ChildrenOf n = Children es (r.at n) (map r.at (children_of n (xs ++ (m ∷ ys))))

        -- the parent's, without g
        own_children : map r.at (children_of p ns) ≡ map r.at (children_of p xs) ++ (own ∷ map r.at (children_of p (m ∷ ys)))
        own_children =
            ap (λ (l : List Name). map r.at (children_of p l)) (ns_parts ∙ ap (λ (n : Name). xs ++ (n ∷ m ∷ ys)) is)
            ∙ ap (map r.at) (children_with k p xs (m ∷ ys))
            ∙ map-append r.at (children_of p xs) ((k ∷ p) ∷ children_of p (m ∷ ys))
            ∙ ap (λ (n : Name). map r.at (children_of p xs) ++ (r.at n ∷ map r.at (children_of p (m ∷ ys)))) (sym is)

        parent_children : ChildrenOf p
        parent_children =
            let A = map r.at (children_of p xs) in
            let B = map r.at (children_of p (m ∷ ys)) in
            let C : Children fs q (A ++ (own ∷ B)) = subst (Children fs q) own_children (subst (λ (n : Name). Children fs q (map r.at (children_of n ns))) parent.2 (H.siblings parent.0 parent.1)) in
            let counts = apart_counts own A B (children_once C own) in
            let D : Children es q (A ++ B) = subst (Children es q) (without_between own A B counts.0 counts.1) (children_less (removed layout r tree K g R E.before r' E childless k p is) C) in
            subst (λ (n : Name). Children es (r.at n) (map r.at (children_of p (xs ++ (m ∷ ys))))) parent.2
            (subst (Children es q) (sym (ap (map r.at) (children_gone p xs (m ∷ ys)) ∙ map-append r.at (children_of p xs) (children_of p (m ∷ ys)))) D)

        -- another's
        other_children : (f : Frame) → In f (live M) → f.name ≢ p → ChildrenOf f.name
        other_children f i d =
            let same_list : children_of f.name ns ≡ children_of f.name (xs ++ (m ∷ ys)) =
            ap (children_of f.name) ns_parts ∙ names_kept f.name g.name xs (m ∷ ys) (ap (is_child f.name) is ∙ same_differ (λ z. d (sym z))) in
            subst (λ (l : List Name). Children es (r.at f.name) (map r.at l)) same_list
            (children-others layout r tree K g R E.before r' E childless k p is (r.at f.name) (placed_apart layout r f parent.0 i parent.1 (λ z. d (z ∙ parent.2))) (H.siblings f i))

        children-after : (f : Frame) → In f (live M) → ChildrenOf f.name
        children-after f i = elim (decided (same f.name p)) [
          | inl t ↦ subst ChildrenOf (sym (same_eq f.name p t)) parent_children
          | inr t ↦ other_children f i (same_ne t)
        ]

        -- ---- all of it

        before_lived : (f : Frame) → In f (live M') → In f (live M)
        before_lived f i = old (live M) R g E.before tree.disjoint childless W.views H.ordered f (left f i)

        -- the next one lives on
        someone : live M' ≡ [] → ⊥
        someone z =
            let f = left-frame (live M) R g E.before tree.disjoint childless W.views H.ordered m m_there m_not_g in
            not-in-nil (subst (λ (l : List Frame). In f.0 l) z (In-perm (Permᴰ.symm E.after) f.1))

        ordered_after : InPostOrder (live M') (xs ++ (m ∷ ys))
        ordered_after =
            subst (λ (l : List View). InPostOrder (live M') (xs ++ view_names l)) next
            (ordered_left (live M) R g E.before tree.disjoint childless W.views H.ordered us ws v e named (live M') E.after)

        viewed_child : Viewed layout r' (record { views = joined; totals = W.totals })
        viewed_child = record {
          ordered = subst (InPostOrder (live M')) (sym joined-names) ordered_after;
          views = λ u i. ap (λ (x : ℕ). (frame_at es x).view) (E.places u.name) ∙ view_after u i;
          siblings = λ f i.
              subst (λ (l : List Name). Children es (r'.at f.name) (map r'.at (children_of f.name l))) (sym joined-names)
              (children_placed r.at r'.at E.places f.name (children_of f.name (xs ++ (m ∷ ys))) (children-after f (before_lived f i)));
          none_yet = λ f i. H.none_yet g g_lives;
          totals = λ z. absurd (someone z);
        }

      -- ---- either

      viewed_at : Viewed layout r' (join_ended R [] W.views W.totals)
      viewed_at = by_name g.name refl
        where
          followed : (k : ℕ) (p : Name) → g.name ≡ k ∷ p → (l : List View) → ws ≡ l → In p (view_names l) → Viewed layout r' (join_ended R [] W.views W.totals)
          followed k p z [] d i = absurd (not-in-nil i)
          followed k p z (w ∷ ws') d i =
              rw (joined-next (live M) R g E.before tree.disjoint childless W.views H.ordered us ws v e named w ws' d W.totals) (viewed_child k p z w ws' d)

          by_name : (n : Name) → g.name ≡ n → Viewed layout r' (join_ended R [] W.views W.totals)
          by_name [] z = rw (joined-main (live M) R g E.before tree.disjoint childless W.views H.ordered us ws v e named z W.totals) (viewed_main z)
          by_name (k ∷ p) z = followed k p z ws refl (some_next (live M) R g E.before tree.disjoint childless W.views H.ordered us ws v e named k p z)

    pub viewed_end : Viewed layout r' (join_ended R [] W.views W.totals)
    viewed_end = let x = view_at W.views g.name (H.ordered.names.all g g_lives) in viewed_at x.0 x.2 x.1 x.3 x.4
