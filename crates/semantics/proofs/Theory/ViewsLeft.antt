-- R-5: the views where one frame ends, which has no live child: "the view of a frame that ends joins on the left of the next one's in that order"; Main's is
-- the last and becomes the totals.
use Rattle.std.specs.Prelude.{◌≡◌, refl, ◌≢◌, true, false, ℕ}
use Rattle.std.proofs.Common.{sym, ap, ◌∙◌, subst, inl, inr}
use mathlib.Core.List.Memᴰ
use mathlib.Core.List.Memᴰ.{append_cases as In-cases}
use mathlib.Core.List.Memᴰ.{append_left as In-left}
use mathlib.Core.List.Memᴰ.{append_right as In-right}
use mathlib.Core.List.Memᴰ.{cases_cons as In-cons}
use mathlib.Core.List.Memᴰ.{head as here}
use mathlib.Core.List.Memᴰ.{map as In-map}
use mathlib.Core.List.Memᴰ.{tail as there}
use mathlib.Core.List.{Memᴰ as In}
use mathlib.Core.List.Permᴰ
use mathlib.Core.List.{List, [], ◌∷◌, ◌++◌, nil≢cons, map-append, Permᴰ}
use Rattle.words.specs.Basics.{same}
use Rattle.words.specs.Tests.{true≢false, decided}
use Rattle.words.specs.Distinct.{same_eq, same_ne}
use Rattle.words.specs.Lists.{In-perm}
use Rattle.model.specs.Machine.{Name, Frame, has_child, has_frame}
use Rattle.model.specs.Views.{Folded, View, join_ended}
use Rattle.model.proofs.Theory.Under.{under_main, under_child}
use Rattle.model.proofs.Theory.Children.{In-hasChild}
use Rattle.model.proofs.Theory.LiveRun.{Disjoint, disjoint_perm}
use Rattle.model.proofs.Theory.FrameTree.{names_apart}
use Rattle.model.proofs.Theory.MainEnds.{In-hasFrame, has_frame_In}
use Rattle.model.proofs.Theory.ViewNames.{view_names}
use Rattle.model.proofs.Theory.PostOrder.{PostOrder, InPostOrder, until_in, post_suffix, post_above, post_before, post_after, post_main, post_without}
use Rattle.model.proofs.Theory.JoinViews.{AllStay, joined_to, join_one, join_last}

-- g, one of the frames L, ends, and the frames R are left
module _ (L R : List Frame) (g : Frame) (before : Permᴰ L (g ∷ R)) (disjoint : Disjoint L) (childless : has_child g.name L ≡ false) (vs : List View) (o : InPostOrder L (view_names vs)) where
  abbrev ns : List Name
  ns = view_names vs

  pub lives : In g L
  lives = In-perm (Permᴰ.symm before) (here refl)

  pub old : (f : Frame) → In f R → In f L
  old f m = In-perm (Permᴰ.symm before) (there m)

  apart : (f : Frame) → In f R → f.name ≢ g.name
  apart f m e = names_apart g f R (disjoint_perm before disjoint) m (sym e)

  pub left-frame : (n : Name) → In n ns → n ≢ g.name → (f : Frame) × In f R × (f.name ≡ n)
  left-frame n m d =
      let f = o.names.alive n m in
      elim (In-cons (In-perm before f.1)) [ inl e ↦ absurd (d (sym f.2 ∙ ap (λ (z : Frame). z.name) e)) | inr i ↦ (f.0, i, f.2) ]

  is_left : (n : Name) → In n ns → n ≢ g.name → has_frame n R ≡ true
  is_left n m d = let f = left-frame n m d in In-hasFrame n R f.0 f.1 f.2

  is_gone : has_frame g.name R ≡ false
  is_gone = elim (decided (has_frame g.name R)) [ inl t ↦ (let f = has_frame_In g.name R t in absurd (apart f.0 f.1 f.2)) | inr t ↦ t ]

  no_child : (k : ℕ) → In (k ∷ g.name) ns → ⊥
  no_child k m = let f = o.names.alive (k ∷ g.name) m in true≢false (sym (In-hasChild k g.name f.1 f.2) ∙ childless)

  -- Main has no live child only if it is alone
  alone : g.name ≡ [] → (n : Name) → In n ns → n ≡ []
  alone z n m = elim (decided (same n [])) [
    | inl t ↦ same_eq n [] t
    | inr t ↦ (let j = under_child n [] (same_ne t) (under_main n) in
        absurd (no_child j.0 (subst (λ (p : Name). In (j.0 ∷ p) ns) (sym z) (post_above ns o.post n (j.0 ∷ []) m j.1))))
  ]

  pub none_left : g.name ≡ [] → (f : Frame) → In f R → ⊥
  none_left z f m = apart f m (alone z f.name (o.names.all f (old f m)) ∙ sym z)

  -- ---- its view is v, between us and ws

  module _ (us ws : List View) (v : View) (e : vs ≡ us ++ (v ∷ ws)) (named : v.name ≡ g.name) where
    abbrev xs : List Name
    xs = view_names us

    abbrev ys : List Name
    ys = view_names ws

    pub parts : ns ≡ xs ++ (g.name ∷ ys)
    parts = ap view_names e ∙ map-append (λ (u : View). u.name) us (v ∷ ws) ∙ ap (λ (n : Name). xs ++ (n ∷ ys)) named

    post_parts : PostOrder (xs ++ (g.name ∷ ys))
    post_parts = subst PostOrder parts o.post

    in_parts : (n : Name) → In n (xs ++ (g.name ∷ ys)) → In n ns
    in_parts n m = subst (λ (l : List Name). In n l) (sym parts) m

    pub before_there : (u : View) → In u us → In u.name ns × (u.name ≢ g.name)
    before_there u m =
        let i = In-map (λ (z : View). z.name) m in
        (in_parts u.name (In-left (g.name ∷ ys) i), λ d. post_before xs ys g.name post_parts (Memᴰ.cast (sym d) i))

    pub after_there : (u : View) → In u ws → In u.name ns × (u.name ≢ g.name)
    after_there u m =
        let i = In-map (λ (z : View). z.name) m in
        (in_parts u.name (In-right xs (there i)), λ d. post_after xs ys g.name post_parts (Memᴰ.cast (sym d) i))

    before_stay : AllStay (λ n. has_frame n R) us
    before_stay u m = let x = before_there u m in is_left u.name x.0 x.1

    after_stay : AllStay (λ n. has_frame n R) ws
    after_stay u m = let x = after_there u m in is_left u.name x.0 x.1

    own_gone : has_frame v.name R ≡ false
    own_gone = ap (λ (n : Name). has_frame n R) named ∙ is_gone

    -- the others keep their order
    pub ordered_left : (L' : List Frame) → Permᴰ L' R → InPostOrder L' (xs ++ ys)
    ordered_left L' after = record {
      names = record {
        alive = λ n m.
            let x : In n ns × (n ≢ g.name) = elim (In-cases xs m) [
              | inl i ↦ (in_parts n (In-left (g.name ∷ ys) i), λ d. post_before xs ys g.name post_parts (Memᴰ.cast (sym d) i))
              | inr i ↦ (in_parts n (In-right xs (there i)), λ d. post_after xs ys g.name post_parts (Memᴰ.cast (sym d) i))
            ] in
            let f = left-frame n x.0 x.1 in
            (f.0, In-perm (Permᴰ.symm after) f.1, f.2);
        all = λ f m.
            let i = In-perm after m in
            elim (In-cases xs (subst (λ (l : List Name). In f.name l) parts (o.names.all f (old f i)))) [
              | inl j ↦ In-left ys j
              | inr j ↦ elim (In-cons j) [ inl d ↦ absurd (apart f i d) | inr h ↦ In-right xs h ]
            ];
      };
      post = post_without xs ys g.name (λ k m. no_child k (in_parts (k ∷ g.name) m)) post_parts;
    }

    -- ---- it is followed by w

    pub joined-next : (w : View) (ws' : List View) → ws ≡ w ∷ ws' → (totals : List Folded) → join_ended R [] vs totals ≡ record { views = us ++ (joined_to v.folds w ∷ ws'); totals = totals }
    joined-next w ws' d totals =
        ap (λ (l : List View). join_ended R [] l totals) (e ∙ ap (λ (l : List View). us ++ (v ∷ l)) d)
        ∙ join_one (λ n. has_frame n R) us ws' v w totals before_stay own_gone (subst (AllStay (λ n. has_frame n R)) d after_stay)

    -- ---- it is Main's

    pub joined-main : g.name ≡ [] → (totals : List Folded) → join_ended R [] vs totals ≡ record { views = []; totals = v.folds ++ totals }
    joined-main z totals =
        ap (λ (l : List View). join_ended R [] l totals) (e ∙ ap (λ (l : List View). us ++ (v ∷ l)) (nothing ws (post_main xs ys (subst (λ (n : Name). PostOrder (xs ++ (n ∷ ys))) z post_parts))))
        ∙ join_last (λ n. has_frame n R) us v totals before_stay own_gone
        ∙ ap (λ (l : List View). record { views = l; totals = v.folds ++ totals }) (first us (λ u m. let x = before_there u m in x.1 (alone z u.name x.0 ∙ sym z)))
      where
        nothing : (l : List View) → view_names l ≡ [] → l ≡ []
        nothing [] h = refl
        nothing (u ∷ l) h = absurd (nil≢cons (sym h))

        first : (l : List View) → ((u : View) → In u l → ⊥) → l ≡ []
        first [] h = refl
        first (u ∷ l) h = absurd (h u (here refl))

    -- of another frame there is a next one
    pub some_next : (k : ℕ) (p : Name) → g.name ≡ k ∷ p → In p ys
    some_next k p z = until_in p ys ((post_suffix xs (g.name ∷ ys) post_parts).0.to_parent k p z)
