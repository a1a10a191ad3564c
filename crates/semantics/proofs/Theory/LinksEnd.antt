-- R-5: the next frame after one that ends is a live one, and the links after the end.
use Rattle.std.specs.Prelude.{◌≡◌, ◌≢◌, ◌⊎◌, Bool, true, false, cond, ◌&&◌, eqb, length}
use Rattle.std.proofs.Math.Path.{refl}
use Rattle.std.proofs.Common.{sym, ap, ap₂, ◌∙◌, subst, inr, arith, ne_eqb}
use Rattle.std.proofs.Math.Logic.{inl}
use mathlib.Core.List.Memᴰ.{cases_cons as In-cons}
use mathlib.Core.List.Memᴰ.{head as here}
use mathlib.Core.List.Memᴰ.{tail as there}
use mathlib.Core.List.{Memᴰ as In}
use mathlib.Core.List.Permᴰ
use mathlib.Core.List.{List, [], ◌∷◌, ◌++◌, cons≢nil, Permᴰ}
use Prim.Native.Nat.{ℕ, zero, suc, ◌<◌}
use Rattle.std.proofs.Math.Decide.{ℕ_discrete}
use Rattle.words.specs.Basics.{none, same}
use Rattle.words.specs.Counting.{δ_same, count, count_cons, count-append}
use Rattle.words.specs.Linked.{without, parted}
use Rattle.words.specs.Tests.{decided, true≢false}
use Rattle.words.specs.Distinct.{same_eq, same_ne}
use Rattle.words.specs.Lists.{In-perm}
use Rattle.frames.specs.declared.Frame.{Frame as FrameRecord}
use Rattle.frames.specs.Frames.{frame_at}
use Rattle.frames.specs.Siblings.{live_child, younger, names, first_from, only_child, next_after, Children}
use Rattle.frames.proofs.Theory.Ends.{length_end}
use Rattle.frames.proofs.Theory.EndRecords.{ended-live, ended_parent, ended_own, ended-link}
use Rattle.frames.proofs.Theory.Siblings.{live_children, children_at, children_in, children_has, children-length, one_child_lem, named_once}
use Rattle.frames.proofs.Theory.Relinked.{ChildRemoved, children-same, children_less}
use Rattle.frames.proofs.Theory.Order.{first-stop, first-child, after_youngest, after_elder}
use Rattle.soundness.proofs.Theory.Facts.{child_at_lem, at_child}
use Rattle.model.specs.Machine.{Name, Frame, Machine, live, has_child}
use Rattle.model.proofs.Theory.Children.{In-hasChild}
use Rattle.model.proofs.Theory.LiveRun.{disjoint_perm}
use Rattle.model.proofs.Theory.FrameTree.{Rooted, FrameTree, names_apart}
use Rattle.semantics.specs.Core.{Core}
use Rattle.semantics.proofs.Theory.Relation.{Trees, parent_place, Relates, Links}
use Rattle.semantics.proofs.Theory.Places.{placed_apart}
use Rattle.semantics.proofs.Theory.ToSoundFrames.{inside, alive, parent_is, live-frame, outstanding}
use Rattle.semantics.proofs.Theory.EndedFrame.{NextIn}
use Rattle.semantics.proofs.Theory.Viewed.{Ended}
use Rattle.soundness.specs.Layout.{Layout}

module _ (layout : Layout) where
  -- Main without a child is alone
  main_alone : (L : List Frame) → Rooted L → has_child [] L ≡ false → (n : Name) (f : Frame) → In f L → f.name ≡ n → n ≡ []
  main_alone L rooted h [] f m e = refl
  main_alone L rooted h (k ∷ []) f m e = absurd (true≢false (sym (In-hasChild k [] m e) ∙ h))
  main_alone L rooted h (k ∷ j ∷ n) f m e =
      let x = rooted f m k (j ∷ n) e in absurd (cons≢nil (main_alone L rooted h (j ∷ n) x.0 x.1 x.2))

-- twice in a list
twice : (x : ℕ) (xs ys : List ℕ) → count x (xs ++ (x ∷ (x ∷ ys))) ≡ 1 → ⊥
twice x xs ys e = omega (arith, e, count-append x xs (x ∷ (x ∷ ys)), count_cons x x (x ∷ ys), count_cons x x ys, δ_same x)

module _ (layout : Layout) where
  module _ {P : Trees} {M : Machine} {c : Core} (r : Relates layout P M c) (tree : FrameTree M) (K : Links c.frames r.at (live M)) where
    abbrev fs : List FrameRecord
    fs = c.frames

    -- "Outstanding counts are right."
    counted : (f : Frame) → In f (live M) → (frame_at fs (r.at f.name)).outstanding ≡ live_children fs (r.at f.name)
    counted f m = outstanding layout r tree (r.at f.name) (inside layout r f m) (alive layout r f m)

    -- a live child of f is a live frame, one deeper
    child-frame : (f : Frame) → In f (live M) → (x : ℕ) → x < length fs → live_child fs (r.at f.name) x ≡ true → (h : Frame) × In h (live M) × (r.at h.name ≡ x) × (length f.name < length h.name)
    child-frame f m x b t =
        let y = child_at_lem fs (r.at f.name) x t in
        let h = live-frame layout r x b y.0 in
        (h.0, h.1, h.2, deeper h.0 h.1 (ap (λ (z : ℕ). (frame_at fs z).parent) h.2 ∙ y.1) h.0.name refl)
      where
        deeper : (h : Frame) → In h (live M) → (frame_at fs (r.at h.name)).parent ≡ r.at f.name → (n : Name) → h.name ≡ n → length f.name < length h.name
        deeper h i e [] z = absurd (omega (arith, inside layout r f m, r.formed.few, e, parent_is layout r h i, ap (parent_place r.at) z))
        deeper h i e (k ∷ p) z =
            let g = tree.rooted h i k p z in
            let one : r.at g.0.name ≡ r.at f.name = ap r.at g.2 ∙ ap (parent_place r.at) (sym z) ∙ sym (parent_is layout r h i) ∙ e in
            elim (decided (same g.0.name f.name)) [
              | inl s ↦ omega (arith, ap length z, ap length g.2, ap length (same_eq g.0.name f.name s))
              | inr s ↦ absurd (placed_apart layout r g.0 f g.1 m (same_ne s) one)
            ]

    -- going down from f leads to a live frame: f itself, or a deeper one
    abbrev Down : Frame → ℕ → Type 0
    Down f x = (h : Frame) × In h (live M) × (r.at h.name ≡ x) × ((h ≡ f) ⊎ (length f.name < length h.name))

    -- one generation more
    goes_deeper : (n : ℕ) → ((f : Frame) → In f (live M) → Down f (first_from n fs (r.at f.name))) → (f : Frame) → In f (live M) → (cs : List ℕ) → Children fs (r.at f.name) cs → Down f (first_from (suc n) fs (r.at f.name))
    goes_deeper n ih f m [] C = subst (Down f) (sym (first-stop (suc n) fs (r.at f.name) (counted f m ∙ sym (children-length C)))) (f, m, refl, inl refl)
    goes_deeper n ih f m (x ∷ cs) C =
        let y = children_at [] x cs C in
        let h = child-frame f m x y.0 y.1 in
        let d = ih h.0 h.1 in
        let here_is : first_from (suc n) fs (r.at f.name) ≡ first_from n fs (r.at h.0.name) = first-child n C (counted f m) ∙ ap (first_from n fs) (sym h.2) in
        (d.0, d.1, d.2 ∙ sym here_is, inr (elim d.3 [ inl e ↦ omega (arith, h.3, ap (λ (z : Frame). length z.name) e) | inr l ↦ omega (arith, h.3, l) ]))

    goes_down : (n : ℕ) (f : Frame) → In f (live M) → Down f (first_from n fs (r.at f.name))
    unfolding first_from
    goes_down zero f m = (f, m, refl, inl refl)
    goes_down (suc n) f m = goes_deeper n (goes_down n) f m (K.children f m).0 (K.children f m).1

    -- ---- g ends, R are the others

    module _ (g : Frame) (R : List Frame) (before : Permᴰ (live M) (g ∷ R)) where
      abbrev own : ℕ
      own = r.at g.name

      old : (f : Frame) → In f (g ∷ R) → In f (live M)
      old f m = In-perm (Permᴰ.symm before) m

      lives : In g (live M)
      lives = old g (here refl)

      -- one of the others
      other : (f : Frame) → In f (live M) → f ≢ g → In f R
      other f m d = elim (In-cons (In-perm before m)) [ inl e ↦ absurd (d e) | inr i ↦ i ]

      apart : (f : Frame) → In f R → f.name ≢ g.name
      apart f i z = names_apart g f R (disjoint_perm before tree.disjoint) i (sym z)

      elsewhere : (f : Frame) → In f R → r.at f.name ≢ own
      elsewhere f i = placed_apart layout r f g (old f (there i)) lives (apart f i)

      module _ (k : ℕ) (p : Name) (named : g.name ≡ k ∷ p) where
        -- the parent
        pub h : (f : Frame) × In f (live M) × (f.name ≡ p)
        h = tree.rooted g lives k p named

        abbrev q : ℕ
        q = r.at h.0.name

        pub up : (frame_at fs own).parent ≡ q
        up = parent_is layout r g lives ∙ ap (parent_place r.at) named ∙ ap r.at (sym h.2)

        pub own_child : live_child fs q own ≡ true
        own_child = at_child fs q own (alive layout r g lives) up

        q_inside : q < length fs
        q_inside = inside layout r h.0 h.1

        q_some : q ≢ none
        q_some e = omega (arith, q_inside, e, r.formed.few)

        h_other : In h.0 R
        h_other = other h.0 h.1 (λ e. omega (arith, ap length named, ap length h.2, ap (λ (z : Frame). length z.name) e))

        pub q_apart : q ≢ own
        q_apart = elsewhere h.0 h_other

        -- ---- the next one

        next : (cs : List ℕ) → Children fs q cs → (xs ys : List ℕ) → cs ≡ xs ++ (own ∷ ys) → (n : Frame) × In n R × (next_after fs own ≡ r.at n.name)
        next cs C xs [] e = (h.0, h_other, after_youngest xs own (subst (Children fs q) e C))
        next cs C xs (y ∷ ys) e =
            let D = subst (Children fs q) e C in
            let at_y = children_in D y (omega (arith, count-append y xs (own ∷ (y ∷ ys)), count_cons y own (y ∷ ys), count_cons y y ys, δ_same y)) in
            let f = child-frame h.0 h.1 y at_y.0 at_y.1 in
            let d = goes_down (length fs) f.0 f.1 in
            let not_own : y ≢ own = λ z. twice own xs ys (subst (λ (x : ℕ). count own (xs ++ (own ∷ (x ∷ ys))) ≡ 1) z (children_has D own (inside layout r g lives) own_child)) in
            let not_g : d.0 ≢ g = λ z. elim d.3 [
              | inl w ↦ not_own (sym f.2 ∙ ap (λ (x : Frame). r.at x.name) (sym w ∙ z))
              | inr w ↦ omega (arith, w, f.3, ap (λ (x : Frame). length x.name) z, ap length named, ap length h.2)
            ] in
            (d.0, other d.0 d.1 not_g, after_elder xs own y ys D (counted h.0 h.1) ∙ ap (first_from (length fs) fs) (sym f.2) ∙ sym d.2)

        next-frame : (n : Frame) × In n R × (next_after fs own ≡ r.at n.name)
        next-frame =
            let C = K.children h.0 h.1 in
            let x = parted own C.0 (omega (arith, children_has C.1 own (inside layout r g lives) own_child)) in
            next C.0 C.1 x.0 x.1 x.2

      pub next_in : NextIn layout r g R
      next_in = next-frame

      -- ---- the links

      module _ {M' : Machine} {c' : Core} (r' : Relates layout P M' c') (E : Ended layout r r' g R) (childless : has_child g.name (live M) ≡ false) where
        abbrev es : List FrameRecord
        es = c'.frames

        abbrev free : ℕ
        free = c.head.numbers.free_place

        same_length : length es ≡ length fs
        same_length = ap length E.frames ∙ length_end fs free own

        left : (f : Frame) → In f (live M') → In f R
        left f m = In-perm E.after m

        module _ (k : ℕ) (p : Name) (named : g.name ≡ k ∷ p) where
          n : (f : Frame) × In f R × (next_after fs own ≡ r.at f.name)
          n = next-frame k p named

          abbrev u₀ : ℕ
          u₀ = q k p named

          n_inside : r.at n.0.name < length fs
          n_inside = inside layout r n.0 (old n.0 (there n.1))

          live-after : (x : ℕ) → x ≢ own → (frame_at es x).live ≡ (frame_at fs x).live
          live-after x d =
              ap (λ (l : List FrameRecord). (frame_at l x).live) E.frames
              ∙ ended-live fs free own (inside layout r g lives) u₀ (up k p named) (q_some k p named) (q_inside k p named) (q_apart k p named) (r.at n.0.name) n.2 n_inside x d

          parent_after : (x : ℕ) → x ≢ own → (frame_at es x).parent ≡ (frame_at fs x).parent
          parent_after x d =
              ap (λ (l : List FrameRecord). (frame_at l x).parent) E.frames
              ∙ ended_parent fs free own (inside layout r g lives) u₀ (up k p named) (q_some k p named) (q_inside k p named) (q_apart k p named) (r.at n.0.name) n.2 n_inside x d

          own_after : (frame_at es own).live ≡ 0
          own_after =
              ap (λ (l : List FrameRecord). (frame_at l own).live) E.frames
              ∙ ended_own fs free own (inside layout r g lives) u₀ (up k p named) (q_some k p named) (q_inside k p named) (q_apart k p named) (r.at n.0.name) n.2 n_inside

          link-after : (x : ℕ) → x ≢ own → younger es x ≡ cond (only_child fs own) (younger fs x) (cond (names fs u₀ own x) (younger fs own) (younger fs x))
          link-after x d =
              ap (λ (l : List FrameRecord). younger l x) E.frames
              ∙ ended-link fs free own (inside layout r g lives) u₀ (up k p named) (q_some k p named) (q_inside k p named) (q_apart k p named) (r.at n.0.name) n.2 n_inside
              (named_once (K.children (h k p named).0 (h k p named).1).1 own) x d

          child-after : (u x : ℕ) → x ≢ own → live_child es u x ≡ live_child fs u x
          child-after u x d = ap₂ (λ (a b : ℕ). eqb a 1 && eqb b u) (live-after x d) (parent_after x d)

          gone : (u : ℕ) → live_child es u own ≡ false
          gone u = rw (ne_eqb (frame_at es own).live 1 (λ z. omega (arith, z, own_after)))

          -- the links of frames that are not its siblings stay
          link_other : (x : ℕ) → x ≢ own → live_child fs u₀ x ≡ false → younger es x ≡ younger fs x
          link_other x d t = link-after x d ∙ (rw t (both-same (only_child fs own)))
            where
              both-same : (b : Bool) → cond b (younger fs x) (younger fs x) ≡ younger fs x
              both-same true = refl
              both-same false = refl

          -- with another live child its parent has more than one
          more : (x : ℕ) → x < length fs → x ≢ own → live_child fs u₀ x ≡ true → only_child fs own ≡ false
          more x b d t =
              ne_eqb (frame_at fs (frame_at fs own).parent).outstanding 1
              (λ e. d (one_child_lem fs u₀ (sym (counted (h k p named).0 (h k p named).1) ∙ ap (λ (y : ℕ). (frame_at fs y).outstanding) (sym (up k p named)) ∙ e) own x (inside layout r g lives) b (own_child k p named) t))

          pub removed : ChildRemoved fs es u₀ own
          removed = record {
            same_length = same_length;
            within = inside layout r g lives;
            gone = gone u₀;
            others = λ x b d. child-after u₀ x d;
            links = λ x b d t. link-after x d ∙ rw (more x b d t, t);
          }

          pub children-others : (u : ℕ) {cs : List ℕ} → u ≢ u₀ → Children fs u cs → Children es u cs
          children-others u d C = children-same same_length (λ x b. (
            elim (ℕ_discrete x own) [
              | yes e ↦ ap (live_child es u) e ∙ gone u ∙ sym (ap (live_child fs u) e ∙ not_own)
              | no e ↦ child-after u x e
            ],
            λ t. link_other x (λ e. true≢false (sym t ∙ ap (live_child fs u) e ∙ not_own)) (not_sibling x t),
          )) C
            where
              not_own : live_child fs u own ≡ false
              not_own = elim (decided (live_child fs u own)) [ inl t ↦ absurd (d (sym (child_at_lem fs u own t).1 ∙ up k p named)) | inr t ↦ t ]

              not_sibling : (x : ℕ) → live_child fs u x ≡ true → live_child fs u₀ x ≡ false
              not_sibling x t = elim (decided (live_child fs u₀ x)) [ inl s ↦ absurd (d (sym (child_at_lem fs u x t).1 ∙ (child_at_lem fs u₀ x s).1)) | inr s ↦ s ]

          children-left : (f : Frame) → In f R → (cs : List ℕ) × Children es (r.at f.name) cs
          children-left f i = elim (ℕ_discrete (r.at f.name) u₀) [
            | yes e ↦ (let C = K.children (h k p named).0 (h k p named).1 in (without own C.0, subst (λ (u : ℕ). Children es u (without own C.0)) (sym e) (children_less removed C.1)))
            | no e ↦ (let C = K.children f (old f (there i)) in (C.0, children-others (r.at f.name) e C.1))
          ]

          main-left : (f : Frame) → In f R → f.name ≡ [] → younger es (r.at f.name) ≡ none
          main-left f i z =
              let orphan : (frame_at fs (r.at f.name)).parent ≡ none = parent_is layout r f (old f (there i)) ∙ ap (parent_place r.at) z in
              let no : live_child fs u₀ (r.at f.name) ≡ false = elim (decided (live_child fs u₀ (r.at f.name))) [
                | inl s ↦ absurd (q_some k p named (sym (child_at_lem fs u₀ (r.at f.name) s).1 ∙ orphan))
                | inr s ↦ s
              ] in
              link_other (r.at f.name) (elsewhere f i) no ∙ K.main-link f (old f (there i)) z

          links-child : Links es r'.at (live M')
          links-child = record {
            children = λ f m. (let x = children-left f (left f m) in (x.0, subst (λ (u : ℕ). Children es u x.0) (sym (E.places f.name)) x.1));
            main-link = λ f m z. ap (younger es) (E.places f.name) ∙ main-left f (left f m) z;
          }

        -- after Main's end no frame is left
        none_left : g.name ≡ [] → (f : Frame) → In f (live M') → ⊥
        none_left z f m =
            let i = left f m in
            apart f i (main_alone layout (live M) tree.rooted (subst (λ (x : Name). has_child x (live M) ≡ false) z childless) f.name f (old f (there i)) refl ∙ sym z)

        pub links_end : Links es r'.at (live M')
        links_end = by_name g.name refl
          where
            by_name : (x : Name) → g.name ≡ x → Links es r'.at (live M')
            by_name [] z = record { children = λ f m. absurd (none_left z f m); main-link = λ f m e. absurd (none_left z f m) }
            by_name (k ∷ p) z = links-child k p z
