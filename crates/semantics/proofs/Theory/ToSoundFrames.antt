-- A table that relates to a plain machine satisfies the sentences of "Soundness" on single frames: Main, parents, outstanding counts,
-- where each frame stands, free places; and its roots in the order of places are the relation's.
use Rattle.std.specs.Prelude.{◌≡◌, refl, ◌≢◌, ◌⊎◌, Bool, true, cond, ℕ, suc, ◌<◌, length}
use Rattle.std.proofs.Common.{sym, ap, ◌∙◌, subst, inl, inr, arith, eq-eqb, ne_eqb}
use mathlib.Core.List.Memᴰ.{append_cases as In-cases}
use mathlib.Core.List.Memᴰ.{append_right as In-right}
use mathlib.Core.List.Memᴰ.{head as here}
use mathlib.Core.List.Memᴰ.{not-nil as not-in-nil}
use mathlib.Core.List.Memᴰ.{tail as there}
use mathlib.Core.List.{Memᴰ as In}
use mathlib.Core.List.{List, [], ◌∷◌, nil≢cons, tail-eq_of_cons-eq}
use Rattle.std.proofs.Math.Decide.{ℕ_discrete}
use Rattle.std.proofs.lemmas.List.{length-map}
use Rattle.words.specs.Basics.{sum, joined, same, δ, count}
use Rattle.words.specs.Tests.{true≢false, decided}
use Rattle.words.specs.Counting.{count_nil, count_cons, hit, miss, sum_cong}
use Rattle.words.specs.Distinct.{same_eq, same_ne}
use Rattle.frames.specs.declared.Frame.{Frame as FrameRecord}
use Rattle.frames.specs.Frames.{frame_at, free_record}
use Rattle.frames.specs.Deques.{size, deque_list}
use Rattle.frames.proofs.Theory.Lists.{list_length}
use Rattle.pool.specs.Theory.Sharing.{roots_of as treeRoots}
use Rattle.model.specs.Machine.{Name, Frame, Machine, live, deque, is_child, has_child}
use Rattle.model.proofs.Theory.FrameTree.{FrameTree, main-lives}
use Rattle.model.proofs.Theory.DequeShape.{DequeInvariant}
use Rattle.soundness.specs.Soundness.{is_child as isChildAt, lives, children, live_roots}
use Rattle.semantics.specs.Core.{Core}
use Rattle.semantics.proofs.Theory.Relation.{Trees, parent_place, child_count, places_of, root_of, roots_of, bit, Recorded, Relates}
use Rattle.soundness.proofs.Theory.Facts.{Lives, stands, child_at_lem, at_child, NoFrame, OnlyMain, HasParent, Placed, Returning, PlacesFree}
use Rattle.semantics.proofs.Theory.FromSoundPlaces.{In-count, below_of, total, roots_below_lem}
use Rattle.semantics.proofs.Theory.ToSoundPlaces.{sum-total, place-count, place-frame, place_apart, count-both, count-joined, in_joined}
use Rattle.semantics.proofs.Theory.Refusals.{in_some}
use Rattle.soundness.specs.Layout.{Layout}

module _ (layout : Layout) where
  -- ---- sums along the frames

  child-counted : (p : Name) (L : List Frame) → has_child p L ≡ true → 0 < child_count p L
  child-counted p [] h = absurd (true≢false (sym h))
  child-counted p (f ∷ L) h = elim (decided (is_child p f.name)) [
    | inl e ↦ omega (arith, hit e)
    | inr e ↦ omega (arith, child-counted p L (rw e at h))
  ]

  -- a test of places that says which frames are children
  total-children : (at : Name → ℕ) (t : ℕ → Bool) (p : Name) (L : List Frame) → ((f : Frame) → In f L → t (at f.name) ≡ is_child p f.name)
      → total (λ c. cond (t c) 1 0) (places_of at L) ≡ child_count p L
  total-children at t p [] h = refl
  total-children at t p (f ∷ L) h = omega (arith, total-children at t p L (λ g m. h g (there m)), ap (λ (b : Bool). cond {A = ℕ} b 1 0) (h f (here refl)))

  -- 1 if the frame at c lives and has the root i, else 0
  abbrev root_at : List FrameRecord → ℕ → ℕ → ℕ
  root_at fs i c = cond (lives fs c) (δ i (frame_at fs c).root) 0

  total_roots : (at : Name → ℕ) (fs : List FrameRecord) (i : ℕ) (L : List Frame) → ((f : Frame) → In f L → Lives fs (at f.name))
      → total (root_at fs i) (places_of at L) ≡ count i (treeRoots (roots_of fs at L))
  total_roots at fs i [] h = sym (count_nil i)
  total_roots at fs i (f ∷ L) h =
      omega (
        arith,
        total_roots at fs i L (λ g m. h g (there m)),
        count_cons i (root_of fs at f) (treeRoots (roots_of fs at L)),
        ap (λ (b : Bool). cond {A = ℕ} b (δ i (root_of fs at f)) 0) (eq-eqb (frame_at fs (at f.name)).live 1 (h f (here refl))),
      )

  module _ {P : Trees} {M : Machine} {c : Core} (R : Relates layout P M c) where
    abbrev at : Name → ℕ
    at = R.at

    abbrev fs : List FrameRecord
    fs = c.frames

    abbrev L : List Frame
    L = live M

    -- ---- records and places

    pub recorded : (f : Frame) → In f L → (s : ℕ) × Recorded fs at L s f
    recorded f m = elim (In-cases M.suspended m) [ inl i ↦ (1, R.waiting f i) | inr i ↦ (0, R.running f i) ]

    pub inside : (f : Frame) → In f L → at f.name < length fs
    inside f m = (recorded f m).1.inside

    pub alive : (f : Frame) → In f L → Lives fs (at f.name)
    alive f m = (recorded f m).1.live

    pub parent_is : (f : Frame) → In f L → (frame_at fs (at f.name)).parent ≡ parent_place at f.name
    parent_is f m = (recorded f m).1.parent

    -- the place p is a live frame's, or free
    abbrev Taken : ℕ → Type 0
    Taken p = (count p (places_of at L) ≡ 1) × (count p R.gs ≡ 0)

    abbrev Vacant : ℕ → Type 0
    Vacant p = (count p (places_of at L) ≡ 0) × (count p R.gs ≡ 1) × (q : ℕ) × (frame_at fs p ≡ free_record q)

    pub place_or_free : (p : ℕ) → p < length fs → Taken p ⊎ Vacant p
    place_or_free p b = elim (ℕ_discrete (count p R.gs) 0) [
      | yes e ↦ inl (omega (arith, R.once p b), e)
      | no e ↦ (let v = R.vacant p b (omega arith) in inr (omega (arith, R.once p b), omega (arith, R.once p b), v.0, v.1))
    ]

    free_dead : (p q : ℕ) → frame_at fs p ≡ free_record q → Lives fs p → ⊥
    free_dead p q e l = omega (arith, l, ap (λ x. x.live) e)

    pub live-frame : (p : ℕ) → p < length fs → Lives fs p → (f : Frame) × In f L × (at f.name ≡ p)
    live-frame p b l = elim (place_or_free p b) [
      | inl h ↦ place-frame at p L (omega (arith, h.0))
      | inr h ↦ absurd (free_dead p h.2 h.3 l)
    ]

    -- what holds at each live frame's place holds at each live place
    at_live : (Q : ℕ → Type 0) → ((f : Frame) → In f L → Q (at f.name)) → (p : ℕ) → p < length fs → Lives fs p → Q p
    at_live Q h p b l = let r = live-frame p b l in subst Q r.2 (h r.0 r.1)

    once_there : (f : Frame) → In f L → count (at f.name) (places_of at L) ≡ 1
    once_there f m = omega (arith, R.once (at f.name) (inside f m), place-count at f L m)

    pub one_frame : (f g : Frame) → In f L → In g L → at f.name ≡ at g.name → f ≡ g
    one_frame f g mf mg e = place_apart at f g L mf mg e (omega (arith, once_there f mf))

    -- a sum over all places in which free ones add nothing
    along : (h : ℕ → ℕ) → ((p q : ℕ) → frame_at fs p ≡ free_record q → h p ≡ 0) → sum (length fs) h ≡ total h (places_of at L)
    along h z =
        sum-total (length fs) h (places_of at L)
        (below_of (length fs) (places_of at L) (λ p m. (let r = place-frame at p L (In-count (places_of at L) m) in subst (λ q. q < length fs) r.2 (inside r.0 r.1))))
        (λ p b. elim (place_or_free p b) [ inl e ↦ inl e.0 | inr e ↦ inr (e.0, z p e.2 e.3) ])

    -- the live frames' roots, in the order of their places
    pub roots_count : (i : ℕ) → count i (live_roots fs) ≡ count i (treeRoots (roots_of fs at L))
    roots_count i =
        roots_below_lem i (length fs) fs
        ∙ along (root_at fs i) (λ p q e. ap (λ (b : Bool). cond {A = ℕ} b (δ i (frame_at fs p).root) 0) (ne_eqb (frame_at fs p).live 1 (free_dead p q e)))
        ∙ total_roots at fs i L alive

    -- "Free frame places lie once on theirs, all but the link to the next being zero."
    pub free_places_lem : PlacesFree fs c.head.numbers.free_place
    free_places_lem = record {
      gs = R.gs;
      chain = R.formed.places;
      each = λ p b. elim (place_or_free p b) [
        | inl h ↦ (let r = place-frame at p L (omega (arith, h.0)) in inl (subst (Lives fs) r.2 (alive r.0 r.1), h.1))
        | inr h ↦ inr ((h.2, h.3), h.1)
      ];
    }

    -- ---- deques

    pub deque-size : (w : ℕ) → w < 8 → size c.deques w ≡ length (deque M w)
    deque-size w b = sym (list_length c.deques w) ∙ ap length (R.deques w b) ∙ length-map (deque M w) (λ f. at f.name)

    pub in_live : (w : ℕ) (f : Frame) → In f (deque M w) → In f L
    in_live w f m = In-right M.suspended (in_joined M.deques w m)

    stands-count : (p : ℕ) → stands c.deques p ≡ count p (places_of at (joined M.deques))
    stands-count p =
        sum_cong 8 (λ w. count p (deque_list c.deques w)) (λ w. count p (places_of at (deque M w))) (λ w b. ap (count p) (R.deques w b))
        ∙ count-joined at p 8 M.deques R.numbers.workers_le

    module _ (tree : FrameTree M) where
      -- ---- children

      -- a live frame whose parent stands at g's place has g's name under its own
      pub parent_named : (g : Frame) → In g L → (f : Frame) → In f L → (frame_at fs (at f.name)).parent ≡ at g.name → (r : Name) → f.name ≡ r → (k : ℕ) × (r ≡ k ∷ g.name)
      parent_named g mg f mf e [] n = absurd (omega (arith, inside g mg, e, parent_is f mf, ap (parent_place at) n))
      parent_named g mg f mf e (k ∷ p) n =
          let y = tree.rooted f mf k p n in
          let s = one_frame y.0 g y.1 mg (ap at y.2 ∙ ap (parent_place at) (sym n) ∙ sym (parent_is f mf) ∙ e) in
          (k, ap (λ z. k ∷ z) (sym y.2 ∙ ap (λ (z : Frame). z.name) s))

      -- its place says that a frame is a child if and only if its name does
      child_is : (g : Frame) → In g L → (f : Frame) → In f L → (r : Name) → f.name ≡ r → isChildAt fs (at g.name) (at f.name) ≡ is_child g.name r
      child_is g mg f mf [] n = elim (decided (isChildAt fs (at g.name) (at f.name))) [
        | inl t ↦ absurd (nil≢cons (parent_named g mg f mf (child_at_lem fs (at g.name) (at f.name) t).1 [] n).1)
        | inr t ↦ t
      ]
      child_is g mg f mf (k ∷ p) n = elim (decided (same p g.name)) [
        | inl s ↦ at_child fs (at g.name) (at f.name) (alive f mf) (parent_is f mf ∙ ap (parent_place at) n ∙ ap at (same_eq p g.name s)) ∙ sym s
        | inr s ↦ elim (decided (isChildAt fs (at g.name) (at f.name))) [
          | inl t ↦ absurd (same_ne s (tail-eq_of_cons-eq (parent_named g mg f mf (child_at_lem fs (at g.name) (at f.name) t).1 (k ∷ p) n).1))
          | inr t ↦ t ∙ sym s
        ]
      ]

      pub children_is : (f : Frame) → In f L → children fs (at f.name) ≡ child_count f.name L
      children_is f m =
          along (λ p. cond (isChildAt fs (at f.name) p) 1 0)
          (λ p q e. elim (decided (isChildAt fs (at f.name) p)) [ inl t ↦ absurd (free_dead p q e (child_at_lem fs (at f.name) p t).0) | inr t ↦ miss t ])
          ∙ total-children at (isChildAt fs (at f.name)) f.name L (λ g k. child_is f m g k g.name refl)

      -- "Outstanding counts are right."
      pub outstanding : (p : ℕ) → p < length fs → Lives fs p → (frame_at fs p).outstanding ≡ children fs p
      outstanding = at_live (λ p. (frame_at fs p).outstanding ≡ children fs p) (λ f m. (recorded f m).1.outstanding ∙ sym (children_is f m))

      -- ---- Main and parents

      main_fact : (K : List Frame) → K ≡ L → NoFrame c.deques fs ⊎ OnlyMain fs
      main_fact [] e = inl (
        (λ p b l. none_in (live-frame p b l).0 (live-frame p b l).1),
        λ w b. deque-size w b ∙ empty (deque M w) (λ f m. none_in f (in_live w f m)),
      )
        where
          none_in : (f : Frame) → In f L → ⊥
          none_in f m = not-in-nil (subst (In f) (sym e) m)

          empty : (d : List Frame) → ((f : Frame) → In f d → ⊥) → length d ≡ 0
          empty [] h = refl
          empty (f ∷ d) h = absurd (h f (here refl))
      main_fact (f ∷ K) e = inr (record {
        main = at m.0.name;
        inside = inside m.0 m.1;
        alive = alive m.0 m.1;
        flat = (recorded m.0 m.1).1.depth ∙ ap length m.2;
        orphan = parent_is m.0 m.1 ∙ ap (parent_place at) m.2;
        only = at_live (λ p. (frame_at fs p).depth ≡ 0 → p ≡ at m.0.name) only;
      })
        where
          m : (g : Frame) × In g L × (g.name ≡ [])
          m = main-lives L tree.rooted f.name f (subst (In f) e (here refl)) refl

          short : (r : Name) → length r ≡ 0 → r ≡ []
          short [] h = refl
          short (k ∷ r) h = absurd (omega arith)

          only : (g : Frame) → In g L → (frame_at fs (at g.name)).depth ≡ 0 → at g.name ≡ at m.0.name
          only g k d = ap at (short g.name (sym (recorded g k).1.depth ∙ d) ∙ sym m.2)

      -- "Either no frame lives and all deques are empty, or just one live frame has depth 0, with parent none."
      pub one_main_lem : NoFrame c.deques fs ⊎ OnlyMain fs
      one_main_lem = main_fact L refl

      parent_at : (f : Frame) → In f L → (r : Name) → f.name ≡ r → (frame_at fs (at f.name)).depth ≢ 0 → HasParent fs (at f.name)
      parent_at f m [] n d = absurd (d ((recorded f m).1.depth ∙ ap length n))
      parent_at f m (k ∷ p) n d =
          let g = tree.rooted f m k p n in
          let e : at g.0.name ≡ (frame_at fs (at f.name)).parent = ap at g.2 ∙ ap (parent_place at) (sym n) ∙ sym (parent_is f m) in
          subst (λ q. (q < length fs) × Lives fs q × ((frame_at fs (at f.name)).depth ≡ suc (frame_at fs q).depth)) e
          (inside g.0 g.1, alive g.0 g.1, (recorded f m).1.depth ∙ ap length n ∙ ap suc (sym ((recorded g.0 g.1).1.depth ∙ ap length g.2)))

      -- "Every other live frame has a live parent one shallower."
      pub parents : (p : ℕ) → p < length fs → Lives fs p → (frame_at fs p).depth ≢ 0 → HasParent fs p
      parents = at_live (λ p. (frame_at fs p).depth ≢ 0 → HasParent fs p) (λ f m. parent_at f m f.name refl)

      -- ---- where frames stand

      placed_at : DequeInvariant M → (f : Frame) → In f L → Placed c.deques fs (at f.name)
      placed_at inv f m =
          let o = once_there f m in
          let b = count-both at (at f.name) M.suspended (joined M.deques) in
          let s = stands-count (at f.name) in
          elim (In-cases M.suspended m) [
            | inl i ↦ inr (
              omega (arith, o, b, s, place-count at f M.suspended i),
              (R.waiting f i).suspended,
              subst (λ n. 0 < n) (sym (children_is f m)) (child-counted f.name L (inv.waits f i)),
            )
            | inr i ↦ inl (omega (arith, o, b, s, place-count at f (joined M.deques) i), (R.running f i).suspended)
          ]

      -- "Each live frame is either in just one place of one deque and not suspended, or in none and suspended with a live child."
      pub placed : DequeInvariant M → (p : ℕ) → p < length fs → Lives fs p → Placed c.deques fs p
      placed inv = at_live (Placed c.deques fs) (placed_at inv)

      -- a suspended frame may be returning, a frame in a deque is not
      returning_at : DequeInvariant M → (f : Frame) → In f L → Returning fs (at f.name)
      returning_at inv f m = elim (In-cases M.suspended m) [
        | inl i ↦ elim (decided f.returning) [
          | inl e ↦ inr ((R.waiting f i).returning ∙ ap bit e, (R.waiting f i).suspended)
          | inr e ↦ inl ((R.waiting f i).returning ∙ ap bit e)
        ]
        | inr i ↦ (let r = in_some M.deques i in inl ((R.running f i).returning ∙ ap bit (inv.active r.0 f r.2)))
      ]

      -- R-3: "1 on a frame waiting so, which is suspended, else 0"
      pub returning : DequeInvariant M → (p : ℕ) → p < length fs → Lives fs p → Returning fs p
      returning inv = at_live (Returning fs) (returning_at inv)
