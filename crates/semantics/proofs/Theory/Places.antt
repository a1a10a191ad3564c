-- Facts about the relation: frames under permutation, one live frame to a place, children counted, records built anew.
use Rattle.std.specs.Prelude.{◌≡◌, refl, ◌≢◌, Bool, true, false, cond, not, ℕ, zero, suc, ◌+◌, ◌*◌, ◌≤◌, ◌<◌, length, get_or, set, eqb}
use Rattle.std.proofs.Common.{sym, ap, ap₂, ◌∙◌, subst, inl, inr, arith, eq-eqb, ne_eqb}
use mathlib.Core.List.Memᴰ
use mathlib.Core.List.Memᴰ.{append_cases as In-cases}
use mathlib.Core.List.Memᴰ.{append_left as In-left}
use mathlib.Core.List.Memᴰ.{append_right as In-right}
use mathlib.Core.List.Memᴰ.{cases_cons as In-cons}
use mathlib.Core.List.Memᴰ.{eq_of_singleton as In-one}
use mathlib.Core.List.Memᴰ.{head as here}
use mathlib.Core.List.Memᴰ.{map as In-map}
use mathlib.Core.List.Memᴰ.{not-nil as not-in-nil}
use mathlib.Core.List.Memᴰ.{of_map as In-unmap}
use mathlib.Core.List.Memᴰ.{tail as there}
use mathlib.Core.List.{Memᴰ as In}
use mathlib.Core.List.Permᴰ
use mathlib.Core.List.{List, [], ◌∷◌, ◌++◌, map, Permᴰ}
use Rattle.std.proofs.Math.Decide.{dec_lt}
use Rattle.std.proofs.lemmas.List.{length-map, set-get_or}
use Rattle.words.specs.Basics.{sum, joined}
use Rattle.words.specs.Lists.{In-perm, joined-set}
use Rattle.words.specs.Tests.{decided, true≢false}
use Rattle.words.specs.NoDup.{NoDup, length_le}
use Rattle.words.specs.Counting.{δ, δ_same, δ_other, count, count_nil, count_cons, sum_cong, sum_add, sum_zero, sum_one, sum_const, miss, hit_le}
use Rattle.sizes.specs.Sizes.{tree_nodes}
use Rattle.frames.specs.declared.Frame.{Frame as FrameRecord}
use Rattle.frames.specs.Frames.{frame_at}
use Rattle.frames.specs.Deques.{bottom, deque_list}
use Rattle.frames.proofs.Theory.Lists.{list_head}
use Rattle.model.specs.History.{History}
use Rattle.model.specs.Machine.{Name, Frame, Machine, live, deque, is_child, has_child, those, others}
use Rattle.model.proofs.Theory.LiveRun.{Disjoint}
use Rattle.model.proofs.Theory.FrameTree.{Rooted, names_apart}
use Rattle.semantics.specs.Core.{Core, acting_in}
use Rattle.semantics.proofs.Theory.Relation.{Trees, Relates, Recorded, SameNumbers, bit, parent_place, child_count, places_of, root_of}
use Rattle.soundness.specs.Layout.{Layout}

-- ---- permutations

pub count_perm : (i : ℕ) {l m : List ℕ} → Permᴰ l m → count i l ≡ count i m
count_perm i Permᴰ.nil = refl
count_perm i (Permᴰ.cons {a = a} {b = b} {l₁ = l} {l₂ = m} e p) = omega (arith, count_cons i a l, count_cons i b m, ap (δ i) e, count_perm i p)
count_perm i (Permᴰ.swap {a = a} {b = b} {a' = a'} {b' = b'} {l = l} e e') =
    omega (arith, count_cons i a (b ∷ l), count_cons i b l, count_cons i a' (b' ∷ l), count_cons i b' l, ap (δ i) e, ap (δ i) e')
count_perm i (Permᴰ.trans p q) = count_perm i p ∙ count_perm i q

-- 1 for a child of p, else 0
abbrev child_bit : Name → Frame → ℕ
child_bit p f = cond (is_child p f.name) 1 0

pub child_count_perm : (p : Name) {L L' : List Frame} → Permᴰ L L' → child_count p L ≡ child_count p L'
child_count_perm p Permᴰ.nil = refl
child_count_perm p (Permᴰ.cons e π) = omega (arith, ap (child_bit p) e, child_count_perm p π)
child_count_perm p (Permᴰ.swap e e') = omega (arith, ap (child_bit p) e, ap (child_bit p) e')
child_count_perm p (Permᴰ.trans π ρ) = child_count_perm p π ∙ child_count_perm p ρ

pub map_cong : {A B : Type 0} (f g : A → B) (l : List A) → ((x : A) → In x l → f x ≡ g x) → map f l ≡ map g l
map_cong f g [] h = refl
map_cong f g (x ∷ l) h = ap₂ ◌∷◌ (h x (here refl)) (map_cong f g l (λ y m. h y (there m)))

-- one deque, and the others joined
pub joined_at : {A : Type 0} (ds : List (List A)) (w : ℕ) (d : List A) → w < length ds → get_or ds w [] ≡ d → Permᴰ (joined ds) (d ++ joined (set ds w []))
joined_at ds w d h e = subst (λ z. Permᴰ (joined z) (d ++ joined (set ds w []))) (ap (set ds w) (sym e) ∙ set-get_or ds w []) (joined-set ds w d h)

pub in_deque_lem : {A : Type 0} {h : A} (ds : List (List A)) (v : ℕ) → In h (get_or ds v []) → In h (joined ds)
in_deque_lem [] v m = absurd (not-in-nil m)
in_deque_lem (d ∷ ds) zero m = In-left (joined ds) m
in_deque_lem (d ∷ ds) (suc v) m = In-right d (in_deque_lem ds v m)

-- ---- one live frame to a place

-- each of the n places is free or some live frame's, and only one's
abbrev pub PlacedOnce : ℕ → (Name → ℕ) → List ℕ → List Frame → Type 0
PlacedOnce n at gs L = (p : ℕ) → p < n → count p gs + count p (places_of at L) ≡ 1

pub not_head : (p g : ℕ) (gs : List ℕ) → count p (g ∷ gs) ≡ 0 → p ≢ g
not_head p g gs o e = omega (arith, count_cons p g gs, ap (δ p) e, δ_same p)

pub count-place : (at : Name → ℕ) {f : Frame} {L : List Frame} → In f L → 0 < count (at f.name) (places_of at L)
count-place at {f} (here {x = y} {xs = l} e) =
    omega (arith, count_cons (at f.name) (at y.name) (places_of at l), ap (λ (g : Frame). δ (at f.name) (at g.name)) e, δ_same (at f.name))
count-place at {f} (there {x = y} {xs = l} m) = omega (arith, count_cons (at f.name) (at y.name) (places_of at l), count-place at m)

-- two frames in one place are counted twice
count_two : (at : Name → ℕ) (f g : Frame) (L : List Frame) → In f L → In g L → f.name ≢ g.name → at f.name ≡ at g.name → 1 < count (at f.name) (places_of at L)
count_two at f g [] mf mg ne e = absurd (not-in-nil mf)
count_two at f g (x ∷ l) mf mg ne e =
    let k = count_cons (at f.name) (at x.name) (places_of at l) in
    let z : count (at f.name) (places_of at l) ≡ count (at g.name) (places_of at l) = ap (λ (p : ℕ). count p (places_of at l)) e in
    let y : δ (at f.name) (at x.name) ≡ δ (at g.name) (at x.name) = ap (λ (p : ℕ). δ p (at x.name)) e in
    elim (In-cons mf) [
      | inl ef ↦ elim (In-cons mg) [
        | inl eg ↦ absurd (ne (ap (λ (h : Frame). h.name) (ef ∙ sym eg)))
        | inr ig ↦ omega (arith, k, z, count-place at ig, ap (λ (h : Frame). δ (at f.name) (at h.name)) ef, δ_same (at f.name))
      ]
      | inr jf ↦ elim (In-cons mg) [
        | inl eg ↦ omega (arith, k, y, count-place at jf, ap (λ (h : Frame). δ (at g.name) (at h.name)) eg, δ_same (at g.name))
        | inr ig ↦ omega (arith, k, count_two at f g l jf ig ne e)
      ]
    ]

-- ---- how many

sum_δ_le : (N x : ℕ) → sum N (λ i. δ i x) ≤ 1
sum_δ_le N x =
    elim (dec_lt x N) [
      | yes b ↦ omega (arith, sum_one N x (λ i. δ i x) b (λ j c ne. δ_other j x ne), δ_same x)
      | no b ↦ omega (arith, sum_zero N (λ i. δ i x) (λ j c. δ_other j x (λ e. b (omega arith))))
    ]

sum_cons : (N x : ℕ) (l : List ℕ) → sum N (λ i. count i (x ∷ l)) ≡ sum N (λ i. δ i x) + sum N (λ i. count i l)
sum_cons N x l = sum_cong N (λ i. count i (x ∷ l)) (λ i. δ i x + count i l) (λ j b. count_cons j x l) ∙ sum_add N (λ i. δ i x) (λ i. count i l)

pub sum-count_le : (N : ℕ) (l : List ℕ) → sum N (λ i. count i l) ≤ length l
sum-count_le N [] = omega (arith, sum_zero N (λ i. count i []) (λ j b. count_nil j))
sum-count_le N (x ∷ l) = omega (arith, sum_cons N x l, sum_δ_le N x, sum-count_le N l)

pub sum-count : (N : ℕ) (l : List ℕ) → ((x : ℕ) → In x l → x < N) → sum N (λ i. count i l) ≡ length l
sum-count N [] h = sum_zero N (λ i. count i []) (λ j b. count_nil j)
sum-count N (x ∷ l) h =
    omega (arith, sum_cons N x l, sum_one N x (λ i. δ i x) (h x (here refl)) (λ j c ne. δ_other j x ne), δ_same x, sum-count N l (λ y m. h y (there m)))

-- each number below N stands once in one of the two lists
module _ (N : ℕ) (gs ps : List ℕ) (once : (p : ℕ) → p < N → count p gs + count p ps ≡ 1) where
  pub all_once : sum N (λ i. count i gs) + sum N (λ i. count i ps) ≡ N * 1
  all_once = sym (sum_add N (λ i. count i gs) (λ i. count i ps)) ∙ sum_cong N (λ i. count i gs + count i ps) (λ i. 1) once ∙ sum_const N 1

  at_least : N ≤ length gs + length ps
  at_least = omega (arith, all_once, sum-count_le N gs, sum-count_le N ps)

  at_most : ((x : ℕ) → In x ps → x < N) → length ps ≤ N
  at_most h = omega (arith, all_once, sum-count N ps h)

module _ (n : ℕ) (at : Name → ℕ) (gs : List ℕ) (L : List Frame) (once : PlacedOnce n at gs L) where
  pub frames_le : ((f : Frame) → In f L → at f.name < n) → length L ≤ n
  frames_le h = omega (arith, length-map L (λ (f : Frame). at f.name), at_most n gs (places_of at L) once (λ x m. inside x (In-unmap (λ (f : Frame). at f.name) L m)))
    where
      inside : (x : ℕ) → (f : Frame) × In f L × (at f.name ≡ x) → x < n
      inside x u = omega (arith, h u.0 u.1, u.2)

  -- with fewer a place is free
  pub place-left : length L < n → 0 < length gs
  place-left h = omega (arith, length-map L (λ (f : Frame). at f.name), at_least n gs (places_of at L) once)

-- ---- children

pub child_count_le : (p : Name) (L : List Frame) → child_count p L ≤ length L
child_count_le p [] = omega arith
child_count_le p (f ∷ L) = omega (arith, hit_le (is_child p f.name), child_count_le p L)

-- an outstanding count of 0 says that there is no live child
pub child_count_test : (p : Name) (L : List Frame) → eqb (child_count p L) 0 ≡ not (has_child p L)
child_count_test p [] = eq-eqb 0 0 refl
child_count_test p (f ∷ L) =
    elim (decided (is_child p f.name)) [
      | inl s ↦ rw s (ne_eqb (1 + child_count p L) 0 (λ e. omega arith))
      | inr s ↦ (let z : cond (is_child p f.name) 1 0 + child_count p L ≡ child_count p L = omega (arith, miss s) in ap (λ (n : ℕ). eqb n 0) z ∙ child_count_test p L ∙ rw s)
    ]

pub childless_count : (p : Name) (L : List Frame) → has_child p L ≡ false → child_count p L ≡ 0
childless_count p [] h = refl
childless_count p (f ∷ L) h =
    elim (decided (is_child p f.name)) [ inl s ↦ absurd (true≢false (rw s at h)) | inr s ↦ omega (arith, miss s, childless_count p L (rw s at h)) ]

-- ---- names

abbrev suffixes : Name → List Name
suffixes [] = [] ∷ []
suffixes (k ∷ p) = (k ∷ p) ∷ suffixes p

suffixes_length : (r : Name) → length (suffixes r) ≡ suc (length r)
suffixes_length [] = refl
suffixes_length (k ∷ p) = ap suc (suffixes_length p)

suffix_short : (r x : Name) → In x (suffixes r) → length x ≤ length r
suffix_short [] x m = omega (arith, ap length (In-one m))
suffix_short (k ∷ p) x m = elim (In-cons m) [ inl e ↦ omega (arith, ap length e) | inr i ↦ omega (arith, suffix_short p x i) ]

suffixes_nodup : (r : Name) → NoDup (suffixes r)
suffixes_nodup [] = (not-in-nil, tt)
suffixes_nodup (k ∷ p) = ((λ m. omega (arith, suffix_short p (k ∷ p) m)), suffixes_nodup p)

abbrev names : List Frame → List Name
names L = map (λ (f : Frame). f.name) L

suffixes_live : (L : List Frame) → Rooted L → (r : Name) (f : Frame) → In f L → f.name ≡ r → (x : Name) → In x (suffixes r) → In x (names L)
suffixes_live L rooted [] f m e x i = Memᴰ.cast (In-one i ∙ sym e) (In-map (λ (g : Frame). g.name) m)
suffixes_live L rooted (k ∷ p) f m e x i =
    let y = rooted f m k p e in
    elim (In-cons i) [ inl d ↦ Memᴰ.cast (d ∙ sym e) (In-map (λ (g : Frame). g.name) m) | inr j ↦ suffixes_live L rooted p y.0 y.1 y.2 x j ]

-- a frame's ancestors live, so that it is no deeper than there are others
pub depth_few : (L : List Frame) → Rooted L → (f : Frame) → In f L → length f.name < length L
depth_few L rooted f m =
    omega (arith, suffixes_length f.name, length-map L (λ (g : Frame). g.name), length_le (suffixes f.name) (names L) (suffixes_nodup f.name) (suffixes_live L rooted f.name f m refl))

-- no frame passes the test
module _ (t : Frame → Bool) where
  pub those-none : (l : List Frame) → ((f : Frame) → In f l → t f ≡ false) → those t l ≡ []
  those-none [] h = refl
  those-none (f ∷ l) h = rw (h f (here refl)) (those-none l (λ g m. h g (there m)))

  pub others-all : (l : List Frame) → ((f : Frame) → In f l → t f ≡ false) → others t l ≡ l
  others-all [] h = refl
  others-all (f ∷ l) h = rw (h f (here refl)) (ap (λ (z : List Frame). f ∷ z) (others-all l (λ g m. h g (there m))))

  -- just one does
  pub those_one : (l : List Frame) (f : Frame) → Disjoint l → In f l → t f ≡ true → ((g : Frame) → t g ≡ true → g.name ≡ f.name) → those t l ≡ f ∷ []
  those_one [] f c m e one = absurd (not-in-nil m)
  those_one (g ∷ l) f c m e one =
      elim (In-cons m) [
        | inl d ↦ rw (ap t (sym d) ∙ e) (ap₂ ◌∷◌ (sym d) (those-none l (λ h i. elim (decided (t h)) [
          | inl s ↦ absurd (names_apart g h l c i (ap (λ (z : Frame). z.name) (sym d) ∙ sym (one h s)))
          | inr s ↦ s
        ])))
        | inr i ↦ elim (decided (t g)) [
          | inl s ↦ absurd (names_apart g f l c i (one g s))
          | inr s ↦ rw s (those_one l f c.1 i e one)
        ]
      ]

-- ---- records

-- the frame's place and its record there
pub recorded_as : (fs : List FrameRecord) (at : Name → ℕ) (L : List Frame) (s : ℕ) (f : Frame) (p : ℕ) (F : FrameRecord) → at f.name ≡ p → frame_at fs p ≡ F → p < length fs
    → F.live ≡ 1 → F.parent ≡ parent_place at f.name → F.depth ≡ length f.name → F.outstanding ≡ child_count f.name L → F.suspended ≡ s → F.returning ≡ bit f.returning → Recorded fs at L s f
recorded_as fs at L s f p F ep eF b h₁ h₂ h₃ h₄ h₅ h₆ =
    let e : frame_at fs (at f.name) ≡ F = ap (frame_at fs) ep ∙ eF in
    record {
      inside = subst (λ (x : ℕ). x < length fs) (sym ep) b;
      live = ap (λ (G : FrameRecord). G.live) e ∙ h₁;
      parent = ap (λ (G : FrameRecord). G.parent) e ∙ h₂;
      depth = ap (λ (G : FrameRecord). G.depth) e ∙ h₃;
      outstanding = ap (λ (G : FrameRecord). G.outstanding) e ∙ h₄;
      suspended = ap (λ (G : FrameRecord). G.suspended) e ∙ h₅;
      returning = ap (λ (G : FrameRecord). G.returning) e ∙ h₆;
    }

-- it stays where it was, as it was
pub recorded_kept : (fs fs' : List FrameRecord) (at at' : Name → ℕ) (L L' : List Frame) (s : ℕ) (f : Frame) → length fs' ≡ length fs → at' f.name ≡ at f.name
    → frame_at fs' (at f.name) ≡ frame_at fs (at f.name) → parent_place at' f.name ≡ parent_place at f.name → child_count f.name L' ≡ child_count f.name L
    → Recorded fs at L s f → Recorded fs' at' L' s f
recorded_kept fs fs' at at' L L' s f el ea eF ep ec R =
    recorded_as fs' at' L' s f (at f.name) (frame_at fs (at f.name)) ea eF (omega (arith, el, R.inside)) R.live (R.parent ∙ sym ep) R.depth (R.outstanding ∙ sym ec) R.suspended R.returning

module _ (layout : Layout) where
  -- ---- a live frame's place

  module _ {P : Trees} {M : Machine} {c : Core} (r : Relates layout P M c) where
    -- each live frame has a record
    pub recorded : (f : Frame) → In f (live M) → (s : ℕ) × Recorded c.frames r.at (live M) s f
    recorded f m = elim (In-cases M.suspended m) [ inl i ↦ (1, r.waiting f i) | inr i ↦ (0, r.running f i) ]

    pub placed_inside : (f : Frame) → In f (live M) → r.at f.name < length c.frames
    placed_inside f m = (recorded f m).1.inside

    -- it is not free
    pub placed_taken : (f : Frame) → In f (live M) → count (r.at f.name) r.gs ≡ 0
    placed_taken f m = omega (arith, r.once (r.at f.name) (placed_inside f m), count-place r.at m)

    -- it is no other's
    pub placed_apart : (f g : Frame) → In f (live M) → In g (live M) → f.name ≢ g.name → r.at f.name ≢ r.at g.name
    placed_apart f g mf mg ne z = omega (arith, r.once (r.at f.name) (placed_inside f mf), count_two r.at f g (live M) mf mg ne z)

    -- no more frames live than there are places
    pub live_few : length (live M) ≤ length c.frames
    live_few = frames_le (length c.frames) r.at r.gs (live M) r.once placed_inside

-- ---- trees and numbers

-- the frame's root with its history
abbrev pub tree_of : List FrameRecord → (Name → ℕ) → Frame → ℕ × History
tree_of fs at f = (root_of fs at f, f.history)

-- a deque is another; the core's numbers but the first free place and node and the free nodes' number are the same, and the table's length is
pub same_numbers : (M : Machine) (c : Core) (c' : Core) (ds : List (List Frame)) (ss : List Frame) → length ds ≡ length M.deques → SameNumbers M c
    → c'.head.numbers.workers ≡ c.head.numbers.workers → c'.head.numbers.splitters ≡ c.head.numbers.splitters → c'.head.height ≡ c.head.height → c'.head.numbers.nodes ≡ c.head.numbers.nodes
    → c'.head.numbers.places ≡ c.head.numbers.places → length c'.frames ≡ length c.frames
    → SameNumbers (record { splitters = M.splitters; nodes = M.nodes; places = M.places; deques = ds; suspended = ss }) c'
same_numbers M c c' ds ss e n e₁ e₂ e₃ e₄ e₅ e₆ = record {
  workers = e₁ ∙ n.workers ∙ sym e;
  workers_positive = omega (arith, n.workers_positive, e);
  workers_le = omega (arith, n.workers_le, e);
  splitters = e₂ ∙ n.splitters;
  splitters_positive = n.splitters_positive;
  splitters_le = n.splitters_le;
  height_is = e₃ ∙ n.height_is;
  enough = subst (λ (x : ℕ). tree_nodes M.splitters ≤ x) (sym e₄) n.enough;
  nodes_le = subst (λ (x : ℕ). x ≤ 16384) (sym e₄) n.nodes_le;
  places = e₅ ∙ n.places;
  places_positive = n.places_positive;
  table = n.table ∙ sym e₆;
}

module _ (layout : Layout) where
  -- ---- the acting frame: q is the bottom of worker w's deque, d are the frames above it

  module _ {P : Trees} {M : Machine} {c : Core} (r : Relates layout P M c) (w : ℕ) (q : Frame) (d : List Frame) (lt : w < length M.deques) (e : deque M w ≡ q ∷ d) where
    pub worker_few : w < 8
    worker_few = omega (arith, lt, r.numbers.workers_le)

    pub acting-deque : deque_list c.deques w ≡ r.at q.name ∷ places_of r.at d
    acting-deque = r.deques w worker_few ∙ ap (places_of r.at) e

    pub acting-place : bottom c.deques w ≡ r.at q.name
    acting-place = list_head c.deques w (r.at q.name) (places_of r.at d) acting-deque

    pub acting-frame : acting_in c w ≡ frame_at c.frames (r.at q.name)
    acting-frame = ap (frame_at c.frames) acting-place

    pub acting_record : Recorded c.frames r.at (live M) 0 q
    acting_record = r.running q (In-perm (Permᴰ.symm (joined_at M.deques w (q ∷ d) lt e)) (here refl))
