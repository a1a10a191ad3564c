-- What follows from `Relates`, besides Places: frames that stay in the deques, the workers' lists and the record of a frame that
-- keeps its place.
use Rattle.std.specs.Prelude.{◌≡◌, refl, ◌≢◌, ◌⊎◌, true, not, ℕ, zero, suc, ◌<◌, length, get_or, set}
use Rattle.std.proofs.Common.{sym, ap, ◌∙◌, subst, inl, inr, arith, get_or-set_same, get_or-set_other, eq-eqb}
use mathlib.Core.List.Memᴰ.{append_cases as In-cases}
use mathlib.Core.List.Memᴰ.{append_left as In-left}
use mathlib.Core.List.Memᴰ.{append_right as In-right}
use mathlib.Core.List.Memᴰ.{head as here}
use mathlib.Core.List.Memᴰ.{not-nil as not-in-nil}
use mathlib.Core.List.Memᴰ.{tail as there}
use mathlib.Core.List.{Memᴰ as In}
use mathlib.Core.List.Permᴰ
use mathlib.Core.List.{List, [], ◌∷◌, Permᴰ}
use Rattle.std.proofs.Math.Decide.{ℕ_discrete}
use Rattle.words.specs.Basics.{joined}
use Rattle.words.specs.Tests.{true≢false}
use Rattle.words.specs.Counting.{δ_same, count, count_cons}
use Rattle.words.specs.Lists.{In-perm}
use Rattle.frames.specs.Deques.{deque_list}
use Rattle.frames.specs.declared.Frame.{Frame as FrameRecord}
use Rattle.frames.specs.Frames.{frame_at}
use Rattle.model.specs.Machine.{Name, Frame, Machine, live, deque, has_child}
use Rattle.semantics.specs.Core.{Core}
use Rattle.semantics.proofs.Theory.Relation.{Trees, TreeLaws, bit, child_count, places_of, root_of, roots_of, Recorded, Relates}
use Rattle.semantics.proofs.Theory.Places.{count_perm, map_cong, in_deque_lem, count-place, child_count_test, placed_inside, recorded_as, tree_of}
use Rattle.soundness.specs.Layout.{Layout}

module _ (layout : Layout) where
  -- ---- trees

  pub trees_perm : {P : Trees} {N n : ℕ} {ws : List ℕ} {free k : ℕ} {L L' : List Frame} (fs : List FrameRecord) (at : Name → ℕ) → TreeLaws layout N n P → Permᴰ L L'
      → P ws free k (roots_of fs at L) → P ws free k (roots_of fs at L')
  trees_perm {ws} {free} {k} {L} {L'} fs at laws π t = laws.perm ws free k (roots_of fs at L) (roots_of fs at L') (Permᴰ.map (tree_of fs at) π) t

pub roots_same : (fs fs' : List FrameRecord) (at : Name → ℕ) (L : List Frame) → ((f : Frame) → In f L → root_of fs' at f ≡ root_of fs at f) → roots_of fs' at L ≡ roots_of fs at L
roots_same fs fs' at L h = map_cong (tree_of fs' at) (tree_of fs at) L (λ f m. ap (λ (z : ℕ). (z, f.history)) (h f m))

-- ---- frames in deques

-- after one of the lists is replaced
pub in_set : {A : Type 0} {h : A} (ds : List (List A)) (w : ℕ) (D : List A) → In h (joined (set ds w D)) → In h D ⊎ In h (joined ds)
in_set [] w D m = inr m
in_set (d ∷ ds) zero D m = elim (In-cases D m) [ inl i ↦ inl i | inr i ↦ inr (In-right d i) ]
in_set (d ∷ ds) (suc w) D m =
    elim (In-cases d m) [ inl i ↦ inr (In-left (joined ds) i) | inr i ↦ elim (in_set ds w D i) [ inl j ↦ inl j | inr j ↦ inr (In-right d j) ] ]

pub in_rest : {A : Type 0} {h : A} (ds : List (List A)) (w : ℕ) → In h (joined (set ds w [])) → In h (joined ds)
in_rest ds w m = elim (in_set ds w [] m) [ inl i ↦ absurd (not-in-nil i) | inr i ↦ i ]

pub lists_with : (at : Name → ℕ) (ds : List ℕ) (Ds : List (List Frame)) (w : ℕ) (D : List Frame) → w < length Ds → deque_list ds w ≡ places_of at D
    → ((v : ℕ) → v < 8 → v ≢ w → deque_list ds v ≡ places_of at (get_or Ds v [])) → (v : ℕ) → v < 8 → deque_list ds v ≡ places_of at (get_or (set Ds w D) v [])
lists_with at ds Ds w D lt e o v h = elim (ℕ_discrete v w) [
  | yes q ↦ ap (deque_list ds) q ∙ e ∙ ap (places_of at) (sym (ap (λ (z : ℕ). get_or (set Ds w D) z []) q ∙ get_or-set_same Ds w D [] lt))
  | no q ↦ o v h q ∙ ap (places_of at) (sym (get_or-set_other Ds w v D [] q))
]

-- ---- records

pub parent_count : (p : Name) (L : List Frame) → has_child p L ≡ true → child_count p L ≢ 0
parent_count p L h e = true≢false (sym (eq-eqb (child_count p L) 0 e) ∙ child_count_test p L ∙ ap not h)

-- a record stored anew but for its suspension, its tree and whether it is returning
abbrev pub stored : FrameRecord → ℕ → ℕ → ℕ → FrameRecord
stored F s t b = record { live = F.live; parent = F.parent; depth = F.depth; outstanding = F.outstanding; suspended = s; root = t; returning = b; view = F.view; younger = F.younger }

-- f became g, of the same name
pub recorded_stored : {fs : List FrameRecord} (fs' : List FrameRecord) {at : Name → ℕ} {L : List Frame} (L' : List Frame) {s : ℕ} (s' t b : ℕ) {f : Frame} (g : Frame) → length fs' ≡ length fs → g.name ≡ f.name
    → b ≡ bit g.returning → frame_at fs' (at f.name) ≡ stored (frame_at fs (at f.name)) s' t b → child_count f.name L ≡ child_count f.name L' → Recorded fs at L s f → Recorded fs' at L' s' g
recorded_stored {fs} fs' {at} L' s' t b {f} g l n m e k r =
    let F = stored (frame_at fs (at f.name)) s' t b in
    recorded_as fs' at L' s' g (at f.name) F (ap at n) e (omega (arith, l, r.inside)) r.live (rw n r.parent) (rw n r.depth) (rw n (r.outstanding ∙ k)) refl m

module _ (layout : Layout) where
  -- ---- places

  module _ {P : Trees} {M : Machine} {c : Core} (r : Relates layout P M c) where
    pub workers_le : {w : ℕ} → w < length M.deques → w < 8
    workers_le h = omega (arith, r.numbers.workers_le)

    -- a live frame's place is no other's
    pub places_apart : {q : Frame} {R : List Frame} → Permᴰ (live M) (q ∷ R) → (g : Frame) → In g R → r.at g.name ≢ r.at q.name
    places_apart {q} {R} π g m e =
        let p = r.at q.name in
        let once = r.once p (placed_inside layout r q (In-perm (Permᴰ.symm π) (here refl))) in
        omega (arith, once, count_perm p (Permᴰ.map (λ (f : Frame). r.at f.name) π), count_cons p p (places_of r.at R), δ_same p, count-place r.at m, ap (λ (z : ℕ). count z (places_of r.at R)) e)

    -- the bottom frame q of worker w, and those above it
    module _ (w : ℕ) (q : Frame) (d : List Frame) (e : deque M w ≡ q ∷ d) where
      pub deque_runs : (f : Frame) → In f (q ∷ d) → In f (joined M.deques)
      deque_runs f m = in_deque_lem M.deques w (subst (λ (z : List Frame). In f z) (sym e) m)

      pub bottom-lives : In q (live M)
      bottom-lives = In-right M.suspended (deque_runs q (here refl))

      pub above_runs : (f : Frame) → In f d → In f (joined M.deques)
      above_runs f m = deque_runs f (there m)
