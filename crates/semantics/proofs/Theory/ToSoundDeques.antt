-- A table that relates to a plain machine satisfies the sentences of "Soundness" on deques: the places of a deque, from the top, are
-- those of the machine's list, from its end.
use Rattle.std.specs.Prelude.{◌≡◌, refl, ℕ, zero, suc, ◌≤◌, ◌<◌, length}
use Rattle.std.proofs.Common.{sym, ap, ◌∙◌, subst, arith, length-append}
use mathlib.Core.List.Memᴰ.{head as here}
use mathlib.Core.List.Memᴰ.{tail as there}
use mathlib.Core.List.{Memᴰ as In}
use mathlib.Core.List.{List, [], ◌∷◌, cons≢nil, nil≢cons, head-eq_of_cons-eq, tail-eq_of_cons-eq}
use Rattle.std.proofs.Math.Decide.{ℕ_discrete, dec_lt}
use Rattle.std.proofs.Math.ListN.{get_or-eq_default}
use Rattle.words.specs.Lists.{perm_length}
use Rattle.frames.specs.declared.Frame.{Frame as FrameRecord}
use Rattle.frames.specs.Siblings.{younger, Children}
use Rattle.frames.specs.Frames.{frame_at}
use Rattle.frames.specs.Deques.{size, place, deque_list, places_to}
use Rattle.model.specs.Machine.{Name, Frame, Machine, live, deque}
use Rattle.model.proofs.Theory.Effects.{rest, live_at_lem}
use Rattle.model.proofs.Theory.FrameTree.{FrameTree}
use Rattle.model.proofs.Theory.DequeShape.{Linked, OnlyChild, nothing, DequeInvariant}
use Rattle.semantics.specs.Core.{Core}
use Rattle.semantics.proofs.Theory.Relation.{Trees, parent_place, places_of, Relates, Links}
use Rattle.soundness.proofs.Theory.Facts.{Lives, FramesFacts}
use Rattle.semantics.proofs.Theory.Places.{live_few}
use Rattle.semantics.proofs.Theory.ToSoundFrames.{recorded, inside, alive, live-frame, parent_named, deque-size, in_live, one_main_lem, parents, outstanding, placed, returning, free_places_lem}
use Rattle.soundness.specs.Layout.{Layout}

module _ (layout : Layout) where
  module _ {P : Trees} {M : Machine} {c : Core} (R : Relates layout P M c) (tree : FrameTree M) (inv : DequeInvariant M) where
    abbrev at : Name → ℕ
    at = R.at

    abbrev fs : List FrameRecord
    fs = c.frames

    abbrev L : List Frame
    L = live M

    module _ (w : ℕ) where
      -- the lowest n places are those of the frames d, bottom first
      abbrev Along : ℕ → List Frame → Type 0
      Along n d = places_to n c.deques w ≡ places_of at d

      first_of : (n : ℕ) (f : Frame) (d : List Frame) → Along (suc n) (f ∷ d) → place c.deques w n ≡ at f.name
      unfolding places_to
      first_of n f d e = head-eq_of_cons-eq e

      rest_of : (n : ℕ) (f : Frame) (d : List Frame) → Along (suc n) (f ∷ d) → Along n d
      unfolding places_to
      rest_of n f d e = tail-eq_of_cons-eq e

      none_left : (f : Frame) (d : List Frame) → Along 0 (f ∷ d) → ⊥
      unfolding places_to
      none_left f d e = nil≢cons e

      left_positive : (n : ℕ) → Along (suc n) [] → ⊥
      unfolding places_to
      left_positive n e = cons≢nil e

      frame_at_lem : (n : ℕ) (d : List Frame) → Along n d → (k : ℕ) → k < n → (f : Frame) × In f d × (at f.name ≡ place c.deques w k)
      frame_at_lem zero d e k b = absurd (omega arith)
      frame_at_lem (suc n) [] e k b = absurd (left_positive n e)
      frame_at_lem (suc n) (f ∷ d) e k b = elim (ℕ_discrete k n) [
        | yes q ↦ (f, here refl, sym (first_of n f d e) ∙ ap (place c.deques w) (sym q))
        | no q ↦ (let r = frame_at_lem n d (rest_of n f d e) k (omega arith) in (r.0, there r.1, r.2))
      ]

      -- "Each frame in a deque is a child of the one above it."
      linked_at : (n : ℕ) (d : List Frame) → Along n d → ((f : Frame) → In f d → In f L) → Linked d → (k : ℕ) → suc k < n → (frame_at fs (place c.deques w (suc k))).parent ≡ place c.deques w k
      linked_at zero d e i l k b = absurd (omega arith)
      linked_at (suc zero) d e i l k b = absurd (omega arith)
      linked_at (suc (suc n)) [] e i l k b = absurd (left_positive (suc n) e)
      linked_at (suc (suc n)) (f ∷ []) e i l k b = absurd (left_positive n (rest_of (suc n) f [] e))
      linked_at (suc (suc n)) (f ∷ g ∷ d) e i l k b = elim (ℕ_discrete k n) [
        | yes q ↦
            subst (λ k. (frame_at fs (place c.deques w (suc k))).parent ≡ place c.deques w k) (sym q)
            (ap (λ p. (frame_at fs p).parent) (first_of (suc n) f (g ∷ d) e) ∙ (recorded layout R f (i f (here refl))).1.parent ∙ ap (parent_place at) l.0.1
            ∙ sym (first_of n g d (rest_of (suc n) f (g ∷ d) e)))
        | no q ↦ linked_at (suc n) (g ∷ d) (rest_of (suc n) f (g ∷ d) e) (λ x m. i x (there m)) l.1 k (omega arith)
      ]

      -- the frame x stands just below the lowest n places, of s in all
      abbrev Next : ℕ → ℕ → Frame → Type 0
      Next s n x = (n < s) × (at x.name ≡ place c.deques w n)

      -- "A frame that is not a top has only the child below it, if any."
      only_at : (s n : ℕ) (d : List Frame) (Q : Name → Type 0) → Along n d → ((f : Frame) → In f d → In f L) → OnlyChild L Q d → n ≤ s
          → ((x : Frame) → In x L → Q x.name → Next s n x)
          → (k : ℕ) → suc k < n → (x : Frame) → In x L → (frame_at fs (at x.name)).parent ≡ place c.deques w (suc k) → Next s (suc (suc k)) x
      only_at s zero d Q e i o le q k b = absurd (omega arith)
      only_at s (suc zero) d Q e i o le q k b = absurd (omega arith)
      only_at s (suc (suc n)) [] Q e i o le q k b = absurd (left_positive (suc n) e)
      only_at s (suc (suc n)) (g ∷ []) Q e i o le q k b = absurd (left_positive n (rest_of (suc n) g [] e))
      only_at s (suc (suc n)) (g ∷ h ∷ d) Q e i o le q k b = λ x m p. elim (ℕ_discrete k n) [
        | yes z ↦
            (let r = parent_named layout R tree g (i g (here refl)) x m (p ∙ ap (λ k. place c.deques w (suc k)) z ∙ first_of (suc n) g (h ∷ d) e) x.name refl in
            subst (λ k. Next s (suc (suc k)) x) (sym z) (q x m (o.0 x m r.0 r.1)))
        | no z ↦
            only_at s (suc n) (h ∷ d) (λ r. r ≡ g.name) (rest_of (suc n) g (h ∷ d) e) (λ y j. i y (there j)) o.1 (omega arith)
            (λ y j t. (omega arith, ap at t ∙ sym (first_of (suc n) g (h ∷ d) e))) k (omega arith) x m p
      ]

      along : w < 8 → Along (size c.deques w) (deque M w)
      unfolding deque_list
      along b = R.deques w b

      pub hold_live_lem : w < 8 → (k : ℕ) → k < size c.deques w → (place c.deques w k < length fs) × Lives fs (place c.deques w k)
      hold_live_lem b k h =
          let r = frame_at_lem (size c.deques w) (deque M w) (along b) k h in
          let m = in_live layout R w r.0 r.1 in
          subst (λ p. (p < length fs) × Lives fs p) r.2 (inside layout R r.0 m, alive layout R r.0 m)

      pub absent : w < 8 → c.head.numbers.workers ≤ w → size c.deques w ≡ 0
      absent b h = deque-size layout R w b ∙ ap length (get_or-eq_default M.deques [] {n = w} (omega (arith, R.numbers.workers)))

      pub child_of_above : w < 8 → (k : ℕ) → suc k < size c.deques w → (frame_at fs (place c.deques w (suc k))).parent ≡ place c.deques w k
      child_of_above b = linked_at (size c.deques w) (deque M w) (along b) (in_live layout R w) (inv.shape w).0

      pub only_below_lem : w < 8 → (k : ℕ) → suc k < size c.deques w → (p : ℕ) → p < length fs → Lives fs p → (frame_at fs p).parent ≡ place c.deques w (suc k)
          → (suc (suc k) < size c.deques w) × (p ≡ place c.deques w (suc (suc k)))
      only_below_lem b k h p d l e =
          let x = live-frame layout R p d l in
          let r = only_at (size c.deques w) (size c.deques w) (deque M w) nothing (along b) (in_live layout R w) (inv.shape w).1 (omega arith) (λ y j z. absurd z) k h
          x.0 x.1 (ap (λ q. (frame_at fs q).parent) x.2 ∙ e) in
          (r.0, sym x.2 ∙ r.1)

    no_length : (n : Name) → length n ≡ 0 → n ≡ []
    no_length [] e = refl
    no_length (k ∷ n) e = absurd (omega arith)

    -- a deque has no more frames than live
    deque_short : (w : ℕ) → w < 8 → size c.deques w ≤ length fs
    deque_short w b = elim (dec_lt w (length M.deques)) [
      | yes h ↦ omega (arith, deque-size layout R w b, perm_length (live_at_lem M w (deque M w) h refl), length-append (deque M w) (rest M w), live_few layout R)
      | no h ↦ omega (arith, deque-size layout R w b, ap length (get_or-eq_default M.deques [] {n = w} (omega arith)))
    ]

    -- the sentences on frames and deques
    pub frames_hold : Links c.frames R.at (live M) → FramesFacts c.head.numbers.workers c.head.numbers.free_place c.deques fs
    frames_hold K = record {
      one_main_lem = one_main_lem layout R tree;
      parents = parents layout R tree;
      outstanding = outstanding layout R tree;
      placed = placed layout R tree inv;
      returning = returning layout R tree inv;
      siblings = λ q b l. (let f = live-frame layout R q b l in let C = K.children f.0 f.1 in (C.0, subst (λ (u : ℕ). Children fs u C.0) f.2 C.1));
      main-link = λ p b l d.
          let f = live-frame layout R p b l in
          let short : f.0.name ≡ [] = no_length f.0.name (sym (recorded layout R f.0 f.1).1.depth ∙ ap (λ (u : ℕ). (frame_at fs u).depth) f.2 ∙ d) in
          ap (younger fs) (sym f.2) ∙ K.main-link f.0 f.1 short;
      hold_live_lem = hold_live_lem;
      absent = absent;
      within = deque_short;
      zeros = R.formed.shaped.zeros;
      child_of_above = child_of_above;
      only_below = only_below_lem;
      places = free_places_lem layout R;
    }
